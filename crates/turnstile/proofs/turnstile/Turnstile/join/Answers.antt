use Rattle.std.proofs.Common.{◌≡◌, false, rules, ap, sym, ◌∙◌, subst}
use Rattle.std.specs.Prelude.{Contains}
use Rattle.turnstile.specs.declared.rule.View.{View}
use Rattle.turnstile.specs.Histories.{own}
use Rattle.turnstile.specs.Rule.{beside}
use Rattle.turnstile.specs.Steps.{Merges}
use Rattle.turnstile.specs.Views.{PassModel}
use Rattle.turnstile.proofs.Lists.{contains_rest}
use Rattle.turnstile.proofs.Sharing.{joins, merges}
use Rattle.turnstile.proofs.turnstile.Turnstile.join.Goals as goal

pub join_seat-requires : goal.join_seat-requires
join_seat-requires g c =
    let mine = c.pass.invariant in
    let theirs = c.other.invariant in
    let idle : c.pass.inside.seat.me.0.holds ≡ false = ap (λ (p : PassModel g.row.V-Entry.Denot). p.holds) c.pass.view_is ∙ c.requires.idle.0 in
    let idle' : c.other.inside.seat.me.0.holds ≡ false = ap (λ (p : PassModel g.row.V-Entry.Denot). p.holds) c.other.view_is ∙ c.requires.idle.1 in (
      search rules,
      search rules,
      theirs.idle idle',
      search rules,
      joins _ _ _ _ _ _ _ mine.live idle mine.guests mine.aside theirs.live idle' theirs.guests theirs.aside,
    )

pub load-requires : goal.load-requires
load-requires g c =
    let idle : c.pass.inside.seat.me.0.holds ≡ false = ap (λ (p : PassModel g.row.V-Entry.Denot). p.holds) c.pass.view_is ∙ c.requires.idle.0 in
    let is : c.join_seat.new.seat.me.0 ≡ beside c.pass.inside.seat.me.0 c.other.inside.seat.me.0 = ap (λ m. m.0) c.join_seat.ensures.2 in (
      search rules,
      search rules,
      merges _ _ _ _ _ _ _ (ap (λ (v : View g.row.V-Entry.Denot). v.live) is ∙ c.pass.invariant.live) (ap (λ (v : View g.row.V-Entry.Denot). v.holds) is ∙ idle),
    )

pub returns-clause-joined : goal.returns-clause-joined
returns-clause-joined g c k d =
    let is = ap (λ m. m.0) c.join_seat.ensures.2 in
    let merged = subst (λ (v : View g.row.V-Entry.Denot). Merges g.V.Chronicle.names v c.load.new.seat.me.0) is c.load.ensures.2.1 in
    merged.same k (contains_rest _ k _ (subst (λ (p : PassModel g.row.V-Entry.Denot). Contains p.joined k) (sym c.pass.view_is) d)) ∙ ap (λ (p : PassModel g.row.V-Entry.Denot). own g.V.Chronicle.names k p.seen) c.pass.view_is

pub returns-clause-guests : goal.returns-clause-guests
returns-clause-guests g c k d =
    let is = ap (λ m. m.0) c.join_seat.ensures.2 in
    let merged = subst (λ (v : View g.row.V-Entry.Denot). Merges g.V.Chronicle.names v c.load.new.seat.me.0) is c.load.ensures.2.1 in
    merged.guests k (contains_rest _ k _ (subst (λ (p : PassModel g.row.V-Entry.Denot). Contains p.joined k) (sym c.other.view_is) d)) ∙ ap (λ (p : PassModel g.row.V-Entry.Denot). own g.V.Chronicle.names k p.seen) c.other.view_is
