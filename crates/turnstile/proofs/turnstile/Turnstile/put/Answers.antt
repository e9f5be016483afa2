use Rattle.std.proofs.Common.{◌≡◌, ℕ, ◌<◌, ◌≤◌, get_or, true, false, Some, ◌∷◌, rules, ap, sym, ◌∙◌, subst, arith}
use mathlib.Core.List.{IsPrefix}
use Rattle.atomic_table.specs.Table.{rest}
use Rattle.turnstile.specs.declared.rule.View.{View}
use Rattle.turnstile.specs.Histories.{own, added, NamesOnly}
use Rattle.turnstile.specs.Views.{PassModel}
use Rattle.turnstile.proofs.Beginnings.{prefix_length}
use Rattle.turnstile.proofs.Beginnings.{others_same}
use Rattle.turnstile.proofs.Turning.{stores}
use Rattle.turnstile.proofs.Passing.{sound_put, puts}
use Rattle.turnstile.proofs.turnstile.Turnstile.put.Goals as goal

pub store-requires : goal.store-requires
store-requires g c =
    let on : c.pass.inside.seat.me.0.holds ≡ true = ap (λ (p : PassModel g.row.V-Entry.Denot). p.holds) c.pass.view_is ∙ c.requires.turn.2 in
    let begins = subst (λ (p : PassModel g.row.V-Entry.Denot). IsPrefix p.seen (g.V.Chronicle.history c.args.turn.value)) (sym c.pass.view_is) c.requires.begins in
    let more : get_or c.pass.inside.seat.me.0.words 0 0 ≤ c.count-count.result = omega (arith, prefix_length _ _ begins, c.pass.invariant.count on, c.count-count.ensures) in
    (search rules, search rules, stores _ _ _ _ _ _ _ 0 _ c.pass.invariant.live on (omega arith) more)

pub store-requires-2 : goal.store-requires-2
store-requires-2 g c =
    let h = g.V.Chronicle.history c.args.turn.value in
    let sound = c.pass.invariant in
    let on : c.pass.inside.seat.me.0.holds ≡ true = ap (λ (p : PassModel g.row.V-Entry.Denot). p.holds) c.pass.view_is ∙ c.requires.turn.2 in
    let begins = subst (λ (p : PassModel g.row.V-Entry.Denot). IsPrefix p.seen h) (sym c.pass.view_is) c.requires.begins in
    let only = subst (λ (p : PassModel g.row.V-Entry.Denot). NamesOnly g.V.Chronicle.names p.number (added p.seen h)) (sym c.pass.view_is) c.requires.names in
    let stored = c.store.ensures.2 in
    let exchanged = c.exchange-before.ensures.3 in
    let is = ap (λ m. m.0) exchanged ∙ stored.0 in
    let carried = ap (λ m. m.1) exchanged ∙ ap (λ l. (0, Some c.args.turn.value) ∷ rest l) (stored.1 ∙ sound.busy on) in
    let shown = subst (λ (p : PassModel g.row.V-Entry.Denot). (word : ℕ) → 0 < word → word < 65 → get_or p.words word 0 ≡ g.V.Chronicle.published c.args.turn.value word) (sym c.pass.view_is) c.requires.shown in
    (search rules, search rules, puts _ _ _ _ _ _ c.pass.inside.seat.me.0 c.exchange-before.new.seat.me c.args.turn.value is carried sound.live on begins only sound.wide c.count-count.ensures shown)

pub invariant_of-pass : goal.invariant_of-pass
invariant_of-pass g c =
    let h = g.V.Chronicle.history c.args.turn.value in
    let sound = c.pass.invariant in
    let on : c.pass.inside.seat.me.0.holds ≡ true = ap (λ (p : PassModel g.row.V-Entry.Denot). p.holds) c.pass.view_is ∙ c.requires.turn.2 in
    let begins = subst (λ (p : PassModel g.row.V-Entry.Denot). IsPrefix p.seen h) (sym c.pass.view_is) c.requires.begins in
    let only = subst (λ (p : PassModel g.row.V-Entry.Denot). NamesOnly g.V.Chronicle.names p.number (added p.seen h)) (sym c.pass.view_is) c.requires.names in
    let stored = c.store.ensures.2 in
    let exchanged = c.exchange-before.ensures.3 in
    let is = ap (λ m. m.0) exchanged ∙ stored.0 in
    let carried = ap (λ m. m.1) exchanged ∙ ap (λ l. (0, Some c.args.turn.value) ∷ rest l) (stored.1 ∙ sound.busy on) in
    let left = c.store-2.ensures.2 c.args.turn.value carried in
    sound_put g.V.Chronicle.history g.V.Chronicle.published g.V.Chronicle.names c.pass.inside.seat c.store-2.new.seat h c.count-count.result sound on begins only (left.0 ∙ ap (λ (v : View g.row.V-Entry.Denot). record v { seen = h; holds = false }) is) left.1

pub returns-clause-others : goal.returns-clause-others
returns-clause-others g c k apart =
    let names = g.V.Chronicle.names in
    let on : c.pass.inside.seat.me.0.holds ≡ true = ap (λ (p : PassModel g.row.V-Entry.Denot). p.holds) c.pass.view_is ∙ c.requires.turn.2 in
    let exchanged = c.exchange-before.ensures.3 in
    let carried = ap (λ m. m.1) exchanged ∙ ap (λ l. (0, Some c.args.turn.value) ∷ rest l) (c.store.ensures.2.1 ∙ c.pass.invariant.busy on) in
    let left = c.store-2.ensures.2 c.args.turn.value carried in
    ap (λ (v : View g.row.V-Entry.Denot). own names k v.seen) left.0
    ∙ others_same names c.args.pass.now.number k c.args.pass.now.seen (g.V.Chronicle.history c.args.turn.value) c.requires.begins c.requires.names apart
