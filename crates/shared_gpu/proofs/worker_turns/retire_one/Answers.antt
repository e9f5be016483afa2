use Rattle.std.proofs.Common.{◌≡◌, ℕ, ◌+◌, ◌<◌, refl, sym, ap, ◌∙◌, subst, arith}
use Rattle.std.specs.Prelude.{slice_index}
use mathlib.Core.List.{IsPrefix}
use Rattle.submit_queue.specs.Histories.{CanRetire}
use Rattle.back_core.specs.History.{queue_history, completed}
use Rattle.back_core.specs.Steps.{RetiresOne}
use Rattle.turnstile.specs.Views.{PassModel}
use Rattle.turnstile.proofs.Beginnings.{prefix_trans}
use Rattle.shared_gpu.specs.declared.noted.Noted.{Noted}
use Rattle.shared_gpu.specs.Notes.{notes_of}
use Rattle.shared_gpu.specs.Views.{SharedModel}
use Rattle.shared_gpu.proofs.Links.{adds_nothing}
use Rattle.shared_gpu.proofs.Words.{shown_at}
use Rattle.shared_gpu.proofs.Working.{seen_then, retired_notes, in_one_turn, shown_retired, retired_begins}
use Rattle.shared_gpu.proofs.worker_turns.retire_one.Goals as goal

-- the words after the turn
shown_after : (g : _) (c : goal.After-put g) → (index : ℕ) → index < 64 → slice_index c.put.new.pass.words (index + 1) ≡ completed c.retire.new.self.history index
shown_after g c =
    let t = c.take-turn in
    let x = c.retire in
    shown_retired t.new.pass.words c.publish.new.pass.words c.put.new.pass.words _ _ _ _ (completed t.result.value.history) (completed x.new.self.history) c.in-Some.ensures.others t.ensures.words t.ensures.shown
    (ap (λ (p : PassModel Noted). p.words) c.publish.ensures) (ap (λ (p : PassModel Noted). p.words) c.put.ensures.pass) (omega (arith, c.get.ensures.value, c.get.ensures.bound)) (omega (arith, c.get.ensures.value, c.from.ensures))
    (ap (completed x.new.self.history) (omega (arith, c.get.ensures.value, c.from.ensures)))

pub returns-in-Some-clause-begins : goal.returns-in-Some-clause-begins
returns-in-Some-clause-begins g c =
    let t = c.take-turn in
    let v = t.result.value in
    let x = c.retire in
    subst (λ l. IsPrefix c.args.pass.now.seen l) (sym (ap (λ (p : PassModel Noted). p.seen) c.put.ensures.pass))
    (prefix_trans c.args.pass.now.seen (notes_of v.opened v.history) (notes_of x.new.self.opened x.new.self.history) t.ensures.begins (retired_begins v.opened x.new.self.opened v.history x.new.self.history _ x.ensures.rest.1 c.in-Some.ensures.some))

pub put-requires-clause-begins : goal.put-requires-clause-begins
put-requires-clause-begins g c =
    let t = c.take-turn in
    let v = t.result.value in
    let x = c.retire in
    let seen = ap (λ (p : PassModel Noted). p.seen) c.publish.ensures ∙ seen_then c.args.pass.now t.new.pass v.opened x.new.self.opened v.history t.ensures.pass x.ensures.rest.1 in
    (retired_notes c.publish.new.pass.number v.opened x.new.self.opened v.history x.new.self.history c.publish.new.pass.seen _ seen c.in-Some.ensures.some).0

pub put-requires-in-None-clause-adds : goal.put-requires-in-None-clause-adds
put-requires-in-None-clause-adds g c =
    let t = c.take-turn in
    let v = t.result.value in
    let x = c.retire in
    adds_nothing t.new.pass x.new.self.opened v.history x.new.self.history (seen_then c.args.pass.now t.new.pass v.opened x.new.self.opened v.history t.ensures.pass x.ensures.rest.1)
    (shown_at t.new.pass.words (completed v.history) t.ensures.shown) (ap (λ (m : SharedModel _). m.history) c.in-None.ensures.unchanged)

pub returns-in-Some-clause-some : goal.returns-in-Some-clause-some
returns-in-Some-clause-some g c =
    let t = c.take-turn in
    let x = c.retire in
    in_one_turn c.args.pass.now c.put.new.pass t.result.value x.new.self t.ensures.begins (ap (λ (p : PassModel Noted). p.seen) c.put.ensures.pass) (shown_after g c) x.ensures.rest.1
    (λ (s t : SharedModel _). RetiresOne s.history t.history _) c.in-Some.ensures.some

pub returns-in-None-clause-none : goal.returns-in-None-clause-none
returns-in-None-clause-none g c =
    let t = c.take-turn in
    let x = c.retire in
    in_one_turn c.args.pass.now c.put-in-None.new.pass t.result.value x.new.self t.ensures.begins (ap (λ (p : PassModel Noted). p.seen) c.put-in-None.ensures.given.is) c.put-in-None.ensures.given.shown x.ensures.rest.1
    (λ (s t : SharedModel _). (t ≡ s) × ((place : ℕ) → CanRetire (queue_history s.history) place → ⊥)) (c.in-None.ensures.unchanged, c.in-None.ensures.none)
