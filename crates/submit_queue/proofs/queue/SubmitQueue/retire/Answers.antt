use Rattle.std.proofs.Common.{rules, ◌≡◌, ℕ, ◌<◌, List, ◌∷◌, length, ◌∙◌, subst, arith}
use Rattle.std.specs.Prelude.{slice_get, IfSome}
use Rattle.submit_queue.specs.declared.pending.Pending.{Pending}
use Rattle.submit_queue.specs.Kept.{IsKept}
use Rattle.submit_queue.proofs.Steps.{none_accepted, none_left, front_can, retired_kept, others_same}
use Rattle.submit_queue.proofs.queue.SubmitQueue.retire.Goals as goal
use Rattle.submit_queue.proofs.queue.SubmitQueue.retire.Goals.{then-self-eq0-via-then-self-eq0, then-self-eq0-via-else-self-eq0+then-not-is_executed}

pub returns-then-self-eq0-clause-none : goal.returns-then-self-eq0-clause-none
returns-then-self-eq0-clause-none c h kept = elim c.then-self-eq0.branch [ then-self-eq0-via-then-self-eq0 w ↦ none_accepted h _ _ _ _ kept w.if-self-eq0.true | then-self-eq0-via-else-self-eq0+then-not-is_executed w ↦ none_left h _ _ _ _ kept w.if-not-is_executed.ensures.no ]

pub returns-clause-some : goal.returns-clause-some
returns-clause-some c h kept =
    let f : Pending = c.in_ok-batch.field-0 in
    let rest : List Pending = c.pop_front.new.self.items in
    let a : ℕ = c.args.self.now.accepted in
    let r : ℕ = c.args.self.now.retired in
    let cs : List ℕ = c.args.self.now.completed in
    let is : c.args.self.now.pending.items ≡ f ∷ rest = c.in_ok-batch.ensures.items in
    let was : IsKept h (f ∷ rest) a r cs = subst (λ l. IsKept h l a r cs) is kept in
    let none : f.left ≡ 0 = subst (λ l. IfSome (slice_get l 0) (λ (first : Pending). first.left ≡ 0)) is c.if-not-is_executed.ensures.yes in
    let own : c.serial-serial.result.index ≡ f.batch.index = c.serial-serial.ensures.index in
    let some : 0 < a = omega (arith, c.if-self-eq0.false) in
    let sixty : length cs ≡ 64 = search rules in
    let index : f.batch.index < 64 = rw (← own, ← c.get.ensures.value) c.get.ensures.bound in
    record {
      place = length was.past;
      can = front_can h f rest a r cs was some none index sixty;
      index = own;
      number = c.serial-serial.ensures.number;
      keeps = rw (c.saturating_add-self.ensures, c.from.ensures, c.get.ensures.value, own, c.serial-serial.ensures.number) (retired_kept h f rest a r cs was some none index sixty);
    }

pub returns-clause-others : goal.returns-clause-others
returns-clause-others c h kept i low apart =
    let own : c.from.result ≡ c.serial-serial.result.index = c.from.ensures ∙ c.get.ensures.value in
    others_same h c.serial-serial.result c.from.result _ _ _ _ _ _ c.args.self.now.completed kept (returns-clause-some c h kept).keeps i low (λ e. apart (e ∙ own))
