use Rattle.std.proofs.Common.{◌≡◌, ◌++◌, [], ◌∷◌, length, sym, ◌∙◌, ap, arith, append_assoc, length-append}
use Rattle.std.specs.Prelude.{None}
use Rattle.std.proofs.lemmas.List.{append-nil}
use Rattle.vk_ready.specs.Slots.{waiting_in, with_slot}
use Rattle.vk_ready.proofs.Order.{pushed, waiting_append}
use Rattle.vk_ready.proofs.list.refill.Goals as goal

pub push-requires : goal.push-requires
push-requires c =
    let i = c.loop-slot.invariant in
    let done = c.loop-slot.yielded in
    let rest = c.next.new.self.rest.items in
    let node = c.in-Some-slot.node in
    let all : waiting_in c.args.slots.items ≡ waiting_in done ++ node ∷ waiting_in rest =
    ap waiting_in (i.rest ∙ ap (λ r. done ++ r) c.in-Some.ensures.steps.0) ∙ waiting_append done (c.in-Some.slot ∷ rest) ∙ ap (λ s. waiting_in done ++ with_slot s (waiting_in rest)) c.in-Some-slot.is in
    let long = length-append (waiting_in done) (node ∷ waiting_in rest) in
    let room = i.room in
    omega (arith, ap length all, long, room, c.requires)

pub loop-slot-preserved-in-Some-slot : goal.loop-slot-preserved-in-Some-slot
loop-slot-preserved-in-Some-slot c =
    let i = c.loop-slot.invariant in
    let done = c.loop-slot.yielded in
    let node = c.in-Some-slot.node in
    let more : waiting_in (done ++ c.in-Some.slot ∷ []) ≡ waiting_in done ++ node ∷ [] = ap (λ s. waiting_in (done ++ s ∷ [])) c.in-Some-slot.is ∙ pushed done node in
    let long = length-append (waiting_in done) (node ∷ []) in
    let room = i.room in
    let less = c.push.ensures.room in record {
      nodes = c.push.ensures.nodes ∙ ap (λ l. l ++ node ∷ []) i.nodes ∙ append_assoc c.args.waiting.now.nodes (waiting_in done) (node ∷ []) ∙ ap (λ l. c.args.waiting.now.nodes ++ l) (sym more);
      room = omega (arith, ap length more, long, room, less);
      rest = i.rest ∙ ap (λ r. done ++ r) c.in-Some.ensures.steps.0 ∙ sym (append_assoc done (c.in-Some.slot ∷ []) c.next.new.self.rest.items);
    }

pub loop-slot-preserved : goal.loop-slot-preserved
loop-slot-preserved c =
    let i = c.loop-slot.invariant in
    let done = c.loop-slot.yielded in
    let same : waiting_in (done ++ c.in-Some.slot ∷ []) ≡ waiting_in done = ap (λ s. waiting_in (done ++ s ∷ [])) c.in-None-slot.is ∙ waiting_append done (None ∷ []) ∙ append-nil (waiting_in done) in
    let room = i.room in record {
      nodes = i.nodes ∙ ap (λ l. c.args.waiting.now.nodes ++ l) (sym same);
      room = omega (arith, ap length same, room);
      rest = i.rest ∙ ap (λ r. done ++ r) c.in-Some.ensures.steps.0 ∙ sym (append_assoc done (c.in-Some.slot ∷ []) c.next.new.self.rest.items);
    }
