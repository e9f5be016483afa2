use Rattle.std.proofs.Common.{◌≡◌, ◌+◌, ◌++◌, [], ◌∷◌, length, sym, ◌∙◌, ap, arith, append_assoc, length-append}
use Rattle.vk_machine.specs.Machine.{waiting_from}
use Rattle.vk_machine.proofs.Calls.{waiting_from-push}
use Rattle.vk_machine.proofs.machine.push_all.Goals as goal

pub loop-command-preserved : goal.loop-command-preserved
loop-command-preserved c =
    let i = c.loop-command.invariant in
    let at : c.loop-command.number ≡ 0 + length c.loop-command.yielded = omega (arith, i.number) in record {
      nodes =
          c.push.ensures.nodes
          ∙ ap (λ w. w ++ (record { batch = c.args.batch; node = c.loop-command.number; queue = c.args.queue; command = c.in-Some.command }) ∷ []) i.nodes
          ∙ append_assoc c.args.waiting.now.nodes (waiting_from c.args.batch 0 c.args.queue c.loop-command.yielded) ((record { batch = c.args.batch; node = c.loop-command.number; queue = c.args.queue; command = c.in-Some.command }) ∷ [])
          ∙ ap (λ n. c.args.waiting.now.nodes ++ (waiting_from c.args.batch 0 c.args.queue c.loop-command.yielded ++ (record { batch = c.args.batch; node = n; queue = c.args.queue; command = c.in-Some.command }) ∷ [])) at
          ∙ ap (λ l. c.args.waiting.now.nodes ++ l) (sym (waiting_from-push c.args.batch 0 c.args.queue c.loop-command.yielded c.in-Some.command));
      number = omega (arith, i.number, length-append c.loop-command.yielded (c.in-Some.command ∷ []));
      room = omega (arith, i.room, c.push.ensures.room, length-append c.loop-command.yielded (c.in-Some.command ∷ []));
      rest = i.rest ∙ ap (λ r. c.loop-command.yielded ++ r) c.in-Some.ensures.steps.0 ∙ sym (append_assoc c.loop-command.yielded (c.in-Some.command ∷ []) c.next.new.self.rest.items);
    }
