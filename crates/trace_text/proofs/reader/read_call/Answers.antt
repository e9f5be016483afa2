use Rattle.std.proofs.Common.{◌≡◌, ◌<◌, ◌≤◌, ◌+◌, ℕ, length, Some, Ok, ap, arith, rules, ◌∙◌}
use Rattle.std.specs.Prelude.{slice_get}
use Rattle.trace_words.specs.Lexing.{after_at}
use Rattle.trace_text.specs.Limits.{cost_of}
use Rattle.trace_text.specs.Reading.{with_line, plan, state_of, thread_of, after_of, sound_call}
use Rattle.trace_text.proofs.ReadingLaws.{call_goes_on, plan_at}
use Rattle.trace_text.proofs.reader.read_call.Goals as goal

pub returns-clause-state : goal.returns-clause-state
returns-clause-state c =
    let s = state_of c.args.reader.now in
    let t = c.in_ok-thread.thread in
    let p = plan c.in_ok-thread.plan.now in
    let thread_is : thread_of s c.args.first.now ≡ Some (t, p) = search rules in
    let after_is : after_of s p.group (after_at c.args.words.now).0 ≡ Ok c.in_ok-after.after = search rules in
    let call_is : sound_call (after_at c.args.words.now).1 ≡ Ok c.in_ok-call.call = search rules in
    let lt : length p.lines < 65536 = omega arith in
    let le : s.cost + cost_of c.in_ok-call.call ≤ 268435456 = omega (arith, c.cost.ensures.value, c.from.ensures) in
    let place : slice_get c.args.reader.now.threads.items t ≡ Some c.in_ok-thread.plan.now = search rules in
    let number : c.len-number.result ≡ length s.owners = omega (arith, c.len-number.ensures, c.args.reader.now.owners.ok.0) in
    let new_is = c.in_ok-add_line.ensures.state p (plan_at c.args.reader.now.threads.items t c.in_ok-thread.plan.now place)
    ∙ ap (λ (n : ℕ). with_line (t, p) (record { number = n; after = c.in_ok-after.after; call = c.in_ok-call.call }) s) number in
    call_goes_on s (state_of c.add_line.new.reader) c.args.first.now c.args.words.now t p c.in_ok-after.after c.in_ok-call.call
    thread_is after_is call_is lt le new_is
