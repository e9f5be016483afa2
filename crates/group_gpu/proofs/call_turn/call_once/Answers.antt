use Rattle.std.proofs.Common.{◌≡◌, ◌++◌, refl, sym, ap, ◌∙◌, subst}
use mathlib.Core.List.{IsPrefix}
use Rattle.turnstile.proofs.Beginnings.{prefix_trans}
use Rattle.turnstile.specs.Histories.{own, added, NamesOnly}
use Rattle.turnstile.specs.Views.{PassModel}
use Rattle.group_gpu.specs.declared.noted_call.NotedCall.{NotedCall}
use Rattle.shared_gpu.specs.Seats.{seat_link}
use Rattle.group_gpu.specs.Groups.{names_of, notes_of, pass_of}
use Rattle.group_gpu.proofs.Grouping.{group_adds, group_own, history_ok, history_err, same_founding, ends_with}
use Rattle.group_gpu.proofs.call_turn.call_once.Goals as goal

pub put-requires-2-clause-begins : goal.put-requires-2-clause-begins
put-requires-2-clause-begins g c =
    let t = c.take-turn in
    let v = t.result.value in
    let x = c.call-value in
    let w = x.result.0 in
    let m = c.requires.mine in
    let threads : m.threads ≡ v.front.threads = same_founding m.group v.seat.group m.threads v.front.threads c.args.pass.now.seen m.more v.front.history m.seen_is t.ensures.begins in
    let number : pass_of v.front.threads c.args.thread ≡ c.args.pass.now.number = ap (λ l. pass_of l c.args.thread) (sym threads) ∙ m.number in
    let seen : t.new.pass.seen ≡ notes_of v.seat.group v.front.threads v.front.history = ap (λ (p : PassModel NotedCall). p.seen) t.ensures.pass in
    let ok = history_ok x.result.1 v.front w.front (seat_link w.seat) c.args.thread c.args.line c.args.call.now x.ensures.ok in
    let err = history_err x.result.1 v.front w.front (seat_link w.seat) x.ensures.err in
    let still : t.new.pass.number ≡ c.args.pass.now.number = ap (λ (p : PassModel NotedCall). p.number) t.ensures.pass in
    (group_adds c.args.pass.now.number v.seat.group w.seat.group c.args.thread c.args.line v.front.threads w.front.threads v.front.history w.front.history c.args.call.now x.ensures.group x.ensures.threads number t.new.pass.seen x.result.1 seen ok err).0

pub put-requires-2-clause-names : goal.put-requires-2-clause-names
put-requires-2-clause-names g c =
    let t = c.take-turn in
    let v = t.result.value in
    let x = c.call-value in
    let w = x.result.0 in
    let m = c.requires.mine in
    let threads : m.threads ≡ v.front.threads = same_founding m.group v.seat.group m.threads v.front.threads c.args.pass.now.seen m.more v.front.history m.seen_is t.ensures.begins in
    let number : pass_of v.front.threads c.args.thread ≡ c.args.pass.now.number = ap (λ l. pass_of l c.args.thread) (sym threads) ∙ m.number in
    let seen : t.new.pass.seen ≡ notes_of v.seat.group v.front.threads v.front.history = ap (λ (p : PassModel NotedCall). p.seen) t.ensures.pass in
    let ok = history_ok x.result.1 v.front w.front (seat_link w.seat) c.args.thread c.args.line c.args.call.now x.ensures.ok in
    let err = history_err x.result.1 v.front w.front (seat_link w.seat) x.ensures.err in
    let still : t.new.pass.number ≡ c.args.pass.now.number = ap (λ (p : PassModel NotedCall). p.number) t.ensures.pass in
    subst (λ k. NamesOnly names_of k (added t.new.pass.seen (notes_of w.seat.group w.front.threads w.front.history))) (sym still)
    (group_adds c.args.pass.now.number v.seat.group w.seat.group c.args.thread c.args.line v.front.threads w.front.threads v.front.history w.front.history c.args.call.now x.ensures.group x.ensures.threads number t.new.pass.seen x.result.1 seen ok err).1

pub returns-clause-ok : goal.returns-clause-ok
returns-clause-ok g c =
    let t = c.take-turn in
    let v = t.result.value in
    let x = c.call-value in
    let w = x.result.0 in
    let m = c.requires.mine in
    let threads : m.threads ≡ v.front.threads = same_founding m.group v.seat.group m.threads v.front.threads c.args.pass.now.seen m.more v.front.history m.seen_is t.ensures.begins in
    let number : pass_of v.front.threads c.args.thread ≡ c.args.pass.now.number = ap (λ l. pass_of l c.args.thread) (sym threads) ∙ m.number in
    let seen : t.new.pass.seen ≡ notes_of v.seat.group v.front.threads v.front.history = ap (λ (p : PassModel NotedCall). p.seen) t.ensures.pass in
    let ok = history_ok x.result.1 v.front w.front (seat_link w.seat) c.args.thread c.args.line c.args.call.now x.ensures.ok in
    let err = history_err x.result.1 v.front w.front (seat_link w.seat) x.ensures.err in
    let still : t.new.pass.number ≡ c.args.pass.now.number = ap (λ (p : PassModel NotedCall). p.number) t.ensures.pass in
    group_own c.args.pass.now.number v.seat.group w.seat.group c.args.thread c.args.line v.front.threads w.front.threads v.front.history w.front.history c.args.call.now x.ensures.group x.ensures.threads number c.args.pass.now.seen t.new.pass.seen c.put-2.new.pass.seen x.result.1 seen t.ensures.own
    (subst (λ k. own names_of k c.put-2.new.pass.seen ≡ own names_of k t.new.pass.seen ++ own names_of k (added t.new.pass.seen (notes_of w.seat.group w.front.threads w.front.history))) still c.put-2.ensures.own) ok

pub returns-clause-begins : goal.returns-clause-begins
returns-clause-begins g c =
    let t = c.take-turn in
    let v = t.result.value in
    let x = c.call-value in
    let w = x.result.0 in
    let m = c.requires.mine in
    let threads : m.threads ≡ v.front.threads = same_founding m.group v.seat.group m.threads v.front.threads c.args.pass.now.seen m.more v.front.history m.seen_is t.ensures.begins in
    let number : pass_of v.front.threads c.args.thread ≡ c.args.pass.now.number = ap (λ l. pass_of l c.args.thread) (sym threads) ∙ m.number in
    let seen : t.new.pass.seen ≡ notes_of v.seat.group v.front.threads v.front.history = ap (λ (p : PassModel NotedCall). p.seen) t.ensures.pass in
    let ok = history_ok x.result.1 v.front w.front (seat_link w.seat) c.args.thread c.args.line c.args.call.now x.ensures.ok in
    let err = history_err x.result.1 v.front w.front (seat_link w.seat) x.ensures.err in
    let now = notes_of w.seat.group w.front.threads w.front.history in
    let was : IsPrefix c.args.pass.now.seen t.new.pass.seen = subst (λ k. IsPrefix c.args.pass.now.seen k) (sym seen) t.ensures.begins in
    subst (λ k. IsPrefix c.args.pass.now.seen k) (sym (ap (λ (p : PassModel NotedCall). p.seen) c.put-2.ensures.pass))
    (prefix_trans c.args.pass.now.seen t.new.pass.seen now was
    (group_adds c.args.pass.now.number v.seat.group w.seat.group c.args.thread c.args.line v.front.threads w.front.threads v.front.history w.front.history c.args.call.now x.ensures.group x.ensures.threads number t.new.pass.seen x.result.1 seen ok err).0)

pub returns-clause-called : goal.returns-clause-called
returns-clause-called g c =
    let t = c.take-turn in
    let x = c.call-value in
    record {
      old = t.result.value;
      new = x.result.0;
      begins = t.ensures.begins;
      seen = ap (λ (p : PassModel NotedCall). p.seen) c.put-2.ensures.pass;
      did = record {
        ran = sym c.is_stopped.ensures ∙ c.if-is_stopped.false;
        ok = x.ensures.ok;
        origin = x.ensures.origin;
        polls = x.ensures.polls;
        flushes = x.ensures.flushes;
        err = x.ensures.err;
        lost = x.ensures.lost;
        stopped = x.ensures.stopped;
        at_back = x.ensures.at_back;
        licensed = x.ensures.licensed;
      };
    }

pub returns-then-is_stopped-clause-stopped : goal.returns-then-is_stopped-clause-stopped
returns-then-is_stopped-clause-stopped g c =
    let t = c.take-turn in
    record {
      old = t.result.value;
      new = t.result.value;
      begins = t.ensures.begins;
      seen = ap (λ (p : PassModel NotedCall). p.seen) c.put.ensures.pass;
      did = (sym c.is_stopped.ensures ∙ c.if-is_stopped.true, refl);
    }

pub returns-clause-last : goal.returns-clause-last
returns-clause-last g c =
    let t = c.take-turn in
    let v = t.result.value in
    let x = c.call-value in
    let w = x.result.0 in
    let m = c.requires.mine in
    let threads : m.threads ≡ v.front.threads = same_founding m.group v.seat.group m.threads v.front.threads c.args.pass.now.seen m.more v.front.history m.seen_is t.ensures.begins in
    let number : pass_of v.front.threads c.args.thread ≡ c.args.pass.now.number = ap (λ l. pass_of l c.args.thread) (sym threads) ∙ m.number in
    let ok = history_ok x.result.1 v.front w.front (seat_link w.seat) c.args.thread c.args.line c.args.call.now x.ensures.ok in
    ends_with c.args.pass.now.number v.seat.group w.seat.group c.args.thread c.args.line v.front.threads w.front.threads v.front.history w.front.history c.args.call.now x.ensures.group x.ensures.threads number c.args.pass.now.seen c.put-2.new.pass.seen x.result.1
    t.ensures.begins t.ensures.own (ap (λ (p : PassModel NotedCall). p.seen) c.put-2.ensures.pass) ok
