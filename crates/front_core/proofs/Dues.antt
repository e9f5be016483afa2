-- The bytes that are due over a history that has one entry more.
use Rattle.std.proofs.Common.{arith, ◌≡◌, ℕ, ◌+◌, List, [], ◌∷◌, ◌++◌, sym, ◌∙◌, ap, add_assoc}
use Rattle.gl_calls.specs.declared.reply.Entry.{Entry}
use Rattle.gl_model.specs.declared.state.GroupState.{GroupState}
use Rattle.gl_model.specs.Reached.{group_after, group_after_all}
use Rattle.front_core.specs.Economy.{due_of, due_from}

one_alone : (n : ℕ) → n + 0 ≡ 0 + n
one_alone n = omega arith

pub due_from_append : (group : GroupState) (history : List Entry) (e : Entry) → due_from group (history ++ e ∷ []) ≡ due_from group history + due_of (group_after_all group history) e.thread e.call
due_from_append group [] e = one_alone (due_of group e.thread e.call)
due_from_append group (x ∷ rest) e =
    ap (λ n. due_of group x.thread x.call + n) (due_from_append (group_after group x) rest e)
    ∙ sym (add_assoc (due_of group x.thread x.call) (due_from (group_after group x) rest) (due_of (group_after_all (group_after group x) rest) e.thread e.call))
