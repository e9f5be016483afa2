use Rattle.std.proofs.Common.{◌≡◌, ℕ, true, sym, ◌∙◌, ap, subst, inr}
use Rattle.std.specs.Prelude.{Some}
use Rattle.std.proofs.lemmas.Bool.{both_ways}
use Rattle.vk_types.specs.declared.ops.Node.{Node}
use Rattle.vk_types.specs.Touches.{barrier_of, op_barrier}
use Rattle.vk_model.specs.Log.{Item, Command, touches_object, touches_with}
use Rattle.barriers.proofs.Growing.{due_id, due_waits, due_chains, due_finds, due_longer, node_finds, node_covered, node_apart, node_longer, longer_by_other, longer_queue}
use Rattle.barriers.proofs.laws.licensed_barriers_keep_logs_sound.Goals as goal

same_node : {p q : ℕ} {m n : Node} → ◌≡◌ {A = Item} (Command p m) (Command q n) → m ≡ n
same_node e = cc

pub returns-clause-barrier : goal.returns-clause-barrier
returns-clause-barrier c = λ log one sound id is_image last uses tracked u touch barrier n of due is.
    let has : barrier_of n ≡ Some barrier = ap op_barrier is in
    let kept = c.trackers_keep_logs_sound.ensures.barrier log one id.0 last n barrier sound tracked has (due_id log id is_image uses u touch barrier due) (due_finds log id is_image uses u touch barrier due n has) (due_waits log id is_image uses u touch barrier due last tracked) (λ place l e. inr (due_chains log id is_image uses u touch barrier due place l)) in
    (kept.0, kept.1, due_longer log id is_image uses u touch barrier due 0 n has of.some)

pub returns-clause-node : goal.returns-clause-node
returns-clause-node c = λ log one sound is_image last uses n device tracked free. (
  c.trackers_keep_logs_sound.ensures.node log one last n sound (node_finds log is_image last uses n device tracked free) (λ id on. (tracked id on).0)
      (λ id place l on e. node_covered log is_image last uses n device tracked free id place l on)
      (λ id k q a on after at on'. node_apart log is_image last uses n device tracked free id k q a on after at on'),
  λ id on. (
    c.trackers_keep_logs_sound.ensures.kept log id (last id) (Command 0 n) (tracked id on).0
        (λ q m e on'. ap barrier_of (sym (same_node e)) ∙ device)
        (λ q m place l e on' at. subst (λ m. touches_with m id l.barrier.second ≡ true) (same_node e) (node_covered log is_image last uses n device tracked free id place l on)),
    node_longer log is_image last uses n device tracked free 0 id on,
  ),
)

pub returns-clause-others : goal.returns-clause-others
returns-clause-others c = λ log id last uses x tracked u off. (
  c.trackers_keep_logs_sound.ensures.kept log id last x tracked (λ q n e on. absurd (both_ways (touches_object n id) (off q n e) on)) (λ q n place l e on at. absurd (both_ways (touches_object n id) (off q n e) on)),
  longer_by_other log id uses u x off,
)

pub returns-clause-queue : goal.returns-clause-queue
returns-clause-queue c = longer_queue
