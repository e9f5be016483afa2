use Rattle.front_model.proofs.NodeViews.{view_clear, recorded_unlaid, view_unlaid, recorded_behind, recorded_due, view_changed, view_left, view_fenced, view_discarded, view_drained_behind}
use Rattle.front_model.proofs.Fences.{one_due, due_barriers}
use Rattle.front_model.proofs.node_laws.due_nodes_show.Goals as goal

pub returns : goal.returns
returns c =
    let layouts = c.due_barriers_fit.ensures.layouts in
    let new = c.due_barriers_fit.ensures.new in
    record {
      node = λ f hands s index n h may. recorded_due layouts new f hands s index h n may;
      behind = λ f hands s index fences n h all may. recorded_behind layouts new f hands s index h fences n all may;
      due = due_barriers;
      one = one_due;
      changes = λ f hands s index fences n o b h. view_changed layouts new f hands s index h fences n o b;
      changes_hand = λ f hands s index fences n id slot h. view_left layouts new f hands s index h fences n id slot;
      drains = λ f hands also s index fences o b w. view_drained_behind layouts new f hands also s index fences o b w;
      transition = λ f hands s index fences h all may. view_fenced layouts new f hands s index h fences all may;
      discarded = λ f hands s index fences place barrier o b h. view_discarded layouts new f hands s index h fences place o b barrier;
      unwritten = λ f hands s o b h. view_unlaid layouts new f hands s o b h;
      unlaid = λ f hands s id h. recorded_unlaid layouts new f hands s id h;
      shows = view_clear;
    }
