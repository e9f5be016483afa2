use Rattle.front_model.proofs.Needs.{may_enqueue, may_give, has_batch, hand_has_batch, hand_may, staging_kind, may_write_fresh, fresh_untouched, host_may, objects_distinct, in_no_object, holds_owns, abandoned_owns}
use Rattle.front_model.proofs.step_laws.steps_may.Goals as goal

pub returns : goal.returns
returns c = record {
  enqueue = λ f hands s index batch h own next. may_enqueue f hands s h c.lists_change_places.ensures.sound index batch own next;
  give = λ f hands s id slot uses h. may_give f hands s h id slot uses;
  wait = λ f hands s o b index h. has_batch f hands s h o b index;
  write_fresh = λ f hands s id len at size h. may_write_fresh f hands s h id len at size;
  untouched = λ f hands s id index kind h. fresh_untouched f hands s h id index kind;
  host = λ f hands s o quiet len at size h. host_may f hands s h o quiet len at size;
  kinds = λ f hands s o b h at. (h.objects o b at).slot.kind;
  hands = λ f hands s id slot h at. (h.hands_stand id slot at).stands.kind;
  distinct = λ f hands s o q b c h. objects_distinct f hands s h o q b c;
  in_no_object = λ f hands s o b id slot h. in_no_object f hands s h o b id slot;
  owns = λ f hands s h. holds_owns f hands s h;
  lets_go = λ f hands s id slot h. abandoned_owns f hands s h id slot;
  wait_hand = λ f hands s id slot index h. hand_has_batch f hands s h id slot index;
  host_hand = λ f hands s id slot len at size h. hand_may f hands s h id slot len at size;
  staging = staging_kind;
}
