use Rattle.std.proofs.Common.{[], ◌∷◌, length, map, sym, ap, subst, arith, ◌∙◌, length-append}
use Rattle.trace_text.specs.Reading.{plan}
use Rattle.front_core.specs.Front.{IsNewFront}
use Rattle.world_core.specs.World.{AreNew}
use Rattle.world_core.proofs.Starts.{new_more}
use Rattle.world_core.proofs.opening.open_fronts.Goals as goal

pub loop-group-preserved : goal.loop-group-preserved
loop-group-preserved c = record {
  count =
      let count = c.loop-group.invariant.count in
      let pushed = ap length c.push_reserved.ensures.items in
      let longer = length-append c.loop-group.fronts.items (c.in_ok-new.field-0 ∷ []) in
      omega (arith, count, pushed, longer);
  room = let room = c.loop-group.invariant.room in let same = c.push_reserved.ensures.capacity in omega (arith, room, same);
  new = subst (AreNew (map plan c.args.threads.now)) (sym c.push_reserved.ensures.items)
      (new_more (map plan c.args.threads.now) c.loop-group.fronts.items c.loop-group.group c.in_ok-new.field-0 c.loop-group.invariant.count
      c.loop-group.invariant.new
      (subst (IsNewFront c.in_ok-new.field-0 c.loop-group.group) (c.deref.ensures.value ∙ c.in_ok-list.ensures) c.in_ok-new.ensures));
}
