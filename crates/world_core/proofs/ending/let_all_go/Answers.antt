use Rattle.std.proofs.Common.{map, length, refl, sym, arith, rules}
use Rattle.trace_text.specs.Reading.{plan}
use Rattle.world_core.proofs.Lists.{read_at}
use Rattle.world_core.proofs.LettingGo.{letting_begins, letting_more, first_owns, all_groups}
use Rattle.world_core.proofs.ending.let_all_go.Goals as goal

pub loop-group-init : goal.loop-group-init
loop-group-init g c = record {
  letting = letting_begins
      (map plan c.args.threads.now) c.args.fronts.items c.args.link.now.back.history c.args.ended.now.items c.requires.eight
      c.requires.owns c.requires.empty;
  room = c.requires.room;
  later = omega arith;
}

pub remove-front-requires : goal.remove-front-requires
remove-front-requires g c = let some = c.loop-group.invariant.letting.some in let low = c.loop-group-test.true in omega (arith, some, low)

pub let_go-entries-requires : goal.let_go-entries-requires
let_go-entries-requires g c =
    let was = c.loop-group.invariant.letting in
    let some = was.some in
    let low = c.loop-group-test.true in
    first_owns (map plan c.args.threads.now) c.args.fronts.items c.loop-group.fronts.items c.args.link.now.back.history
    c.loop-group.link.back.history c.loop-group.ended.items c.loop-group.group
    c.remove-front.result was
    (read_at c.loop-group.fronts.items 0 0 c.remove-front.result refl (omega (arith, some, low)) c.remove-front.ensures.value)

pub keep-requires : goal.keep-requires
keep-requires g c =
    let few = c.loop-group.invariant.letting.few in
    let room = c.loop-group.invariant.room in
    let low = c.loop-group-test.true in
    omega (arith, few, room, low)

pub loop-group-preserved : goal.loop-group-preserved
loop-group-preserved g c =
    let was = c.loop-group.invariant.letting in
    let some = was.some in
    let low = c.loop-group-test.true in
    record {
      letting = letting_more
          (map plan c.args.threads.now) c.args.fronts.items c.loop-group.fronts.items c.remove-front.new.self.items
          c.args.link.now.back.history c.loop-group.link.back.history
          c.let_go-entries.new.link.back.history c.loop-group.ended.items c.keep.new.ended.items c.loop-group.group c.remove-front.result
          (record { group = c.loop-group.group; entries = c.let_go-entries.result }) was (omega (arith, low))
          (read_at c.loop-group.fronts.items 0 0 c.remove-front.result refl (omega (arith, some, low)) c.remove-front.ensures.value)
          c.remove-front.ensures.items
          c.let_go-entries.ensures.lets c.let_go-entries.ensures.others refl c.let_go-entries.ensures.entries c.is_declared.result
          (sym c.is_declared.ensures) c.keep.ensures.items;
      room = let room = c.loop-group.invariant.room in let same = c.keep.ensures.capacity in omega (arith, room, same);
      later = let before = c.loop-group.invariant.later in let now = c.let_go-entries.ensures.faults in omega (arith, before, now);
    }

pub destroy_empty-requires : goal.destroy_empty-requires
destroy_empty-requires g c = let some = c.loop-group.invariant.letting.some in let past = c.loop-group-test.false in omega
    (arith, some, past)

pub returns-clause-groups : goal.returns-clause-groups
returns-clause-groups g c =
    let some = c.loop-group.invariant.letting.some in
    all_groups (map plan c.args.threads.now) c.args.fronts.items c.loop-group.fronts.items c.args.link.now.back.history
    c.loop-group.link.back.history c.loop-group.ended.items
    c.loop-group.group c.loop-group.invariant.letting (omega (arith, some, c.loop-group-test.false))

pub returns-clause-entries : goal.returns-clause-entries
returns-clause-entries g c = c.loop-group.invariant.letting.entries

pub returns-clause-lets : goal.returns-clause-lets
returns-clause-lets g c = c.loop-group.invariant.letting.lets
