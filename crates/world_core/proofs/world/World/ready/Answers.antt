use Rattle.std.proofs.Common.{◌≡◌, ◌<◌, Bool, false, List, length, map, refl, ap, ◌∙◌, subst, arith}
use Rattle.std.specs.Prelude.{IsTrue, ◌↔◌}
use Rattle.std.proofs.lemmas.List.{length-map}
use Rattle.trace_text.specs.Reading.{plan}
use Rattle.play_model.specs.Plays.{MayPlay}
use Rattle.world_core.specs.World.{WorldModel, play_of}
use Rattle.world_core.specs.Inside.{follows, played_of}
use Rattle.world_core.proofs.Lists.{read_at}
use Rattle.world_core.proofs.Noted.{awaited_low}
use Rattle.world_core.proofs.Calls.{plan_at, line_got, done_low, may_play, may_not_play}
use Rattle.world_core.proofs.world.World.ready.Goals as goal

pub may_follow-requires : goal.may_follow-requires
may_follow-requires g c =
    let ts = c.self.inside.threads.items in
    let keeps = c.self.invariant.0 in
    let low : c.args.thread < length c.self.inside.threads.items =
    let all = ap (λ (w : WorldModel g.row.D.Denot). length w.threads) c.self.view_is in
    let same = length-map c.self.inside.threads.items plan in
    omega (arith, all, same, c.requires) in
    let lookup = c.in-Some.ensures.lookup in
    let is = line_got ts c.args.thread c.index-2.result.now c.index.result.now c.deref.result.now c.in-Some.line.now low c.index.ensures
    c.deref.ensures.value lookup.3.0 lookup.1 in
    awaited_low (map plan ts) keeps.served.trace
    (played_of c.self.inside.done.items c.self.inside.fronts.items) c.self.inside.answered.items keeps.noted c.args.thread
    c.index-2.result.now
    c.in-Some.line.now is c.deref-in-Some.result.now c.deref-in-Some.ensures.value

pub returns-in-Some : goal.returns-in-Some
returns-in-Some g c =
    let ts = c.self.inside.threads.items in
    let keeps = c.self.invariant.0 in
    let low : c.args.thread < length c.self.inside.threads.items =
    let all = ap (λ (w : WorldModel g.row.D.Denot). length w.threads) c.self.view_is in
    let same = length-map c.self.inside.threads.items plan in
    omega (arith, all, same, c.requires) in
    let lookup = c.in-Some.ensures.lookup in
    let is = line_got ts c.args.thread c.index-2.result.now c.index.result.now c.deref.result.now c.in-Some.line.now low c.index.ensures
    c.deref.ensures.value lookup.3.0 lookup.1 in
    let at = read_at c.self.inside.done.items c.args.thread c.args.thread c.index-2.result.now refl
    (done_low ts c.self.inside.done.items c.self.inside.fronts.items c.args.thread keeps.played low) c.index-2.ensures in
    subst (λ (w : WorldModel g.row.D.Denot). IsTrue c.may_follow.result ↔ MayPlay w.threads (play_of w) c.args.thread) c.self.view_is
    (may_play (map plan ts) c.self.inside.done.items c.self.inside.answered.items c.self.inside.fronts.items
    c.self.inside.link.back.history c.self.inside.running c.args.thread c.index-2.result.now keeps at c.in-Some.line.now is
    c.may_follow.result
    (c.may_follow.ensures ∙ ap (λ (l : List Bool). follows l c.in-Some.line.now.after) c.deref-in-Some.ensures.value))

pub returns-in-None : goal.returns-in-None
returns-in-None g c =
    let ts = c.self.inside.threads.items in
    let keeps = c.self.invariant.0 in
    let low : c.args.thread < length c.self.inside.threads.items =
    let all = ap (λ (w : WorldModel g.row.D.Denot). length w.threads) c.self.view_is in
    let same = length-map c.self.inside.threads.items plan in
    omega (arith, all, same, c.requires) in
    let at = read_at c.self.inside.done.items c.args.thread c.args.thread c.index-2.result.now refl
    (done_low ts c.self.inside.done.items c.self.inside.fronts.items c.args.thread keeps.played low) c.index-2.ensures in
    subst (λ (w : WorldModel g.row.D.Denot). IsTrue false ↔ MayPlay w.threads (play_of w) c.args.thread) c.self.view_is
    (may_not_play (map plan ts) c.self.inside.done.items c.self.inside.answered.items c.self.inside.fronts.items
    c.self.inside.link.back.history c.self.inside.running c.args.thread c.index-2.result.now keeps at (plan c.index.result.now)
    (plan_at ts c.args.thread c.index.result.now low c.index.ensures)
    (let past = c.in-None.ensures.lookup.3 in let len = ap length c.deref.ensures.value in omega (arith, past, len)))
