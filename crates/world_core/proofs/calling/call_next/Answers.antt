use Rattle.std.proofs.Common.{◌≡◌, ◌<◌, ℕ, ◌+◌, Bool, true, false, List, length, map, refl, sym, subst, arith, rules, tests, ap, ◌∙◌}
use Rattle.std.specs.Prelude.{slice_set}
use Rattle.trace_text.specs.Reading.{plan}
use Rattle.world_core.specs.Inside.{Keeps, follows, played_of, world_of}
use Rattle.world_core.specs.Steps.{HasCalled}
use Rattle.world_core.proofs.Lists.{read_at, same_at}
use Rattle.world_core.proofs.Noted.{ready_from, not_ready_from, awaited_low, own_low}
use Rattle.world_core.proofs.Calls.{plan_at, line_got, done_low, front_declares, not_ok, has_ended, keeps_called, has_called}
use Rattle.world_core.proofs.Calls.{keeps_broken, broken_histories, on_err}
use Rattle.world_core.proofs.calling.call_next.Goals as goal

pub index-requires : goal.index-requires
index-requires g c =
    let low = done_low c.args.threads.now c.args.done.now.items c.args.fronts.now.items c.args.thread c.requires.keeps.played
    c.requires.thread in
    search rules

pub returns-in_default-clause-ok : goal.returns-in_default-clause-ok
returns-in_default-clause-ok g c =
    let ts = c.args.threads.now in
    let keeps = c.requires.keeps in (
      refl,
      has_ended (map plan ts) c.args.done.now.items c.args.fronts.now.items c.args.thread c.index.result.now
          (plan c.index-threads-number.result) keeps.played
          (plan_at ts c.args.thread c.index-threads-number.result c.requires.thread c.index-threads-number.is)
          (read_at c.args.done.now.items c.args.thread c.args.thread c.index.result.now refl
          (done_low ts c.args.done.now.items c.args.fronts.now.items c.args.thread keeps.played c.requires.thread) c.index.ensures)
          (let past = c.in_default.ensures.lookup.3 in let len = ap length c.deref.ensures.value in omega (arith, past, len)),
    )

pub may_follow-requires : goal.may_follow-requires
may_follow-requires g c =
    let ts = c.args.threads.now in
    let keeps = c.requires.keeps in
    let lookup = c.in-Some.ensures.lookup in
    let is = line_got ts c.args.thread c.index.result.now c.index-threads-number.result c.deref.result.now c.in-Some.line.now
    c.requires.thread c.index-threads-number.is
    c.deref.ensures.value lookup.3.0 lookup.1 in
    awaited_low (map plan ts) keeps.served.trace
    (played_of c.args.done.now.items c.args.fronts.now.items) c.args.answered.now.items keeps.noted c.args.thread c.index.result.now
    c.in-Some.line.now is
    c.deref-2.result.now c.deref-2.ensures.value

pub returns-then-not-may_follow-clause-ok : goal.returns-then-not-may_follow-clause-ok
returns-then-not-may_follow-clause-ok g c =
    let ts = c.args.threads.now in
    let keeps = c.requires.keeps in
    let lookup = c.in-Some.ensures.lookup in
    let is = line_got ts c.args.thread c.index.result.now c.index-threads-number.result c.deref.result.now c.in-Some.line.now
    c.requires.thread c.index-threads-number.is
    c.deref.ensures.value lookup.3.0 lookup.1 in
    let at = read_at c.args.done.now.items c.args.thread c.args.thread c.index.result.now refl
    (done_low ts c.args.done.now.items c.args.fronts.now.items c.args.thread keeps.played c.requires.thread) c.index.ensures in
    let unfollowed : follows c.args.answered.now.items c.in-Some.line.now.after ≡ false =
    sym (ap (λ (l : List Bool). follows l c.in-Some.line.now.after) c.deref-2.ensures.value) ∙ sym c.may_follow.ensures
    ∙ search (rules, tests) in (
      refl,
      record {
        line = c.in-Some.line.now;
        next = record { place = c.index.result.now; at = at; is = is };
        waits = not_ready_from (map plan ts) keeps.served.trace
            (played_of c.args.done.now.items c.args.fronts.now.items) c.args.answered.now.items keeps.noted c.args.thread
            c.index.result.now c.in-Some.line.now is unfollowed;
      },
    )

pub ask-requires-clause-low : goal.ask-requires-clause-low
ask-requires-clause-low g c =
    let keeps = c.requires.keeps in
    let eight = keeps.fronts_are.eight in
    let low = keeps.served.trace.low c.args.thread (plan c.index-threads-number.result)
    (plan_at c.args.threads.now c.args.thread c.index-threads-number.result c.requires.thread c.index-threads-number.is) in
    omega (arith, eight, low)

pub ask-requires-clause-may : goal.ask-requires-clause-may
ask-requires-clause-may g c = λ front at.
    front_declares (map plan c.args.threads.now) c.args.done.now.items c.args.answered.now.items c.args.fronts.now.items
    c.args.link.now.back.history c.args.thread
    (plan c.index-threads-number.result) front c.requires.keeps
    (c.plays_go_on.ensures.members (map plan c.args.threads.now) c.args.thread (plan c.index-threads-number.result)
    (plan_at c.args.threads.now c.args.thread c.index-threads-number.result c.requires.thread c.index-threads-number.is)) at

pub ask-requires-clause-built : goal.ask-requires-clause-built
ask-requires-clause-built g c =
    let ts = c.args.threads.now in
    let keeps = c.requires.keeps in
    let lookup = c.in-Some.ensures.lookup in
    let is = line_got ts c.args.thread c.index.result.now c.index-threads-number.result c.deref.result.now c.in-Some.line.now
    c.requires.thread c.index-threads-number.is
    c.deref.ensures.value lookup.3.0 lookup.1 in
    keeps.served.built c.args.thread c.index.result.now c.in-Some.line.now is

pub ask-requires-clause-its_data : goal.ask-requires-clause-its_data
ask-requires-clause-its_data g c =
    let ts = c.args.threads.now in
    let keeps = c.requires.keeps in
    let lookup = c.in-Some.ensures.lookup in
    let is = line_got ts c.args.thread c.index.result.now c.index-threads-number.result c.deref.result.now c.in-Some.line.now
    c.requires.thread c.index-threads-number.is
    c.deref.ensures.value lookup.3.0 lookup.1 in
    keeps.served.its_data c.args.thread c.index.result.now c.in-Some.line.now is

pub returns-in_err-ask-clause-keeps : goal.returns-in_err-ask-clause-keeps
returns-in_err-ask-clause-keeps g c =
    subst (λ (b : Bool). Keeps
    (map plan c.args.threads.now) c.args.done.now.items c.args.answered.now.items c.ask.new.fronts.items c.ask.new.link.back.history b)
    (sym (not_ok c.from_residual.result c.from_residual.ensures.0))
    (keeps_broken (record {
      apart = record {
        own = c.groups_are_apart.ensures.own;
        completed_rises = c.groups_are_apart.ensures.completed;
        wrote =
            c.groups_are_apart.ensures.wrote;
      };
      stays = c.fronts_go_on_standing.ensures;
      dues = c.dues_grow.ensures.grows;
      whole = c.cleanups_stay_whole.ensures.calls;
      group = c.what_a_group_sees.ensures.group;
      plays = c.plays_go_on.ensures.goes_on;
    }) (map plan c.args.threads.now) c.args.done.now.items c.args.answered.now.items c.args.fronts.now.items c.ask.new.fronts.items
    c.args.link.now.back.history c.ask.new.link.back.history c.index-threads-number.result.group c.in_err-ask.ensures.err c.requires.keeps)

pub returns-in_err-ask-clause-histories : goal.returns-in_err-ask-clause-histories
returns-in_err-ask-clause-histories g c =
    on_err c.from_residual.result
    (broken_histories (record {
      apart = record {
        own = c.groups_are_apart.ensures.own;
        completed_rises = c.groups_are_apart.ensures.completed;
        wrote =
            c.groups_are_apart.ensures.wrote;
      };
      stays = c.fronts_go_on_standing.ensures;
      dues = c.dues_grow.ensures.grows;
      whole = c.cleanups_stay_whole.ensures.calls;
      group = c.what_a_group_sees.ensures.group;
      plays = c.plays_go_on.ensures.goes_on;
    }) (map plan c.args.threads.now) c.args.done.now.items c.args.answered.now.items c.args.fronts.now.items c.ask.new.fronts.items
    c.args.link.now.back.history c.ask.new.link.back.history c.index-threads-number.result.group c.in_err-ask.ensures.err)

pub returns-in_err-ask-clause-halt : goal.returns-in_err-ask-clause-halt
returns-in_err-ask-clause-halt g c =
    on_err c.from_residual.result (record {
      plan = plan c.index-threads-number.result;
      is_thread = plan_at c.args.threads.now c.args.thread c.index-threads-number.result c.requires.thread c.index-threads-number.is;
      broken = c.in_err-ask.ensures.err;
    })

pub index_mut-requires : goal.index_mut-requires
index_mut-requires g c =
    let ts = c.args.threads.now in
    let keeps = c.requires.keeps in
    let lookup = c.in-Some.ensures.lookup in
    let is = line_got ts c.args.thread c.index.result.now c.index-threads-number.result c.deref.result.now c.in-Some.line.now
    c.requires.thread c.index-threads-number.is
    c.deref.ensures.value lookup.3.0 lookup.1 in
    let low = own_low (map plan ts)
    (played_of c.args.done.now.items c.args.fronts.now.items) c.args.answered.now.items keeps.noted c.args.thread c.index.result.now
    c.in-Some.line.now is in
    search rules

pub index_mut-requires-2 : goal.index_mut-requires-2
index_mut-requires-2 g c =
    let low = done_low c.args.threads.now c.args.done.now.items c.args.fronts.now.items c.args.thread c.requires.keeps.played
    c.requires.thread in
    search rules

pub overflow_add-index_mut : goal.overflow_add-index_mut
overflow_add-index_mut g c =
    let ts = c.args.threads.now in
    let keeps = c.requires.keeps in
    let lookup = c.in-Some.ensures.lookup in
    let is = line_got ts c.args.thread c.index.result.now c.index-threads-number.result c.deref.result.now c.in-Some.line.now
    c.requires.thread c.index-threads-number.is
    c.deref.ensures.value lookup.3.0 lookup.1 in
    let at = read_at c.args.done.now.items c.args.thread c.args.thread c.index.result.now refl
    (done_low ts c.args.done.now.items c.args.fronts.now.items c.args.thread keeps.played c.requires.thread) c.index.ensures in
    let same : c.index.result.now ≡ c.index_mut-2.result.now =
    same_at c.args.done.now.items c.args.thread c.index.result.now c.index_mut-2.result.now at
    (read_at c.args.done.now.items c.args.thread c.args.thread c.index_mut-2.result.now refl
    (done_low ts c.args.done.now.items c.args.fronts.now.items c.args.thread keeps.played c.requires.thread) c.index_mut-2.ensures.value) in
    let few = lookup.3.0 in
    let fits = c.deref.type_inv.0 in
    omega (arith, same, few, fits)

pub returns-clause-keeps : goal.returns-clause-keeps
returns-clause-keeps g c =
    let ts = c.args.threads.now in
    let keeps = c.requires.keeps in
    let lookup = c.in-Some.ensures.lookup in
    let is = line_got ts c.args.thread c.index.result.now c.index-threads-number.result c.deref.result.now c.in-Some.line.now
    c.requires.thread c.index-threads-number.is
    c.deref.ensures.value lookup.3.0 lookup.1 in
    let at = read_at c.args.done.now.items c.args.thread c.args.thread c.index.result.now refl
    (done_low ts c.args.done.now.items c.args.fronts.now.items c.args.thread keeps.played c.requires.thread) c.index.ensures in
    let followed : follows c.args.answered.now.items c.in-Some.line.now.after ≡ true =
    sym (ap (λ (l : List Bool). follows l c.in-Some.line.now.after) c.deref-2.ensures.value) ∙ sym c.may_follow.ensures
    ∙ search (rules, tests) in
    let ready = ready_from (map plan ts) keeps.served.trace
    (played_of c.args.done.now.items c.args.fronts.now.items) c.args.answered.now.items keeps.noted c.args.thread c.index.result.now
    c.in-Some.line.now is followed in
    let same : c.index.result.now ≡ c.index_mut-2.result.now =
    same_at c.args.done.now.items c.args.thread c.index.result.now c.index_mut-2.result.now at
    (read_at c.args.done.now.items c.args.thread c.args.thread c.index_mut-2.result.now refl
    (done_low ts c.args.done.now.items c.args.fronts.now.items c.args.thread keeps.played c.requires.thread) c.index_mut-2.ensures.value) in
    subst (λ (n : ℕ). Keeps (map plan ts) (slice_set c.args.done.now.items c.args.thread (n + 1))
    (slice_set c.args.answered.now.items c.in-Some.line.now.number true)
    c.ask.new.fronts.items c.ask.new.link.back.history true) same
    (keeps_called (record {
      apart = record {
        own = c.groups_are_apart.ensures.own;
        completed_rises = c.groups_are_apart.ensures.completed;
        wrote =
            c.groups_are_apart.ensures.wrote;
      };
      stays = c.fronts_go_on_standing.ensures;
      dues = c.dues_grow.ensures.grows;
      whole = c.cleanups_stay_whole.ensures.calls;
      group = c.what_a_group_sees.ensures.group;
      plays = c.plays_go_on.ensures.goes_on;
    }) (map plan ts) c.args.done.now.items c.args.answered.now.items c.args.fronts.now.items c.ask.new.fronts.items
    c.args.link.now.back.history c.ask.new.link.back.history c.args.thread c.index.result.now c.in-Some.line.now keeps at is ready
    c.in_ok-ask.field-0 c.in_ok-ask.ensures.ok)

pub returns-clause-ok : goal.returns-clause-ok
returns-clause-ok g c =
    let ts = c.args.threads.now in
    let keeps = c.requires.keeps in
    let lookup = c.in-Some.ensures.lookup in
    let is = line_got ts c.args.thread c.index.result.now c.index-threads-number.result c.deref.result.now c.in-Some.line.now
    c.requires.thread c.index-threads-number.is
    c.deref.ensures.value lookup.3.0 lookup.1 in
    let at = read_at c.args.done.now.items c.args.thread c.args.thread c.index.result.now refl
    (done_low ts c.args.done.now.items c.args.fronts.now.items c.args.thread keeps.played c.requires.thread) c.index.ensures in
    let followed : follows c.args.answered.now.items c.in-Some.line.now.after ≡ true =
    sym (ap (λ (l : List Bool). follows l c.in-Some.line.now.after) c.deref-2.ensures.value) ∙ sym c.may_follow.ensures
    ∙ search (rules, tests) in
    let ready = ready_from (map plan ts) keeps.served.trace
    (played_of c.args.done.now.items c.args.fronts.now.items) c.args.answered.now.items keeps.noted c.args.thread c.index.result.now
    c.in-Some.line.now is followed in
    let same : c.index.result.now ≡ c.index_mut-2.result.now =
    same_at c.args.done.now.items c.args.thread c.index.result.now c.index_mut-2.result.now at
    (read_at c.args.done.now.items c.args.thread c.args.thread c.index_mut-2.result.now refl
    (done_low ts c.args.done.now.items c.args.fronts.now.items c.args.thread keeps.played c.requires.thread) c.index_mut-2.ensures.value) in
    subst (λ (n : ℕ). HasCalled (world_of (map plan ts) c.args.done.now.items c.args.fronts.now.items c.args.link.now.back true)
    (world_of (map plan ts) (slice_set c.args.done.now.items c.args.thread (n + 1)) c.ask.new.fronts.items c.ask.new.link.back true)
    c.args.thread) same
    (has_called (record {
      apart = record {
        own = c.groups_are_apart.ensures.own;
        completed_rises = c.groups_are_apart.ensures.completed;
        wrote =
            c.groups_are_apart.ensures.wrote;
      };
      stays = c.fronts_go_on_standing.ensures;
      dues = c.dues_grow.ensures.grows;
      whole = c.cleanups_stay_whole.ensures.calls;
      group = c.what_a_group_sees.ensures.group;
      plays = c.plays_go_on.ensures.goes_on;
    }) (map plan ts) c.args.done.now.items c.args.answered.now.items c.args.fronts.now.items c.ask.new.fronts.items
    c.args.link.now.back.history c.ask.new.link.back.history c.args.thread c.index.result.now c.in-Some.line.now keeps at is ready
    c.in_ok-ask.field-0 c.in_ok-ask.ensures.ok
    c.args.link.now.back c.ask.new.link.back refl refl)
