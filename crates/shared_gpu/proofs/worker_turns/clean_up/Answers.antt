use Rattle.std.proofs.Common.{◌≡◌, sym, ap, ◌∙◌, subst}
use Rattle.std.specs.Prelude.{Result, Ok, Err, IfOk, IfErr, List, ℕ, slice_index, ◌<◌, ◌≤◌}
use Rattle.vk_types.specs.declared.stops.Stop.{Stop}
use Rattle.back_core.specs.History.{completed}
use Rattle.back_core.specs.Steps.{CleansUp}
use Rattle.turnstile.specs.Histories.{greatest}
use Rattle.turnstile.specs.Views.{PassModel}
use Rattle.shared_gpu.specs.declared.noted.Noted.{Noted}
use mathlib.Core.List.{IsPrefix}
use Rattle.shared_gpu.specs.Notes.{notes_of}
use Rattle.shared_gpu.specs.Views.{SharedModel, back_of}
use Rattle.shared_gpu.specs.Turns.{WereLoaded, StopsCleaning}
use Rattle.shared_gpu.proofs.Words.{shown_at}
use Rattle.shared_gpu.proofs.Working.{seen_then, adds_cleanup, turn_ok, turn_err, stopped_then}
use Rattle.shared_gpu.proofs.worker_turns.clean_up.Goals as goal

-- the numbers that were read stand beside what was done with them
with_read : {T E : Type 0} (loads : List (ℕ × ℕ)) (read : List ℕ) (r : Result T E) (Did : T → List ℕ → Type 0) → WereLoaded loads read → IfOk r (λ x. Did x read) → IfOk r (λ x. (l : List ℕ) × WereLoaded loads l × Did x l)
with_read loads read (Ok x) Did were did = (read, were, did)
with_read loads read (Err e) Did were did = did

with_read_err : {T E : Type 0} (loads : List (ℕ × ℕ)) (read : List ℕ) (r : Result T E) (Did : E → List ℕ → Type 0) → WereLoaded loads read → IfErr r (λ x. Did x read) → IfErr r (λ x. (l : List ℕ) × WereLoaded loads l × Did x l)
with_read_err loads read (Ok x) Did were did = did
with_read_err loads read (Err e) Did were did = (read, were, did)

still_loaded : (g : _) (c : goal.After-put g) → WereLoaded c.put.new.pass.loads c.read_all-read.result
still_loaded g c =
    let loads = ap (λ (p : PassModel Noted). p.loads) c.put.ensures.given.is ∙ ap (λ (p : PassModel Noted). p.loads) c.take-turn.ensures.pass in
    subst (λ l. WereLoaded l c.read_all-read.result) (sym loads) c.read_all-read.ensures.loaded

seen_before : (g : _) (c : goal.After-put g) → IsPrefix c.args.pass.now.seen (notes_of c.take-turn.result.value.opened c.take-turn.result.value.history)
seen_before g c =
    let v = c.take-turn.result.value in
    subst (λ l. IsPrefix l (notes_of v.opened v.history)) (ap (λ (p : PassModel Noted). p.seen) c.read_all-read.ensures.pass) c.take-turn.ensures.begins

pub put-requires-clause-adds : goal.put-requires-clause-adds
put-requires-clause-adds g c =
    let t = c.take-turn in
    let v = t.result.value in
    let x = c.cleanup-answer in
    adds_cleanup g.D.Device.journal t.new.pass v x.new.self (seen_then c.read_all-read.new.pass t.new.pass v.opened x.new.self.opened v.history t.ensures.pass x.ensures.opened)
    (shown_at t.new.pass.words (completed v.history) t.ensures.shown) c.what_a_group_sees.ensures.others c.read_all-read.result x.result x.ensures.ok x.ensures.err

pub returns-clause-ok : goal.returns-clause-ok
returns-clause-ok g c =
    let t = c.take-turn in
    let v = t.result.value in
    let x = c.cleanup-answer in
    turn_ok c.args.pass.now c.put.new.pass v x.new.self (seen_before g c) (ap (λ (p : PassModel Noted). p.seen) c.put.ensures.given.is) c.put.ensures.given.shown x.ensures.opened x.result
    (λ count (s t : SharedModel _). (read : List ℕ) × WereLoaded c.put.new.pass.loads read × CleansUp g.D.Device.journal (back_of s) (back_of t) read count)
    (with_read c.put.new.pass.loads c.read_all-read.result x.result (λ count read. CleansUp g.D.Device.journal (back_of v) (back_of x.new.self) read count) (still_loaded g c) x.ensures.ok)

pub returns-clause-err : goal.returns-clause-err
returns-clause-err g c =
    let t = c.take-turn in
    let v = t.result.value in
    let x = c.cleanup-answer in
    turn_err c.args.pass.now c.put.new.pass v x.new.self (seen_before g c) (ap (λ (p : PassModel Noted). p.seen) c.put.ensures.given.is) c.put.ensures.given.shown x.ensures.opened x.result
    (λ stop (s t : SharedModel _). (read : List ℕ) × WereLoaded c.put.new.pass.loads read × StopsCleaning g.D.Device.journal s t read stop)
    (with_read_err c.put.new.pass.loads c.read_all-read.result x.result (λ stop read. StopsCleaning g.D.Device.journal v x.new.self read stop) (still_loaded g c) x.ensures.err)

pub returns-clause-stopped : goal.returns-clause-stopped
returns-clause-stopped g c =
    let x = c.cleanup-answer in
    stopped_then c.put.new.pass x.new.self.opened x.new.self.history x.result (ap (λ (p : PassModel Noted). p.seen) c.put.ensures.given.is) x.ensures.first
