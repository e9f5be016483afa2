use Rattle.std.proofs.Common.{◌≡◌, ℕ, List, refl, sym, ◌∙◌, ap, length, false, true}
use Rattle.std.specs.Prelude.{Some, None}
use Rattle.std.specs.Option.{option_map}
use Rattle.gl_calls.specs.Words.{payload_bytes}
use Rattle.front_moves.specs.Core.{face}
use Rattle.front_core.specs.Economy.{data_len}
use Rattle.front_core.proofs.BufferCalls.{length-payload_bytes}
use Rattle.front_core.proofs.DataCalls.{on_ok, renewed_as, some_data}
use Rattle.back_core.specs.Frame.{NoBatch}
use Rattle.front_core.proofs.AtTheBack.{nothing_done, due_as}
use Rattle.front_core.proofs.share.Share.new_store.Goals as goal

pub returns-in-None-clause-moved : goal.returns-in-None-clause-moved
returns-in-None-clause-moved g c =
    on_ok c.store_blank.result
    (renewed_as (face c.args.self.now.core) (face c.store_blank.new.self) (g.L.BackLink.state c.args.link.now) (g.L.BackLink.state c.store_blank.new.link) c.args.buffer c.args.size c.args.size None (option_map payload_bytes c.args.payload.now)
    (sym (ap (option_map payload_bytes) c.in-None.is)) refl)
    c.store_blank.ensures.moved

pub returns-in-Ok-clause-moved : goal.returns-in-Ok-clause-moved
returns-in-Ok-clause-moved g c =
    let made : c.as_slice.result.now ≡ payload_bytes c.in-Some.payload = c.as_slice.ensures ∙ c.in-Ok.ensures in
    on_ok c.store.result
    (renewed_as (face c.args.self.now.core) (face c.store.new.self) (g.L.BackLink.state c.args.link.now) (g.L.BackLink.state c.store.new.link) c.args.buffer (length c.as_slice.result.now) c.args.size (Some c.as_slice.result.now) (option_map payload_bytes c.args.payload.now)
    (ap (λ (x : List ℕ). Some x) made ∙ sym (ap (option_map payload_bytes) c.in-Some.is))
    (ap length made ∙ length-payload_bytes c.in-Some.payload ∙ some_data c.args.payload.now c.in-Some.payload c.args.size c.in-Some.is c.requires.its_data))
    c.store.ensures.moved

pub returns-in-Err-clause-err : goal.returns-in-Err-clause-err
returns-in-Err-clause-err g c = c.buffers_are_filled.ensures.owns (face c.args.self.now.core) (g.L.BackLink.state c.args.link.now) c.requires.holds

pub returns-in-Ok-clause-at_back : goal.returns-in-Ok-clause-at_back
returns-in-Ok-clause-at_back g c =
    let len_is : length c.as_slice.result.now ≡ data_len c.args.payload.now
    = ap length (c.as_slice.ensures ∙ c.in-Ok.ensures) ∙ length-payload_bytes c.in-Some.payload ∙ sym (ap data_len c.in-Some.is) in
    due_as len_is c.store.ensures.at_back

pub returns-in-Err-clause-at_back : goal.returns-in-Err-clause-at_back
returns-in-Err-clause-at_back g c =
    nothing_done (g.L.BackLink.state c.args.link.now) (g.L.BackLink.told c.args.link.now) (data_len c.args.payload.now) false true NoBatch
