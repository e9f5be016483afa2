-- A closure that captures what may be sent may be sent, and so may a tuple.
use mathlib.Core.List.{List, [], ◌∷◌}
use Prim.Native.Nat.{ℕ}
use denote.RattleType.{RattleType}
use denote.Param.Send.{IsSend, IsSync, sendable}
use denote.Param.SendFields.{FieldsHave, as_row_send, declared_send}
use denote.Struct.Field.{row_field, unit-field}
use denote.Struct.Tuple.{parts, type_at, TupleAt}
use Rattle.std.specs.contracts.result.Result.{the_row as result_row}
use Rattle.std.proofs.result.Result.TheSendSync.{the_send as result_send}
use Rattle.vk_types.specs.contracts.stops.Stop.{the_row as stop_row}
use Rattle.vk_types.proofs.stops.Stop.TheSendSync.{the_send as stop_send}
use Rattle.vk_device.specs.declared.device.Device.{Ghosts}
use Rattle.turnstile.specs.contracts.pass.Pass.{the_row as pass_row}
use Rattle.turnstile.proofs.pass.Pass.TheSendSync.{the_send as pass_send}
use Rattle.turnstile.specs.contracts.turnstile.Turnstile.{the_row as turnstile_row}
use Rattle.turnstile.proofs.turnstile.Turnstile.TheSendSync.{the_sync as turnstile_sync}
use Rattle.shared_gpu.specs.contracts.noted.Noted.{the_row as noted_row}
use Rattle.shared_gpu.specs.contracts.shared.Shared.{the_row as shared_row}
use Rattle.shared_gpu.specs.contracts.shared.SharedChronicle.TheImpl.{ghosts, no_dict}
use Rattle.shared_gpu.proofs.Crossing.{shared_send}

-- each of these types may be sent
abbrev pub AllSend : List RattleType → Type 0
AllSend [] = Unit {0}
AllSend (T ∷ Ts) = IsSend T × AllSend Ts

parts_send : (Ts : List RattleType) → AllSend Ts → FieldsHave IsSend (parts Ts)
parts_send [] all = tt
parts_send (T ∷ Ts) all = (as_row_send (row_field T) all.0, parts_send Ts all.1)

pub captured_send : (ν : List ℕ) (Ts : List RattleType) → AllSend Ts → IsSend (TupleAt ν Ts)
captured_send ν Ts all = declared_send (type_at ν Ts) (parts_send Ts all)

pub two_send : (ν : List ℕ) (A B : RattleType) → IsSend A → IsSend B → IsSend (TupleAt ν (A ∷ B ∷ []))
two_send ν A B a b = captured_send ν (A ∷ B ∷ []) (a, (b, tt))

pub three_send : (ν : List ℕ) (A B C : RattleType) → IsSend A → IsSend B → IsSend C → IsSend (TupleAt ν (A ∷ B ∷ C ∷ []))
three_send ν A B C a b c = captured_send ν (A ∷ B ∷ C ∷ []) (a, (b, (c, tt)))

-- what a worker answers
unit_send : IsSend unit-field.row
unit_send = search sendable

pub answer_send : IsSend (result_row unit-field.row stop_row)
answer_send = result_send unit-field.row stop_row unit_send stop_send

-- a pass of a shared back, and its turnstile, which threads share
module _ (T : RattleType) (g : Ghosts T.Denot) (device : IsSend T) where
  pub back_pass_send : IsSend (pass_row (shared_row T g) noted_row (ghosts T g no_dict))
  back_pass_send = pass_send (shared_row T g) noted_row (ghosts T g no_dict) (shared_send T g device)

  pub back_sync : IsSync (turnstile_row (shared_row T g) noted_row (ghosts T g no_dict))
  back_sync = turnstile_sync (shared_row T g) noted_row (ghosts T g no_dict) (shared_send T g device)
