-- What holds of each thread that a text spells: its group is low, and its calls have the data that they name.
use Rattle.std.proofs.Common.{◌≡◌, ℕ, ◌<◌, ℤ, pos, negsuc, true, List, [], ◌∷◌, Some, None, sym, subst, arith, inl, inr}
use Rattle.std.specs.Prelude.{unsigned_abs, slice_get}
use Rattle.std.specs.List.{All}
use Rattle.std.proofs.lemmas.Bool.{eqb-true}
use Rattle.std.proofs.lemmas.List.Elements.{All-nil, All-push, All-set, All-get_or}
use Rattle.std.proofs.lemmas.Option.{get_or_from_slice_get, slice_get_within}
use Rattle.gl_calls.specs.Words.{payload_len}
use Rattle.gl_calls.specs.declared.call.Call.{Call}
use Rattle.gl_calls.specs.declared.call.Call.TheVariants as call
use Rattle.gl_model.specs.Sizes.{HasItsData}
use Rattle.trace_text.specs.declared.trace.Line.{Line}
use Rattle.trace_text.specs.declared.phase.Phase.{Phase}
use Rattle.trace_text.specs.declared.phase.Phase.TheVariants as phase
use Rattle.trace_text.specs.Limits.{has_its_length, is_size}
use Rattle.trace_text.specs.Reading.{Plan, State, at_start}
use Rattle.trace_text.specs.Traces.{IsLine, IsPhaseLine, IsBodyLine, IsCallLine, AreLines, Spells}

-- a thread of a group from 0 to 7, whose calls have the data that they name
pub record IsSound (thread : Plan) : Type 0 where
  pub low : thread.group < 8
  pub its_data : All (λ line. HasItsData line.call) thread.lines

is_size-true : (size : ℤ) (len : ℕ) → is_size size len ≡ true → len ≡ unsigned_abs size
is_size-true (pos n) len e = sym (eqb-true n len e)
is_size-true (negsuc n) len e = absurd (cc)

its_data : (asked : Call) → has_its_length asked ≡ true → HasItsData asked
its_data (call.BufferData target size usage (Some payload)) e = is_size-true size (payload_len payload) e
its_data (call.BufferData target size usage None) e = tt
its_data (call.CreateContext _) e = tt
its_data (call.DestroyContext _) e = tt
its_data (call.MakeCurrent _) e = tt
its_data call.EglGetError e = tt
its_data (call.CreateSync _) e = tt
its_data (call.EglClientWaitSync _ _ _) e = tt
its_data (call.DestroySync _) e = tt
its_data call.GetError e = tt
its_data (call.GetInteger _) e = tt
its_data (call.Gen _ _) e = tt
its_data (call.Delete _ _) e = tt
its_data (call.Bind _ _) e = tt
its_data (call.BufferSubData _ _ _) e = tt
its_data (call.CopyBufferSubData _ _ _ _ _) e = tt
its_data (call.MapBufferRange _ _ _ _) e = tt
its_data (call.FlushMappedBufferRange _ _ _) e = tt
its_data (call.UnmapBuffer _) e = tt
its_data (call.MapRead _ _ _) e = tt
its_data (call.MapWrite _ _ _) e = tt
its_data (call.TexStorage _ _ _ _) e = tt
its_data (call.TexSubImage _ _ _ _ _ _ _) e = tt
its_data (call.CopyTexSubImage _ _ _ _ _ _) e = tt
its_data (call.RenderbufferStorage _ _ _) e = tt
its_data (call.Attach _ _ _ _) e = tt
its_data (call.CheckFramebufferStatus _) e = tt
its_data (call.DrawBuffers _) e = tt
its_data (call.ReadBuffer _) e = tt
its_data (call.ClearUnsigned _ _ _ _ _) e = tt
its_data (call.ClearSigned _ _ _ _ _) e = tt
its_data (call.ScissorTest _) e = tt
its_data (call.ScissorBox _ _ _ _) e = tt
its_data (call.Blit _ _ _ _ _ _ _ _ _ _) e = tt
its_data (call.Invalidate _ _) e = tt
its_data (call.ReadPixels _ _ _ _ _ _ _) e = tt
its_data (call.PixelStore _ _) e = tt
its_data (call.FenceSync _ _ _) e = tt
its_data (call.ClientWaitSync _ _ _) e = tt
its_data (call.WaitSync _ _ _) e = tt
its_data (call.DeleteSync _) e = tt
its_data call.Flush e = tt
its_data call.Finish e = tt

abbrev AreSound : State → Type 0
AreSound s = All IsSound s.threads

-- one of the threads
pub one_of : {X : Type 0} (P : X → Type 0) (xs : List X) (i : ℕ) (x : X) → All P xs → slice_get xs i ≡ Some x → P x
one_of P xs i x all e = subst P (get_or_from_slice_get xs i x x e) (All-get_or P xs i x (slice_get_within xs i x e) all)

call_sound : (s t : State) (words : List (List ℕ)) → AreSound s → IsCallLine s words t → AreSound t
call_sound s t words h is =
    let thread = one_of IsSound s.threads is.thread is.plan h is.is_thread in
    subst AreSound (sym is.new)
    (All-set IsSound s.threads is.thread _
    (record {
      low = thread.low;
      its_data = All-push (λ (line : Line). HasItsData line.call) is.plan.lines _ thread.its_data
          (its_data is.call is.length_fits);
    })
    h)

body_sound : (s t : State) (words : List (List ℕ)) → AreSound s → IsBodyLine s words t → AreSound t
body_sound s t words h (inl is) = subst AreSound (sym is.1) h
body_sound s t words h (inr is) = call_sound s t words h is

phase_sound : (p : Phase) (s t : State) (line : List ℕ) → AreSound s → IsPhaseLine p s line t → AreSound t
phase_sound phase.Start s t line h is = subst AreSound (sym is.1) h
phase_sound phase.Header s t line h (inl is) = subst AreSound (sym is.1) h
phase_sound phase.Header s t line h (inr is) =
    subst AreSound (sym is.new) (All-push IsSound s.threads _ h
    (record { low = omega (arith, is.group_fits); its_data = All-nil (λ (line : Line). HasItsData line.call) }))
phase_sound phase.Body s t line h is = body_sound s t is.0 h is.2
phase_sound phase.Ended s t line h is = absurd is

line_sound : (s t : State) (line : List ℕ) → AreSound s → IsLine s line t → AreSound t
line_sound s t line h (inl is) = subst AreSound (sym is.1) h
line_sound s t line h (inr is) = phase_sound s.phase s t line h is.2

lines_sound : (s t : State) (lines : List (List ℕ)) → AreSound s → AreLines s lines t → AreSound t
lines_sound s t [] h is = subst AreSound is h
lines_sound s t (line ∷ lines) h is = lines_sound is.0 t lines (line_sound s is.0 line h is.1) is.2

pub threads_sound : (text : List ℕ) (threads : List Plan) → Spells text threads → All IsSound threads
threads_sound text threads spelled =
    subst (All IsSound) spelled.threads_are (lines_sound at_start spelled.last spelled.lines (All-nil IsSound) spelled.are_lines)
