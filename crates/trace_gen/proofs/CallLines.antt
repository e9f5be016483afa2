-- Each line of a call spells its call.
use Rattle.std.proofs.Common.{◌≡◌, ℕ, ◌+◌, ◌*◌, ◌<◌, ◌≤◌, true, false, pos, List, [], ◌∷◌, ◌++◌, length, Some, refl, arith, inl, inr}
use Rattle.std.specs.Prelude.{codes}
use Rattle.std.specs.Fmt.{decimal}
use Rattle.formats.specs.declared.format.Format.TheVariants as known
use Rattle.formats.specs.declared.pixel.PixelFormat.TheVariants as pixels
use Rattle.formats.specs.declared.pixel.PixelType.TheVariants as element
use Rattle.gl_calls.specs.declared.words.BufferTarget.TheVariants as buffer
use Rattle.gl_calls.specs.declared.words.FramebufferTarget.TheVariants as framebuffer
use Rattle.gl_calls.specs.declared.words.BindTarget.TheVariants as bound
use Rattle.gl_calls.specs.declared.words.Usage.TheVariants as usage
use Rattle.gl_calls.specs.declared.words.FormatWord.TheVariants as format
use Rattle.gl_calls.specs.declared.words.AttachPoint.TheVariants as point
use Rattle.gl_calls.specs.declared.words.AttachWhat.TheVariants as what
use Rattle.gl_calls.specs.declared.words.BlitMask.TheVariants as mask
use Rattle.gl_calls.specs.declared.words.BlitFilter.TheVariants as filter
use Rattle.gl_calls.specs.declared.payload.Payload.TheVariants.{Ramp}
use Rattle.gl_calls.specs.declared.call.PixelSource.TheVariants as source
use Rattle.gl_calls.specs.declared.call.PixelDestination.TheVariants as destination
use Rattle.trace_words.specs.Tables.{meaning, bind_targets, usages, formats}
use Rattle.trace_words.specs.Data.{access_of}
use Rattle.trace_text.specs.declared.call_word.CallWord.{CallWord}
use Rattle.trace_text.specs.declared.call_word.CallWord.TheVariants as word
use Rattle.trace_text.specs.CallWords.{call_words}
use Rattle.trace_text.specs.Grammar.{Arguments, form}
use Rattle.trace_text.specs.Limits.{has_its_length, is_in_profile, cost_of}
use Rattle.trace_text.specs.Spelling.{SpelledAll}
use Rattle.trace_text.proofs.WordLaws.{meaning_takes}
use Rattle.trace_gen.specs.Lines.{Words, context_lines, source_lines, target_lines, image_lines, first_framebuffer_lines, second_framebuffer_lines, first_lines, update_lines, copy_lines, texels_lines, clear_lines, blit_lines, read_lines, last_lines}
use Rattle.trace_gen.proofs.PlainWords.{ArePlain, plain_word, plain_number, plain_framed}
use Rattle.trace_gen.proofs.Spellings.{is_0, is_1, is_2, is_3, is_4, is_8, is_16, is_32, is_256, ramp_256, zeros_256, ramp_16, ramp_64}
use Rattle.trace_gen.proofs.Bodies.{IsCall, AreCalls, calls_both}

call_is : (t : ℕ) → t < 4 → (name : List ℕ) (cw : CallWord) (arguments : Words) (values : Arguments (form cw).positions) → meaning call_words name ≡ Some cw → SpelledAll (form cw).positions arguments values
    → has_its_length ((form cw).call values) ≡ true → is_in_profile ((form cw).call values) ≡ true → cost_of ((form cw).call values) ≤ 16384 → ArePlain (name ∷ arguments) → length arguments ≤ 11 → IsCall (decimal t ∷ name ∷ arguments)
call_is t small name cw arguments values known spelled fits profile cheap plain few = record {
  thread = t;
  word = name;
  call_word = cw;
  arguments = arguments;
  call = (form cw).call values;
  small = small;
  spelled = refl;
  is_word = meaning_takes call_words name cw known;
  is_call = record { values = values; spelled = spelled; made = refl };
  length_fits = fits;
  in_profile = profile;
  cheap = cheap;
  plain = plain;
  few = few;
}

pub context_calls : (t : ℕ) → t < 4 → AreCalls (context_lines t)
unfolding context_lines
context_calls t lt = (
  call_is t lt (codes "ecreate") word.CreateContext (decimal (t + 1) ∷ []) ((t + 1), tt) refl ((refl, omega arith, omega arith), tt) refl refl (omega arith) (plain_word refl, (plain_number (t + 1) (omega arith), tt)) (omega arith),
  (
    call_is t lt (codes "ecurrent") word.MakeCurrent (decimal (t + 1) ∷ []) ((t + 1), tt) refl ((refl, omega arith, omega arith), tt) refl refl (omega arith) (plain_word refl, (plain_number (t + 1) (omega arith), tt)) (omega arith),
    tt,
  ),
)

pub source_calls : (t : ℕ) → t < 4 → AreCalls (source_lines t)
unfolding source_lines
source_calls t lt = (
  call_is t lt (codes "bind") word.Bind (codes "copy_read" ∷ decimal (2 * t + 1) ∷ []) ((bound.Buffer buffer.CopyRead), ((2 * t + 1), tt)) refl (meaning_takes bind_targets (codes "copy_read") (bound.Buffer buffer.CopyRead) refl, ((refl, omega arith, omega arith), tt)) refl refl (omega arith) (plain_word refl, (plain_word refl, (plain_number (2 * t + 1) (omega arith), tt))) (omega arith),
  (
    call_is t lt (codes "bdata") word.BufferData (codes "copy_read" ∷ codes "256" ∷ codes "dynamic_draw" ∷ (codes "%256," ++ (decimal t ++ codes ",1")) ∷ []) (buffer.CopyRead, ((pos 256), (usage.DynamicDraw, ((Some (Ramp 256 t 1)), tt)))) refl ((inr (inl (refl, refl))), ((is_256, omega arith), (meaning_takes usages (codes "dynamic_draw") usage.DynamicDraw refl, (ramp_256 t (omega arith), tt)))) refl refl (omega arith) (plain_word refl, (plain_word refl, (plain_word refl, (plain_word refl, (plain_framed (codes "%256,") (codes ",1") t refl refl (omega arith) (omega arith), tt))))) (omega arith),
    tt,
  ),
)

pub target_calls : (t : ℕ) → t < 4 → AreCalls (target_lines t)
unfolding target_lines
target_calls t lt = (
  call_is t lt (codes "bind") word.Bind (codes "copy_write" ∷ decimal (2 * t + 2) ∷ []) ((bound.Buffer buffer.CopyWrite), ((2 * t + 2), tt)) refl (meaning_takes bind_targets (codes "copy_write") (bound.Buffer buffer.CopyWrite) refl, ((refl, omega arith, omega arith), tt)) refl refl (omega arith) (plain_word refl, (plain_word refl, (plain_number (2 * t + 2) (omega arith), tt))) (omega arith),
  (
    call_is t lt (codes "bdata") word.BufferData (codes "copy_write" ∷ codes "256" ∷ codes "dynamic_draw" ∷ codes "%256,0,0" ∷ []) (buffer.CopyWrite, ((pos 256), (usage.DynamicDraw, ((Some (Ramp 256 0 0)), tt)))) refl ((inr (inr (inl (refl, refl)))), ((is_256, omega arith), (meaning_takes usages (codes "dynamic_draw") usage.DynamicDraw refl, (zeros_256, tt)))) refl refl (omega arith) (plain_word refl, (plain_word refl, (plain_word refl, (plain_word refl, (plain_word refl, tt))))) (omega arith),
    tt,
  ),
)

pub image_calls : (t : ℕ) → t < 4 → AreCalls (image_lines t)
unfolding image_lines
image_calls t lt = (
  call_is t lt (codes "bind") word.Bind (codes "texture" ∷ decimal (t + 1) ∷ []) (bound.Texture, ((t + 1), tt)) refl (meaning_takes bind_targets (codes "texture") bound.Texture refl, ((refl, omega arith, omega arith), tt)) refl refl (omega arith) (plain_word refl, (plain_word refl, (plain_number (t + 1) (omega arith), tt))) (omega arith),
  (
    call_is t lt (codes "tstorage") word.TexStorage (codes "1" ∷ codes "rgba8ui" ∷ codes "32" ∷ codes "32" ∷ []) ((pos 1), ((format.Known known.Rgba8ui), ((pos 32), ((pos 32), tt)))) refl ((is_1, omega arith), (meaning_takes formats (codes "rgba8ui") (format.Known known.Rgba8ui) refl, ((is_32, omega arith), ((is_32, omega arith), tt)))) refl refl (omega arith) (plain_word refl, (plain_word refl, (plain_word refl, (plain_word refl, (plain_word refl, tt))))) (omega arith),
    (
      call_is t lt (codes "bind") word.Bind (codes "renderbuffer" ∷ decimal (t + 1) ∷ []) (bound.Renderbuffer, ((t + 1), tt)) refl (meaning_takes bind_targets (codes "renderbuffer") bound.Renderbuffer refl, ((refl, omega arith, omega arith), tt)) refl refl (omega arith) (plain_word refl, (plain_word refl, (plain_number (t + 1) (omega arith), tt))) (omega arith),
      (
        call_is t lt (codes "rstorage") word.RenderbufferStorage (codes "rgba8ui" ∷ codes "32" ∷ codes "32" ∷ []) ((format.Known known.Rgba8ui), ((pos 32), ((pos 32), tt))) refl (meaning_takes formats (codes "rgba8ui") (format.Known known.Rgba8ui) refl, ((is_32, omega arith), ((is_32, omega arith), tt))) refl refl (omega arith) (plain_word refl, (plain_word refl, (plain_word refl, (plain_word refl, tt)))) (omega arith),
        tt,
      ),
    ),
  ),
)

pub first_framebuffer_calls : (t : ℕ) → t < 4 → AreCalls (first_framebuffer_lines t)
unfolding first_framebuffer_lines
first_framebuffer_calls t lt = (
  call_is t lt (codes "bind") word.Bind (codes "framebuffer" ∷ codes "1" ∷ []) ((bound.Framebuffer framebuffer.Both), (1, tt)) refl (meaning_takes bind_targets (codes "framebuffer") (bound.Framebuffer framebuffer.Both) refl, ((is_1, omega arith, omega arith), tt)) refl refl (omega arith) (plain_word refl, (plain_word refl, (plain_word refl, tt))) (omega arith),
  (
    call_is t lt (codes "attach") word.Attach (codes "framebuffer" ∷ codes "c0" ∷ codes "renderbuffer" ∷ decimal (t + 1) ∷ []) (framebuffer.Both, (point.C0, (what.Renderbuffer, ((t + 1), tt)))) refl ((inl (refl, refl)), ((inl (refl, refl)), ((inr (inl (refl, refl))), ((refl, omega arith, omega arith), tt)))) refl refl (omega arith) (plain_word refl, (plain_word refl, (plain_word refl, (plain_word refl, (plain_number (t + 1) (omega arith), tt))))) (omega arith),
    (
      call_is t lt (codes "clearu") word.ClearUnsigned (codes "0" ∷ codes "1" ∷ codes "2" ∷ codes "3" ∷ codes "4" ∷ []) ((pos 0), (1, (2, (3, (4, tt))))) refl ((is_0, omega arith), ((is_1, omega arith, omega arith), ((is_2, omega arith, omega arith), ((is_3, omega arith, omega arith), ((is_4, omega arith, omega arith), tt))))) refl refl (omega arith) (plain_word refl, (plain_word refl, (plain_word refl, (plain_word refl, (plain_word refl, (plain_word refl, tt)))))) (omega arith),
      tt,
    ),
  ),
)

pub second_framebuffer_calls : (t : ℕ) → t < 4 → AreCalls (second_framebuffer_lines t)
unfolding second_framebuffer_lines
second_framebuffer_calls t lt = (
  call_is t lt (codes "bind") word.Bind (codes "draw_fb" ∷ codes "2" ∷ []) ((bound.Framebuffer framebuffer.Draw), (2, tt)) refl (meaning_takes bind_targets (codes "draw_fb") (bound.Framebuffer framebuffer.Draw) refl, ((is_2, omega arith, omega arith), tt)) refl refl (omega arith) (plain_word refl, (plain_word refl, (plain_word refl, tt))) (omega arith),
  (
    call_is t lt (codes "attach") word.Attach (codes "draw_fb" ∷ codes "c0" ∷ codes "texture" ∷ decimal (t + 1) ∷ []) (framebuffer.Draw, (point.C0, (what.Texture, ((t + 1), tt)))) refl ((inr (inr (inl (refl, refl)))), ((inl (refl, refl)), ((inl (refl, refl)), ((refl, omega arith, omega arith), tt)))) refl refl (omega arith) (plain_word refl, (plain_word refl, (plain_word refl, (plain_word refl, (plain_number (t + 1) (omega arith), tt))))) (omega arith),
    (
      call_is t lt (codes "clearu") word.ClearUnsigned (codes "0" ∷ codes "0" ∷ codes "0" ∷ codes "0" ∷ codes "0" ∷ []) ((pos 0), (0, (0, (0, (0, tt))))) refl ((is_0, omega arith), ((is_0, omega arith, omega arith), ((is_0, omega arith, omega arith), ((is_0, omega arith, omega arith), ((is_0, omega arith, omega arith), tt))))) refl refl (omega arith) (plain_word refl, (plain_word refl, (plain_word refl, (plain_word refl, (plain_word refl, (plain_word refl, tt)))))) (omega arith),
      tt,
    ),
  ),
)

pub first_calls : (t : ℕ) → t < 4 → AreCalls (first_lines t)
unfolding first_lines
first_calls t lt =
    calls_both _ _ (calls_both _ _ (calls_both _ _ (calls_both _ _ (calls_both _ _ (context_calls t lt) (source_calls t lt)) (target_calls t lt)) (image_calls t lt)) (first_framebuffer_calls t lt)) (second_framebuffer_calls t lt)

pub update_calls : (t a b : ℕ) → t < 4 → a < 240 → b < 16 → AreCalls (update_lines t a b)
unfolding update_lines
update_calls t a b lt a_lt b_lt = (
  call_is t lt (codes "bsub") word.BufferSubData (codes "copy_read" ∷ decimal a ∷ (codes "%16," ++ (decimal b ++ codes ",1")) ∷ []) (buffer.CopyRead, ((pos a), ((Ramp 16 b 1), tt))) refl ((inr (inl (refl, refl))), ((refl, omega arith), (ramp_16 b (omega arith), tt))) refl refl (omega arith) (plain_word refl, (plain_word refl, (plain_number a (omega arith), (plain_framed (codes "%16,") (codes ",1") b refl refl (omega arith) (omega arith), tt)))) (omega arith),
  tt,
)

pub copy_calls : (t a b : ℕ) → t < 4 → a < 240 → b < 16 → AreCalls (copy_lines t a b)
unfolding copy_lines
copy_calls t a b lt a_lt b_lt = (
  call_is t lt (codes "bcopy") word.CopyBufferSubData (codes "copy_read" ∷ codes "copy_write" ∷ decimal a ∷ decimal b ∷ codes "8" ∷ []) (buffer.CopyRead, (buffer.CopyWrite, ((pos a), ((pos b), ((pos 8), tt))))) refl ((inr (inl (refl, refl))), ((inr (inr (inl (refl, refl)))), ((refl, omega arith), ((refl, omega arith), ((is_8, omega arith), tt))))) refl refl (omega arith) (plain_word refl, (plain_word refl, (plain_word refl, (plain_number a (omega arith), (plain_number b (omega arith), (plain_word refl, tt)))))) (omega arith),
  tt,
)

pub texels_calls : (t a b : ℕ) → t < 4 → a < 240 → b < 16 → AreCalls (texels_lines t a b)
unfolding texels_lines
texels_calls t a b lt a_lt b_lt = (
  call_is t lt (codes "tsub") word.TexSubImage (decimal b ∷ decimal b ∷ codes "4" ∷ codes "4" ∷ codes "rgba_integer" ∷ codes "unsigned_byte" ∷ (codes "%64," ++ (decimal a ++ codes ",1")) ∷ []) ((pos b), ((pos b), ((pos 4), ((pos 4), (pixels.RgbaInteger, (element.UnsignedByte, ((source.Client (Ramp 64 a 1)), tt))))))) refl ((refl, omega arith), ((refl, omega arith), ((is_4, omega arith), ((is_4, omega arith), ((inr (inr (inl (refl, refl)))), ((inl (refl, refl)), (ramp_64 a (omega arith), tt))))))) refl refl (omega arith) (plain_word refl, (plain_number b (omega arith), (plain_number b (omega arith), (plain_word refl, (plain_word refl, (plain_word refl, (plain_word refl, (plain_framed (codes "%64,") (codes ",1") a refl refl (omega arith) (omega arith), tt)))))))) (omega arith),
  tt,
)

pub clear_calls : (t b : ℕ) → t < 4 → b < 16 → AreCalls (clear_lines t b)
unfolding clear_lines
clear_calls t b lt b_lt = (
  call_is t lt (codes "clearu") word.ClearUnsigned (codes "0" ∷ decimal b ∷ decimal b ∷ decimal b ∷ decimal b ∷ []) ((pos 0), (b, (b, (b, (b, tt))))) refl ((is_0, omega arith), ((refl, omega arith, omega arith), ((refl, omega arith, omega arith), ((refl, omega arith, omega arith), ((refl, omega arith, omega arith), tt))))) refl refl (omega arith) (plain_word refl, (plain_word refl, (plain_number b (omega arith), (plain_number b (omega arith), (plain_number b (omega arith), (plain_number b (omega arith), tt)))))) (omega arith),
  tt,
)

pub blit_calls : (t b : ℕ) → t < 4 → b < 16 → AreCalls (blit_lines t b)
unfolding blit_lines
blit_calls t b lt b_lt = (
  call_is t lt (codes "blit") word.Blit (codes "0" ∷ codes "0" ∷ codes "16" ∷ codes "16" ∷ decimal b ∷ decimal b ∷ codes "32" ∷ codes "32" ∷ codes "color" ∷ codes "nearest" ∷ []) ((pos 0), ((pos 0), ((pos 16), ((pos 16), ((pos b), ((pos b), ((pos 32), ((pos 32), (mask.Color, (filter.Nearest, tt)))))))))) refl ((is_0, omega arith), ((is_0, omega arith), ((is_16, omega arith), ((is_16, omega arith), ((refl, omega arith), ((refl, omega arith), ((is_32, omega arith), ((is_32, omega arith), ((inl (refl, refl)), ((inl (refl, refl)), tt)))))))))) refl refl (omega arith) (plain_word refl, (plain_word refl, (plain_word refl, (plain_word refl, (plain_word refl, (plain_number b (omega arith), (plain_number b (omega arith), (plain_word refl, (plain_word refl, (plain_word refl, (plain_word refl, tt))))))))))) (omega arith),
  tt,
)

pub read_calls : (t b : ℕ) → t < 4 → b < 16 → AreCalls (read_lines t b)
unfolding read_lines
read_calls t b lt b_lt = (
  call_is t lt (codes "bind") word.Bind (codes "read_fb" ∷ codes "2" ∷ []) ((bound.Framebuffer framebuffer.Read), (2, tt)) refl (meaning_takes bind_targets (codes "read_fb") (bound.Framebuffer framebuffer.Read) refl, ((is_2, omega arith, omega arith), tt)) refl refl (omega arith) (plain_word refl, (plain_word refl, (plain_word refl, tt))) (omega arith),
  (
    call_is t lt (codes "readpix") word.ReadPixels (decimal b ∷ decimal b ∷ codes "2" ∷ codes "2" ∷ codes "rgba_integer" ∷ codes "unsigned_byte" ∷ codes "client" ∷ []) ((pos b), ((pos b), ((pos 2), ((pos 2), (pixels.RgbaInteger, (element.UnsignedByte, (destination.Client, tt))))))) refl ((refl, omega arith), ((refl, omega arith), ((is_2, omega arith), ((is_2, omega arith), ((inr (inr (inl (refl, refl)))), ((inl (refl, refl)), (refl, tt))))))) refl refl (omega arith) (plain_word refl, (plain_number b (omega arith), (plain_number b (omega arith), (plain_word refl, (plain_word refl, (plain_word refl, (plain_word refl, (plain_word refl, tt)))))))) (omega arith),
    (
      call_is t lt (codes "bind") word.Bind (codes "read_fb" ∷ codes "1" ∷ []) ((bound.Framebuffer framebuffer.Read), (1, tt)) refl (meaning_takes bind_targets (codes "read_fb") (bound.Framebuffer framebuffer.Read) refl, ((is_1, omega arith, omega arith), tt)) refl refl (omega arith) (plain_word refl, (plain_word refl, (plain_word refl, tt))) (omega arith),
      tt,
    ),
  ),
)

pub last_calls : (t : ℕ) → t < 4 → AreCalls (last_lines t)
unfolding last_lines access_of
last_calls t lt = (
  call_is t lt (codes "finish") word.Finish ([]) tt refl tt refl refl (omega arith) (plain_word refl, tt) (omega arith),
  (
    call_is t lt (codes "bmap") word.MapBufferRange (codes "copy_write" ∷ codes "0" ∷ codes "256" ∷ codes "r" ∷ []) (buffer.CopyWrite, ((pos 0), ((pos 256), ((record { read = true; write = false; invalidate_range = false; invalidate_buffer = false; unsynchronized = false; flush_explicit = false; unknown = false }), tt)))) refl ((inr (inr (inl (refl, refl)))), ((is_0, omega arith), ((is_256, omega arith), (refl, tt)))) refl refl (omega arith) (plain_word refl, (plain_word refl, (plain_word refl, (plain_word refl, (plain_word refl, tt))))) (omega arith),
    (
      call_is t lt (codes "mread") word.MapRead (codes "copy_write" ∷ codes "0" ∷ codes "256" ∷ []) (buffer.CopyWrite, ((pos 0), ((pos 256), tt))) refl ((inr (inr (inl (refl, refl)))), ((is_0, omega arith), ((is_256, omega arith), tt))) refl refl (omega arith) (plain_word refl, (plain_word refl, (plain_word refl, (plain_word refl, tt)))) (omega arith),
      (
        call_is t lt (codes "bunmap") word.UnmapBuffer (codes "copy_write" ∷ []) (buffer.CopyWrite, tt) refl ((inr (inr (inl (refl, refl)))), tt) refl refl (omega arith) (plain_word refl, (plain_word refl, tt)) (omega arith),
        tt,
      ),
    ),
  ),
)
