use Rattle.std.proofs.Common.{◌≡◌, Bool, false, not, Option, List, [], ◌∷◌, slice_get, refl}
use Rattle.std.specs.Option.{option_map_or}
use Rattle.gl_calls.specs.declared.words.DrawBuffer.{DrawBuffer}
use Rattle.gl_calls.specs.Words.{is_none_drawn}
use Rattle.gl_model.specs.GroupEffect.{listed_draws}
use Rattle.gl_state.proofs.framebuffers.listed_draws.Goals as goal

abbrev named : Option DrawBuffer → Bool
named b = option_map_or (λ b. not (is_none_drawn b)) b false

four : (bs : List DrawBuffer) → (named (slice_get bs 0) ∷ named (slice_get bs 1) ∷ named (slice_get bs 2) ∷ named (slice_get bs 3) ∷ []) ≡ listed_draws bs
four [] = refl
four (a ∷ []) = refl
four (a ∷ b ∷ []) = refl
four (a ∷ b ∷ c ∷ []) = refl
four (a ∷ b ∷ c ∷ d ∷ rest) = refl

pub returns : goal.returns
returns c = rw (c.draws_at.ensures, c.draws_at-2.ensures, c.draws_at-3.ensures, c.draws_at-4.ensures) (four c.args.buffers.now)
