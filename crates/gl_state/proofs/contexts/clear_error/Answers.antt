use Rattle.std.proofs.Common.{ℕ, ◌==◌, cond, rules, tests}
use Rattle.gl_model.specs.declared.state.Context.{Context}
use Rattle.gl_state.proofs.Retained.{map_from_retain}
use Rattle.gl_calls.specs.declared.reply.GlError.TheVariants.{NoError}
use Rattle.gl_state.proofs.contexts.clear_error.Goals as goal

pub returns : goal.returns
returns c =
    rw c.in-Some.is
    (map_from_retain _ (λ (k : ℕ) (v : Context). cond (k == c.in-Some.number) (record v { error = NoError }) v) _ (λ k v b w f t. search (rules, tests)) _ _ c.retain.ensures)
