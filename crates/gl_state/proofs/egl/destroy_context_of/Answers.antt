use Rattle.std.proofs.Common.{ℕ, ◌==◌, ◌&&◌, cond, not, true, is_some, rules, tests}
use Rattle.gl_model.specs.declared.state.Context.{Context}
use Rattle.gl_state.proofs.Retained.{filter_map_from_retain}
use Rattle.gl_state.proofs.egl.destroy_context_of.Goals as goal

pub returns : goal.returns
returns c =
    filter_map_from_retain (λ (k : ℕ) (v : Context). not ((k == c.args.number) && not (is_some v.thread)))
    (λ (k : ℕ) (v : Context). cond (k == c.args.number) (record v { marked = true }) v) _ _ (λ k v b w f t. search (rules, tests)) _ _ c.retain.ensures
