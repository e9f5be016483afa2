use Rattle.std.proofs.Common.{ℕ, ◌&&◌, cond, not, Some, None, rules, tests}
use Rattle.gl_model.specs.declared.state.Context.{Context}
use Rattle.gl_model.specs.Bindings.{same_option}
use Rattle.gl_state.proofs.Retained.{filter_map_from_retain}
use Rattle.gl_state.proofs.egl.let_go_of.Goals as goal

pub returns : goal.returns
returns c =
    filter_map_from_retain (λ (k : ℕ) (v : Context). not (same_option v.thread (Some c.args.thread) && v.marked))
    (λ (k : ℕ) (v : Context). cond (same_option v.thread (Some c.args.thread)) (record v { thread = None }) v) _ _ (λ k v b w f t. search (rules, tests)) _ _ c.retain.ensures
