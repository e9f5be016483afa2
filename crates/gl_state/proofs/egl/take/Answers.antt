use Rattle.std.proofs.Common.{ℕ, ◌==◌, cond, Some, rules, tests}
use Rattle.gl_model.specs.declared.state.Context.{Context}
use Rattle.gl_state.proofs.Retained.{map_from_retain}
use Rattle.gl_state.proofs.egl.take.Goals as goal

pub returns : goal.returns
returns c =
    map_from_retain _ (λ (k : ℕ) (v : Context). cond (k == c.args.number) (record v { thread = Some c.args.thread }) v) _ (λ k v b w f t. search (rules, tests)) _ _ c.retain.ensures
