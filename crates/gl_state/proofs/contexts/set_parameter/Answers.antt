use Rattle.std.proofs.Common.{ℕ, ◌==◌, cond, rules, tests}
use Rattle.gl_model.specs.declared.state.Context.{Context}
use Rattle.gl_state.proofs.Retained.{map_from_retain}
use Rattle.gl_model.specs.GroupEffect.{with_parameter}
use Rattle.gl_state.proofs.contexts.set_parameter.Goals as goal

pub returns : goal.returns
returns c =
    rw c.in-Some.is
    (map_from_retain _ (λ (k : ℕ) (v : Context). cond (k == c.in-Some.number) (with_parameter v c.args.parameter c.args.value) v) _ (λ k v b w f t. search (rules, tests)) _ _ c.retain.ensures)
