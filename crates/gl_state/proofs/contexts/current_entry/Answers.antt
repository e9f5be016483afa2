use Rattle.std.proofs.Common.{rules, tests, Some}
use Rattle.std.proofs.lemmas.Iterator.Consumers.{YieldsList-from_rest}
use Rattle.std.proofs.lemmas.Iterator.Search.{find_from_yields_List}
use Rattle.std.specs.Map.Iter.{deref_pair}
use Rattle.gl_model.specs.Bindings.{same_option}
use Rattle.gl_state.proofs.contexts.current_entry.Goals as goal

-- find over the entries, whose closure computes the test
pub returns : goal.returns
returns c = find_from_yields_List (λ e. same_option e.1.thread (Some c.args.thread)) _ _ _ c.find.ensures.ran
    (YieldsList-from_rest {shows = deref_pair} {s = c.iter.result} c.args.contexts.now (search rules)) (λ x b q k. search (rules, tests))
