use Rattle.std.proofs.Common.{length, ap, zero-add, ◌∙◌}
use Rattle.gl_model.specs.GroupModel.{opening}
use Rattle.gl_model.specs.Reached.{reached}
use Rattle.gl_model.specs.Legal.{after_entry}
use Rattle.gl_model.proofs.LegalLemmas.{IsLegalFrom-push, IsLegalFrom-beginning, state_after-push}
use Rattle.gl_model.proofs.laws.legal_histories_go_on.Goals as goal

pub returns : goal.returns
returns c = record {
  begins = λ threads. tt;
  goes_on = λ threads history e legal step. IsLegalFrom-push (opening threads) 0 history e legal step;
  state = λ threads history e. state_after-push (opening threads) 0 history e ∙ ap (after_entry (reached threads history) e) (zero-add (length history));
  beginnings = λ threads history more legal. IsLegalFrom-beginning (opening threads) 0 history more legal;
}
