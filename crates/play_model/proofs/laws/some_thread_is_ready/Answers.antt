use Rattle.play_model.proofs.Waiting.{least_ready, some_ready}
use Rattle.play_model.proofs.laws.some_thread_is_ready.Goals as goal

pub returns : goal.returns
returns c = record {
  least = λ threads p thread line trace has. least_ready threads p trace has thread line;
  some = some_ready;
}
