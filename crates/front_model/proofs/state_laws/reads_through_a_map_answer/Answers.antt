use Rattle.front_model.proofs.Reading.{read_answers}
use Rattle.front_model.proofs.state_laws.reads_through_a_map_answer.Goals as goal

pub returns : goal.returns
returns c = record { read = read_answers }
