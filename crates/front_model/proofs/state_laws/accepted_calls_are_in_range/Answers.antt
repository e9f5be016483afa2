use Rattle.front_model.proofs.Ranges.{data_range, sub_range, copy_range, map_range_of, read_range, write_range}
use Rattle.front_model.proofs.state_laws.accepted_calls_are_in_range.Goals as goal

pub returns : goal.returns
returns c = record {
  «data» = data_range;
  sub = sub_range;
  copy = copy_range;
  map = map_range_of;
  map_read = read_range;
  map_write = write_range;
}
