use Rattle.back_core.proofs.Lives.{completed_rises}
use Rattle.back_core.proofs.Apart.{calls_apart, own_apart, completed_on, part_others, learns_others, own_alone, own_same}
use Rattle.back_core.proofs.HostBytes.{group_wrote}
use Rattle.back_core.proofs.Objects.{same_objects}
use Rattle.back_core.proofs.apart_laws.groups_are_apart.Goals as goal

pub returns : goal.returns
returns c = record {
  calls = calls_apart;
  own = own_apart;
  completed = completed_on;
  others = part_others;
  learns = learns_others;
  rises = completed_rises;
  alone = own_alone;
  same = own_same;
  wrote = group_wrote;
  objects = same_objects;
}
