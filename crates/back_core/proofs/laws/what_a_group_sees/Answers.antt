use Rattle.std.proofs.Common.{refl}
use Rattle.back_core.proofs.Sees.{enqueue_then, not_told, create_then, write_then, fetch_then, give_then, abandon_then, retire_then, asked_then, group_of}
use Rattle.back_core.proofs.laws.what_a_group_sees.Goals as goal

pub returns : goal.returns
returns c = record {
  new = λ g. record { of_group = refl; empty = refl; none_made = refl; none_held = refl; none_given = refl };
  create = create_then;
  write = write_then;
  enqueue = enqueue_then c.completed_numbers.ensures.stays;
  fetch = fetch_then;
  give = give_then;
  abandon = abandon_then;
  retire = retire_then c.completed_numbers.ensures.rises;
  others = λ h g e. not_told c.completed_numbers.ensures.stays h g e;
  group = group_of;
  asked = asked_then;
}
