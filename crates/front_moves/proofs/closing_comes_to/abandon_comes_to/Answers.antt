use Rattle.front_moves.proofs.ClosedFronts.{lets_none_go, lets_one_go, lets_all_go}
use Rattle.front_moves.proofs.closing_comes_to.abandon_comes_to.Goals as goal

pub returns : goal.returns
returns c = record {
  begins = λ stores s owns. lets_none_go stores s owns;
  held = λ stores old new s t b store so_far takes. (so_far.held b store takes.taken).1;
  goes_on = λ stores old new s t b store owns so_far takes. lets_one_go stores old new s t b store owns so_far takes;
  ends = λ stores s t o x all at. lets_all_go stores s t o x all at;
}
