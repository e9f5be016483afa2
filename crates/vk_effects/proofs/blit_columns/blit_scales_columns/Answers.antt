use Rattle.vk_effects.proofs.Scaling.{upright, turned, past_the_source, turned_past_the_source, beside, no_width}
use Rattle.vk_effects.proofs.blit_columns.blit_scales_columns.Goals as goal

pub returns : goal.returns
returns c = record {
  upright = upright;
  turned = turned;
  past_the_source = past_the_source;
  turned_past_the_source = turned_past_the_source;
  beside = beside;
  no_width = no_width;
}
