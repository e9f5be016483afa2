use Rattle.vk_model.proofs.Images.{column_of_place, row_of_place, byte_of_place}
use Rattle.vk_effects.proofs.Columns.{place_of, texel_before_its_end, images_end}
use Rattle.vk_effects.proofs.image_places.places_of_an_image.Goals as goal

pub returns : goal.returns
returns c = record {
  column = column_of_place;
  row = row_of_place;
  byte = byte_of_place;
  place = place_of;
  before_its_end = texel_before_its_end;
  has_an_end = images_end;
}
