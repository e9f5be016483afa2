use Rattle.vk_effects.proofs.Outside.{clear_stays, copy_stays, rows_stay, blit_stays}
use Rattle.vk_effects.proofs.image_laws.images_change_in_their_rectangle.Goals as goal

pub returns : goal.returns
returns c = record { clear = clear_stays; copy = copy_stays; rows = rows_stay; blit = blit_stays }
