use Rattle.std.proofs.Common.{sym, subst}
use Rattle.vk_objects.specs.Objects.{Executes}
use Rattle.vk_objects.proofs.nodes.execute.Goals as goal

pub returns-in-ImageToBuffer : goal.returns-in-ImageToBuffer
returns-in-ImageToBuffer c = subst (λ o. Executes c.args.objects.now c.image_to_buffer.new.objects (record { op = o })) (sym c.in-ImageToBuffer.is) c.image_to_buffer.ensures

pub returns-in-PassPart : goal.returns-in-PassPart
returns-in-PassPart c = subst (λ o. Executes c.args.objects.now c.pass_part.new.objects (record { op = o })) (sym c.in-PassPart.is) c.pass_part.ensures

pub returns-in-BlitImage : goal.returns-in-BlitImage
returns-in-BlitImage c = subst (λ o. Executes c.args.objects.now c.blit_image.new.objects (record { op = o })) (sym c.in-BlitImage.is) c.blit_image.ensures

pub returns-in-BufferToImage : goal.returns-in-BufferToImage
returns-in-BufferToImage c = subst (λ o. Executes c.args.objects.now c.buffer_to_image.new.objects (record { op = o })) (sym c.in-BufferToImage.is) c.buffer_to_image.ensures
