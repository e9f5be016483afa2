-- The one object that each operation changes.
use Rattle.vk_types.specs.declared.handles.HandleId.{HandleId}
use Rattle.vk_types.specs.declared.ops.Op.{Op}
use Rattle.vk_types.specs.declared.ops.Op.TheVariants.{CopyBuffer, BufferToImage, ImageToBuffer, CopyImage, BlitImage, ClearImage, FillBuffer, PassPart}

-- what an operation writes, and of a barrier the object whose contents it may discard
abbrev pub target : Op → HandleId
target (CopyBuffer src src_at dst dst_at size) = dst
target (BufferToImage src src_at stride texel_size dst rect) = dst
target (ImageToBuffer src rect dst dst_at stride texel_size expand) = dst
target (CopyImage src src_x src_y dst rect) = dst
target (BlitImage src dst coords clip) = dst
target (ClearImage image rect texel) = image
target (FillBuffer dst dst_at size byte) = dst
target (PassPart _ _ image _ _ _) = image
target (Op.Barrier b) = b.id
