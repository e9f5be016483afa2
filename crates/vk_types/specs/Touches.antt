-- What a node touches.
use Rattle.std.specs.Prelude.{ℕ, ◌+◌, ◌-◌, ◌*◌, ◌==◌, ◌||◌, min, Bool, List, [], ◌∷◌, Option, Some, None, if◌then◌else◌}
use Rattle.vk_types.specs.Accesses.{no_access, transfer_read, transfer_write, color}
use Rattle.vk_types.specs.declared.handles.HandleId.{HandleId}
use Rattle.vk_types.specs.declared.accesses.Access.{Access}
use Rattle.vk_types.specs.declared.accesses.Layout.{Layout}
use Rattle.vk_types.specs.declared.accesses.Layout.TheVariants.{TransferSrc, TransferDst, ColorAttachment}
use Rattle.vk_types.specs.declared.regions.Rect.{Rect}
use Rattle.vk_types.specs.declared.regions.Touch.{Touch}
use Rattle.vk_types.specs.declared.regions.Barrier.{Barrier}
use Rattle.vk_types.specs.declared.ops.Op.{Op}
use Rattle.vk_types.specs.declared.ops.Op.TheVariants.{CopyBuffer, BufferToImage, ImageToBuffer, CopyImage, BlitImage, ClearImage, FillBuffer, PassPart}
use Rattle.vk_types.specs.declared.ops.Node.{Node}

-- the end of every object
abbrev pub the_end : ℕ
the_end = 18446744073709551615

abbrev pub whole : HandleId → Access → Option Layout → Touch
whole id access layout = record { id = id; start = 0; «end» = the_end; access = access; layout = layout }

-- so many bytes of a buffer
abbrev pub part : HandleId → ℕ → ℕ → Access → Touch
part id at size access = record { id = id; start = at; «end» = min (at + size) the_end; access = access; layout = None }

-- the bytes from the first one of some rows to the last one
abbrev pub rows_size : Rect → ℕ → ℕ → ℕ
rows_size rect stride texel_size = if (rect.w == 0) || (rect.h == 0) then 0 else (rect.h - 1) * stride + rect.w * texel_size

-- the bytes of a texel in a buffer
abbrev pub buffer_texel : ℕ → Bool → ℕ
buffer_texel texel_size expand = if expand then 16 else texel_size

-- what an operation touches
abbrev pub op_touches : Op → List Touch
op_touches (CopyBuffer src src_at dst dst_at size) = part src src_at size transfer_read ∷ part dst dst_at size transfer_write ∷ []
op_touches (BufferToImage src src_at stride texel_size dst rect) = part src src_at (rows_size rect stride texel_size) transfer_read ∷ whole dst transfer_write (Some TransferDst) ∷ []
op_touches (ImageToBuffer src rect dst dst_at stride texel_size expand) = whole src transfer_read (Some TransferSrc) ∷ part dst dst_at (rows_size rect stride (buffer_texel texel_size expand)) transfer_write ∷ []
op_touches (CopyImage src src_x src_y dst rect) = whole src transfer_read (Some TransferSrc) ∷ whole dst transfer_write (Some TransferDst) ∷ []
op_touches (BlitImage src dst coords clip) = whole src transfer_read (Some TransferSrc) ∷ whole dst transfer_write (Some TransferDst) ∷ []
op_touches (ClearImage image rect texel) = whole image transfer_write (Some TransferDst) ∷ []
op_touches (FillBuffer dst dst_at size byte) = part dst dst_at size transfer_write ∷ []
op_touches (PassPart _ _ image _ _ _) = whole image color (Some ColorAttachment) ∷ []
op_touches (Op.Barrier b) = whole b.id no_access None ∷ []

abbrev pub touches : Node → List Touch
touches n = op_touches n.op

-- the barrier that a node is
abbrev pub op_barrier : Op → Option Barrier
op_barrier (CopyBuffer src src_at dst dst_at size) = None
op_barrier (BufferToImage src src_at stride texel_size dst rect) = None
op_barrier (ImageToBuffer src rect dst dst_at stride texel_size expand) = None
op_barrier (CopyImage src src_x src_y dst rect) = None
op_barrier (BlitImage src dst coords clip) = None
op_barrier (ClearImage image rect texel) = None
op_barrier (FillBuffer dst dst_at size byte) = None
op_barrier (PassPart _ _ _ _ _ _) = None
op_barrier (Op.Barrier b) = Some b

abbrev pub barrier_of : Node → Option Barrier
barrier_of n = op_barrier n.op
