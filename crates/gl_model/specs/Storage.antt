-- The storage of a share group.
use Rattle.std.specs.Prelude.{ℕ, ◌+◌, ◌-◌, ◌*◌, Bool, Option, Some, None, nat_lt}
use Rattle.std.specs.List.{sum_by}
use Rattle.formats.specs.Texel.{bytes_per_texel}
use Rattle.gl_model.specs.declared.objects.ImageInfo.{ImageInfo}
use Rattle.gl_model.specs.GroupState.{GroupState}

abbrev pub image_bytes : Option ImageInfo → ℕ
image_bytes None = 0
image_bytes (Some i) = i.width * i.height * bytes_per_texel i.format

-- the bytes of all stores and images of the group
abbrev pub live_storage : GroupState → ℕ
live_storage group =
    sum_by (λ e. e.1.size) group.buffers + sum_by (λ e. image_bytes e.1) group.textures + sum_by (λ e. image_bytes e.1) group.renderbuffers

-- the bytes that a share group may have in stores and images
abbrev pub most_storage : ℕ
most_storage = 67108864

-- The stores and images would pass the limit, where some that are held are given up for more.
abbrev pub passes_limit : GroupState → ℕ → ℕ → Bool
passes_limit group held more = nat_lt most_storage ((live_storage group - held) + more)
