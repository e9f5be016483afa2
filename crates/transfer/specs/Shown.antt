-- What the places of an object show of a content, and how an image is stored on the device.
use Rattle.std.specs.Prelude.{◌≡◌, ℕ, ◌+◌, ◌*◌, ◌<◌, ◌≤◌, Option, Some, None}
use Rattle.cells.specs.Contents.{Content, cell_at, UNDEFINED}
use Rattle.formats.specs.Pairs.{format_number}
use Rattle.gl_model.specs.declared.objects.ImageInfo.{ImageInfo}
use Rattle.gl_model.specs.ImageEffect.{Picture, texel_bytes}
use Rattle.vk_types.specs.declared.handles.Kind.{Kind}
use Rattle.vk_types.specs.declared.handles.Kind.TheVariants as kind
use Rattle.vk_types.specs.declared.ops.Node.{Node}
use Rattle.vk_model.specs.Cells.{Contents}
use Rattle.vk_model.specs.Log.{Command}
use Rattle.vk_model.specs.Meaning.{apply}

-- the kind of an image's store
abbrev pub store_kind : ImageInfo → Kind
store_kind info = kind.Image (format_number info.format) info.width info.height

-- where a byte of a texel of an image lies
abbrev pub place_in : ImageInfo → ℕ → ℕ → ℕ → ℕ
place_in info x y byte = (y * info.width + x) * texel_bytes info + byte

-- an image has no greater sides than a device takes
pub record IsStorable (info : ImageInfo) : Type 0 where
  pub columns : info.width ≤ 2048
  pub rows : info.height ≤ 2048

-- places have each cell of a content that is defined
abbrev pub Shows : (ℕ → ℕ) → Content → Type 0
Shows seen content = (i : ℕ) → cell_at content i < UNDEFINED → seen i ≡ cell_at content i

-- so many places from one on have the cells that are defined of as many of a content from another on
abbrev pub ShowsRange : (ℕ → ℕ) → ℕ → Content → ℕ → ℕ → Type 0
ShowsRange seen at content from len =
    (k : ℕ) → k < len → cell_at content (from + k) < UNDEFINED → seen (at + k) ≡ cell_at content (from + k)

-- an image stands under a handle, and its places show what a picture has
pub record IsShown (kinds : ℕ → Kind) (c : Contents) (id : ℕ) (picture : Picture) : Type 0 where
  pub kind : kinds id ≡ store_kind picture.info
  pub storable : IsStorable picture.info
  pub shows : Shows (c id) picture.cells

-- what the objects hold after a node, if there is one
abbrev pub after_node : (ℕ → Kind) → ℕ → Option Node → Contents → Contents
after_node kinds q None c = c
after_node kinds q (Some n) c = apply kinds (Command q n) c
