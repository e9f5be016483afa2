-- What an accepted call does to the objects, names, bindings and parameters of a share group.
use Rattle.std.specs.Prelude.{ℕ, ◌+◌, ◌==◌, ◌||◌, ◌&&◌, ℤ, unsigned_abs, Bool, true, false, not, Option, Some, None, List, [], ◌∷◌, ◌++◌, map, take, length, is_some, slice_set, if◌then◌else◌}
use Rattle.std.specs.Option.{option_and_then, option_map_or, option_map}
use Rattle.std.specs.List.{filter, list_any, range_with_len}
use Rattle.formats.specs.declared.errors.EglError.{EglError}
use Rattle.formats.specs.declared.errors.EglError.TheVariants.{Success}
use Rattle.gl_calls.specs.declared.reply.GlError.TheVariants.{NoError}
use Rattle.gl_calls.specs.declared.call.Call.{Call}
use Rattle.gl_calls.specs.declared.call.Call.TheVariants as call
use Rattle.gl_calls.specs.declared.words.BufferTarget.{BufferTarget}
use Rattle.gl_calls.specs.declared.words.BufferTarget.TheVariants as buffers
use Rattle.gl_calls.specs.declared.words.FramebufferTarget.{FramebufferTarget}
use Rattle.gl_calls.specs.declared.words.FramebufferTarget.TheVariants as framebuffers
use Rattle.gl_calls.specs.declared.words.BindTarget.{BindTarget}
use Rattle.gl_calls.specs.declared.words.BindTarget.TheVariants as targets
use Rattle.gl_calls.specs.declared.words.ObjectKind.{ObjectKind}
use Rattle.gl_calls.specs.declared.words.ObjectKind.TheVariants as kinds
use Rattle.gl_calls.specs.declared.words.AttachWhat.{AttachWhat}
use Rattle.gl_calls.specs.declared.words.AttachWhat.TheVariants as what
use Rattle.gl_calls.specs.declared.words.StoreParameter.{StoreParameter}
use Rattle.gl_calls.specs.declared.words.StoreParameter.TheVariants as parameters
use Rattle.gl_calls.specs.declared.words.DrawBuffer.{DrawBuffer}
use Rattle.gl_calls.specs.declared.words.FormatWord.{FormatWord}
use Rattle.gl_calls.specs.Egl.{is_egl_call}
use Rattle.gl_calls.specs.Words.{format_of, point_number, drawn_point, is_none_drawn}
use Rattle.gl_model.specs.declared.objects.BufferFacts.{BufferFacts}
use Rattle.gl_model.specs.declared.objects.ImageInfo.{ImageInfo}
use Rattle.tables.specs.Table.{Entries, entry, has, with_entry, without, only, any_value}
use Rattle.gl_model.specs.GroupState.{Attachment, Empty, Texture, Renderbuffer, Framebuffer, Names, Context, GroupState, new_context}
use Rattle.gl_model.specs.Bindings.{same_option, current_entry, buffer_binding, framebuffer_name, same_attachment}

-- Names

-- the n lowest names from 1 on that a table does not have
abbrev pub lowest_unused : {V : Type 0} → Entries V → ℕ → List ℕ
lowest_unused used n = take n (filter (λ name. not (has name used)) (range_with_len 1 (length used + n)))

-- names that are generated but have no object
abbrev pub with_generated : {V : Type 0} → List ℕ → Entries (Option V) → Entries (Option V)
with_generated [] table = table
with_generated (name ∷ rest) table = with_entry name None (with_generated rest table)

abbrev pub object_of : Names → ℕ → Option ℕ
object_of names name = option_and_then (λ o. o) (entry name names.objects)

-- binding this name makes an object
abbrev pub makes_object : Names → ℕ → Bool
makes_object names name = not (name == 0) && not (is_some (object_of names name))

-- the names after one was bound
abbrev pub after_bind : Names → ℕ → Names
after_bind names name =
    if makes_object names name then record { objects = with_entry name (Some names.made) names.objects; made = names.made + 1 } else names

-- the objects after a name was bound
abbrev pub with_made : {V : Type 0} → Names → ℕ → V → Entries V → Entries V
with_made names name fresh objects = if makes_object names name then with_entry names.made fresh objects else objects

abbrev pub after_delete : Names → ℕ → Names
after_delete names name = record names { objects = without name names.objects }

-- Contexts

abbrev pub with_context : GroupState → ℕ → Context → GroupState
with_context group number context = record group { contexts = with_entry number context group.contexts }

abbrev pub with_buffer_binding : Context → BufferTarget → Option ℕ → Context
with_buffer_binding context buffers.Array bound = record context { array = bound }
with_buffer_binding context buffers.CopyRead bound = record context { copy_read = bound }
with_buffer_binding context buffers.CopyWrite bound = record context { copy_write = bound }
with_buffer_binding context buffers.PixelPack bound = record context { pixel_pack = bound }
with_buffer_binding context buffers.PixelUnpack bound = record context { pixel_unpack = bound }
with_buffer_binding context buffers.Other bound = context

-- a binding that is reset where it names the object
abbrev pub unbound : Option ℕ → ℕ → Option ℕ
unbound bound object = if same_option bound (Some object) then None else bound

abbrev pub without_buffer : Context → ℕ → Context
without_buffer context b = record context {
  array = unbound context.array b;
  copy_read = unbound context.copy_read b;
  copy_write = unbound context.copy_write b;
  pixel_pack = unbound context.pixel_pack b;
  pixel_unpack = unbound context.pixel_unpack b;
}

-- Framebuffers

-- a framebuffer as it is made: it draws to and reads point 0
abbrev pub new_framebuffer : Framebuffer
new_framebuffer = record {
  points = Empty ∷ Empty ∷ Empty ∷ Empty ∷ [];
  draws = true ∷ false ∷ false ∷ false ∷ [];
  read = Some 0;
}

abbrev pub with_framebuffer_binding : Context → FramebufferTarget → ℕ → Context
with_framebuffer_binding context framebuffers.Both name = record context { draw = name; read = name }
with_framebuffer_binding context framebuffers.Draw name = record context { draw = name }
with_framebuffer_binding context framebuffers.Read name = record context { read = name }
with_framebuffer_binding context framebuffers.Other name = context

-- a context that has the framebuffer of a name
abbrev pub with_framebuffer : Context → ℕ → Context
with_framebuffer context name =
    if (name == 0) || is_some (option_and_then (λ f. f) (entry name context.framebuffers)) then context
    else record context { framebuffers = with_entry name (Some new_framebuffer) context.framebuffers }

-- one framebuffer changed; 0 has none
abbrev pub change_framebuffer : Context → ℕ → (Framebuffer → Framebuffer) → Context
change_framebuffer context name change =
    record context { framebuffers = map (λ e. (e.0, if e.0 == name then option_map change e.1 else e.1)) context.framebuffers }

abbrev pub with_point : ℕ → Attachment → Framebuffer → Framebuffer
with_point k attachment f = record f { points = slice_set f.points k attachment }

-- an image taken from all points
abbrev pub detached : Attachment → Framebuffer → Framebuffer
detached attachment f = record f { points = map (λ a. if same_attachment a attachment then Empty else a) f.points }

-- an image taken from the framebuffers that are bound
abbrev pub detached_from_bound : Context → Attachment → Context
detached_from_bound context attachment =
    change_framebuffer (change_framebuffer context context.draw (detached attachment)) context.read (detached attachment)

abbrev pub without_framebuffer : Context → ℕ → Context
without_framebuffer context name = record context {
  framebuffers = without name context.framebuffers;
  draw = if context.draw == name then 0 else context.draw;
  read = if context.read == name then 0 else context.read;
}

-- the draw buffers that a list of words names; those that it does not list become none
abbrev pub listed_draws : List DrawBuffer → List Bool
listed_draws buffers = take 4 (map (λ b. not (is_none_drawn b)) buffers ++ (false ∷ false ∷ false ∷ false ∷ []))

-- What no name, binding or attachment refers to is gone

abbrev pub names_object : Names → ℕ → Bool
names_object names object = any_value (λ o. same_option o (Some object)) names.objects

abbrev pub binds_buffer : ℕ → Context → Bool
binds_buffer b context =
    same_option context.array (Some b) || same_option context.copy_read (Some b) || same_option context.copy_write (Some b)
    || same_option context.pixel_pack (Some b) || same_option context.pixel_unpack (Some b)

abbrev pub attaches : Attachment → Context → Bool
attaches attachment context =
    any_value (λ f. option_map_or (λ f. list_any (same_attachment attachment) f.points) f false) context.framebuffers

abbrev pub swept : GroupState → GroupState
swept group = record group {
  buffers = only (λ b. names_object group.buffer_names b || any_value (binds_buffer b) group.contexts) group.buffers;
  textures = only (λ t. names_object group.texture_names t
      || any_value (λ c. same_option c.texture (Some t) || attaches (Texture t) c) group.contexts) group.textures;
  renderbuffers = only (λ r. names_object group.renderbuffer_names r
      || any_value (λ c. same_option c.renderbuffer (Some r) || attaches (Renderbuffer r) c) group.contexts) group.renderbuffers;
}

-- EGL

-- The contexts after a thread let go of its context. One that was marked ends.
abbrev pub let_go : ℕ → Entries Context → Entries Context
let_go thread contexts =
    map (λ e. (e.0, if same_option e.1.thread (Some thread) then record e.1 { thread = None } else e.1))
    (filter (λ e. not (same_option e.1.thread (Some thread) && e.1.marked)) contexts)

-- the contexts after one became current on a thread
abbrev pub taken_by : ℕ → ℕ → Entries Context → Entries Context
taken_by thread number contexts = map (λ e. (e.0, if e.0 == number then record e.1 { thread = Some thread } else e.1)) contexts

-- A context that is destroyed ends at once where it is current on no thread, and is marked elsewhere.
abbrev pub destroyed : ℕ → Entries Context → Entries Context
destroyed number contexts =
    map (λ e. (e.0, if e.0 == number then record e.1 { marked = true } else e.1))
    (filter (λ e. not (e.0 == number && not (is_some e.1.thread))) contexts)

abbrev pub with_egl_error : GroupState → ℕ → EglError → GroupState
with_egl_error group thread error = record group { threads = with_entry thread error group.threads }

abbrev pub egl_change : GroupState → ℕ → Call → GroupState
egl_change group thread (call.CreateContext number) = record group { contexts = with_entry number new_context group.contexts }
egl_change group thread (call.DestroyContext number) = record group { contexts = destroyed number group.contexts }
egl_change group thread (call.MakeCurrent number) = record group { contexts = taken_by thread number (let_go thread group.contexts) }
egl_change group thread (call.CreateSync number) = record group { egl_syncs = with_entry number tt group.egl_syncs }
egl_change group thread (call.DestroySync number) = record group { egl_syncs = without number group.egl_syncs }
egl_change group thread _ = group

-- OpenGL ES

abbrev pub generate : GroupState → ℕ → Context → ObjectKind → ℕ → GroupState
generate group number context kinds.Buffer n =
    let names = group.buffer_names in
    record group { buffer_names = record names { objects = with_generated (lowest_unused names.objects n) names.objects } }
generate group number context kinds.Texture n =
    let names = group.texture_names in
    record group { texture_names = record names { objects = with_generated (lowest_unused names.objects n) names.objects } }
generate group number context kinds.Renderbuffer n =
    let names = group.renderbuffer_names in
    record group { renderbuffer_names = record names { objects = with_generated (lowest_unused names.objects n) names.objects } }
generate group number context kinds.Framebuffer n =
    let used = context.framebuffers in
    with_context group number (record context { framebuffers = with_generated (lowest_unused used n) used })

-- a map ends with its buffer's name
abbrev pub unmapped : BufferFacts → BufferFacts
unmapped b = record b { map = None }

-- one buffer changed; nothing where 0 is bound
abbrev pub change_buffer : GroupState → Option ℕ → (BufferFacts → BufferFacts) → GroupState
change_buffer group None change = group
change_buffer group (Some b) change =
    record group { buffers = option_map_or (λ f. with_entry b (change f) group.buffers) (entry b group.buffers) group.buffers }

abbrev pub delete_buffer : GroupState → ℕ → Context → Option ℕ → GroupState
delete_buffer group number context None = group
delete_buffer group number context (Some b) = change_buffer (with_context group number (without_buffer context b)) (Some b) unmapped

abbrev pub delete_texture : GroupState → ℕ → Context → Option ℕ → GroupState
delete_texture group number context None = group
delete_texture group number context (Some t) =
    with_context group number (record (detached_from_bound context (Texture t)) { texture = unbound context.texture t })

abbrev pub delete_renderbuffer : GroupState → ℕ → Context → Option ℕ → GroupState
delete_renderbuffer group number context None = group
delete_renderbuffer group number context (Some r) =
    with_context group number (record (detached_from_bound context (Renderbuffer r)) { renderbuffer = unbound context.renderbuffer r })

abbrev pub delete : GroupState → ℕ → Context → ObjectKind → ℕ → GroupState
delete group number context kinds.Buffer name =
    record (delete_buffer group number context (object_of group.buffer_names name)) { buffer_names = after_delete group.buffer_names name }
delete group number context kinds.Texture name =
    record (delete_texture group number context (object_of group.texture_names name)) { texture_names = after_delete group.texture_names name }
delete group number context kinds.Renderbuffer name =
    record (delete_renderbuffer group number context (object_of group.renderbuffer_names name)) { renderbuffer_names = after_delete group.renderbuffer_names name }
delete group number context kinds.Framebuffer name = with_context group number (without_framebuffer context name)

abbrev pub bind : GroupState → ℕ → Context → BindTarget → ℕ → GroupState
bind group number context (targets.Buffer target) name =
    let names = after_bind group.buffer_names name in
    record (with_context group number (with_buffer_binding context target (object_of names name))) {
      buffer_names = names;
      buffers = with_made group.buffer_names name (record { size = 0; map = None }) group.buffers;
    }
bind group number context (targets.Framebuffer target) name =
    with_context group number (with_framebuffer_binding (with_framebuffer context name) target name)
bind group number context targets.Texture name =
    let names = after_bind group.texture_names name in
    record (with_context group number (record context { texture = object_of names name })) {
      texture_names = names;
      textures = with_made group.texture_names name None group.textures;
    }
bind group number context targets.Renderbuffer name =
    let names = after_bind group.renderbuffer_names name in
    record (with_context group number (record context { renderbuffer = object_of names name })) {
      renderbuffer_names = names;
      renderbuffers = with_made group.renderbuffer_names name None group.renderbuffers;
    }

-- the image that new storage makes: none where a side is 0
abbrev pub new_image : FormatWord → ℤ → ℤ → Option ImageInfo
new_image format width height =
    if (unsigned_abs width == 0) || (unsigned_abs height == 0) then None
    else option_map (λ f. record { format = f; width = unsigned_abs width; height = unsigned_abs height }) (format_of format)

abbrev pub change_image : Option ℕ → Option ImageInfo → Entries (Option ImageInfo) → Entries (Option ImageInfo)
change_image None image images = images
change_image (Some t) image images = with_entry t image images

-- what attaching a name puts at a point
abbrev pub attachment_of : GroupState → AttachWhat → ℕ → Attachment
attachment_of group what.Texture name = option_map_or Texture (object_of group.texture_names name) Empty
attachment_of group what.Renderbuffer name = option_map_or Renderbuffer (object_of group.renderbuffer_names name) Empty

abbrev pub with_parameter : Context → StoreParameter → ℕ → Context
with_parameter context parameters.PackAlign n = record context { pack = record context.pack { align = n } }
with_parameter context parameters.PackRow n = record context { pack = record context.pack { row = n } }
with_parameter context parameters.PackSkipRows n = record context { pack = record context.pack { skip_rows = n } }
with_parameter context parameters.PackSkipPixels n = record context { pack = record context.pack { skip_pixels = n } }
with_parameter context parameters.UnpackAlign n = record context { unpack = record context.unpack { align = n } }
with_parameter context parameters.UnpackRow n = record context { unpack = record context.unpack { row = n } }
with_parameter context parameters.UnpackSkipRows n = record context { unpack = record context.unpack { skip_rows = n } }
with_parameter context parameters.UnpackSkipPixels n = record context { unpack = record context.unpack { skip_pixels = n } }
with_parameter context parameters.Other n = context

abbrev pub gl_change : GroupState → ℕ → Context → Call → GroupState
gl_change group number context call.GetError = with_context group number (record context { error = NoError })
gl_change group number context (call.Gen kind count) = generate group number context kind (unsigned_abs count)
gl_change group number context (call.Delete kind name) = delete group number context kind name
gl_change group number context (call.Bind target name) = bind group number context target name
gl_change group number context (call.BufferData target size usage payload) =
    change_buffer group (buffer_binding context target) (λ _. record { size = unsigned_abs size; map = None })
gl_change group number context (call.MapBufferRange target offset len access) =
    change_buffer group (buffer_binding context target)
    (λ b. record b { map = Some (record { at = unsigned_abs offset; len = unsigned_abs len; access = access }) })
gl_change group number context (call.UnmapBuffer target) = change_buffer group (buffer_binding context target) unmapped
gl_change group number context (call.TexStorage levels format width height) =
    record group { textures = change_image context.texture (new_image format width height) group.textures }
gl_change group number context (call.RenderbufferStorage format width height) =
    record group { renderbuffers = change_image context.renderbuffer (new_image format width height) group.renderbuffers }
gl_change group number context (call.Attach target point what name) =
    with_context group number
    (change_framebuffer context (framebuffer_name context target) (with_point (point_number point) (attachment_of group what name)))
gl_change group number context (call.DrawBuffers list) =
    with_context group number (change_framebuffer context context.draw (λ f. record f { draws = listed_draws list }))
gl_change group number context (call.ReadBuffer buffer) =
    with_context group number (change_framebuffer context context.read (λ f. record f { read = drawn_point buffer }))
gl_change group number context (call.ScissorTest on) = with_context group number (record context { scissor_on = on })
gl_change group number context (call.ScissorBox x y width height) =
    with_context group number (record context { scissor = record { x = x; y = y; width = unsigned_abs width; height = unsigned_abs height } })
gl_change group number context (call.PixelStore parameter value) =
    with_context group number (with_parameter context parameter (unsigned_abs value))
gl_change group number context (call.FenceSync number' condition flags) = record group { syncs = with_entry number' tt group.syncs }
gl_change group number context (call.DeleteSync number') = record group { syncs = without number' group.syncs }
gl_change group number context _ = group

abbrev pub gl_change_in : GroupState → Option (ℕ × Context) → Call → GroupState
gl_change_in group None asked = group
gl_change_in group (Some current) asked = gl_change group current.0 current.1 asked

-- the group after an accepted call
abbrev pub group_effect : GroupState → ℕ → Call → GroupState
group_effect group thread asked =
    swept (if is_egl_call asked then with_egl_error (egl_change group thread asked) thread Success
    else gl_change_in group (current_entry group thread) asked)
