-- The group without contents goes its own way: it is changed by the group alone.
use Rattle.std.proofs.Common.{◌≡◌, ℕ, ◌+◌, Bool, true, false, Option, Some, None, List, [], ◌∷◌, refl, ap, ◌∙◌, if◌then◌else◌}
use Rattle.std.specs.Option.{option_map_or}
use Rattle.cells.specs.Contents.{Content}
use Rattle.gl_calls.specs.declared.call.Call.{Call}
use Rattle.gl_calls.specs.declared.call.Call.TheVariants as call
use Rattle.gl_calls.specs.declared.reply.Reply.{Reply}
use Rattle.gl_calls.specs.declared.reply.Entry.{Entry}
use Rattle.gl_model.specs.GroupState.{Attachment, Empty, Texture, Renderbuffer, Context}
use Rattle.gl_model.specs.Bindings.{current_context}
use Rattle.gl_model.specs.Refusal.{refusal}
use Rattle.gl_model.specs.GroupEffect.{group_effect}
use Rattle.gl_model.specs.GroupModel.{GroupModel, Fence}
use Rattle.gl_model.specs.ImageEffect.{Picture}
use Rattle.gl_model.specs.Effect.{effect, with_cells, change_picture, picture_of, gl_contents, gl_storage, in_context, fence_effect}
use Rattle.gl_model.specs.Legal.{told, signal_fence, says_signalled, after_entry, state_after, refused}
use Rattle.gl_model.specs.Reached.{group_after, group_after_all}
use Rattle.tables.specs.Table.{entry}

with_cells-group : (state : GroupModel) (attachment : Attachment) (content : Content) → (with_cells state attachment content).group ≡ state.group
with_cells-group state Empty content = refl
with_cells-group state (Texture t) content = refl
with_cells-group state (Renderbuffer r) content = refl

pub change_picture-group : (state : GroupModel) (attachment : Attachment) (paint : Picture → Content) → (change_picture state attachment paint).group ≡ state.group
change_picture-group state attachment paint =
    elim (picture_of state attachment) as (λ p. (option_map_or (λ p. with_cells state attachment (paint p)) p state).group ≡ state.group)
    [ None ↦ refl | Some p ↦ with_cells-group state attachment (paint p) ]

gl_storage-group : (state : GroupModel) (context : Context) (asked : Call) → (gl_storage state context asked).group ≡ state.group
gl_storage-group state context (call.TexStorage levels format width height) = with_cells-group state _ _
gl_storage-group state context (call.RenderbufferStorage format width height) = with_cells-group state _ _
gl_storage-group state context _ = refl

in_context-group : (state : GroupModel) (thread : ℕ) (asked : Call) → (in_context gl_storage state thread asked).group ≡ state.group
in_context-group state thread asked =
    elim (current_context state.group thread) as (λ c. (option_map_or (λ context. gl_storage state context asked) c state).group ≡ state.group)
    [ None ↦ refl | Some context ↦ gl_storage-group state context asked ]

pub effect-group : (state : GroupModel) (thread : ℕ) (asked : Call) (place : ℕ) → (effect state thread asked place).group ≡ group_effect state.group thread asked
effect-group state thread asked place =
    in_context-group (record (fence_effect (in_context gl_contents state thread asked) thread asked place) { group = group_effect state.group thread asked }) thread asked

signal_fence-group : (fence : Option Fence) (state : GroupModel) → (signal_fence fence state).group ≡ state.group
signal_fence-group None state = refl
signal_fence-group (Some f) state = refl

told_by-group : (b : Bool) (fence : Option Fence) (state : GroupModel) → (if b then signal_fence fence state else state).group ≡ state.group
told_by-group true fence state = signal_fence-group fence state
told_by-group false fence state = refl

pub told-group : (state : GroupModel) (asked : Call) (answer : Reply) → (told state asked answer).group ≡ state.group
told-group state (call.ClientWaitSync number flags timeout) answer = told_by-group (says_signalled answer) (entry number state.fences) state
told-group state (call.EglClientWaitSync number flush timeout) answer = told_by-group (says_signalled answer) (entry number state.egl_fences) state
told-group state _ answer = refl

pub after_entry-group : (state : GroupModel) (e : Entry) (place : ℕ) → (after_entry state e place).group ≡ group_after state.group e
after_entry-group state e place =
    let accepted = told (effect state e.thread e.call place) e.call e.reply in
    elim (refusal state.group e.thread e.call) as
    (λ r. (option_map_or (λ answer. refused state e.thread answer) r accepted).group ≡ option_map_or (λ answer. (refused state e.thread answer).group) r (group_effect state.group e.thread e.call))
    [ None ↦ told-group (effect state e.thread e.call place) e.call e.reply ∙ effect-group state e.thread e.call place | Some answer ↦ refl ]

pub state_after-group : (state : GroupModel) (place : ℕ) (es : List Entry) → (state_after state place es).group ≡ group_after_all state.group es
state_after-group state place [] = refl
state_after-group state place (e ∷ es) =
    state_after-group (after_entry state e place) (place + 1) es
    ∙ ap (λ g. group_after_all g es) (after_entry-group state e place)
