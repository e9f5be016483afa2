use Rattle.std.proofs.Common.{[], ◌∷◌, ◌++◌}
use Rattle.barriers.specs.Licence.{Fenced}
use Rattle.barriers.specs.Recording.{handle, HasLayouts}
use Rattle.front_model.specs.Stands.{is_image_of, uses_of, host_touch}
use Rattle.front_model.proofs.Barriers.{whole_one, whole_used, whole_some}
use Rattle.front_model.proofs.DueNodes.{ordered, host_of, due_keeps, due_none, node_behind}
use Rattle.front_model.proofs.DueMay.{due_may, due_apart, due_parted, alone_may}
use Rattle.front_model.proofs.FitLayouts.{fit_layouts}
use Rattle.front_model.proofs.view_laws.due_nodes_may_be_recorded.Goals as goal

pub returns-clause-node : goal.returns-clause-node
returns-clause-node c = λ f hands s n h device layouts. ordered f s _
    (c.due_barriers_keep_logs_sound.ensures.node _ (is_image_of s) (uses_of f s) n (whole_one f s) h.sound (whole_some f hands s h) (whole_used f hands s h) device layouts)

pub returns-clause-host : goal.returns-clause-host
returns-clause-host c = λ f hands s id h buffer. ordered f s _
    (c.due_barriers_keep_logs_sound.ensures.barrier _ (is_image_of s) (uses_of f s) (host_touch id) (whole_one f s) h.sound (whole_some f hands s h) (whole_used f hands s h) (host_of s id buffer))

pub returns-clause-behind : goal.returns-clause-behind
returns-clause-behind c = λ f s n layouts buffers device. node_behind s n (uses_of f s) buffers c.due_barriers_fit.ensures.layouts (c.due_barriers_fit.ensures.touch (is_image_of s) n device layouts)

pub returns-clause-keeps : goal.returns-clause-keeps
returns-clause-keeps c = λ f s id buffer. due_keeps c.due_barriers_fit.ensures.layouts (handle id) (is_image_of s id) (uses_of f s id) (host_touch id) buffer (host_of s id buffer)

pub returns-clause-once : goal.returns-clause-once
returns-clause-once c = λ f s id barrier buffer due. due_none (handle id) (is_image_of s id) (uses_of f s id ++ Fenced barrier ∷ []) (host_touch id) (c.no_barrier_is_licensed_twice.ensures.once (handle id) (is_image_of s id) (uses_of f s id) (host_touch id) barrier (host_of s id buffer) due)

pub returns-clause-told : goal.returns-clause-told
returns-clause-told c = λ f s id t touch tracked. c.trackers_take_uses.ensures.due t (handle id) (is_image_of s id) (uses_of f s id) touch tracked

pub returns-clause-layouts : goal.returns-clause-layouts
returns-clause-layouts c = fit_layouts

pub returns-clause-may : goal.returns-clause-may
returns-clause-may c = λ f hands s index n h device own recordable fits.
    let layouts : HasLayouts (is_image_of s) n = fit_layouts s n device fits in
    due_may f hands s index n h c.due_barriers_fit.ensures.layouts c.due_barriers_fit.ensures.of
    (c.due_barriers_fit.ensures.touch (is_image_of s) n device layouts)
    (ordered f s _ (c.due_barriers_keep_logs_sound.ensures.node _ (is_image_of s) (uses_of f s) n (whole_one f s) h.sound (whole_some f hands s h) (whole_used f hands s h) device layouts))
    own recordable fits

pub returns-clause-apart : goal.returns-clause-apart
returns-clause-apart c = λ f s n others. due_apart (is_image_of s) (uses_of f s) n others c.due_barriers_fit.ensures.of

pub returns-clause-parted : goal.returns-clause-parted
returns-clause-parted c = λ f s n others. due_parted (is_image_of s) (uses_of f s) n others c.due_barriers_fit.ensures.of

pub returns-clause-alone : goal.returns-clause-alone
returns-clause-alone c = λ f hands s index t h touch. alone_may f hands s index t h c.due_barriers_fit.ensures.layouts c.due_barriers_fit.ensures.of touch
    (ordered f s _ (c.due_barriers_keep_logs_sound.ensures.barrier _ (is_image_of s) (uses_of f s) t (whole_one f s) h.sound (whole_some f hands s h) (whole_used f hands s h) touch))
