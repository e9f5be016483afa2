-- Worked histories, each with a proof that it is legal. Written by tools/worked_histories.py.
use Rattle.std.proofs.Common.{pos, true, false, Some, List, [], ◌∷◌, refl, inr}
use Rattle.formats.specs.declared.errors.EglError.TheVariants.{Success, BadAlloc, BadContext, BadAccess, BadMatch, BadParameter}
use Rattle.formats.specs.declared.errors.FbStatus.TheVariants.{Undefined}
use Rattle.gl_calls.specs.declared.reply.GlError.TheVariants.{InvalidValue}
use Rattle.gl_calls.specs.declared.reply.Waited.TheVariants.{AlreadySignaled, TimeoutExpired, ConditionSatisfied}
use Rattle.gl_calls.specs.declared.reply.Reply.TheVariants as reply
use Rattle.gl_calls.specs.declared.reply.Entry.{Entry}
use Rattle.gl_calls.specs.declared.call.Call.TheVariants as call
use Rattle.gl_calls.specs.declared.words.BufferTarget.TheVariants as buffers
use Rattle.gl_calls.specs.declared.words.FramebufferTarget.TheVariants as framebuffers
use Rattle.gl_calls.specs.declared.words.BindTarget.TheVariants as targets
use Rattle.gl_calls.specs.declared.words.ObjectKind.TheVariants as kinds
use Rattle.gl_calls.specs.declared.words.Usage.TheVariants as usages
use Rattle.gl_calls.specs.declared.words.FenceCondition.TheVariants as conditions
use Rattle.gl_calls.specs.declared.payload.Payload.TheVariants.{Literal}
use Rattle.gl_model.specs.ImageRows.{tex_sub_image_rows, copy_tex_sub_image_rows}
use Rattle.gl_model.specs.Legal.{IsLegal}

abbrev pub syncs_of_two_contexts : List Entry
syncs_of_two_contexts =
    record { thread = 0; line = 4; call = call.CreateContext 1; reply = reply.Done } ∷
    record { thread = 0; line = 5; call = call.MakeCurrent 1; reply = reply.Done } ∷
    record { thread = 0; line = 6; call = call.Bind (targets.Buffer buffers.Array) 1; reply = reply.Done } ∷
    record { thread = 0; line = 7; call = call.BufferData buffers.Array (pos 4) usages.StaticDraw (Some (Literal (1 ∷ 2 ∷ 3 ∷ 4 ∷ []))); reply = reply.Done } ∷
    record { thread = 0; line = 8; call = call.FenceSync 1 conditions.GpuCommandsComplete 0; reply = reply.Done } ∷
    record { thread = 0; line = 9; call = call.Finish; reply = reply.Done } ∷
    record { thread = 0; line = 10; call = call.MakeCurrent 0; reply = reply.Done } ∷
    record { thread = 0; line = 11; call = call.DestroyContext 1; reply = reply.Done } ∷
    record { thread = 0; line = 12; call = call.CreateContext 2; reply = reply.Done } ∷
    record { thread = 0; line = 13; call = call.MakeCurrent 2; reply = reply.Done } ∷
    record { thread = 0; line = 14; call = call.FenceSync 2 conditions.GpuCommandsComplete 0; reply = reply.Done } ∷
    record { thread = 0; line = 15; call = call.ClientWaitSync 1 0 0; reply = (reply.Waited AlreadySignaled) } ∷
    record { thread = 0; line = 16; call = call.ClientWaitSync 2 0 0; reply = (reply.Waited TimeoutExpired) } ∷
    record { thread = 0; line = 17; call = call.ClientWaitSync 2 1 1000; reply = (reply.Waited ConditionSatisfied) } ∷ []

pub syncs_of_two_contexts-is_legal : IsLegal (0 ∷ []) syncs_of_two_contexts
unfolding tex_sub_image_rows copy_tex_sub_image_rows
syncs_of_two_contexts-is_legal = (refl, (refl, (refl, (refl, (refl, (refl, (refl, (refl, (refl, (refl, (refl, (refl, (inr refl, (inr refl, tt))))))))))))))

abbrev pub finish_signals_a_sync : List Entry
finish_signals_a_sync =
    record { thread = 0; line = 4; call = call.CreateContext 1; reply = reply.Done } ∷
    record { thread = 0; line = 5; call = call.MakeCurrent 1; reply = reply.Done } ∷
    record { thread = 0; line = 6; call = call.FenceSync 1 conditions.GpuCommandsComplete 0; reply = reply.Done } ∷
    record { thread = 0; line = 7; call = call.ClientWaitSync 1 0 0; reply = (reply.Waited TimeoutExpired) } ∷
    record { thread = 0; line = 8; call = call.Finish; reply = reply.Done } ∷
    record { thread = 0; line = 9; call = call.ClientWaitSync 1 0 0; reply = (reply.Waited AlreadySignaled) } ∷
    record { thread = 0; line = 10; call = call.DeleteSync 1; reply = reply.Done } ∷
    record { thread = 0; line = 11; call = call.ClientWaitSync 1 0 0; reply = reply.WaitFailed } ∷
    record { thread = 0; line = 12; call = call.GetError; reply = (reply.GlFlag InvalidValue) } ∷ []

pub finish_signals_a_sync-is_legal : IsLegal (0 ∷ []) finish_signals_a_sync
unfolding tex_sub_image_rows copy_tex_sub_image_rows
finish_signals_a_sync-is_legal = (refl, (refl, (refl, (inr refl, (refl, (refl, (refl, (refl, (refl, tt)))))))))

abbrev pub context_current_elsewhere : List Entry
context_current_elsewhere =
    record { thread = 0; line = 5; call = call.CreateContext 1; reply = reply.Done } ∷
    record { thread = 0; line = 6; call = call.MakeCurrent 1; reply = reply.Done } ∷
    record { thread = 1; line = 7; call = call.MakeCurrent 1; reply = (reply.EglFault BadAccess) } ∷
    record { thread = 1; line = 8; call = call.EglGetError; reply = (reply.EglFlag BadAccess) } ∷
    record { thread = 1; line = 9; call = call.EglGetError; reply = (reply.EglFlag Success) } ∷
    record { thread = 1; line = 10; call = call.GetError; reply = reply.NoContext } ∷
    record { thread = 0; line = 11; call = call.CheckFramebufferStatus framebuffers.Both; reply = (reply.Status Undefined) } ∷ []

pub context_current_elsewhere-is_legal : IsLegal (0 ∷ 1 ∷ []) context_current_elsewhere
unfolding tex_sub_image_rows copy_tex_sub_image_rows
context_current_elsewhere-is_legal = (refl, (refl, (refl, (refl, (refl, (refl, (refl, tt)))))))

abbrev pub eight_contexts : List Entry
eight_contexts =
    record { thread = 0; line = 4; call = call.CreateContext 1; reply = reply.Done } ∷
    record { thread = 0; line = 5; call = call.MakeCurrent 1; reply = reply.Done } ∷
    record { thread = 0; line = 6; call = call.CreateContext 2; reply = reply.Done } ∷
    record { thread = 0; line = 7; call = call.CreateContext 3; reply = reply.Done } ∷
    record { thread = 0; line = 8; call = call.CreateContext 4; reply = reply.Done } ∷
    record { thread = 0; line = 9; call = call.CreateContext 5; reply = reply.Done } ∷
    record { thread = 0; line = 10; call = call.CreateContext 6; reply = reply.Done } ∷
    record { thread = 0; line = 11; call = call.CreateContext 7; reply = reply.Done } ∷
    record { thread = 0; line = 12; call = call.CreateContext 8; reply = reply.Done } ∷
    record { thread = 0; line = 13; call = call.CreateContext 9; reply = (reply.EglFault BadAlloc) } ∷
    record { thread = 0; line = 14; call = call.CreateContext 8; reply = reply.Taken } ∷
    record { thread = 0; line = 15; call = call.MakeCurrent 9; reply = (reply.EglFault BadContext) } ∷ []

pub eight_contexts-is_legal : IsLegal (0 ∷ []) eight_contexts
unfolding tex_sub_image_rows copy_tex_sub_image_rows
eight_contexts-is_legal = (refl, (refl, (refl, (refl, (refl, (refl, (refl, (refl, (refl, (refl, (refl, (refl, tt))))))))))))

abbrev pub polls_of_an_egl_sync : List Entry
polls_of_an_egl_sync =
    record { thread = 0; line = 4; call = call.CreateContext 1; reply = reply.Done } ∷
    record { thread = 0; line = 5; call = call.MakeCurrent 1; reply = reply.Done } ∷
    record { thread = 0; line = 6; call = call.CreateSync 1; reply = reply.Done } ∷
    record { thread = 0; line = 7; call = call.EglClientWaitSync 1 false 0; reply = (reply.Waited TimeoutExpired) } ∷
    record { thread = 0; line = 8; call = call.EglClientWaitSync 1 true 5; reply = (reply.Waited ConditionSatisfied) } ∷
    record { thread = 0; line = 9; call = call.EglClientWaitSync 1 false 0; reply = (reply.Waited ConditionSatisfied) } ∷
    record { thread = 0; line = 10; call = call.DestroySync 1; reply = reply.Done } ∷
    record { thread = 0; line = 11; call = call.DestroySync 1; reply = (reply.EglFault BadParameter) } ∷
    record { thread = 0; line = 12; call = call.EglGetError; reply = (reply.EglFlag BadParameter) } ∷ []

pub polls_of_an_egl_sync-is_legal : IsLegal (0 ∷ []) polls_of_an_egl_sync
unfolding tex_sub_image_rows copy_tex_sub_image_rows
polls_of_an_egl_sync-is_legal = (refl, (refl, (refl, (inr refl, (inr refl, (refl, (refl, (refl, (refl, tt)))))))))

abbrev pub numbers_names_and_syncs : List Entry
numbers_names_and_syncs =
    record { thread = 0; line = 5; call = call.CreateContext 1; reply = reply.Done } ∷
    record { thread = 0; line = 6; call = call.MakeCurrent 1; reply = reply.Done } ∷
    record { thread = 0; line = 7; call = call.CreateSync 5; reply = reply.Done } ∷
    record { thread = 0; line = 8; call = call.EglClientWaitSync 5 false 0; reply = (reply.Waited TimeoutExpired) } ∷
    record { thread = 0; line = 9; call = call.FenceSync 5 conditions.GpuCommandsComplete 0; reply = reply.Done } ∷
    record { thread = 0; line = 10; call = call.EglClientWaitSync 5 true 100; reply = (reply.Waited ConditionSatisfied) } ∷
    record { thread = 0; line = 11; call = call.ClientWaitSync 5 0 0; reply = (reply.Waited TimeoutExpired) } ∷
    record { thread = 1; line = 12; call = call.ClientWaitSync 5 0 0; reply = reply.NoContext } ∷
    record { thread = 0; line = 13; call = call.DestroyContext 1; reply = reply.Done } ∷
    record { thread = 0; line = 14; call = call.CreateContext 1; reply = reply.Taken } ∷
    record { thread = 1; line = 15; call = call.MakeCurrent 1; reply = (reply.EglFault BadContext) } ∷
    record { thread = 0; line = 16; call = call.Finish; reply = reply.Done } ∷
    record { thread = 0; line = 17; call = call.MakeCurrent 0; reply = reply.Done } ∷
    record { thread = 0; line = 18; call = call.CreateContext 1; reply = reply.Done } ∷
    record { thread = 1; line = 19; call = call.MakeCurrent 1; reply = reply.Done } ∷
    record { thread = 1; line = 20; call = call.ClientWaitSync 5 0 0; reply = (reply.Waited AlreadySignaled) } ∷
    record { thread = 1; line = 21; call = call.Gen kinds.Buffer (pos 2); reply = (reply.Names (1 ∷ 2 ∷ [])) } ∷
    record { thread = 1; line = 22; call = call.Bind (targets.Buffer buffers.Array) 2; reply = reply.Done } ∷
    record { thread = 1; line = 23; call = call.Gen kinds.Buffer (pos 1); reply = (reply.Names (3 ∷ [])) } ∷
    record { thread = 1; line = 24; call = call.Delete kinds.Buffer 1; reply = reply.Done } ∷
    record { thread = 1; line = 25; call = call.Gen kinds.Buffer (pos 2); reply = (reply.Names (1 ∷ 4 ∷ [])) } ∷
    record { thread = 0; line = 26; call = call.DestroySync 5; reply = reply.Done } ∷
    record { thread = 0; line = 27; call = call.EglClientWaitSync 5 false 0; reply = (reply.EglFault BadParameter) } ∷
    record { thread = 0; line = 28; call = call.EglGetError; reply = (reply.EglFlag BadParameter) } ∷
    record { thread = 0; line = 29; call = call.CreateSync 5; reply = (reply.EglFault BadMatch) } ∷ []

pub numbers_names_and_syncs-is_legal : IsLegal (0 ∷ 1 ∷ []) numbers_names_and_syncs
unfolding tex_sub_image_rows copy_tex_sub_image_rows
numbers_names_and_syncs-is_legal = (refl, (refl, (refl, (inr refl, (refl, (inr refl, (inr refl, (refl, (refl, (refl, (refl, (refl, (refl, (refl, (refl, (refl, (refl, (refl, (refl, (refl, (refl, (refl, (refl, (refl, (refl, tt)))))))))))))))))))))))))

abbrev pub number_taken_in_a_group : List Entry
number_taken_in_a_group =
    record { thread = 0; line = 5; call = call.CreateContext 1; reply = reply.Done } ∷
    record { thread = 0; line = 7; call = call.CreateContext 1; reply = reply.Taken } ∷ []

pub number_taken_in_a_group-is_legal : IsLegal (0 ∷ []) number_taken_in_a_group
unfolding tex_sub_image_rows copy_tex_sub_image_rows
number_taken_in_a_group-is_legal = (refl, (refl, tt))

abbrev pub number_free_in_another_group : List Entry
number_free_in_another_group =
    record { thread = 1; line = 6; call = call.CreateContext 1; reply = reply.Done } ∷ []

pub number_free_in_another_group-is_legal : IsLegal (1 ∷ []) number_free_in_another_group
unfolding tex_sub_image_rows copy_tex_sub_image_rows
number_free_in_another_group-is_legal = (refl, tt)
