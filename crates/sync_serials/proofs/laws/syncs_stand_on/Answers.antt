use Rattle.std.proofs.Common.{◌≡◌, ap, ◌∙◌}
use Rattle.gl_model.specs.Effect.{effect}
use Rattle.gl_model.specs.Legal.{after_entry}
use Rattle.gl_model.proofs.SyncLaws.{after_entry-syncs, quiet_fences, quiet_egl_fences, quiet_births}
use Rattle.sync_serials.proofs.Facts.{refused_entry, accepted_entry, nothing_told}
use Rattle.sync_serials.proofs.Standing.{begins, gone_on, same_contexts}
use Rattle.sync_serials.proofs.laws.syncs_stand_on.Goals as goal

pub returns : goal.returns
returns c = record {
  begins = begins;
  goes_on = gone_on;
  refused = λ f s ids tables state place e answer stand is.
      let here = refused_entry state e place answer is in
      same_contexts f s ids tables state (after_entry state e place) place stand (after_entry-syncs state e place stand.known)
      (ap (λ m. m.fences) here) (ap (λ m. m.egl_fences) here) (ap (λ m. m.births) here);
  others = λ f s ids tables state place e stand accepted quiet no_wait.
      let here : after_entry state e place ≡ effect state e.thread e.call place = accepted_entry state e place accepted ∙ nothing_told (effect state e.thread e.call place) e.call e.reply no_wait in
      same_contexts f s ids tables state (after_entry state e place) place stand (after_entry-syncs state e place stand.known)
      (ap (λ m. m.fences) here ∙ quiet_fences state e.thread e.call place quiet)
      (ap (λ m. m.egl_fences) here ∙ quiet_egl_fences state e.thread e.call place quiet)
      (ap (λ m. m.births) here ∙ quiet_births state e.thread e.call place place stand.known quiet);
}
