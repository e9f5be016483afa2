use Rattle.gl_model.specs.GroupEffect.{lowest_unused}
use Rattle.unused_names.proofs.LowestNames.{AreUnused-lowest}
use Rattle.gl_state.proofs.NamesInUse.{IsTied-generated_all, FitNames-swept}
use Rattle.gl_state.proofs.SweptStates.{IsWhole-after_sweep}
use Rattle.gl_state.proofs.generation.generate_renderbuffers.Goals as goal

pub sweep-requires-clause-tied : goal.sweep-requires-clause-tied
sweep-requires-clause-tied c = record {
  buffers = c.state.invariant.whole.tied.buffers;
  textures = c.state.invariant.whole.tied.textures;
  renderbuffers = rw c.in_ok-names.ensures.ok (IsTied-generated_all (lowest_unused c.state.inside.group.renderbuffer_names.objects c.unsigned_abs.result) c.state.inside.group.renderbuffer_names c.state.inside.group.renderbuffers c.state.inside.nameless.renderbuffers (AreUnused-lowest c.state.inside.group.renderbuffer_names.objects c.unsigned_abs.result) c.state.invariant.whole.tied.renderbuffers);
}

pub invariant_of-state-2 : goal.invariant_of-state-2
invariant_of-state-2 c = record {
  whole =
      IsWhole-after_sweep _ _ c.state.inside.nameless _ c.sweep.ensures.swept c.state.invariant.whole.kept.contexts
      (record {
        buffers = c.state.invariant.whole.tied.buffers;
        textures = c.state.invariant.whole.tied.textures;
        renderbuffers = rw c.in_ok-names.ensures.ok (IsTied-generated_all (lowest_unused c.state.inside.group.renderbuffer_names.objects c.unsigned_abs.result) c.state.inside.group.renderbuffer_names c.state.inside.group.renderbuffers c.state.inside.nameless.renderbuffers (AreUnused-lowest c.state.inside.group.renderbuffer_names.objects c.unsigned_abs.result) c.state.invariant.whole.tied.renderbuffers);
      })
      c.sweep.ensures.tied;
  fits = FitNames-swept _ _ _ c.sweep.ensures.swept (record {
    buffers_fit = c.state.invariant.fits.buffers_fit;
    textures_fit = c.state.invariant.fits.textures_fit;
    renderbuffers_fit = c.in_ok-names.ensures.fits;
  });
}
