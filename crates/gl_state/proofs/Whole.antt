-- A state stays whole where it changes in parts.
use Rattle.std.proofs.Common.{◌≡◌, ℕ, ◌==◌, cond, Option, Some, None, sym, refl}
use Rattle.tables.specs.Table.{entry}
use Rattle.gl_model.specs.declared.objects.BufferFacts.{BufferFacts}
use Rattle.gl_model.specs.declared.state.GroupState.{GroupState}
use Rattle.gl_state.specs.declared.nameless.Nameless.{Nameless}
use Rattle.gl_state.specs.Order.{IsKept, IsTied, AreTied, IsWhole}
use Rattle.gl_state.specs.Changes.{changed_buffer}
use Rattle.gl_state.proofs.Rising.{changed_entry}
use Rattle.gl_state.proofs.Tied.{IsTied-changed}
use Rattle.gl_state.proofs.BufferChanges.{IsKept-changed_buffer}

-- names and objects stay as they are
pub AreTied-along : (g h : GroupState) (nameless : Nameless) → AreTied g nameless
    → h.buffer_names ≡ g.buffer_names → h.texture_names ≡ g.texture_names → h.renderbuffer_names ≡ g.renderbuffer_names
    → h.buffers ≡ g.buffers → h.textures ≡ g.textures → h.renderbuffers ≡ g.renderbuffers → AreTied h nameless
AreTied-along g h nameless tied buffer_names texture_names renderbuffer_names buffers textures renderbuffers = record {
  buffers = rw (buffer_names, buffers) tied.buffers;
  textures = rw (texture_names, textures) tied.textures;
  renderbuffers = rw (renderbuffer_names, renderbuffers) tied.renderbuffers;
}

pub IsWhole-along : (g h : GroupState) (nameless : Nameless) → IsWhole g nameless → IsKept h
    → h.buffer_names ≡ g.buffer_names → h.texture_names ≡ g.texture_names → h.renderbuffer_names ≡ g.renderbuffer_names
    → h.buffers ≡ g.buffers → h.textures ≡ g.textures → h.renderbuffers ≡ g.renderbuffers → IsWhole h nameless
IsWhole-along g h nameless whole kept buffer_names texture_names renderbuffer_names buffers textures renderbuffers = record {
  kept = kept;
  tied = AreTied-along g h nameless whole.tied buffer_names texture_names renderbuffer_names buffers textures renderbuffers;
}

module _ (group : GroupState) (change : BufferFacts → BufferFacts) (nameless : Nameless) (whole : IsWhole group nameless) where
  tied_at : (b : ℕ) (f : Option BufferFacts) → entry b group.buffers ≡ f → IsTied group.buffer_names (changed_buffer (Some b) change group.buffers) nameless.buffers
  tied_at b None has = rw has whole.tied.buffers
  tied_at b (Some f) has =
      rw (has, sym (changed_entry change b f group.buffers whole.kept.buffers has))
      (IsTied-changed group.buffer_names group.buffers nameless.buffers whole.tied.buffers (λ e. cond (e.0 == b) (change e.1) e.1))

  buffers_tied : (number : Option ℕ) → IsTied group.buffer_names (changed_buffer number change group.buffers) nameless.buffers
  buffers_tied None = whole.tied.buffers
  buffers_tied (Some b) = tied_at b (entry b group.buffers) refl

  pub IsWhole-changed_buffer : (number : Option ℕ) → IsWhole (record group { buffers = changed_buffer number change group.buffers }) nameless
  IsWhole-changed_buffer number = record {
    kept = IsKept-changed_buffer group change whole.kept number;
    tied = record { buffers = buffers_tied number; textures = whole.tied.textures; renderbuffers = whole.tied.renderbuffers };
  }
