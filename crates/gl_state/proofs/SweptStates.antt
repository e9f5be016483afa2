-- States after a sweep, and as a context is made.
use Rattle.std.proofs.Common.{◌≡◌, ℕ, ◌==◌, ◌||◌, ◌&&◌, Bool, true, false, not, cond, is_some, Option, Some, None, sym, ap, ◌∙◌, refl, arith}
use Rattle.std.specs.List.{filter}
use Rattle.gl_calls.specs.declared.reply.Reply.{Reply}
use Rattle.formats.specs.declared.errors.EglError.{EglError}
use Rattle.tables.specs.Table.{Entries, entry, has, with_entry, only, any_value}
use Rattle.gl_model.specs.declared.state.Attachment.TheVariants.{Texture, Renderbuffer}
use Rattle.gl_model.specs.declared.state.Context.{Context}
use Rattle.gl_model.specs.declared.state.GroupState.{GroupState}
use Rattle.gl_model.specs.GroupState.{new_context}
use Rattle.gl_model.specs.Bindings.{same_option}
use Rattle.gl_model.specs.GroupEffect.{swept, names_object, binds_buffer, attaches, let_go, taken_by, destroyed}
use Rattle.gl_state.specs.declared.nameless.Nameless.{Nameless}
use Rattle.gl_state.specs.Order.{IsRising, IsKept, AreTied, IsWhole}
use Rattle.gl_state.proofs.Rising.{IsRising-changed}
use Rattle.gl_state.proofs.Swept.{filter-same}
use Rattle.gl_state.proofs.Tallies.{tally, bit, bit_of, tally-with_entry, any_value-tally}
use Rattle.gl_state.proofs.Filtered.{only-only, only-same, IsRising-with_entry, IsRising-filter}

and_same : (b : Bool) → (b && b) ≡ b
and_same true = refl
and_same false = refl

only-twice : {V : Type 0} (p : ℕ → Bool) (t : Entries V) → only p (only p t) ≡ only p t
only-twice p t = only-only p p t ∙ only-same _ _ t (λ k _. and_same (p k))

pub swept-swept : (g : GroupState) → swept (swept g) ≡ swept g
swept-swept g = λ i. record g {
  buffers = only-twice (λ b. names_object g.buffer_names b || any_value (binds_buffer b) g.contexts) g.buffers i;
  textures = only-twice (λ t. names_object g.texture_names t || any_value (λ c. same_option c.texture (Some t) || attaches (Texture t) c) g.contexts) g.textures i;
  renderbuffers = only-twice (λ r. names_object g.renderbuffer_names r || any_value (λ c. same_option c.renderbuffer (Some r) || attaches (Renderbuffer r) c) g.contexts) g.renderbuffers i;
}

pub IsKept-swept : (g : GroupState) → IsRising g.contexts → IsRising g.buffers → IsKept (swept g)
IsKept-swept g contexts buffers = record {
  contexts = contexts;
  buffers = IsRising-filter (λ e. names_object g.buffer_names e.0 || any_value (binds_buffer e.0) g.contexts) g.buffers buffers;
  referred = swept-swept g;
}

-- a state that was swept
pub IsWhole-swept : (g h : GroupState) (nameless : Nameless) → h ≡ swept g → IsRising g.contexts → IsRising g.buffers → AreTied h nameless → IsWhole h nameless
IsWhole-swept g h nameless same contexts buffers tied = record { kept = rw same (IsKept-swept g contexts buffers); tied = tied }

-- the same where the names and objects were tied before the sweep
pub IsWhole-after_sweep : (g h : GroupState) (before nameless : Nameless) → h ≡ swept g → IsRising g.contexts → AreTied g before → AreTied h nameless → IsWhole h nameless
IsWhole-after_sweep g h before nameless same contexts tied_before tied = IsWhole-swept g h nameless same contexts tied_before.buffers.rising tied

pub IsRising-destroyed : (number : ℕ) (t : Entries Context) → IsRising t → IsRising (destroyed number t)
IsRising-destroyed number t rising =
    IsRising-changed (λ e. cond (e.0 == number) (record e.1 { marked = true }) e.1) (filter (λ e. not (e.0 == number && not (is_some e.1.thread))) t)
    (IsRising-filter (λ e. not (e.0 == number && not (is_some e.1.thread))) t rising)

pub IsRising-taken : (thread number : ℕ) (t : Entries Context) → IsRising t → IsRising (taken_by thread number (let_go thread t))
IsRising-taken thread number t rising =
    IsRising-changed (λ e. cond (e.0 == number) (record e.1 { thread = Some thread }) e.1) (let_go thread t)
    (IsRising-changed (λ e. cond (same_option e.1.thread (Some thread)) (record e.1 { thread = None }) e.1) (filter (λ e. not (same_option e.1.thread (Some thread) && e.1.marked)) t)
    (IsRising-filter (λ e. not (same_option e.1.thread (Some thread) && e.1.marked)) t rising))

-- a context is made

no_entry : {V : Type 0} (o : Option V) → is_some o ≡ false → o ≡ None
no_entry None none = refl
no_entry (Some v) none = absurd (cc)

any_value-new : (q : Context → Bool) (n : ℕ) (t : Entries Context) → IsRising t → has n t ≡ false → q new_context ≡ false → any_value q (with_entry n new_context t) ≡ any_value q t
any_value-new q n t rising absent nothing =
    let none = no_entry (entry n t) absent in
    let before : bit_of q (entry n t) ≡ 0 = ap (bit_of q) none in
    let adds : bit (q new_context) ≡ 0 = ap bit nothing in
    let same : tally q (with_entry n new_context t) ≡ tally q t = omega (arith, tally-with_entry q n new_context t rising, before, adds) in
    any_value-tally q (with_entry n new_context t) ∙ ap (λ k. not (k == 0)) same ∙ sym (any_value-tally q t)

pub not_first : (b : Bool) (r : Reply) (rest : Option Reply) → cond b (Some r) rest ≡ None → b ≡ false
not_first true r rest none = absurd (cc)
not_first false r rest none = refl

module _ (group : GroupState) (kept : IsKept group) (n : ℕ) (absent : has n group.contexts ≡ false) (threads : Entries EglError) where
  abbrev pub with_new : GroupState
  with_new = record group { contexts = with_entry n new_context group.contexts; threads = threads }

  pub swept-with_new : swept with_new ≡ with_new
  swept-with_new = λ i. record with_new {
    buffers = (filter-same _ _ (λ e. ap (λ x. names_object group.buffer_names e.0 || x) (any_value-new (binds_buffer e.0) n group.contexts kept.contexts absent refl)) group.buffers ∙ ap (λ g. g.buffers) kept.referred) i;
    textures = (filter-same _ _ (λ e. ap (λ x. names_object group.texture_names e.0 || x) (any_value-new (λ c. same_option c.texture (Some e.0) || attaches (Texture e.0) c) n group.contexts kept.contexts absent refl)) group.textures ∙ ap (λ g. g.textures) kept.referred) i;
    renderbuffers = (filter-same _ _ (λ e. ap (λ x. names_object group.renderbuffer_names e.0 || x) (any_value-new (λ c. same_option c.renderbuffer (Some e.0) || attaches (Renderbuffer e.0) c) n group.contexts kept.contexts absent refl)) group.renderbuffers ∙ ap (λ g. g.renderbuffers) kept.referred) i;
  }

  pub IsKept-with_new : IsKept with_new
  IsKept-with_new = record {
    contexts = IsRising-with_entry n new_context group.contexts kept.contexts;
    buffers = kept.buffers;
    referred = swept-with_new;
  }
