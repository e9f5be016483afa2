-- Calls on buffers that leave the state without contents as it is.
use Rattle.std.proofs.Common.{arith, ◌≡◌, ℕ, ◌+◌, ◌<◌, ◌≤◌, ◌==◌, false, Option, Some, None, List, [], ◌∷◌, ◌++◌, suc, refl, sym, ◌∙◌, ap, subst}
use Rattle.std.specs.Prelude.{length, take, drop}
use Rattle.std.proofs.Math.Seq.{take-append_seam}
use Rattle.std.proofs.Math.Path.{fun_ext}
use Rattle.std.proofs.lemmas.List.FromFn.{length-map-range_with_len}
use Rattle.cells.specs.Contents.{in_range, cells, Agrees}
use Rattle.std.specs.Option.{option_map, option_and_then}
use Rattle.vk_types.specs.declared.handles.Kind.{Kind}
use Rattle.gl_calls.specs.declared.call.Call.{Call}
use Rattle.gl_calls.specs.declared.payload.Payload.{Payload}
use Rattle.gl_calls.specs.declared.payload.Payload.TheVariants.{Literal, Ramp}
use Rattle.gl_calls.specs.Words.{payload_len, payload_bytes}
use Rattle.gl_calls.specs.declared.reply.Reply.{Reply}
use Rattle.gl_calls.specs.declared.reply.Reply.TheVariants as reply
use Rattle.gl_calls.specs.declared.words.BufferTarget.{BufferTarget}
use Rattle.tables.specs.Table.{entry}
use Rattle.object_helper.specs.Objects.{ObjectStore}
use Rattle.gl_model.specs.declared.objects.BufferFacts.{BufferFacts}
use Rattle.gl_model.specs.declared.objects.Mapped.{Mapped}
use Rattle.gl_model.specs.declared.state.Context.{Context}
use Rattle.gl_model.specs.declared.state.GroupState.{GroupState}
use Rattle.gl_model.specs.Bindings.{current_context, current_entry}
use Rattle.gl_model.specs.GroupEffect.{group_effect, swept, gl_change, gl_change_in}
use Rattle.gl_model.specs.GroupModel.{GroupModel}
use Rattle.gl_model.specs.Effect.{effect}
use Rattle.gl_model.specs.Legal.{Answers, GlAnswers, GlAnswersIn}
use Rattle.gl_model.specs.Refusal.{refusal, gl_refusal}
use Rattle.gl_calls.specs.Egl.{is_egl_call}
use Rattle.back_core.specs.Own.{Own, HostRead}
use Rattle.back_core.specs.Link.{Link}
use Rattle.front_model.specs.declared.object.Object.{Object}
use Rattle.front_model.specs.declared.object.Object.TheVariants.{Buffer}
use Rattle.front_model.specs.Face.{Face, Outline, outline, outline_at, put_object, view}
use Rattle.front_model.specs.Stands.{Moved, IsQuiet, Holds, no_hands}
use Rattle.front_model.specs.Wanted.{buffer_kind, wanted, AgreeWith, IsMapped, IsAccepted, IsBound, HasBound, HasMapRange, with_bytes}
use Rattle.front_moves.proofs.StoreLaws.{put_object-same_value}
use Rattle.front_moves.specs.Objects.{key_of, stored_of}
use Rattle.front_moves.specs.Core.{CoreParts, face, HasBytes, outline_of_size}
use Rattle.front_core.specs.Share.{MayCall, IsStateOf, IsCarriedOut, Gains}

-- the context that is current where a call of OpenGL ES was accepted
pub context_of : (group : GroupState) (thread : ℕ) (asked : Call) → gl_refusal group (current_context group thread) asked ≡ None → (context : Context) × (current_context group thread ≡ Some context)
context_of group thread asked accepted = by_context (current_context group thread) refl accepted
  where
    by_context : (o : Option Context) → current_context group thread ≡ o → gl_refusal group o asked ≡ None → (context : Context) × (current_context group thread ≡ Some context)
    by_context None is none = let bad : ⊥ = cc in absurd bad
    by_context (Some context) is none = (context, is)

-- a call is accepted in each state whose part without contents this is
pub accepted_of : (f : Face) (s : Link) (group : GroupState) (thread : ℕ) (asked : Call) (context : Context) → MayCall f s group thread asked → current_context group thread ≡ Some context →
    (state : GroupModel) → IsStateOf state group → IsAccepted state thread asked context
accepted_of f s group thread asked context may current state is = record {
  current = ap (λ (x : GroupState). current_context x thread) is.group_is ∙ current;
  accepted = ap (λ (x : GroupState). refusal x thread asked) is.group_is ∙ may.accepted;
  sizes = is.sizes;
  referred = subst (λ (x : GroupState). swept x ≡ x) (sym is.group_is) is.referred;
}

pub bound_of : (state : GroupModel) (group : GroupState) (context : Context) (target : BufferTarget) (b : ℕ) (facts : BufferFacts) → state.group ≡ group → IsBound group context target b facts → IsBound state.group context target b facts
bound_of state group context target b facts same bound = record { bound = bound.bound; is = ap (λ (x : GroupState). entry b x.buffers) same ∙ bound.is }

-- The store of a buffer

pub store_is : (c : CoreParts) (s : Link) (group : GroupState) (thread b : ℕ) (asked : Call) (facts : BufferFacts) → MayCall (face c) s group thread asked → entry b group.buffers ≡ Some facts →
    outline_at (face c) (Buffer b) ≡ outline_of_size facts.size
store_is c s group thread b asked facts may is = from_kind (entry (key_of (Buffer b)) c.stores) (buffer_kind facts.size) (may.backs.kinds (Buffer b) ∙ wanted_kind (entry b group.buffers) is)
  where
    wanted_kind : (o : Option BufferFacts) → o ≡ Some facts → option_and_then (λ (f : BufferFacts). buffer_kind f.size) o ≡ buffer_kind facts.size
    wanted_kind o e = ap (λ x. option_and_then (λ (f : BufferFacts). buffer_kind f.size) x) e

    from_kind : (o : Option ObjectStore) (k : Option Kind) → option_map (λ (v : Outline). v.kind) (option_map outline (option_map stored_of o)) ≡ k →
        option_map outline (option_map stored_of o) ≡ option_map (λ x. record { kind = x; waiting = [] }) k
    from_kind None k e = ap (option_map (λ x. record { kind = x; waiting = [] })) e
    from_kind (Some x) k e = ap (option_map (λ x. record { kind = x; waiting = [] })) e

pub has_store : (c : CoreParts) (b size : ℕ) → 0 < size → outline_at (face c) (Buffer b) ≡ outline_of_size size → HasBytes (face c) b size
has_store c b size some is =
    let e : (size == 0) ≡ false = grind (arith, some) in
    is ∙ (rw e refl)

-- What a call comes to that changes no state

pub carried_still : (f g : Face) (s t : Link) (group : GroupState) (thread : ℕ) (asked : Call) (answer : Reply) (shown : Object → ℕ → ℕ) (stays : Object → Type 0) →
    MayCall f s group thread asked → Moved g t shown (outline_at f) stays → ((b : ℕ) → IsMapped group b → stays (Buffer b)) → group_effect group thread asked ≡ swept group →
    ((state : GroupModel) (place : ℕ) → IsStateOf state group → AgreeWith (view f s) (wanted state) → AgreeWith shown (wanted (effect state thread asked place))) →
    ((state : GroupModel) → IsStateOf state group → AgreeWith (view f s) (wanted state) → Answers state thread asked answer) →
    IsCarriedOut f g s t group group thread asked answer
carried_still f g s t group thread asked answer shown stays may moved quiet same agrees answers = record {
  backs = record {
    holds = moved.holds;
    kinds = λ o. ap (λ (x : Object → Option Outline). option_map (λ v. v.kind) (x o)) moved.outlines_are ∙ may.backs.kinds o;
    maps = λ b mapped. moved.still (Buffer b) (quiet b mapped);
  };
  state = sym (same ∙ may.is.referred);
  agrees = λ state place is agree. subst (λ v. AgreeWith v (wanted (effect state thread asked place))) (sym moved.view_is) (agrees state place is agree);
  answers = answers;
}

-- Where a call reaches into a map

-- a map of the buffer that is bound has the range
abbrev pub InMap : GroupState → ℕ → BufferTarget → ℕ → ℕ → Type 0
InMap group thread target at len = (context : Context) × (current_context group thread ≡ Some context) × HasBound group context target (λ b facts. HasMapRange facts at len)

-- the buffer that was found, and where its map begins
abbrev pub Finds : GroupState → ℕ → BufferTarget → ℕ → ℕ → Type 0
Finds group thread target b place = (context : Context) → current_context group thread ≡ Some context →
    (facts : BufferFacts) × (mapped : Mapped) × IsBound group context target b facts × (facts.map ≡ Some mapped) × (mapped.at ≡ place) × (facts.size ≤ 18446744073709551615)

pub bound_has : (group : GroupState) (context : Context) (target : BufferTarget) (b : ℕ) (facts : BufferFacts) (P : ℕ → BufferFacts → Type 0) → HasBound group context target P → IsBound group context target b facts → P b facts
bound_has group context target b facts P has bound =
    let one : Some has.b ≡ Some b = sym has.is_bound.bound ∙ bound.bound in
    let number : has.b ≡ b = cc in
    let two : Some has.facts ≡ Some facts = sym has.is_bound.is ∙ ap (λ k. entry k group.buffers) number ∙ bound.is in
    let same : has.facts ≡ facts = cc in
    subst (λ (k : ℕ). P k facts) number (subst (λ (f : BufferFacts). P has.b f) same has.holds)

-- the buffer is quiet and has a store in which the range lies
pub record Reach (c : CoreParts) (s : Link) (b start len : ℕ) : Type 0 where
  pub size : ℕ
  pub quiet : IsQuiet (face c) s (Buffer b)
  pub store : outline_at (face c) (Buffer b) ≡ outline_of_size size
  pub inside : start + len ≤ size
  pub fits : size ≤ 18446744073709551615

pub in_map : (c : CoreParts) (s : Link) (group : GroupState) (thread : ℕ) (asked : Call) (target : BufferTarget) (at len b place : ℕ) → MayCall (face c) s group thread asked →
    InMap group thread target at len → Finds group thread target b place → Reach c s b (place + at) len
in_map c s group thread asked target at len b place may has finds =
    let found = finds has.0 has.1 in
    let range : HasMapRange found.0 at len = bound_has group has.0 target b found.0 (λ b facts. HasMapRange facts at len) has.2 found.2 in
    let one : Some range.mapped ≡ Some found.1 = sym range.map ∙ found.3 in
    let same : range.mapped ≡ found.1 = cc in
    let begins : range.mapped.at ≡ place = ap (λ (m : Mapped). m.at) same ∙ found.4 in
    record {
      size = found.0.size;
      quiet = may.backs.maps b (record { facts = found.0; mapped = found.1; is = found.2.is; map = found.3 });
      store = store_is c s group thread b asked found.0 may found.2.is;
      inside = omega (arith, range.in_map, range.in_buffer, begins);
      fits = found.5;
    }

pub has_reach : (c : CoreParts) (s : Link) (b start len : ℕ) → 0 < len → Reach c s b start len → (size : ℕ) × HasBytes (face c) b size × (start + len ≤ size)
has_reach c s b start len some reach = (reach.size, has_store c b reach.size (omega (arith, some, reach.inside)) reach.store, reach.inside)

-- Facts of one call

pub bound_back : (state : GroupModel) (group : GroupState) (context : Context) (target : BufferTarget) (P : ℕ → BufferFacts → Type 0) → state.group ≡ group → HasBound state.group context target P → HasBound group context target P
bound_back state group context target P same has = subst (λ (x : GroupState). HasBound x context target P) same has

-- a call of OpenGL ES that changes nothing in its context changes nothing
pub nothing_changes : (group : GroupState) (thread : ℕ) (asked : Call) → is_egl_call asked ≡ false → ((n : ℕ) (x : Context) → gl_change group n x asked ≡ group) → group_effect group thread asked ≡ swept group
nothing_changes group thread asked is_gl none = rw is_gl (ap swept (in_either (current_entry group thread)))
  where
    in_either : (o : Option (ℕ × Context)) → gl_change_in group o asked ≡ group
    in_either None = refl
    in_either (Some x) = none x.0 x.1

-- the answer of a call in its context
pub done_answers : (state : GroupModel) (thread : ℕ) (asked : Call) (context : Context) → current_context state.group thread ≡ Some context → GlAnswers state context asked reply.Done → GlAnswersIn state (current_context state.group thread) asked reply.Done
done_answers state thread asked context is given = subst (λ o. GlAnswersIn state o asked reply.Done) (sym is) given

-- Bytes of a payload

pub length-payload_bytes : (payload : Payload) → length (payload_bytes payload) ≡ payload_len payload
length-payload_bytes (Literal bytes) = refl
length-payload_bytes (Ramp len start step) = length-map-range_with_len _ 0 len

-- a write of bytes into the map of a quiet buffer
abbrev pub Wrote : Face → Link → Link → ℕ → ℕ → List ℕ → Type 0
Wrote f s t b at bytes = Moved f t (put_object (view f s) (Buffer b) (with_bytes (view f s (Buffer b)) at bytes)) (outline_at f) (IsQuiet f s)

pub wrote_as : (f : Face) (s t : Link) (b at at' : ℕ) (bytes bytes' : List ℕ) → at ≡ at' → bytes ≡ bytes' → Wrote f s t b at bytes → Wrote f s t b at' bytes'
wrote_as f s t b at at' bytes bytes' places same wrote = subst (λ n. Wrote f s t b n bytes') places (subst (λ xs. Wrote f s t b at xs) same wrote)

pub with_nothing : (old : ℕ → ℕ) (at : ℕ) (bytes : List ℕ) → length bytes ≡ 0 → with_bytes old at bytes ≡ old
with_nothing old at bytes none = fun_ext (λ i. let e : in_range at (length bytes) i ≡ false = rw none (grind arith) in rw e refl)

pub wrote_nothing : (f : Face) (s : Link) (b at : ℕ) (bytes : List ℕ) → length bytes ≡ 0 → Holds f no_hands s → Wrote f s s b at bytes
wrote_nothing f s b at bytes none holds = record {
  holds = holds;
  view_is = sym (put_object-same_value (view f s) (Buffer b) (with_bytes (view f s (Buffer b)) at bytes) (sym (with_nothing (view f s (Buffer b)) at bytes none)));
  outlines_are = refl;
  still = λ o quiet. quiet;
}

-- Bytes that were read

-- the bytes of a reply are those of the host read that was made
pub gained : (old new : List Own) (id at : ℕ) (bytes : List ℕ) → new ≡ old ++ HostRead id at bytes ∷ [] → Gains old new bytes
gained old new id at [] is = tt
gained old new id at (b ∷ bytes) is = (id, at, is)

pub moved_none : (f : Face) (s : Link) → Holds f no_hands s → Moved f s (view f s) (outline_at f) (IsQuiet f s)
moved_none f s holds = record { holds = holds; view_is = refl; outlines_are = refl; still = λ o quiet. quiet }

pub agrees_none : (out : List ℕ) (len : ℕ) (at : ℕ → ℕ) → out ≡ [] → len ≡ 0 → Agrees out (cells len at)
agrees_none out len at none nothing = subst (λ n. Agrees out (cells n at)) (sym nothing) (subst (λ xs. Agrees xs []) (sym none) tt)

pub agrees_length : (out content : List ℕ) → Agrees out content → length out ≡ length content
agrees_length [] [] agrees = refl
agrees_length (x ∷ xs) (y ∷ ys) agrees = ap suc (agrees_length xs ys agrees.1)
agrees_length [] (y ∷ ys) agrees = absurd agrees
agrees_length (x ∷ xs) [] agrees = absurd agrees

pub length-cells : (n : ℕ) (at : ℕ → ℕ) → length (cells n at) ≡ n
length-cells n at = length-map-range_with_len at 0 n

pub written_over : (xs ys : List ℕ) → length ys ≡ length xs → take (length xs) (ys ++ drop (length ys) xs) ≡ ys
written_over xs ys e = subst (λ n. take n (ys ++ drop (length ys) xs) ≡ ys) e (take-append_seam ys (drop (length ys) xs))
