-- Copies between buffers, and maps of a buffer.
use Rattle.std.proofs.Common.{arith, ◌≡◌, ◌≢◌, ℕ, ℤ, ◌+◌, ◌<◌, ◌≤◌, ◌==◌, Bool, true, false, cond, Option, Some, None, Ok, Err, [], ◌∷◌, refl, sym, ◌∙◌, ap, subst, inl, inr, is_some}
use Rattle.std.specs.Prelude.{◌⊎◌, unsigned_abs}
use Rattle.std.specs.List.{find}
use Rattle.std.specs.Option.{option_map, option_and_then}
use Rattle.std.specs.Ordering.{nat_cmp}
use Rattle.std.specs.BTreeMap.{is_at}
use Rattle.std.proofs.lemmas.Bool.{false≢true, eqb-true, eq-eqb}
use Rattle.std.proofs.Math.Path.{fun_ext}
use Rattle.cells.specs.Contents.{in_range}
use Rattle.vk_types.specs.declared.stops.Stop.{Stop}
use Rattle.vk_types.specs.declared.stops.Stop.TheVariants.{Lost}
use Rattle.vk_device.specs.Faults.{HasCause}
use Rattle.gl_calls.specs.declared.call.Call.{Call}
use Rattle.gl_calls.specs.declared.call.Call.TheVariants as call
use Rattle.gl_calls.specs.declared.reply.Reply.TheVariants as reply
use Rattle.gl_calls.specs.declared.words.AccessWord.{AccessWord}
use Rattle.gl_calls.specs.declared.words.BufferTarget.{BufferTarget}
use Rattle.tables.specs.Table.{Entries, entry, has, with_entry}
use Rattle.gl_model.specs.declared.objects.BufferFacts.{BufferFacts}
use Rattle.gl_model.specs.declared.state.Context.{Context}
use Rattle.gl_model.specs.declared.state.GroupState.{GroupState}
use Rattle.gl_model.specs.Bindings.{current_context, current_entry, buffer_binding}
use Rattle.gl_model.specs.GroupEffect.{group_effect, swept}
use Rattle.gl_model.specs.GroupModel.{GroupModel}
use Rattle.gl_model.specs.Effect.{effect}
use Rattle.gl_model.proofs.TableLaws.{is_at-nat_cmp}
use Rattle.back_core.specs.Link.{Link}
use Rattle.back_core.specs.Needs.{IsOfGroup}
use Rattle.front_model.specs.declared.object.Object.{Object}
use Rattle.front_model.specs.declared.object.Object.TheVariants.{Buffer, Texture, Renderbuffer}
use Rattle.front_model.specs.Face.{Face, Outline, outline_at, put_object, view}
use Rattle.front_model.specs.Stands.{Moved, IsQuiet, Holds, no_hands}
use Rattle.front_model.specs.Wanted.{buffer_kind, kind_wanted, wanted, AgreeWith, IsMapped, IsAccepted, IsBound, HasBound, with_copy}
use Rattle.front_model.proofs.KindsStores.{changed_group, changed_entry}
use Rattle.front_moves.proofs.StoreLaws.{put_object-same_value}
use Rattle.front_moves.specs.Core.{CoreParts, face, IsQuietBut}
use Rattle.front_core.specs.Copies.{MayCopy}
use Rattle.front_core.specs.Share.{MayCall, IsCarriedOut, HaveIndexes, current_index}
use Rattle.front_core.proofs.BufferCalls.{context_of, accepted_of, bound_of, done_answers, store_is, has_store}

-- a stop has the cause that it had in the move
pub same_cause : {A B : Type 0} (before now : ℕ) (stop : Stop) → HasCause {T = A} before now (Err stop) → HasCause {T = B} before now (Err stop)
same_cause before now stop cause = record { later = cause.later; lost = λ e. let same : stop ≡ Lost = cc in cause.lost (ap Err same) }

-- what went well has the cause that it had in the move
pub good_cause : {A B : Type 0} (before now : ℕ) (x : A) (y : B) → HasCause {T = A} before now (Ok x) → HasCause {T = B} before now (Ok y)
good_cause before now x y cause = record { later = cause.later; lost = λ e. let bad : ⊥ = cc in absurd bad }

-- The index of a context

-- an entry that was found in a table is there under its key
found_there : {V : Type 0} (p : ℕ × V → Bool) (t : Entries V) (x : ℕ × V) → find p t ≡ Some x → has x.0 t ≡ true
found_there p [] x is = let bad : ⊥ = cc in absurd bad
found_there {V} p (e ∷ t) x is = by_test (p e) is (found_there p t x)
  where
    later : (b : Bool) (o : Option V) → is_some o ≡ true → is_some (cond b (Some e.1) o) ≡ true
    later true o there = refl
    later false o there = there

    by_test : (k : Bool) → cond k (Some e) (find p t) ≡ Some x → (find p t ≡ Some x → has x.0 t ≡ true) → has x.0 (e ∷ t) ≡ true
    by_test true same rest =
        let here : e ≡ x = cc in
        let at : is_at (nat_cmp x.0) e.0 ≡ true = is_at-nat_cmp x.0 e.0 ∙ eq-eqb x.0 e.0 (sym (ap (λ (y : ℕ × V). y.0) here)) in
        ap (λ b. is_some (cond b (Some e.1) (entry x.0 t))) at
    by_test false same rest = later (is_at (nat_cmp x.0) e.0) (entry x.0 t) (rest same)

-- the context that is current has an index
pub has_index : (group : GroupState) (serials : Entries ℕ) (number thread : ℕ) (context : Context) → HaveIndexes group.contexts serials number → current_context group thread ≡ Some context → current_index group serials thread ≢ None
has_index group serials number thread context indexes current = by_entry (current_entry group thread) refl current
  where
    by_entry : (o : Option (ℕ × Context)) → current_entry group thread ≡ o → option_map (λ e. e.1) o ≡ Some context → option_and_then (λ e. entry e.0 serials) o ≢ None
    by_entry None is some none = let bad : ⊥ = cc in bad
    by_entry (Some e) is some none = false≢true (sym (ap is_some none) ∙ indexes.each e.0 ∙ found_there _ group.contexts e is)

-- it is one of the group
pub index_own : (group : GroupState) (serials : Entries ℕ) (number thread i : ℕ) → HaveIndexes group.contexts serials number → current_index group serials thread ≡ Some i → IsOfGroup number i
index_own group serials number thread i indexes is = by_entry (current_entry group thread) is
  where
    by_entry : (o : Option (ℕ × Context)) → option_and_then (λ e. entry e.0 serials) o ≡ Some i → IsOfGroup number i
    by_entry None none = let bad : ⊥ = cc in absurd bad
    by_entry (Some e) some = indexes.of_group e.0 i some

-- What a copy names

-- two bound buffers, which are not mapped, have the ranges
abbrev pub CopyRange : GroupState → Context → BufferTarget → BufferTarget → ℕ → ℕ → ℕ → Type 0
CopyRange group context from to read write size = HasBound group context from (λ r source. (source.map ≡ None) × (read + size ≤ source.size)
    × HasBound group context to (λ w target. (target.map ≡ None) × (write + size ≤ target.size) × (r ≡ w → (read + size ≤ write) ⊎ (write + size ≤ read))))

abbrev pub CopiesInRange : Type 0
CopiesInRange = (state : GroupModel) (thread : ℕ) (context : Context) (from to : BufferTarget) (read write size : ℤ) →
    IsAccepted state thread (call.CopyBufferSubData from to read write size) context → CopyRange state.group context from to (unsigned_abs read) (unsigned_abs write) (unsigned_abs size)

pub copy_range : CopiesInRange → (f : Face) (s : Link) (group : GroupState) (thread : ℕ) (from to : BufferTarget) (read write size : ℤ) → MayCall f s group thread (call.CopyBufferSubData from to read write size) →
    (context : Context) × (current_context group thread ≡ Some context) × CopyRange group context from to (unsigned_abs read) (unsigned_abs write) (unsigned_abs size)
copy_range in_range f s group thread from to read write size may =
    let asked = call.CopyBufferSubData from to read write size in
    let known = context_of group thread asked may.accepted in (
      known.0,
      known.1,
      subst (λ (x : GroupState). CopyRange x known.0 from to (unsigned_abs read) (unsigned_abs write) (unsigned_abs size)) may.is.group_is
          (in_range may.model thread known.0 from to read write size (accepted_of f s group thread asked known.0 may known.1 may.model may.is)),
    )

-- these two are they
pub record Copies (group : GroupState) (context : Context) (from to : BufferTarget) (r w read write size : ℕ) : Type 0 where
  pub source : BufferFacts
  pub from_is : IsBound group context from r source
  pub source_free : source.map ≡ None
  pub source_range : read + size ≤ source.size
  pub target : BufferFacts
  pub to_is : IsBound group context to w target
  pub target_free : target.map ≡ None
  pub target_range : write + size ≤ target.size
  pub apart : r ≡ w → (read + size ≤ write) ⊎ (write + size ≤ read)

pub copies_of : (group : GroupState) (context : Context) (from to : BufferTarget) (r w read write size : ℕ) → CopyRange group context from to read write size → buffer_binding context from ≡ Some r → buffer_binding context to ≡ Some w →
    Copies group context from to r w read write size
copies_of group context from to r w read write size range r_is w_is =
    let inner = range.holds.2 in
    let one : Some range.b ≡ Some r = sym range.is_bound.bound ∙ r_is in
    let r_same : range.b ≡ r = cc in
    let two : Some inner.b ≡ Some w = sym inner.is_bound.bound ∙ w_is in
    let w_same : inner.b ≡ w = cc in
    record {
      source = range.facts;
      from_is = record { bound = r_is; is = ap (λ k. entry k group.buffers) (sym r_same) ∙ range.is_bound.is };
      source_free = range.holds.0;
      source_range = range.holds.1;
      target = inner.facts;
      to_is = record { bound = w_is; is = ap (λ k. entry k group.buffers) (sym w_same) ∙ inner.is_bound.is };
      target_free = inner.holds.0;
      target_range = inner.holds.1;
      apart = λ same. inner.holds.2 (r_same ∙ same ∙ sym w_same);
    }

-- both have stores
pub copy_may : (c : CoreParts) (s : Link) (group : GroupState) (thread : ℕ) (asked : Call) (context : Context) (from to : BufferTarget) (r w read write size : ℕ) → MayCall (face c) s group thread asked →
    Copies group context from to r w read write size → 0 < size → MayCopy (face c) r read w write size
copy_may c s group thread asked context from to r w read write size may copies some = record {
  source = (copies.source.size, has_store c r copies.source.size (omega (arith, some, copies.source_range)) (store_is c s group thread r asked copies.source may copies.from_is.is), copies.source_range);
  target = (copies.target.size, has_store c w copies.target.size (omega (arith, some, copies.target_range)) (store_is c s group thread w asked copies.target may copies.to_is.is), copies.target_range);
  apart = copies.apart;
}

pub may_copy_as : (f : Face) (r w read read' write write' size size' : ℕ) → read ≡ read' → write ≡ write' → size ≡ size' → MayCopy f r read w write size → MayCopy f r read' w write' size'
may_copy_as f r w read read' write write' size size' reads writes sizes may =
    subst (λ k. MayCopy f r k w write' size') reads (subst (λ k. MayCopy f r read w k size') writes (subst (λ k. MayCopy f r read w write k) sizes may))

-- What a copy comes to

-- a buffer that is not mapped is another one than each that is
not_mapped : (group : GroupState) (b w : ℕ) (facts : BufferFacts) → IsMapped group b → entry w group.buffers ≡ Some facts → facts.map ≡ None → Buffer b ≢ Buffer w
not_mapped group b w facts mapped is none same =
    let number : b ≡ w = cc in
    let one : Some mapped.facts ≡ Some facts = sym mapped.is ∙ ap (λ k. entry k group.buffers) number ∙ is in
    let facts_are : mapped.facts ≡ facts = cc in
    let clash : Some mapped.mapped ≡ None = sym mapped.map ∙ ap (λ (x : BufferFacts). x.map) facts_are ∙ none in
    let bad : ⊥ = cc in bad

-- each mapped buffer stays quiet
pub quiet_still : (f : Face) (s : Link) (group : GroupState) (thread : ℕ) (asked : Call) (context : Context) (from to : BufferTarget) (r w read write size : ℕ) → MayCall f s group thread asked →
    Copies group context from to r w read write size → (b : ℕ) → IsMapped group b → IsQuietBut f s (Buffer w) (Buffer b) × (Buffer b ≢ Buffer r)
quiet_still f s group thread asked context from to r w read write size may copies b mapped =
    ((may.backs.maps b mapped, not_mapped group b w copies.target mapped copies.to_is.is copies.target_free), not_mapped group b r copies.source mapped copies.from_is.is copies.source_free)

-- a range of one buffer was copied to a range of another
abbrev pub Copied : Face → Face → Link → Link → ℕ → ℕ → ℕ → ℕ → ℕ → Type 0
Copied f g s t r read w write size = Moved g t (put_object (view f s) (Buffer w) (with_copy (view f s (Buffer w)) write size (view f s (Buffer r)) read)) (outline_at f) (λ o. IsQuietBut f s (Buffer w) o × (o ≢ Buffer r))

pub copied_as : (f g : Face) (s t : Link) (r w read read' write write' size size' : ℕ) → read ≡ read' → write ≡ write' → size ≡ size' → Copied f g s t r read w write size → Copied f g s t r read' w write' size'
copied_as f g s t r w read read' write write' size size' reads writes sizes copied =
    subst (λ k. Copied f g s t r k w write' size') reads (subst (λ k. Copied f g s t r read w k size') writes (subst (λ k. Copied f g s t r read w write k) sizes copied))

with_no_copy : (old : ℕ → ℕ) (at size : ℕ) (source : ℕ → ℕ) (from : ℕ) → size ≡ 0 → with_copy old at size source from ≡ old
with_no_copy old at size source from none = fun_ext (λ i. let e : in_range at size i ≡ false = rw none (grind arith) in rw e refl)

pub copied_nothing : (f : Face) (s : Link) (r w read write size : ℕ) → size ≡ 0 → Holds f no_hands s → Copied f f s s r read w write size
copied_nothing f s r w read write size none holds = record {
  holds = holds;
  view_is = sym (put_object-same_value (view f s) (Buffer w) (with_copy (view f s (Buffer w)) write size (view f s (Buffer r)) read) (sym (with_no_copy (view f s (Buffer w)) write size (view f s (Buffer r)) read none)));
  outlines_are = refl;
  still = λ o stays. stays.0.0;
}

-- What a map comes to

-- the bound buffer is not mapped and has the range, which is not empty
abbrev pub MapRange : GroupState → Context → BufferTarget → ℕ → ℕ → Type 0
MapRange group context target at len = HasBound group context target (λ b facts. (facts.map ≡ None) × (1 ≤ len) × (at + len ≤ facts.size))

abbrev pub MapsInRange : Type 0
MapsInRange = (state : GroupModel) (thread : ℕ) (context : Context) (target : BufferTarget) (offset len : ℤ) (access : AccessWord) →
    IsAccepted state thread (call.MapBufferRange target offset len access) context → MapRange state.group context target (unsigned_abs offset) (unsigned_abs len)

pub map_range : MapsInRange → (f : Face) (s : Link) (group : GroupState) (thread : ℕ) (target : BufferTarget) (offset len : ℤ) (access : AccessWord) → MayCall f s group thread (call.MapBufferRange target offset len access) →
    (context : Context) × (current_context group thread ≡ Some context) × MapRange group context target (unsigned_abs offset) (unsigned_abs len)
map_range in_range f s group thread target offset len access may =
    let asked = call.MapBufferRange target offset len access in
    let known = context_of group thread asked may.accepted in (
      known.0,
      known.1,
      subst (λ (x : GroupState). MapRange x known.0 target (unsigned_abs offset) (unsigned_abs len)) may.is.group_is
          (in_range may.model thread known.0 target offset len access (accepted_of f s group thread asked known.0 may known.1 may.model may.is)),
    )

-- the bound buffer by its number
pub named_is : (group : GroupState) (context : Context) (target : BufferTarget) (b at len : ℕ) (has : MapRange group context target at len) → buffer_binding context target ≡ Some b → IsBound group context target b has.facts
named_is group context target b at len has b_is =
    let one : Some has.b ≡ Some b = sym has.is_bound.bound ∙ b_is in
    let same : has.b ≡ b = cc in
    record { bound = b_is; is = ap (λ k. entry k group.buffers) (sym same) ∙ has.is_bound.is }

-- a buffer's facts with a map
abbrev pub with_map : ℤ → ℤ → AccessWord → BufferFacts → BufferFacts
with_map offset len access facts = record facts { map = Some (record { at = unsigned_abs offset; len = unsigned_abs len; access = access }) }

-- each object is to have the store that it had
kinds_mapped : (state : GroupModel) (thread b : ℕ) (context : Context) (facts : BufferFacts) (target : BufferTarget) (offset len : ℤ) (access : AccessWord) → IsAccepted state thread (call.MapBufferRange target offset len access) context →
    IsBound state.group context target b facts → group_effect state.group thread (call.MapBufferRange target offset len access) ≡ swept (record state.group { buffers = with_entry b (with_map offset len access facts) state.group.buffers }) →
    (o : Object) → kind_wanted (group_effect state.group thread (call.MapBufferRange target offset len access)) o ≡ kind_wanted state.group o
kinds_mapped state thread b context facts target offset len access accepted bound group_is (Buffer c) =
    ap (option_and_then (λ (f : BufferFacts). buffer_kind f.size)) (changed_entry (with_map offset len access) c accepted bound group_is) ∙ by_key (c == b) refl
  where
    by_key : (t : Bool) → (c == b) ≡ t → option_and_then (λ (f : BufferFacts). buffer_kind f.size) (cond t (Some (with_map offset len access facts)) (entry c state.group.buffers)) ≡ kind_wanted state.group (Buffer c)
    by_key true same = sym (ap (option_and_then (λ (f : BufferFacts). buffer_kind f.size)) (ap (λ k. entry k state.group.buffers) (eqb-true c b same) ∙ bound.is))
    by_key false differs = refl
kinds_mapped state thread b context facts target offset len access accepted bound group_is (Texture t) =
    ap (λ (x : GroupState). kind_wanted x (Texture t)) group_is ∙ ap (λ (x : GroupState). kind_wanted x (Texture t)) accepted.referred
kinds_mapped state thread b context facts target offset len access accepted bound group_is (Renderbuffer r) =
    ap (λ (x : GroupState). kind_wanted x (Renderbuffer r)) group_is ∙ ap (λ (x : GroupState). kind_wanted x (Renderbuffer r)) accepted.referred

-- the laws of a map
abbrev pub KeepsOnMap : Type 0
KeepsOnMap = (state : GroupModel) (thread place : ℕ) (context : Context) (target : BufferTarget) (offset len : ℤ) (access : AccessWord) (seen : Object → ℕ → ℕ) →
    IsAccepted state thread (call.MapBufferRange target offset len access) context → AgreeWith seen (wanted state) →
    AgreeWith seen (wanted (effect state thread (call.MapBufferRange target offset len access) place))

abbrev pub MapsOne : Type 0
MapsOne = (state : GroupModel) (thread b : ℕ) (context : Context) (facts : BufferFacts) (target : BufferTarget) (offset len : ℤ) (access : AccessWord) →
    IsAccepted state thread (call.MapBufferRange target offset len access) context → IsBound state.group context target b facts → (c : ℕ) →
    IsMapped (group_effect state.group thread (call.MapBufferRange target offset len access)) c → IsMapped state.group c ⊎ (c ≡ b)

module _ (keeps : KeepsOnMap) (maps_one : MapsOne) (f g : Face) (s t : Link) (group : GroupState) (thread b : ℕ) (target : BufferTarget) (offset len : ℤ) (access : AccessWord) (context : Context) (facts : BufferFacts)
    (may : MayCall f s group thread (call.MapBufferRange target offset len access)) (current : current_context group thread ≡ Some context) (bound : IsBound group context target b facts) where
  abbrev asked : Call
  asked = call.MapBufferRange target offset len access

  in_model : IsAccepted may.model thread asked context
  in_model = accepted_of f s group thread asked context may current may.model may.is

  bound_in_model : IsBound may.model.group context target b facts
  bound_in_model = bound_of may.model group context target b facts may.is.group_is bound

  kinds_still : (o : Object) → kind_wanted (group_effect group thread asked) o ≡ kind_wanted group o
  kinds_still o = subst (λ (x : GroupState). kind_wanted (group_effect x thread asked) o ≡ kind_wanted x o) may.is.group_is
      (kinds_mapped may.model thread b context facts target offset len access in_model bound_in_model (changed_group (with_map offset len access) in_model bound_in_model refl (λ number. refl)) o)

  mapped_before : (c : ℕ) → IsMapped (group_effect group thread asked) c → IsMapped group c ⊎ (c ≡ b)
  mapped_before = subst (λ (x : GroupState). (c : ℕ) → IsMapped (group_effect x thread asked) c → IsMapped x c ⊎ (c ≡ b)) may.is.group_is
      (maps_one may.model thread b context facts target offset len access in_model bound_in_model)

  -- the buffer that was settled is mapped
  pub carried_mapped : Moved g t (view f s) (outline_at f) (IsQuiet f s) → IsQuiet g t (Buffer b) → IsCarriedOut f g s t group (group_effect group thread asked) thread asked reply.Done
  carried_mapped moved quiet = record {
    backs = record {
      holds = moved.holds;
      kinds = λ o. ap (λ (x : Object → Option Outline). option_map (λ v. v.kind) (x o)) moved.outlines_are ∙ may.backs.kinds o ∙ sym (kinds_still o);
      maps = λ c mapped. by_which c (mapped_before c mapped);
    };
    state = refl;
    agrees = λ state place is agree. subst (λ v. AgreeWith v (wanted (effect state thread asked place))) (sym moved.view_is)
        (keeps state thread place context target offset len access (view f s) (accepted_of f s group thread asked context may current state is) agree);
    answers = λ state is agree. done_answers state thread asked context ((accepted_of f s group thread asked context may current state is).current) refl;
  }
    where
      by_which : (c : ℕ) → IsMapped group c ⊎ (c ≡ b) → IsQuiet g t (Buffer c)
      by_which c (inl mapped) = moved.still (Buffer c) (may.backs.maps c mapped)
      by_which c (inr same) = subst (λ k. IsQuiet g t (Buffer k)) (sym same) quiet
