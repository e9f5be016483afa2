-- Calls that fill buffers.
use Rattle.std.proofs.Common.{arith, ◌≡◌, ◌≢◌, ℕ, ℤ, ◌-◌, ◌<◌, ◌≤◌, ◌⊎◌, inl, inr, true, Option, Some, None, List, refl, sym, ◌∙◌, ap, subst, []}
use Rattle.std.specs.Prelude.{unsigned_abs, length, IfSome, Result, Ok, Err, OnOk}
use Rattle.std.specs.Option.{option_map}
use Rattle.std.proofs.Math.Path.{fun_ext}
use Rattle.std.proofs.lemmas.Bool.{cases_lt}
use Rattle.std.proofs.lemmas.List.{get_or_default}
use Rattle.cells.specs.Contents.{UNDEFINED, cell_at, in_range, undefined_cells}
use Rattle.vk_types.specs.declared.handles.Kind.{Kind}
use Rattle.gl_calls.specs.declared.call.Call.TheVariants as call
use Rattle.gl_calls.specs.declared.payload.Payload.{Payload}
use Rattle.gl_calls.specs.declared.words.BufferTarget.{BufferTarget}
use Rattle.gl_calls.specs.declared.words.Usage.{Usage}
use Rattle.gl_calls.specs.Words.{payload_len, payload_bytes}
use Rattle.tables.specs.Table.{entry}
use Rattle.gl_model.specs.declared.objects.BufferFacts.{BufferFacts}
use Rattle.gl_model.specs.declared.state.GroupState.{GroupState}
use Rattle.gl_model.specs.BufferEffect.{data_cells}
use Rattle.gl_model.specs.GroupModel.{GroupModel}
use Rattle.gl_model.specs.Sizes.{HasSizes, HasItsData}
use Rattle.gl_model.specs.Effect.{store_of}
use Rattle.back_core.specs.Link.{Link}
use Rattle.front_model.specs.declared.object.Object.{Object}
use Rattle.front_model.specs.declared.object.Object.TheVariants.{Buffer}
use Rattle.front_model.specs.Face.{Face, Outline, outline_at, put_object, view}
use Rattle.front_model.specs.Stands.{Moved, IsQuiet, Holds, no_hands}
use Rattle.front_model.specs.Wanted.{buffer_kind, wanted, AgreeWith, IsMapped, with_bytes}
use Rattle.front_model.proofs.Base.{cases_object, put_object-same, put_object-other}
use Rattle.front_model.proofs.AgreeingCells.{cell_at-past, cell_at-cells, length-cells}
use Rattle.front_moves.proofs.StoreLaws.{put_object-same_value}
use Rattle.front_moves.specs.Core.{IsQuietBut, outline_of_size, new_cells}
use Rattle.front_core.specs.Share.{MayCall}
use Rattle.front_core.specs.Filled.{IsFilled}
use Rattle.front_core.proofs.BufferCalls.{with_nothing}

-- what a call's clause says where it went well, and what follows from it
pub on_ok : {T E P Q : Type 0} (r : Result T E) → (P → Q) → OnOk r P → OnOk r Q
on_ok (Ok v) step h = step h
on_ok (Err e) step h = h

-- Bytes in a range

-- no bytes change nothing
pub filled_nothing : (f : Face) (s : Link) (b size at : ℕ) (bytes : List ℕ) → Holds f no_hands s → length bytes ≡ 0 → IsFilled f f s s b size at bytes
filled_nothing f s b size at bytes holds none = record {
  moved = record { holds = holds; view_is = refl; outlines_are = refl; still = λ o quiet. quiet.0 };
  others = λ o other. refl;
  filled = λ p inside. sym (ap (λ (v : ℕ → ℕ). v p) (with_nothing (view f s (Buffer b)) at bytes none));
}

-- bytes that were written in the store that is there
pub filled_by_upload : (f g : Face) (s t : Link) (b size at : ℕ) (bytes : List ℕ) →
    Moved g t (put_object (view f s) (Buffer b) (with_bytes (view f s (Buffer b)) at bytes)) (outline_at f) (IsQuietBut f s (Buffer b)) → IsFilled f g s t b size at bytes
filled_by_upload f g s t b size at bytes moved = record {
  moved = record { holds = moved.holds; view_is = refl; outlines_are = moved.outlines_are; still = moved.still };
  others = λ o other. ap (λ (v : Object → ℕ → ℕ). v o) moved.view_is ∙ put_object-other (view f s) (Buffer b) (with_bytes (view f s (Buffer b)) at bytes) o other;
  filled = λ p inside. ap (λ (v : Object → ℕ → ℕ). v (Buffer b) p) moved.view_is ∙ ap (λ (v : ℕ → ℕ). v p) (put_object-same (view f s) (Buffer b) (with_bytes (view f s (Buffer b)) at bytes));
}

-- the cells of bytes from the first place on
cells_of_all : (old : ℕ → ℕ) (bytes : List ℕ) (p : ℕ) → p < length bytes → cell_at bytes p ≡ with_bytes old 0 bytes p
cells_of_all old bytes p inside =
    let here : in_range 0 (length bytes) p ≡ true = grind (arith, inside) in
    let same : p - 0 ≡ p = omega arith in
    rw (here, same) (get_or_default bytes p UNDEFINED 0 inside)

-- bytes that are the whole of a new store
pub filled_by_store : (f g : Face) (s t : Link) (b size at : ℕ) (bytes : List ℕ) → outline_at f (Buffer b) ≡ outline_of_size size → at ≡ 0 → length bytes ≡ size →
    Moved g t (put_object (view f s) (Buffer b) (new_cells (Some bytes))) (put_object (outline_at f) (Buffer b) (outline_of_size (length bytes))) (IsQuietBut f s (Buffer b)) →
    IsFilled f g s t b size at bytes
filled_by_store f g s t b size at bytes store first all moved = record {
  moved = record {
    holds = moved.holds;
    view_is = refl;
    outlines_are = moved.outlines_are ∙ put_object-same_value (outline_at f) (Buffer b) (outline_of_size (length bytes)) (store ∙ sym (ap outline_of_size all));
    still = moved.still;
  };
  others = λ o other. ap (λ (v : Object → ℕ → ℕ). v o) moved.view_is ∙ put_object-other (view f s) (Buffer b) (cell_at bytes) o other;
  filled = λ p inside. ap (λ (v : Object → ℕ → ℕ). v (Buffer b) p) moved.view_is ∙ ap (λ (v : ℕ → ℕ). v p) (put_object-same (view f s) (Buffer b) (cell_at bytes))
      ∙ cells_of_all (view f s (Buffer b)) bytes p (subst (λ n. p < n) (sym all) inside) ∙ ap (λ n. with_bytes (view f s (Buffer b)) n bytes p) (sym first);
}

-- the same of a place and bytes that are equal
pub filled_as : (f g : Face) (s t : Link) (b size at at' : ℕ) (bytes bytes' : List ℕ) → at ≡ at' → bytes ≡ bytes' → IsFilled f g s t b size at bytes → IsFilled f g s t b size at' bytes'
filled_as f g s t b size at at' bytes bytes' places same filled = subst (λ n. IsFilled f g s t b size n bytes') places (subst (λ xs. IsFilled f g s t b size at xs) same filled)

-- A new store

-- a buffer has a new store of so many bytes, with this data or with none
abbrev pub Renewed : Face → Face → Link → Link → ℕ → ℕ → Option (List ℕ) → Type 0
Renewed f g s t b n bytes = Moved g t (put_object (view f s) (Buffer b) (new_cells bytes)) (put_object (outline_at f) (Buffer b) (outline_of_size n)) (IsQuietBut f s (Buffer b))

-- the same of a size and bytes that are equal
pub renewed_as : (f g : Face) (s t : Link) (b n m : ℕ) (bytes others : Option (List ℕ)) → bytes ≡ others → n ≡ m → Renewed f g s t b n bytes → Renewed f g s t b m others
renewed_as f g s t b n m bytes others same sizes moved = subst (λ k. Renewed f g s t b k others) sizes (subst (λ x. Renewed f g s t b n x) same moved)

-- What is known where a call was accepted

-- the data is as long as the size says
pub data_is_its : (f : Face) (s : Link) (group : GroupState) (thread : ℕ) (target : BufferTarget) (size : ℤ) (usage : Usage) (payload : Option Payload) → MayCall f s group thread (call.BufferData target size usage payload) →
    IfSome payload (λ p. payload_len p ≡ unsigned_abs size)
data_is_its f s group thread target size usage payload may = by_payload payload may.its_data
  where
    by_payload : (o : Option Payload) → HasItsData (call.BufferData target size usage o) → IfSome o (λ p. payload_len p ≡ unsigned_abs size)
    by_payload None its = tt
    by_payload (Some p) its = its

pub some_data : (o : Option Payload) (p : Payload) (n : ℕ) → o ≡ Some p → IfSome o (λ x. payload_len x ≡ n) → payload_len p ≡ n
some_data o p n is has = subst (λ (x : Option Payload). IfSome x (λ y. payload_len y ≡ n)) is has

-- What the objects are to have after new data

-- a new store has the kind of its size
kind_of_size : (n : ℕ) → option_map (λ (v : Outline). v.kind) (outline_of_size n) ≡ buffer_kind n
kind_of_size n = by_kind (buffer_kind n)
  where
    by_kind : (k : Option Kind) → option_map (λ (v : Outline). v.kind) (option_map (λ x. record { kind = x; waiting = [] }) k) ≡ k
    by_kind None = refl
    by_kind (Some k) = refl

-- the buffer has the kind of its new size, and each other object has the kind that it had
pub kinds_with_data : (f : Face) (kinds : Object → Option Kind) (b n : ℕ) → ((o : Object) → option_map (λ v. v.kind) (outline_at f o) ≡ kinds o) → (o : Object) →
    option_map (λ v. v.kind) (put_object (outline_at f) (Buffer b) (outline_of_size n) o) ≡ put_object kinds (Buffer b) (buffer_kind n) o
kinds_with_data f kinds b n same o = by_object (cases_object o (Buffer b))
  where
    by_object : (o ≡ Buffer b) ⊎ (o ≢ Buffer b) → option_map (λ v. v.kind) (put_object (outline_at f) (Buffer b) (outline_of_size n) o) ≡ put_object kinds (Buffer b) (buffer_kind n) o
    by_object (inl is) = subst (λ (q : Object). option_map (λ v. v.kind) (put_object (outline_at f) (Buffer b) (outline_of_size n) q) ≡ put_object kinds (Buffer b) (buffer_kind n) q) (sym is)
        (ap (option_map (λ v. v.kind)) (put_object-same (outline_at f) (Buffer b) (outline_of_size n)) ∙ kind_of_size n ∙ sym (put_object-same kinds (Buffer b) (buffer_kind n)))
    by_object (inr other) = ap (option_map (λ v. v.kind)) (put_object-other (outline_at f) (Buffer b) (outline_of_size n) o other) ∙ same o ∙ sym (put_object-other kinds (Buffer b) (buffer_kind n) o other)

-- a cell that is not defined is not defined past the end either
no_cells : (n p : ℕ) → cell_at (undefined_cells n) p ≡ UNDEFINED
no_cells n p = by_side (cases_lt p n)
  where
    by_side : (p < n) ⊎ (n ≤ p) → cell_at (undefined_cells n) p ≡ UNDEFINED
    by_side (inl low) = cell_at-cells n (λ _. UNDEFINED) p low
    by_side (inr past) = cell_at-past (undefined_cells n) p (rw (length-cells n (λ _. UNDEFINED)) past)

-- the cells of a new store are those that the buffer is to hold
pub cells_of_data : (n p : ℕ) (payload : Option Payload) → cell_at (data_cells n payload) p ≡ new_cells (option_map payload_bytes payload) p
cells_of_data n p None = no_cells n p
cells_of_data n p (Some payload) = refl

-- a buffer that stays mapped is quiet still
pub maps_with_data : (f g : Face) (s t : Link) (b : ℕ) (before after : GroupState) → ((c : ℕ) → IsMapped before c → IsQuiet f s (Buffer c)) → ((o : Object) → IsQuietBut f s (Buffer b) o → IsQuiet g t o) →
    ((c : ℕ) → IsMapped after c → IsMapped before c × (c ≢ b)) → (c : ℕ) → IsMapped after c → IsQuiet g t (Buffer c)
maps_with_data f g s t b before after quiet still unmapped c mapped =
    let was = unmapped c mapped in
    still (Buffer c) (quiet c was.0, λ same. was.1 (number same))
  where
    number : Buffer c ≡ Buffer b → c ≡ b
    number same = cc

-- a mapped buffer is not one without a map
pub unmapped_is_other : (group : GroupState) (b c : ℕ) (facts : BufferFacts) → entry b group.buffers ≡ Some facts → facts.map ≡ None → IsMapped group c → Buffer c ≢ Buffer b
unmapped_is_other group b c facts is none mapped same =
    let number : c ≡ b = cc in
    let two : Some mapped.facts ≡ Some facts = sym mapped.is ∙ ap (λ k. entry k group.buffers) number ∙ is in
    let facts_are : mapped.facts ≡ facts = cc in
    let bad : Some mapped.mapped ≡ None = sym mapped.map ∙ ap (λ (x : BufferFacts). x.map) facts_are ∙ none in
    cc

-- What agrees after new data

pub agrees_with_data : (f g : Face) (s t : Link) (b n : ℕ) (payload : Option Payload) (right : Object → ℕ → ℕ) → view g t ≡ put_object (view f s) (Buffer b) (new_cells (option_map payload_bytes payload)) →
    AgreeWith (put_object (view f s) (Buffer b) (cell_at (data_cells n payload))) right → AgreeWith (view g t) right
agrees_with_data f g s t b n payload right is agree =
    subst (λ v. AgreeWith v right) (ap (put_object (view f s) (Buffer b)) (fun_ext (λ p. cells_of_data n p payload)) ∙ sym is) agree

-- What agrees after bytes in a range: places past the end of the buffer are to have nothing.
pub agrees_filled : (f g : Face) (s t : Link) (b at : ℕ) (bytes : List ℕ) (facts : BufferFacts) (state : GroupModel) → IsFilled f g s t b facts.size at bytes → HasSizes state → entry b state.group.buffers ≡ Some facts →
    AgreeWith (put_object (view f s) (Buffer b) (with_bytes (view f s (Buffer b)) at bytes)) (wanted state) → AgreeWith (view g t) (wanted state)
agrees_filled f g s t b at bytes facts state filled sizes is agree = λ o p below. by_object o p below (cases_object o (Buffer b)) (cases_lt p facts.size)
  where
    by_object : (o : Object) (p : ℕ) → wanted state o p < 256 → (o ≡ Buffer b) ⊎ (o ≢ Buffer b) → (p < facts.size) ⊎ (facts.size ≤ p) → view g t o p ≡ wanted state o p
    by_object o p below (inr other) side =
        ap (λ (v : ℕ → ℕ). v p) (filled.others o other ∙ sym (put_object-other (view f s) (Buffer b) (with_bytes (view f s (Buffer b)) at bytes) o other)) ∙ agree o p below
    by_object o p below (inl same) (inl inside) =
        ap (λ (q : Object). view g t q p) same ∙ filled.filled p inside
        ∙ sym (ap (λ (v : ℕ → ℕ). v p) (put_object-same (view f s) (Buffer b) (with_bytes (view f s (Buffer b)) at bytes)))
        ∙ sym (ap (λ (q : Object). put_object (view f s) (Buffer b) (with_bytes (view f s (Buffer b)) at bytes) q p) same)
        ∙ agree o p below
    by_object o p below (inl same) (inr past) =
        let none : cell_at (store_of state b).cells p ≡ 256 = cell_at-past (store_of state b).cells p (subst (λ n. n ≤ p) (sym (sizes.stores b facts is).cells) past) in
        let high : wanted state o p ≡ 256 = ap (λ (q : Object). wanted state q p) same ∙ none in
        absurd (omega (arith, high, below))
