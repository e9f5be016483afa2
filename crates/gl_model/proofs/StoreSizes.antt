-- What each change of a store does to its size.
use Rattle.std.proofs.Common.{◌≡◌, ℕ, ◌+◌, ◌-◌, ◌≤◌, Bool, true, false, Option, None, List, ◌++◌, length, take, drop, min, IfSome, refl, ap, ◌∙◌, arith, length-append, length-drop, if◌then◌else◌}
use Rattle.std.specs.Option.{option_map_or}
use Rattle.std.proofs.lemmas.List.{length-take}
use Rattle.std.proofs.lemmas.List.FromFn.{length-map-range_with_len}
use Rattle.cells.specs.Contents.{Content, cells, cell_at, UNDEFINED, undefined_cells, overwritten, part}
use Rattle.gl_calls.specs.declared.words.AccessWord.{AccessWord}
use Rattle.gl_calls.specs.declared.payload.Payload.{Payload}
use Rattle.gl_calls.specs.declared.payload.Payload.TheVariants.{Literal, Ramp}
use Rattle.gl_calls.specs.Words.{payload_len, payload_bytes}
use Rattle.gl_model.specs.declared.objects.BufferFacts.{BufferFacts}
use Rattle.gl_model.specs.declared.objects.Mapped.{Mapped}
use Rattle.gl_model.specs.GroupModel.{Store}
use Rattle.gl_model.specs.BufferEffect.{flags, flag_at, store_of_cells, map_cells, written, flushed, closed}
use Rattle.gl_model.specs.Sizes.{HoldsBuffer}

pub length-cells : (n : ℕ) (f : ℕ → ℕ) → length (cells n f) ≡ n
length-cells n f = length-map-range_with_len f 0 n

pub length-flags : (n : ℕ) (f : ℕ → Bool) → length (flags n f) ≡ n
length-flags n f = length-map-range_with_len f 0 n

pub length-payload_bytes : (payload : Payload) → length (payload_bytes payload) ≡ payload_len payload
length-payload_bytes (Literal bytes) = refl
length-payload_bytes (Ramp len start step) = length-map-range_with_len _ 0 len

pub length-overwritten : (old : List ℕ) (at : ℕ) (new : List ℕ) → at + length new ≤ length old → length (overwritten old at new) ≡ length old
length-overwritten old at new inside =
    length-append (take at old ++ new) (drop (at + length new) old)
    ∙ ap (λ n. n + length (drop (at + length new) old)) (length-append (take at old) new)
    ∙ rw (length-take at old, length-drop (at + length new) old) (joined at (length new) (length old) inside)
  where
    joined : (a n m : ℕ) → a + n ≤ m → min a m + n + (m - (a + n)) ≡ m
    joined a n m h = omega arith

-- the cells of a range are no more than asked for
pub length-part : (content : Content) (at len : ℕ) → length (part content at len) ≤ len
length-part content at len = rw (length-take len (drop at content)) (smaller len (length (drop at content)))
  where
    smaller : (a b : ℕ) → min a b ≤ a
    smaller a b = omega arith

-- a store of some cells
pub holds-cells : (content : Content) (f : BufferFacts) → length content ≡ f.size → IfSome f.map (λ m. m.at + m.len ≤ f.size) → HoldsBuffer (store_of_cells content) f
holds-cells content f same inside = record { cells = same; flags = length-flags (length content) (λ _. false) ∙ same; map = inside }

-- the cells of a store changed, and not their number
pub holds-changed : (s : Store) (content : Content) (f : BufferFacts) → HoldsBuffer s f → length content ≡ length s.cells → HoldsBuffer (record s { cells = content }) f
holds-changed s content f holds same = record { cells = same ∙ holds.cells; flags = holds.flags; map = holds.map }

pub length-map_cells : (old : Content) (at len : ℕ) (access : AccessWord) → at + len ≤ length old → length (map_cells old at len access) ≡ length old
length-map_cells old at len access inside = whole access.invalidate_buffer
  where
    ranged : (b : Bool) → length (if b then overwritten old at (undefined_cells len) else old) ≡ length old
    ranged true = length-overwritten old at (undefined_cells len) (rw (length-cells len (λ _. UNDEFINED)) inside)
    ranged false = refl

    whole : (b : Bool) → length (if b then undefined_cells (length old) else (if access.invalidate_range then overwritten old at (undefined_cells len) else old)) ≡ length old
    whole true = length-cells (length old) (λ _. UNDEFINED)
    whole false = ranged access.invalidate_range

pub holds-written : (s : Store) (at : ℕ) (bytes : List ℕ) (f : BufferFacts) → HoldsBuffer s f → at + length bytes ≤ f.size → HoldsBuffer (written s at bytes) f
holds-written s at bytes f holds inside = record {
  cells = length-overwritten s.cells at bytes (rw holds.cells inside) ∙ holds.cells;
  flags = length-flags (length s.cells) _ ∙ holds.cells;
  map = holds.map;
}

pub holds-flushed : (s : Store) (at len : ℕ) (f : BufferFacts) → HoldsBuffer s f → HoldsBuffer (flushed s at len) f
holds-flushed s at len f holds = record { cells = holds.cells; flags = length-flags (length s.cells) _ ∙ holds.cells; map = holds.map }

-- the end of a map
pub holds-closed : (s : Store) (map : Option Mapped) (f : BufferFacts) → HoldsBuffer s f → HoldsBuffer (closed s map) (record f { map = None })
holds-closed s map f holds = by_flush (option_map_or (λ m. m.access.flush_explicit) map false)
  where
    by_flush : (b : Bool) → HoldsBuffer (if b then store_of_cells (cells (length s.cells) (λ i. if flag_at s.waiting i then UNDEFINED else cell_at s.cells i)) else store_of_cells s.cells) (record f { map = None })
    by_flush true = holds-cells _ (record f { map = None }) (length-cells (length s.cells) _ ∙ holds.cells) tt
    by_flush false = holds-cells s.cells (record f { map = None }) holds.cells tt
