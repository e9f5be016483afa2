-- What a handle has in it that was just made.
use mathlib.Core.Path.{fun_ext}
use Rattle.std.proofs.Common.{◌≡◌, ℕ, ◌-◌, ◌<◌, ◌≤◌, List, [], ◌∷◌, length, get_or, true, false, cond, refl, sym, ◌∙◌, ap, arith, inl, inr}
use Rattle.std.specs.Prelude.{◌⊎◌, All}
use Rattle.std.proofs.lemmas.Bool.{cases_lt, or_from}
use Rattle.std.proofs.lemmas.Bool.Decides.{nat_tests}
use Rattle.std.proofs.lemmas.List.{get_or_default, get_or_past}
use Rattle.std.proofs.lemmas.List.Elements.{All-head, All-tail}
use Rattle.cells.specs.Contents.{UNDEFINED, cell_at}
use Rattle.vk_types.specs.declared.handles.Kind.{Kind}
use Rattle.vk_types.specs.Touches.{the_end}
use Rattle.vk_model.specs.Cells.{Contents}
use Rattle.vk_model.specs.Log.{HostWrite}
use Rattle.vk_model.specs.Meaning.{nothing, after_all, eval}
use Rattle.vk_model.proofs.Order.{after_all-append, after_untouched}
use Rattle.back_core.specs.Own.{Own, HostWrote, Enqueued, HostRead, log_by, log_of, own_touches}
use Rattle.back_core.specs.Link.{Link, kinds_of, created, wrote}
use Rattle.back_core.specs.Needs.{IsFresh}
use Rattle.front_model.specs.Face.{Face, indexes_of, in_order, recorded, nodes_touch}
use Rattle.front_model.specs.Stands.{Hands, Holds}
use Rattle.front_model.proofs.Contents.{none_touches, nodes_leave, all_leave_unmade}
use Rattle.front_model.proofs.Updates.{in_part}
use Rattle.front_model.proofs.LinkViews.{then_pending, wrote_cell}

-- an item leaves what it does not touch
own_leaves : (kinds : ℕ → Kind) (x : Own) (id : ℕ) → own_touches x id ≡ false → (c : Contents) → after_all kinds (log_by x) c id ≡ c id
own_leaves kinds (HostWrote i at bytes) id none c = after_untouched kinds (HostWrite i at bytes) id (or_from _ false none refl) c
own_leaves kinds (Enqueued batch) id none c = nodes_leave kinds batch.nodes id none c
own_leaves kinds (HostRead i at bytes) id none c = refl

mine_leave : (kinds : ℕ → Kind) (mine : List Own) (id : ℕ) → All (λ x. own_touches x id ≡ false) mine → (c : Contents) → after_all kinds (log_of mine) c id ≡ c id
mine_leave kinds [] id none c = refl
mine_leave kinds (x ∷ mine) id none c =
    ap (λ (d : Contents). d id) (after_all-append kinds (log_by x) (log_of mine) c)
    ∙ mine_leave kinds mine id (All-tail (λ x. own_touches x id ≡ false) x mine none) (after_all kinds (log_by x) c)
    ∙ own_leaves kinds x id (All-head (λ x. own_touches x id ≡ false) x mine none) c

-- a handle that was just made
pub blank_shows : (f : Face) (hands : Hands) (s : Link) (id : ℕ) (kind : Kind) → Holds f hands s → IsFresh s id → recorded f (created s id kind) id ≡ (λ p. UNDEFINED)
blank_shows f hands s id kind h fresh =
    let t : Link = created s id kind in
    let apart : (index : ℕ) → nodes_touch (f.pending index) id ≡ false = λ index. all_leave_unmade s.kinds id fresh.not_made (f.pending index) (h.fits index) in
    ap (λ (c : Contents). c id) (then_pending (kinds_of t) (log_of s.mine) (in_order f))
    ∙ nodes_leave (kinds_of t) (in_order f) id (none_touches f.pending (indexes_of f.group) id apart) (eval (kinds_of t) (log_of s.mine))
    ∙ mine_leave (kinds_of t) s.mine id fresh.untouched nothing

-- and what the host writes to its start
pub filled_shows : (f : Face) (hands : Hands) (s : Link) (id : ℕ) (bytes : List ℕ) → Holds f hands s → ((index : ℕ) → nodes_touch (f.pending index) id ≡ false) → length bytes ≤ the_end → recorded f s id ≡ (λ p. UNDEFINED) →
    recorded f (wrote s id 0 bytes) id ≡ cell_at bytes
filled_shows f hands s id bytes h apart few blank = fun_ext (λ i.
    wrote_cell f hands s h id 0 bytes apart (omega (arith, few)) i
    ∙ ap (λ (c : ℕ → ℕ). cond (in_part 0 (length bytes) i) (get_or bytes (i - 0) 0) (c i)) blank
    ∙ go i (cases_lt i (length bytes)))
  where
    go : (i : ℕ) → (i < length bytes) ⊎ (length bytes ≤ i) → cond (in_part 0 (length bytes) i) (get_or bytes (i - 0) 0) UNDEFINED ≡ cell_at bytes i
    go i (inl lt) =
        let here : in_part 0 (length bytes) i ≡ true = grind (arith, nat_tests) in
        let at : i - 0 ≡ i = omega arith in
        ap (λ b. cond b (get_or bytes (i - 0) 0) UNDEFINED) here ∙ ap (λ j. get_or bytes j 0) at ∙ get_or_default bytes i 0 UNDEFINED lt
    go i (inr le) =
        let past : in_part 0 (length bytes) i ≡ false = grind (arith, nat_tests) in
        ap (λ b. cond b (get_or bytes (i - 0) 0) UNDEFINED) past ∙ sym (get_or_past bytes i UNDEFINED le)
