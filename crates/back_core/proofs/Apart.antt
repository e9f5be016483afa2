-- What share groups over one back leave to each other.
use Rattle.std.proofs.Common.{◌≡◌, ◌≢◌, ℕ, ◌≤◌, ◌==◌, Bool, true, false, cond, not, List, [], ◌∷◌, ◌++◌, refl, sym, ap, ◌∙◌, subst, arith}
use Rattle.std.specs.Prelude.{◌/◌, All, Some, None}
use Rattle.std.specs.List.{filter, fold}
use Rattle.std.proofs.lemmas.Bool.{eqb-true, ne_eqb, false≢true, cases_Bool, cond-true, cond-false}
use Rattle.std.specs.Prelude.{◌⊎◌}
use Rattle.std.proofs.Common.{inl, inr}
use Rattle.std.proofs.lemmas.List.{append-nil, append_assoc}
use Rattle.std.proofs.lemmas.List.Elements.{All-head, All-tail}
use Rattle.back_core.specs.declared.back_event.BackEvent.{BackEvent}
use Rattle.back_core.specs.declared.back_event.BackEvent.TheVariants.{Created, Wrote, Enqueued, Submitted, Ran, Retired, Fetched, Gave, Abandoned, Cleaned, Closing, Stopped}
use Rattle.back_core.specs.Link.{Link}
use Rattle.back_core.specs.Answers.{Learns}
use Rattle.back_core.specs.History.{opening, if_own, link_after, own_part, link_of, completed, is_own, own_events}
use Rattle.back_core.specs.Frame.{IsPartOf, GoesOn}
use Rattle.back_core.proofs.Sees.{part_then, group_of, after_keeps}
use Rattle.back_core.proofs.Lives.{completed_rises}

-- An event that is not of a group's own calls

not_own : (g group : ℕ) (l new : Link) → l.group ≡ g → (group == g) ≡ false → if_own l group new ≡ l
not_own g group l new is out = cond-false (group == l.group) new l (subst (λ k. (group == k) ≡ false) (sym is) out)

pub after_others : (g : ℕ) (l : Link) → l.group ≡ g → (e : BackEvent) → is_own g e ≡ false → link_after l e ≡ l
after_others g l is (Created group id kind) out = not_own g group l _ is out
after_others g l is (Wrote group id at bytes) out = not_own g group l _ is out
after_others g l is (Enqueued batch) out = not_own g (batch.index / 8) l _ is out
after_others g l is Submitted out = refl
after_others g l is (Ran batch node) out = refl
after_others g l is (Retired serial) out = refl
after_others g l is (Fetched group id at bytes) out = not_own g group l _ is out
after_others g l is (Gave group id uses) out = not_own g group l _ is out
after_others g l is (Abandoned group id) out = not_own g group l _ is out
after_others g l is (Cleaned read destroyed) out = refl
after_others g l is Closing out = refl
after_others g l is (Stopped stop) out = refl

pub part_others : (h : List BackEvent) (g : ℕ) (e : BackEvent) → is_own g e ≡ false → own_part (h ++ e ∷ []) g ≡ own_part h g
part_others h g e out = part_then h g e ∙ after_others g (own_part h g) (group_of h g) e out

-- a group learns of nothing but completed numbers, where its own part stays
pub learns_from : (h k : List BackEvent) (g : ℕ) → own_part k g ≡ own_part h g → ((index : ℕ) → completed h index ≤ completed k index) → Learns (link_of h g) (link_of k g)
learns_from h k g same rises = record {
  rest = ap (λ (l : Link). record l { done = completed k; now = Some (completed k); asked = None }) same;
  rises = rises;
  told = rises;
  loaded = tt;
}

pub learns_others : (h : List BackEvent) (g : ℕ) (e : BackEvent) → is_own g e ≡ false → Learns (link_of h g) (link_of (h ++ e ∷ []) g)
learns_others h g e out = learns_from h (h ++ e ∷ []) g (part_others h g e out) (completed_rises h e)

-- The calls of another group

not_not : (b : Bool) → not b ≡ false → b ≡ true
not_not true is = refl
not_not false is = absurd (false≢true (sym is))

another : (a b group : ℕ) → a ≢ b → not (group == a) ≡ false → (group == b) ≡ false
another a b group other is = ne_eqb group b (λ here. other (sym (eqb-true group a (not_not (group == a) is)) ∙ here))

-- an event in which a group has a part is not of another group's calls
pub part_of_one : (a b : ℕ) → a ≢ b → (e : BackEvent) → IsPartOf a e → is_own b e ≡ false
part_of_one a b other (Created group id kind) part = another a b group other part
part_of_one a b other (Wrote group id at bytes) part = another a b group other part
part_of_one a b other (Enqueued batch) part = another a b (batch.index / 8) other part
part_of_one a b other Submitted part = refl
part_of_one a b other (Ran batch node) part = refl
part_of_one a b other (Retired serial) part = refl
part_of_one a b other (Fetched group id at bytes) part = another a b group other part
part_of_one a b other (Gave group id uses) part = another a b group other part
part_of_one a b other (Abandoned group id) part = another a b group other part
part_of_one a b other (Cleaned read destroyed) part = refl
part_of_one a b other Closing part = refl
part_of_one a b other (Stopped stop) part = refl

pub parts_of_one : (h more : List BackEvent) (a b : ℕ) → a ≢ b → All (IsPartOf a) more → own_part (h ++ more) b ≡ own_part h b
parts_of_one h [] a b other all = ap (λ l. own_part l b) (append-nil h)
parts_of_one h (e ∷ more) a b other all =
    ap (λ l. own_part l b) (sym (append_assoc h (e ∷ []) more))
    ∙ parts_of_one (h ++ e ∷ []) more a b other (All-tail (IsPartOf a) e more all)
    ∙ part_others h b e (part_of_one a b other e (All-head (IsPartOf a) e more all))

pub completed_later : (h more : List BackEvent) (index : ℕ) → completed h index ≤ completed (h ++ more) index
completed_later h [] index = subst (λ l. completed h index ≤ completed l index) (sym (append-nil h)) (omega arith)
completed_later h (e ∷ more) index =
    subst (λ l. completed h index ≤ completed l index) (append_assoc h (e ∷ []) more) (omega (arith, completed_rises h e index, completed_later (h ++ e ∷ []) more index))

pub own_apart : (h k : List BackEvent) (a b : ℕ) → GoesOn a (Some h) (Some k) → a ≢ b → own_part k b ≡ own_part h b
own_apart h k a b on other = ap (λ l. own_part l b) on.1 ∙ parts_of_one h on.0 a b other on.2

pub completed_on : (h k : List BackEvent) (a : ℕ) → GoesOn a (Some h) (Some k) → (index : ℕ) → completed h index ≤ completed k index
completed_on h k a on index = subst (λ l. completed h index ≤ completed l index) (sym on.1) (completed_later h on.0 index)

pub calls_apart : (h k : List BackEvent) (a b : ℕ) → GoesOn a (Some h) (Some k) → a ≢ b → Learns (link_of h b) (link_of k b)
calls_apart h k a b on other = learns_from h k b (own_apart h k a b on other) (completed_on h k a on)

-- A group's own events

fold_own : (g : ℕ) (l : Link) → l.group ≡ g → (h : List BackEvent) → fold link_after l h ≡ fold link_after l (filter (is_own g) h)
fold_own g l is [] = refl
fold_own g l is (e ∷ h) = go (cases_Bool (is_own g e)) (fold_own g (link_after l e) (after_keeps l e ∙ is) h) (fold_own g l is h)
  where
    go : (is_own g e ≡ true) ⊎ (is_own g e ≡ false) → fold link_after (link_after l e) h ≡ fold link_after (link_after l e) (filter (is_own g) h) → fold link_after l h ≡ fold link_after l (filter (is_own g) h)
        → fold link_after (link_after l e) h ≡ fold link_after l (cond (is_own g e) (e ∷ filter (is_own g) h) (filter (is_own g) h))
    go (inl own) after here = after ∙ ap (fold link_after l) (sym (cond-true (is_own g e) (e ∷ filter (is_own g) h) (filter (is_own g) h) own))
    go (inr out) after here =
        ap (λ m. fold link_after m h) (after_others g l is e out)
        ∙ here
        ∙ ap (fold link_after l) (sym (cond-false (is_own g e) (e ∷ filter (is_own g) h) (filter (is_own g) h) out))

pub own_alone : (h : List BackEvent) (g : ℕ) → own_part h g ≡ own_part (own_events h g) g
own_alone h g = fold_own g (opening g) refl h

pub own_same : (h k : List BackEvent) (g : ℕ) → own_events h g ≡ own_events k g → own_part h g ≡ own_part k g
own_same h k g same = own_alone h g ∙ ap (λ l. own_part l g) same ∙ sym (own_alone k g)
