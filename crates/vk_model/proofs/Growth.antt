-- What a log needs to stay sound when an item is added at its end.
use Rattle.std.proofs.Common.{◌≡◌, ℕ, ◌<◌, ◌≤◌, List, [], ◌∷◌, ◌++◌, length, take, sym, ◌∙◌, ap, subst, arith, inl, inr}
use Rattle.std.specs.Prelude.{◌⊎◌, Option, Some, slice_get}
use Rattle.std.proofs.lemmas.Bool.{cases_lt}
use Rattle.std.proofs.lemmas.List.{length-append, take-append-le, take_at}
use Rattle.std.proofs.lemmas.Option.{slice_get_within}
use Rattle.vk_types.specs.declared.ops.Node.{Node}
use Rattle.vk_model.specs.Log.{Item, Command, HasEdge, Reaches, direct, further, ReachesNext, FindsLayouts, IsSound, Conflicts}
use Rattle.vk_model.proofs.Device.{get_front, get_next, reaches_front}

-- Places of a longer log

edge_longer : (log more : List Item) (j k : ℕ) → HasEdge log j k → HasEdge (log ++ more) j k
edge_longer log more j k e = record {
  earlier = e.earlier;
  a = e.a;
  b = e.b;
  a_at = get_front log more j (slice_get_within log j e.a e.a_at) ∙ e.a_at;
  b_at = get_front log more k (slice_get_within log k e.b e.b_at) ∙ e.b_at;
  waits = e.waits;
}

pub reaches_longer : (log more : List Item) {j k : ℕ} → Reaches log j k → Reaches (log ++ more) j k
reaches_longer log more (direct {j = j} {k = k} e) = direct (edge_longer log more j k e)
reaches_longer log more (further {j = j} {m = m} e r) = further (edge_longer log more j m e) (reaches_longer log more r)

pub reaches_then : (log : List Item) {j m k : ℕ} → Reaches log j m → HasEdge log m k → Reaches log j k
reaches_then log (direct e) f = further e (direct f)
reaches_then log (further e r) f = further e (reaches_then log r f)

pub reaches_next : (log : List Item) (j : ℕ) (x : Item) → ReachesNext log j x → Reaches (log ++ x ∷ []) j (length log)
reaches_next log j x r = go r.chain
  where
    edge : HasEdge (log ++ x ∷ []) r.last (length log)
    edge = record {
      earlier = slice_get_within log r.last r.item r.at;
      a = r.item;
      b = x;
      a_at = get_front log (x ∷ []) r.last (slice_get_within log r.last r.item r.at) ∙ r.at;
      b_at = get_next log x [];
      waits = r.waits;
    }

    go : (j ≡ r.last) ⊎ Reaches log j r.last → Reaches (log ++ x ∷ []) j (length log)
    go (inl e) = subst (λ j. Reaches (log ++ x ∷ []) j (length log)) (sym e) (direct edge)
    go (inr chain) = reaches_then (log ++ x ∷ []) (reaches_longer log (x ∷ []) chain) edge

-- the item at a place of a log with one more is an earlier one, or the new one
pub record Last (log : List Item) (x y : Item) (k : ℕ) : Type 0 where
  pub place : k ≡ length log
  pub same : y ≡ x

pub place_cases : (log : List Item) (x y : Item) (k : ℕ) → slice_get (log ++ x ∷ []) k ≡ Some y → ((k < length log) × (slice_get log k ≡ Some y)) ⊎ Last log x y k
place_cases log x y k at = go (cases_lt k (length log))
  where
    within : k < length (log ++ x ∷ [])
    within = slice_get_within (log ++ x ∷ []) k y at

    go : (k < length log) ⊎ (length log ≤ k) → ((k < length log) × (slice_get log k ≡ Some y)) ⊎ Last log x y k
    go (inl lt) = inl (lt, sym (get_front log (x ∷ []) k lt) ∙ at)
    go (inr le) =
        let place : k ≡ length log = omega (arith, within, length-append log (x ∷ [])) in
        let both : ◌≡◌ {A = Option Item} (Some y) (Some x) = sym at ∙ (ap (slice_get (log ++ x ∷ [])) place ∙ get_next log x []) in
        inr (record { place = place; same = cc })

take_front : (log : List Item) (x : Item) (k : ℕ) → k < length log → take k (log ++ x ∷ []) ≡ take k log
take_front log x k lt = take-append-le k log (x ∷ []) (omega arith)

take_whole : (log : List Item) (x : Item) (k : ℕ) → k ≡ length log → take k (log ++ x ∷ []) ≡ log
take_whole log x k e = take_at log (x ∷ []) k (sym e)

-- Sound logs

-- a new item that is reached by all it conflicts with, and finds its layouts
pub sound_next : (log : List Item) (x : Item) → IsSound log →
    ((q : ℕ) (n : Node) → x ≡ Command q n → (j p : ℕ) (a : Node) → slice_get log j ≡ Some (Command p a) → Conflicts a n → ReachesNext log j x) →
    ((q : ℕ) (n : Node) → x ≡ Command q n → FindsLayouts log n) →
    IsSound (log ++ x ∷ [])
sound_next log x sound reached finds = record {
  ordered = λ j k p q a b lt at_j at_k e. ordered j k p q a b lt at_j e (place_cases log x (Command q b) k at_k) (place_cases log x (Command p a) j at_j);
  laid_out = λ k q n at. laid_out k q n (place_cases log x (Command q n) k at);
}
  where
    ordered : (j k p q : ℕ) (a b : Node) → j < k → slice_get (log ++ x ∷ []) j ≡ Some (Command p a) → Conflicts a b →
        ((k < length log) × (slice_get log k ≡ Some (Command q b))) ⊎ Last log x (Command q b) k →
        ((j < length log) × (slice_get log j ≡ Some (Command p a))) ⊎ Last log x (Command p a) j →
        Reaches (log ++ x ∷ []) j k
    ordered j k p q a b lt at_j e (inl here) (inl there) = reaches_longer log (x ∷ []) (sound.ordered j k p q a b lt there.1 here.1 e)
    ordered j k p q a b lt at_j e (inl here) (inr last) = absurd (omega (arith, here.0, last.place))
    ordered j k p q a b lt at_j e (inr last) (inl there) = subst (Reaches (log ++ x ∷ []) j) (sym last.place) (reaches_next log j x (reached q b (sym last.same) j p a there.1 e))
    ordered j k p q a b lt at_j e (inr last) (inr other) = absurd (omega (arith, last.place, other.place))

    laid_out : (k q : ℕ) (n : Node) → ((k < length log) × (slice_get log k ≡ Some (Command q n))) ⊎ Last log x (Command q n) k → FindsLayouts (take k (log ++ x ∷ [])) n
    laid_out k q n (inl here) = subst (λ l. FindsLayouts l n) (sym (take_front log x k here.0)) (sound.laid_out k q n here.1)
    laid_out k q n (inr last) = subst (λ l. FindsLayouts l n) (sym (take_whole log x k last.place)) (finds q n (sym last.same))

-- a beginning of a sound log
pub sound_front : (log more : List Item) → IsSound (log ++ more) → IsSound log
sound_front log more sound = record {
  ordered = λ j k p q a b lt at_j at_k e.
      let below : k < length log = slice_get_within log k (Command q b) at_k in
      reaches_front log more below (sound.ordered j k p q a b lt (get_front log more j (omega (arith, lt, below)) ∙ at_j) (get_front log more k below ∙ at_k) e);
  laid_out = λ k q n at.
      let below : k < length log = slice_get_within log k (Command q n) at in
      subst (λ l. FindsLayouts l n) (take-append-le k log more (omega (arith, below))) (sound.laid_out k q n (get_front log more k below ∙ at));
}
