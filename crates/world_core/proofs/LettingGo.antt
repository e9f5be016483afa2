-- How the fronts are let go, one after the other, and what that leaves.
use Rattle.std.proofs.Common.{◌≡◌, ◌≢◌, ℕ, suc, zero, ◌+◌, ◌≤◌, ◌<◌, Bool, true, false, cond, List, [], ◌∷◌, ◌++◌, length, map, take}
use Rattle.std.proofs.Common.{drop, Some, refl, sym, ap, ◌∙◌, subst, arith, add-one, length-append}
use Rattle.std.specs.Prelude.{slice_get}
use Rattle.std.specs.List.{All, filter}
use Rattle.std.proofs.Math.Seq.{drop-nil}
use Rattle.std.proofs.lemmas.List.{take_more, map-append, append-nil}
use Rattle.std.proofs.lemmas.List.Elements.{All-nil, All-push, filter-append}
use Rattle.std.proofs.lemmas.Option.{get_or_from_slice_get, slice_get_within}
use Rattle.gl_calls.specs.declared.reply.Entry.{Entry}
use Rattle.reply_text.specs.declared.history.GroupHistory.{GroupHistory}
use Rattle.trace_text.specs.Reading.{Plan}
use Rattle.back_core.specs.declared.back_event.BackEvent.{BackEvent}
use Rattle.vk_device.specs.Journal.{kind_of}
use Rattle.back_core.specs.Own.{Own}
use Rattle.back_core.specs.Link.{Link}
use Rattle.back_core.specs.Frame.{AtBack, NoBatch, GoesOn, uploaded, host_bytes}
use Rattle.back_core.specs.Run.{IsRun, journal_of}
use Rattle.back_core.specs.Answers.{Learns}
use Rattle.back_core.specs.History.{link_of}
use Rattle.front_model.specs.Stands.{Owns}
use Rattle.front_model.proofs.Learning.{learned_owns}
use Rattle.front_moves.specs.Core.{face}
use Rattle.front_core.specs.Front.{FrontModel}
use Rattle.world_core.specs.World.{group_numbers, is_declared, declared, history_at, histories_of}
use Rattle.world_core.specs.Inside.{LetsGo, OwnTheirs}
use Rattle.world_core.proofs.Lists.{number_at, history_is}

-- the fronts of the first groups, so many, were let go, and their histories are kept
pub record Letting (threads : List Plan) (all left : List FrontModel) (h k : List BackEvent) (ended : List GroupHistory)
    (count : ℕ) : Type 0 where
  pub rest : left ≡ drop count all
  pub some : length left + count ≡ 8
  pub owns : (group : ℕ) (front : FrontModel) → slice_get all group ≡ Some front → count ≤ group →
      Owns (face front.core).objects (link_of k group)
  pub lets : LetsGo h k
  pub groups : map (λ history. history.group) ended ≡ filter (is_declared threads) (take count group_numbers)
  pub few : length ended ≤ count
  pub entries : All (λ history. history.entries.items ≡ history_at (histories_of all) history.group) ended

pub lets_nothing : (h : List BackEvent) → LetsGo h h
lets_nothing h = record { objects = λ id. refl; written = refl; going = λ on. on }

lets_then : (h i k : List BackEvent) → LetsGo h i → LetsGo i k → LetsGo h k
lets_then h i k a b = record {
  objects = λ id. b.objects id ∙ a.objects id;
  written = b.written
      ∙ a.written;
  going = λ on. b.going (a.going on);
}

pub letting_begins : (threads : List Plan) (fronts : List FrontModel) (h : List BackEvent) (ended : List GroupHistory) →
    length fronts ≡ 8 → OwnTheirs fronts h → ended ≡ [] →
    Letting threads fronts fronts h h ended 0
letting_begins threads fronts h ended eight owns empty = record {
  rest = refl;
  some = omega (arith, eight);
  owns = λ group front at low. owns group front at;
  lets = lets_nothing h;
  groups = ap (map (λ (history : GroupHistory). history.group)) empty;
  few = omega (arith, ap length empty);
  entries = subst (All (λ (history : GroupHistory). history.entries.items ≡ history_at (histories_of fronts) history.group)) (sym empty)
      (All-nil (λ (history : GroupHistory). history.entries.items ≡ history_at (histories_of fronts) history.group));
}

get_drop : {X : Type 0} (xs : List X) (n : ℕ) → slice_get (drop n xs) 0 ≡ slice_get xs n
get_drop [] zero = refl
get_drop [] (suc n) = refl
get_drop (x ∷ xs) zero = refl
get_drop (x ∷ xs) (suc n) = get_drop xs n

drop_next : {X : Type 0} (xs : List X) (n : ℕ) → drop 1 (drop n xs) ≡ drop (suc n) xs
drop_next [] zero = refl
drop_next [] (suc n) = refl
drop_next (x ∷ xs) zero = refl
drop_next (x ∷ xs) (suc n) = drop_next xs n

drop_shorter : {X : Type 0} (xs : List X) (n : ℕ) → length xs + n ≡ 8 → n < 8 → length (drop 1 xs) + (n + 1) ≡ 8
drop_shorter [] n count low = absurd (omega (arith, count, low))
drop_shorter (x ∷ xs) n count low = omega (arith, count)

numbers_more : (count : ℕ) → count < 8 → take (count + 1) group_numbers ≡ take count group_numbers ++ count ∷ []
numbers_more count low =
    take_more group_numbers count count (slice_get_within group_numbers count count (number_at count low))
    ∙ ap (λ (n : ℕ). take count group_numbers ++ n ∷ []) (get_or_from_slice_get group_numbers count count count (number_at count low))

-- the front whose turn it is holds what it has
pub first_owns : (threads : List Plan) (all left : List FrontModel) (h i : List BackEvent) (ended : List GroupHistory) (count : ℕ)
    (front : FrontModel) →
    Letting threads all left h i ended count → slice_get left 0 ≡ Some front → Owns (face front.core).objects (link_of i count)
first_owns threads all left h i ended count front was first =
    was.owns count front (sym (get_drop all count) ∙ ap (λ (l : List FrontModel). slice_get l 0) (sym was.rest) ∙ first) (omega arith)

module _ (threads : List Plan) (all left rest : List FrontModel) (h i k : List BackEvent) (ended now : List GroupHistory) (count : ℕ)
    (front : FrontModel) (history : GroupHistory)
    (was : Letting threads all left h i ended count) (low : count < 8) where
  at_count : slice_get left 0 ≡ Some front → slice_get all count ≡ Some front
  at_count first = sym (get_drop all count) ∙ ap (λ (l : List FrontModel). slice_get l 0) (sym was.rest) ∙ first

  groups_more : (b : Bool) → is_declared threads count ≡ b → history.group ≡ count → now ≡ cond b (ended ++ history ∷ []) ended →
      map (λ (x : GroupHistory). x.group) now ≡ filter (is_declared threads) (take (count + 1) group_numbers)
  groups_more b declared of is =
      ap (map (λ (x : GroupHistory). x.group)) is ∙ by b declared
      ∙ sym (ap (filter (is_declared threads)) (numbers_more count low)
      ∙ filter-append (is_declared threads) (take count group_numbers) (count ∷ []))
    where
      by : (c : Bool) → is_declared threads count ≡ c → map (λ (x : GroupHistory). x.group) (cond c (ended ++ history ∷ []) ended)
          ≡ filter (is_declared threads) (take count group_numbers) ++ filter (is_declared threads) (count ∷ [])
      by true is_declared_here =
          map-append (λ (x : GroupHistory). x.group) ended (history ∷ [])
          ∙ ap (λ (l : List ℕ). l ++ history.group ∷ []) was.groups
          ∙ ap (λ (n : ℕ). filter (is_declared threads) (take count group_numbers) ++ n ∷ []) of
          ∙ ap (λ (c : Bool). filter (is_declared threads) (take count group_numbers) ++ cond c (count ∷ []) []) (sym is_declared_here)
      by false is_none =
          was.groups ∙ sym (append-nil (filter (is_declared threads) (take count group_numbers)))
          ∙ ap (λ (c : Bool). filter (is_declared threads) (take count group_numbers) ++ cond c (count ∷ []) []) (sym is_none)

  few_more : (b : Bool) → now ≡ cond b (ended ++ history ∷ []) ended → length now ≤ count + 1
  few_more true is = let e = ap length is in let f = length-append ended (history ∷ []) in let few = was.few in omega (arith, e, f, few)
  few_more false is = let e = ap length is in let few = was.few in omega (arith, e, few)

  entries_more : (b : Bool) → now ≡ cond b (ended ++ history ∷ []) ended →
      history.entries.items ≡ history_at (histories_of all) history.group →
      All (λ (x : GroupHistory). x.entries.items ≡ history_at (histories_of all) x.group) now
  entries_more b is own = subst (All (λ (x : GroupHistory). x.entries.items ≡ history_at (histories_of all) x.group)) (sym is) (by b)
    where
      by : (c : Bool) → All (λ (x : GroupHistory). x.entries.items ≡ history_at (histories_of all) x.group)
          (cond c (ended ++ history ∷ []) ended)
      by true = All-push (λ (x : GroupHistory). x.entries.items ≡ history_at (histories_of all) x.group) ended history was.entries own
      by false = was.entries

  pub letting_more : slice_get left 0 ≡ Some front → rest ≡ drop 1 left → LetsGo i k →
      ((other : ℕ) → other ≢ count → Learns (link_of i other) (link_of k other)) →
      history.group ≡ count → history.entries.items ≡ front.history → (b : Bool) → is_declared threads count ≡ b →
      now ≡ cond b (ended ++ history ∷ []) ended →
      Letting threads all rest h k now (count + 1)
  letting_more first rest_is lets others of entries b declared is = record {
    rest = rest_is ∙ ap (drop 1) was.rest ∙ drop_next all count ∙ ap (λ (n : ℕ). drop n all) (sym (add-one count));
    some = subst (λ (l : List FrontModel). length l + (count + 1) ≡ 8) (sym rest_is) (drop_shorter left count was.some low);
    owns = λ group f at high. learned_owns (face f.core).objects (link_of i group) (link_of k group)
        (was.owns group f at (omega (arith, high)))
        (others group (λ same. absurd (omega (arith, same, high))));
    lets = lets_then h i k was.lets lets;
    groups = groups_more b declared of is;
    few = few_more b is;
    entries = entries_more b is (entries ∙ sym (ap (history_at (histories_of all)) of ∙ history_is all count front (at_count first)));
  }

-- all were let go
pub all_groups : (threads : List Plan) (all left : List FrontModel) (h k : List BackEvent) (ended : List GroupHistory) (count : ℕ) →
    Letting threads all left h k ended count → count ≡ 8 →
    map (λ history. history.group) ended ≡ declared threads
all_groups threads all left h k ended count letting is = letting.groups
    ∙ ap (λ (n : ℕ). filter (is_declared threads) (take n group_numbers)) is

-- A front let go of what it had

module _ (law : (h : List BackEvent) (g : ℕ) → (link_of h g).group ≡ g) where
  pub let_go_group : (h k : List BackEvent) (g n : ℕ) → AtBack (link_of h g) (link_of k n) (Some h) (Some k) 0 false false NoBatch →
      GoesOn g (Some h) (Some k)
  let_go_group h k g n at_back = subst (λ (m : ℕ). GoesOn m (Some h) (Some k)) (law h g) at_back.goes_on

  pub let_go_lets : ((h k : List BackEvent) (a : ℕ) (gained : List Own) → GoesOn a (Some h) (Some k) →
      (link_of k a).mine ≡ (link_of h a).mine ++ gained →
      host_bytes (journal_of k) ≡ host_bytes (journal_of h) + uploaded gained) →
      ((h k : List BackEvent) (a : ℕ) → IsRun k → GoesOn a (Some h) (Some k) → (link_of k a).kinds ≡ (link_of h a).kinds → (id : ℕ) →
      kind_of (journal_of k) id ≡ kind_of (journal_of h) id) →
      (h k : List BackEvent) (g n : ℕ) (held : ℕ → Bool) → IsRun k → link_of k n ≡ record (link_of h g) { held = held } →
      AtBack (link_of h g) (link_of k n) (Some h) (Some k) 0 false false NoBatch → LetsGo h k
  let_go_lets wrote objects h k g n held run rest at_back =
      let goes = let_go_group h k g n at_back in
      let same : n ≡ g = sym (law k n) ∙ at_back.group ∙ law h g in
      let kinds : (link_of k g).kinds ≡ (link_of h g).kinds = ap (λ (m : ℕ). (link_of k m).kinds) (sym same)
      ∙ ap (λ (l : Link). l.kinds) rest in
      let mine : (link_of k g).mine ≡ (link_of h g).mine ++ at_back.gained = ap (λ (m : ℕ). (link_of k m).mine) (sym same)
      ∙ at_back.grows in
      let bytes = wrote h k g at_back.gained goes mine in
      let few = at_back.uploads in
      record { objects = objects h k g run goes kinds; written = omega (arith, bytes, few); going = at_back.going refl }

-- The last of some fronts is let go

last_at : {X : Type 0} (xs : List X) (x : X) → slice_get (xs ++ x ∷ []) (length xs) ≡ Some x
last_at [] x = refl
last_at (y ∷ xs) x = last_at xs x

front_at : {X : Type 0} (xs : List X) (x y : X) (i : ℕ) → slice_get xs i ≡ Some y → slice_get (xs ++ x ∷ []) i ≡ Some y
front_at [] x y i at = absurd (cc)
front_at (z ∷ xs) x y zero at = at
front_at (z ∷ xs) x y (suc i) at = front_at xs x y i at

pub last_owns : (all rest : List FrontModel) (front : FrontModel) (h : List BackEvent) (n : ℕ) → all ≡ rest ++ front ∷ [] →
    n ≡ length rest → OwnTheirs all h →
    Owns (face front.core).objects (link_of h n)
last_owns all rest front h n is count owns =
    owns n front (ap (λ (l : List FrontModel). slice_get l n) is ∙ ap (slice_get (rest ++ front ∷ [])) count ∙ last_at rest front)

pub rest_own : (all rest : List FrontModel) (front : FrontModel) (h k : List BackEvent) (n : ℕ) → all ≡ rest ++ front ∷ [] →
    n ≡ length rest → OwnTheirs all h →
    ((other : ℕ) → other ≢ n → Learns (link_of h other) (link_of k other)) → OwnTheirs rest k
rest_own all rest front h k n is count owns others group f at =
    let low = slice_get_within rest group f at in
    learned_owns (face f.core).objects (link_of h group) (link_of k group)
    (owns group f (ap (λ (l : List FrontModel). slice_get l group) is ∙ front_at rest front f group at))
    (others group (λ same. absurd (omega (arith, same, count, low))))
