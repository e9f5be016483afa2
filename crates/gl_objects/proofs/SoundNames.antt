-- A table stays sound as a name loses its object, or gets a new one.
use Rattle.std.proofs.Common.{◌≡◌, ◌≢◌, ◌⊎◌, ℕ, ◌+◌, ◌<◌, false, List, Option, Some, None, set, refl, sym, ap, ◌∙◌, inl, inr, arith}
use Rattle.std.specs.Option.{option_and_then, option_map_or}
use Rattle.std.proofs.lemmas.Bool.{cases_eq}
use Rattle.tables.specs.Table.{Entries, entry}
use Rattle.gl_objects.specs.declared.ids.ObjectId.{ObjectId}
use Rattle.gl_objects.specs.declared.object.Object.{Object}
use Rattle.gl_objects.specs.Ids.{number_of, key_of}
use Rattle.gl_objects.specs.Names.{Sets}
use Rattle.gl_objects.specs.Objects.{object_at, is_unreferenced, if_referenced, without_name, named_object, changed, Puts, IsSound}
use Rattle.gl_objects.proofs.Sound.{Puts-set, within, slot_cases, kept_is, existing_named}

-- an object before a name was taken
record HadName (objects : List (Option Object)) (key j : ℕ) (x : Object) : Type 0 where
  before : Object
  stood : object_at objects j ≡ Some before
  number : x.number ≡ before.number
  name : ((j ≢ key) × (x.name ≡ before.name)) ⊎ (x.name ≡ None)
  refers : is_unreferenced x ≡ false

module _ (names after : Entries (Option ObjectId)) (made : ℕ) (old : List (Option Object)) (name : ℕ)
    (sound : IsSound names made old) (sets : Sets names after name None) where
  -- the other names have what they had
  kept_name : (other : ℕ) (id : ObjectId) → entry other after ≡ Some (Some id) → (other ≢ name) × (entry other names ≡ Some (Some id))
  kept_name other id has =
      elim (cases_eq other name) [
        | inl same ↦ absurd (cc (ap (λ n. entry n after) same, sets.here, has))
        | inr differs ↦ (differs, sym (sets.others other differs) ∙ has)
      ]

  -- the name had no object
  pub IsSound-no_object : ((id : ObjectId) → entry name names ≡ Some (Some id) → ⊥) → IsSound after made old
  IsSound-no_object none = record {
    earlier = sound.earlier;
    apart = sound.apart;
    referenced = sound.referenced;
    named = λ other id has. sound.named other id (kept_name other id has).1;
    listed = λ j o other found called.
        let was = sound.listed j o other found called in
        elim (cases_eq other name) [
          | inl same ↦ absurd (none was.0 (ap (λ n. entry n names) (sym same) ∙ was.1))
          | inr differs ↦ (was.0, sets.others other differs ∙ was.1, was.2)
        ];
  }

  module _ (id : ObjectId) (holds : ℕ) (new : List (Option Object)) (had : entry name names ≡ Some (Some id))
      (stands : object_at old (key_of id) ≡ Some (named_object id name holds))
      (puts : Puts old new (key_of id) (if_referenced (without_name (named_object id name holds)))) where
    had_name : (j : ℕ) (x : Object) → object_at new j ≡ Some x → HadName old (key_of id) j x
    had_name j x found =
        elim (slot_cases old new (key_of id) _ puts j x found) [
          | inl here ↦
              let kept = kept_is (without_name (named_object id name holds)) x _ refl here.1 in
              record { before = named_object id name holds; stood = ap (object_at old) here.0 ∙ stands; number = sym (ap (λ y. y.number) kept.0); name = inr (sym (ap (λ y. y.name) kept.0)); refers = kept.1 }
          | inr there ↦ record { before = x; stood = there.1; number = refl; name = inl (there.0, refl); refers = sound.referenced j x there.1 }
        ]

    named_others : (other : ℕ) (next : ObjectId) → entry other after ≡ Some (Some next) → (h : ℕ) × (object_at new (key_of next) ≡ Some (named_object next other h))
    named_others other next has =
        let kept = kept_name other next has in
        let was = sound.named other next kept.1 in
        elim (cases_eq (key_of next) (key_of id)) [
          | inl same ↦
              let both : named_object next other was.0 ≡ named_object id name holds = cc (was.1, ap (object_at old) same, stands) in
              let same_name : other ≡ name = cc (ap (λ (o : Object). o.name) both) in
              absurd (kept.0 same_name)
          | inr differs ↦ (was.0, puts.others (key_of next) differs ∙ was.1)
        ]

    listed_others : (j : ℕ) (x : Object) (other : ℕ) → object_at new j ≡ Some x → x.name ≡ Some other → (next : ObjectId) × (entry other after ≡ Some (Some next)) × (key_of next ≡ j)
    listed_others j x other found called =
        let was = had_name j x found in
        elim was.name [
          | inl kept ↦
              let listed = sound.listed j was.before other was.stood (sym kept.1 ∙ called) in
              elim (cases_eq other name) [
                | inl same ↦
                    let one : listed.0 ≡ id = cc (listed.1, ap (λ n. entry n names) same, had) in
                    absurd (kept.0 (sym listed.2 ∙ ap key_of one))
                | inr differs ↦ (listed.0, sets.others other differs ∙ listed.1, listed.2)
              ]
          | inr nameless ↦ absurd (cc (nameless, called))
        ]

    pub IsSound-lost_name : IsSound after made new
    IsSound-lost_name = record {
      earlier = λ j x found. let was = had_name j x found in rw was.number (sound.earlier j was.before was.stood);
      apart = λ j k a b at_j at_k same.
          let was_a = had_name j a at_j in
          let was_b = had_name k b at_k in
          sound.apart j k was_a.before was_b.before was_a.stood was_b.stood (sym was_a.number ∙ same ∙ was_b.number);
      referenced = λ j x found. (had_name j x found).refers;
      named = named_others;
      listed = listed_others;
    }

-- what a name's object was, by cases
no_object : {X : Type 0} (o : Option (Option X)) → option_and_then (λ x. x) o ≡ None → (id : X) → o ≡ Some (Some id) → ⊥
no_object o none id has = cc (ap (option_and_then (λ x. x)) has)

an_object : {X : Type 0} (o : Option (Option X)) (id : X) → option_and_then (λ x. x) o ≡ Some id → o ≡ Some (Some id)
an_object None id has = absurd (cc)
an_object (Some None) id has = absurd (cc)
an_object (Some (Some x)) id has = ap Some has

pub IsSound-deleted : (names after : Entries (Option ObjectId)) (made : ℕ) (old new : List (Option Object)) (name : ℕ) (object : Option ObjectId) → IsSound names made old → Sets names after name None → object ≡ option_and_then (λ x. x) (entry name names) → new ≡ option_map_or (λ id. changed old id without_name) object old → IsSound after made new
IsSound-deleted names after made old new name None sound sets was written =
    rw written (IsSound-no_object names after made old name sound sets (no_object (entry name names) (sym was)))
IsSound-deleted names after made old new name (Some id) sound sets was written =
    let had = an_object (entry name names) id (sym was) in
    let named = sound.named name id had in
    let there = existing_named old id name named.0 named.1 in
    let puts = Puts-set old (key_of id) (if_referenced (without_name (named_object id name named.0))) (within old (key_of id) _ named.1) in
    let is_set : new ≡ set old (key_of id) (if_referenced (without_name (named_object id name named.0))) =
    written ∙ ap (λ o. option_map_or (λ (x : Object). set old (key_of id) (if_referenced (without_name x))) o old) there in
    rw is_set (IsSound-lost_name names after made old name sound sets id named.0 _ had named.1 puts)

module _ (names after : Entries (Option ObjectId)) (made : ℕ) (old new : List (Option Object)) (name : ℕ) (id : ObjectId)
    (sound : IsSound names made old) (sets : Sets names after name (Some (Some id))) (number : number_of id ≡ made)
    (none : (next : ObjectId) → entry name names ≡ Some (Some next) → ⊥)
    (vacant : object_at old (key_of id) ≡ None) (puts : Puts old new (key_of id) (Some (named_object id name 0))) where
  made_or_old : (j : ℕ) (x : Object) → object_at new j ≡ Some x → ((j ≡ key_of id) × (x ≡ named_object id name 0)) ⊎ ((j ≢ key_of id) × (object_at old j ≡ Some x))
  made_or_old j x found =
      elim (slot_cases old new (key_of id) _ puts j x found) [
        | inl here ↦ inl (here.0, cc (here.1))
        | inr there ↦ inr there
      ]

  earlier_still : (j : ℕ) (x : Object) → object_at new j ≡ Some x → x.number < made + 1
  earlier_still j x found =
      elim (made_or_old j x found) [
        | inl here ↦ omega (arith, ap (λ (o : Object). o.number) here.1, number)
        | inr there ↦ omega (arith, sound.earlier j x there.1)
      ]

  apart_still : (j k : ℕ) (a b : Object) → object_at new j ≡ Some a → object_at new k ≡ Some b → a.number ≡ b.number → j ≡ k
  apart_still j k a b at_j at_k same =
      elim (made_or_old j a at_j) [
        | inl a_here ↦
            elim (made_or_old k b at_k) [
              | inl b_here ↦ a_here.0 ∙ sym b_here.0
              | inr b_there ↦ absurd (omega (arith, ap (λ (o : Object). o.number) a_here.1, number, sound.earlier k b b_there.1, same))
            ]
        | inr a_there ↦
            elim (made_or_old k b at_k) [
              | inl b_here ↦ absurd (omega (arith, ap (λ (o : Object). o.number) b_here.1, number, sound.earlier j a a_there.1, same))
              | inr b_there ↦ sound.apart j k a b a_there.1 b_there.1 same
            ]
      ]

  referenced_still : (j : ℕ) (x : Object) → object_at new j ≡ Some x → is_unreferenced x ≡ false
  referenced_still j x found =
      elim (made_or_old j x found) [
        | inl here ↦ ap is_unreferenced here.1
        | inr there ↦ sound.referenced j x there.1
      ]

  named_all : (other : ℕ) (next : ObjectId) → entry other after ≡ Some (Some next) → (h : ℕ) × (object_at new (key_of next) ≡ Some (named_object next other h))
  named_all other next has =
      elim (cases_eq other name) [
        | inl same ↦
            let one : id ≡ next = cc (ap (λ n. entry n after) same, sets.here, has) in
            (0, ap (λ i. object_at new (key_of i)) (sym one) ∙ puts.here ∙ ap (λ i. Some (named_object i name 0)) one ∙ ap (λ n. Some (named_object next n 0)) (sym same))
        | inr differs ↦
            let was = sound.named other next (sym (sets.others other differs) ∙ has) in
            let elsewhere : key_of next ≢ key_of id = λ same. cc (was.1, ap (object_at old) same, vacant) in
            (was.0, puts.others (key_of next) elsewhere ∙ was.1)
      ]

  listed_all : (j : ℕ) (x : Object) (other : ℕ) → object_at new j ≡ Some x → x.name ≡ Some other → (next : ObjectId) × (entry other after ≡ Some (Some next)) × (key_of next ≡ j)
  listed_all j x other found called =
      elim (made_or_old j x found) [
        | inl here ↦
            let same : name ≡ other = cc (ap (λ (o : Object). o.name) here.1, called) in
            (id, ap (λ n. entry n after) (sym same) ∙ sets.here, sym here.0)
        | inr there ↦
            let was = sound.listed j x other there.1 called in
            elim (cases_eq other name) [
              | inl same ↦ absurd (none was.0 (ap (λ n. entry n names) (sym same) ∙ was.1))
              | inr differs ↦ (was.0, sets.others other differs ∙ was.1, was.2)
            ]
      ]

  pub IsSound-bound : IsSound after (made + 1) new
  IsSound-bound = record {
    earlier = earlier_still;
    apart = apart_still;
    referenced = referenced_still;
    named = named_all;
    listed = listed_all;
  }
