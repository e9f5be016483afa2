-- Laws of journals.
use Rattle.std.proofs.Common.{◌≡◌, ℕ, ◌+◌, ◌≤◌, List, [], ◌∷◌, ◌++◌, fold, refl, sym, subst, arith, append_assoc, None, IsSome}
use Rattle.std.proofs.lemmas.List.{append-nil}
use Rattle.std.proofs.lemmas.List.Sums.{fold_push}
use Rattle.std.proofs.lemmas.Bool.Decides.{nat_tests}
use Rattle.vk_device.specs.declared.logged.Logged.{Logged}
use Rattle.vk_device.specs.declared.logged.Logged.TheVariants.{Created, Wrote, Submitted, Ran, Fetched, Destroyed}
use Rattle.vk_device.specs.Journal.{Objects, objects_after, kind_of, create_of, create_of_one, creates, creates_of, MayFollow, MayFollowAll, IsClean}

-- the live objects after one more entry
pub kind_of-push : (journal : List Logged) (entry : Logged) → kind_of (journal ++ entry ∷ []) ≡ objects_after (kind_of journal) entry
unfolding kind_of
kind_of-push journal entry = fold_push objects_after (λ _. None) journal entry

follow_more : (before journal : List Logged) (entry : Logged) → MayFollowAll before journal → MayFollow (before ++ journal) entry → MayFollowAll before (journal ++ entry ∷ [])
follow_more before [] entry all next = (subst (λ (l : List Logged). MayFollow l entry) (append-nil before) next, tt)
follow_more before (e ∷ es) entry all next = (all.0, follow_more (before ++ e ∷ []) es entry all.1 (subst (λ (l : List Logged). MayFollow l entry) (sym (append_assoc before (e ∷ []) es)) next))

-- a clean journal stays clean by an entry that may follow
pub IsClean-push : (journal : List Logged) (entry : Logged) → IsClean journal → MayFollow journal entry → IsClean (journal ++ entry ∷ [])
IsClean-push journal entry clean next = follow_more [] journal entry clean next

counted : (i n : ℕ) (journal : List Logged) → n ≤ fold (λ m entry. m + create_of_one i entry) n journal
counted i n [] = omega arith
counted i n (e ∷ es) = omega (arith, counted i (n + create_of_one i e) es)

after_none : (i : ℕ) (objects : Objects) (entry : Logged) → objects i ≡ None → create_of_one i entry ≡ 0 → objects_after objects entry i ≡ None
after_none i objects (Created id kind) none zero = grind (arith, nat_tests)
after_none i objects (Destroyed id) none zero = grind (arith, nat_tests)
after_none i objects (Wrote id at bytes) none zero = none
after_none i objects (Submitted batch) none zero = none
after_none i objects (Ran batch node) none zero = none
after_none i objects (Fetched id at bytes) none zero = none

unused_after : (i n : ℕ) (objects : Objects) (journal : List Logged) → objects i ≡ None → fold (λ m entry. m + create_of_one i entry) n journal ≡ 0 → fold objects_after objects journal i ≡ None
unused_after i n objects [] none zero = none
unused_after i n objects (e ∷ es) none zero =
    unused_after i (n + create_of_one i e) (objects_after objects e) es (after_none i objects e none (omega (arith, counted i (n + create_of_one i e) es))) zero

-- what was not created is not live
pub unused : (journal : List Logged) (i : ℕ) → creates_of i journal ≡ 0 → kind_of journal i ≡ None
unfolding kind_of creates_of
unused journal i zero = unused_after i 0 (λ _. None) journal refl zero

-- an empty journal has no live object
pub nothing_lives : (id : ℕ) → ¬ IsSome (kind_of [] id)
unfolding kind_of
nothing_lives id some = cc

-- the number of creates after one more entry
pub creates-push : (journal : List Logged) (entry : Logged) → creates (journal ++ entry ∷ []) ≡ creates journal + create_of entry
unfolding creates
creates-push journal entry = fold_push (λ n e. n + create_of e) 0 journal entry

pub creates_of-push : (i : ℕ) (journal : List Logged) (entry : Logged) → creates_of i (journal ++ entry ∷ []) ≡ creates_of i journal + create_of_one i entry
unfolding creates_of
creates_of-push i journal entry = fold_push (λ n e. n + create_of_one i e) 0 journal entry

-- an empty journal
pub kind_of-nil : (id : ℕ) → kind_of [] id ≡ None
unfolding kind_of
kind_of-nil id = refl

pub creates-nil : creates [] ≡ 0
unfolding creates
creates-nil = refl

pub creates_of-nil : (i : ℕ) → creates_of i [] ≡ 0
unfolding creates_of
creates_of-nil i = refl
