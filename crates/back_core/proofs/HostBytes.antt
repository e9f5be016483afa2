-- The bytes that the host wrote, by the journal and by what a group sees.
use Rattle.std.proofs.Common.{◌≡◌, ℕ, ◌+◌, ◌/◌, ◌==◌, Bool, true, false, cond, not, refl, sym, ap, ◌∙◌, subst, zero-add, add-zero, arith}
use Rattle.std.specs.Prelude.{List, [], ◌∷◌, ◌++◌, length, take, fold, All, Option, Some, None}
use Rattle.std.proofs.lemmas.Bool.{true≢false}
use Rattle.std.proofs.lemmas.List.Elements.{All-head, All-tail}
use Rattle.std.proofs.lemmas.List.Sums.{fold-append, sum-map, sum_by-append}
use Rattle.vk_types.specs.declared.batches.Batch.{Batch}
use Rattle.vk_device.specs.declared.logged.Logged.{Logged}
use Rattle.vk_device.specs.declared.logged.Logged.TheVariants as logged
use Rattle.garbage.specs.declared.entry.Garbage.{Garbage}
use Rattle.submit_queue.specs.Histories as queue
use Rattle.back_core.specs.declared.back_event.BackEvent.{BackEvent}
use Rattle.back_core.specs.declared.back_event.BackEvent.TheVariants.{Created, Wrote, Enqueued, Submitted, Ran, Retired, Fetched}
use Rattle.back_core.specs.declared.back_event.BackEvent.TheVariants.{Gave, Abandoned, Cleaned, Closing, Stopped}
use Rattle.back_core.specs.Own.{HostWrote, HostRead}
use Rattle.back_core.specs.Own as own
use Rattle.back_core.specs.Link.{Link}
use Rattle.back_core.specs.History.{queue_history, opening, link_after, own_part, link_of}
use Rattle.back_core.specs.Frame.{uploaded, host_bytes, bytes_by, IsPartOf, GoesOn}
use Rattle.back_core.specs.Run.{submission, destroys, covered_in, logged_by, journal_from, journal_of, IsProgress}
use Rattle.back_core.specs.Steps.{HasGoneOn, cleaned}
use Rattle.back_core.proofs.Sees.{after_keeps, group_of}
use Rattle.back_core.proofs.Frames.{uploaded_none, uploaded_one, uploaded_append}

-- the bytes that the host wrote in an event
abbrev written_in : BackEvent → ℕ
written_in (Created group id kind) = 0
written_in (Wrote group id at bytes) = length bytes
written_in (Enqueued batch) = 0
written_in Submitted = 0
written_in (Ran batch node) = 0
written_in (Retired serial) = 0
written_in (Fetched group id at bytes) = 0
written_in (Gave group id uses) = 0
written_in (Abandoned group id) = 0
written_in (Cleaned read destroyed) = 0
written_in Closing = 0
written_in (Stopped stop) = 0

abbrev all_written : List BackEvent → ℕ
all_written [] = 0
all_written (e ∷ h) = written_in e + all_written h

-- The journal

host_none : host_bytes [] ≡ 0
unfolding host_bytes
host_none = refl

host_one : (x : Logged) → host_bytes (x ∷ []) ≡ bytes_by x
unfolding host_bytes
host_one x = zero-add (bytes_by x)

host_append : (a b : List Logged) → host_bytes (a ++ b) ≡ host_bytes a + host_bytes b
unfolding host_bytes
host_append a b = omega (arith, sum-map bytes_by (a ++ b), sum_by-append bytes_by a b, sum-map bytes_by a, sum-map bytes_by b)

submitted_none : (b : Option Batch) → host_bytes (submission b) ≡ 0
submitted_none None = host_none
submitted_none (Some batch) = host_one (logged.Submitted batch)

destroyed_none : (items : List Garbage) → host_bytes (destroys items) ≡ 0
destroyed_none [] = host_none
destroyed_none (item ∷ items) =
    let here : host_bytes (logged.Destroyed item.handle ∷ []) ≡ 0 = host_one (logged.Destroyed item.handle) in
    omega (arith, host_append (logged.Destroyed item.handle ∷ []) (destroys items), here, destroyed_none items)

logged_bytes : (before : List BackEvent) (e : BackEvent) → host_bytes (logged_by before e) ≡ written_in e
logged_bytes before (Created group id kind) = host_one (logged.Created id kind)
logged_bytes before (Wrote group id at bytes) = host_one (logged.Wrote id at bytes)
logged_bytes before (Enqueued batch) = host_none
logged_bytes before Submitted = submitted_none (queue.first_flushed (queue_history before))
logged_bytes before (Ran batch node) = host_one (logged.Ran batch node)
logged_bytes before (Retired serial) = host_none
logged_bytes before (Fetched group id at bytes) = host_one (logged.Fetched id at bytes)
logged_bytes before (Gave group id uses) = host_none
logged_bytes before (Abandoned group id) = host_none
logged_bytes before (Cleaned read destroyed) = destroyed_none (take destroyed (covered_in before read))
logged_bytes before Closing = host_none
logged_bytes before (Stopped stop) = host_none

journal_bytes : (before h : List BackEvent) → host_bytes (journal_from before h) ≡ all_written h
journal_bytes before [] = host_none
journal_bytes before (e ∷ h) =
    let later : host_bytes (journal_from (before ++ e ∷ []) h) ≡ all_written h = journal_bytes (before ++ e ∷ []) h in
    omega (arith, host_append (logged_by before e) (journal_from (before ++ e ∷ []) h), logged_bytes before e, later)

-- The group's list

own_bytes : (b : Bool) (l new : Link) (n : ℕ) → not b ≡ false → uploaded new.mine ≡ uploaded l.mine + n
    → uploaded (cond b new l).mine ≡ uploaded l.mine + n
own_bytes true l new n own is = is
own_bytes false l new n own is = absurd (true≢false own)

more_bytes : (mine : List own.Own) (x : own.Own) (n : ℕ) → uploaded (x ∷ []) ≡ n → uploaded (mine ++ x ∷ []) ≡ uploaded mine + n
more_bytes mine x n is = omega (arith, uploaded_append mine (x ∷ []), is)

after_bytes : (l : Link) (e : BackEvent) → IsPartOf l.group e → uploaded (link_after l e).mine ≡ uploaded l.mine + written_in e
after_bytes l (Created group id kind) part = own_bytes (group == l.group) l _ 0 part (omega arith)
after_bytes l (Wrote group id at bytes) part =
    own_bytes (group == l.group) l _ (length bytes) part
    (more_bytes l.mine (HostWrote id.0 at bytes) (length bytes) (uploaded_one (HostWrote id.0 at bytes)))
after_bytes l (Enqueued batch) part =
    own_bytes ((batch.index / 8) == l.group) l _ 0 part (more_bytes l.mine (own.Enqueued batch) 0 (uploaded_one (own.Enqueued batch)))
after_bytes l Submitted part = omega arith
after_bytes l (Ran batch node) part = omega arith
after_bytes l (Retired serial) part = omega arith
after_bytes l (Fetched group id at bytes) part =
    own_bytes (group == l.group) l _ 0 part
    (more_bytes l.mine (HostRead id.0 at bytes) 0 (uploaded_one (HostRead id.0 at bytes)))
after_bytes l (Gave group id uses) part = own_bytes (group == l.group) l _ 0 part (omega arith)
after_bytes l (Abandoned group id) part = own_bytes (group == l.group) l _ 0 part (omega arith)
after_bytes l (Cleaned read destroyed) part = absurd (true≢false part)
after_bytes l Closing part = absurd (true≢false part)
after_bytes l (Stopped stop) part = omega arith

fold_bytes : (l : Link) (h : List BackEvent) → ((e : BackEvent) (m : Link) → (link_after m e).group ≡ m.group) → All (IsPartOf l.group) h
    → uploaded (fold link_after l h).mine ≡ uploaded l.mine + all_written h
fold_bytes l [] keeps all = sym (add-zero (uploaded l.mine))
fold_bytes l (e ∷ h) keeps all =
    let later : All (IsPartOf (link_after l e).group) h
    = subst (λ g. All (IsPartOf g) h) (sym (keeps e l)) (All-tail (IsPartOf l.group) e h all) in
    let rest = fold_bytes (link_after l e) h keeps later in
    omega (arith, rest, after_bytes l e (All-head (IsPartOf l.group) e h all))

-- in a run of one group the journal has the host writes of the group's list
pub one_group_wrote : (h : List BackEvent) (g : ℕ) → All (IsPartOf g) h → host_bytes (journal_of h) ≡ uploaded (link_of h g).mine
unfolding journal_of
one_group_wrote h g all = omega (arith, journal_bytes [] h, fold_bytes (opening g) h (λ e m. after_keeps m e) all, uploaded_none)

-- More events

all_append : (a b : List BackEvent) → all_written (a ++ b) ≡ all_written a + all_written b
all_append [] b = sym (zero-add (all_written b))
all_append (e ∷ a) b = omega (arith, all_append a b)

progress_none : (e : BackEvent) → IsProgress e → written_in e ≡ 0
progress_none (Created group id kind) bad = absurd bad
progress_none (Wrote group id at bytes) bad = absurd bad
progress_none (Enqueued batch) bad = absurd bad
progress_none Submitted step = refl
progress_none (Ran batch node) step = refl
progress_none (Retired serial) step = refl
progress_none (Fetched group id at bytes) bad = absurd bad
progress_none (Gave group id uses) bad = absurd bad
progress_none (Abandoned group id) bad = absurd bad
progress_none (Cleaned read destroyed) bad = absurd bad
progress_none Closing bad = absurd bad
progress_none (Stopped stop) bad = absurd bad

all_progress : (more : List BackEvent) → All IsProgress more → all_written more ≡ 0
all_progress [] all = refl
all_progress (e ∷ more) all =
    omega (arith, progress_none e (All-head IsProgress e more all), all_progress more (All-tail IsProgress e more all))

written_of : (h : List BackEvent) → host_bytes (journal_of h) ≡ all_written h
unfolding journal_of
written_of h = journal_bytes [] h

-- where a group had a part in each event since, the journal has gained the host writes that the group's list has gained
pub group_wrote : (h k : List BackEvent) (a : ℕ) (gained : List own.Own) → GoesOn a (Some h) (Some k)
    → (link_of k a).mine ≡ (link_of h a).mine ++ gained → host_bytes (journal_of k) ≡ host_bytes (journal_of h) + uploaded gained
group_wrote h k a gained on is =
    let part : own_part k a ≡ fold link_after (own_part h a) on.0
    = ap (λ l. own_part l a) on.1 ∙ fold-append link_after (opening a) h on.0 in
    let parts : All (IsPartOf (own_part h a).group) on.0 = subst (λ g. All (IsPartOf g) on.0) (sym (group_of h a)) on.2 in
    let list : uploaded (own_part k a).mine ≡ uploaded (own_part h a).mine + all_written on.0
    = ap (λ (l : Link). uploaded l.mine) part ∙ fold_bytes (own_part h a) on.0 (λ e m. after_keeps m e) parts in
    let more : uploaded (own_part k a).mine ≡ uploaded (own_part h a).mine + uploaded gained
    = ap uploaded is ∙ uploaded_append (own_part h a).mine gained in
    let journal : host_bytes (journal_of k) ≡ all_written h + all_written on.0 = written_of k ∙ ap all_written on.1 ∙ all_append h on.0 in
    omega (arith, journal, list, more, written_of h)

-- the host writes nothing as the batches go on, nor in a cleanup
pub gone_wrote : (h k : List BackEvent) → HasGoneOn h k → host_bytes (journal_of k) ≡ host_bytes (journal_of h)
gone_wrote h k gone =
    let more : all_written (h ++ gone.more) ≡ all_written h = omega (arith, all_append h gone.more, all_progress gone.more gone.progress) in
    written_of k ∙ ap all_written gone.is ∙ more ∙ sym (written_of h)

pub cleaned_wrote : (h : List BackEvent) (read : List ℕ) (count : ℕ)
    → host_bytes (journal_of (cleaned h read count)) ≡ host_bytes (journal_of h)
cleaned_wrote h read count = by_count (count == 0)
  where
    by_count : (b : Bool) → host_bytes (journal_of (cond b h (h ++ Cleaned read count ∷ []))) ≡ host_bytes (journal_of h)
    by_count true = refl
    by_count false =
        written_of (h ++ Cleaned read count ∷ []) ∙ all_append h (Cleaned read count ∷ []) ∙ add-zero (all_written h) ∙ sym (written_of h)
