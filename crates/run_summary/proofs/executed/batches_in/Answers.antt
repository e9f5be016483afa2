use Rattle.std.proofs.Common.{◌≡◌, ℕ, ◌+◌, ◌<◌, List, [], ◌∷◌, ◌++◌, length, map, take, get_or, refl, sym, ap, ◌∙◌, Bor, Vec, Global}
use Rattle.std.proofs.lemmas.List.Sums.{fold_more}
use Rattle.std.proofs.lemmas.List.{map-append, append-nil}
use Rattle.vk_types.specs.declared.batches.Batch.{Batch}
use Rattle.vk_device.specs.declared.logged.Logged.{Logged}
use Rattle.vk_device.specs.declared.logged.Logged.TheVariants.{Created, Wrote, Submitted, Ran, Fetched, Destroyed}
use Rattle.vk_device.specs.Journal.{accepts, accepted}
use Rattle.run_summary.proofs.executed.batches_in.Goals as goal
use Rattle.run_summary.proofs.executed.batches_in.Goals.{in-Submitted+in_ok-push, in_default}

abbrev lent : List (Bor Batch) → List Batch
lent batches = map (λ b. b.now) batches

accepted-more : (journal : List Logged) (i : ℕ) (d : Logged) → i < length journal → accepted (take (i + 1) journal) ≡ accepted (take i journal) ++ accepts (get_or journal i d)
unfolding accepted
accepted-more journal i d lt = fold_more (λ batches e. batches ++ accepts e) [] journal i d lt

accepted-none : accepted [] ≡ []
unfolding accepted
accepted-none = refl

accepts_it : (e : Logged) (batch : Batch) → e ≡ Submitted batch → accepts e ≡ batch ∷ []
accepts_it e batch is = ap accepts is

accepts_none : (e : Logged) → ((batch : Batch) → e ≡ Submitted batch → ⊥) → accepts e ≡ []
accepts_none (Created id kind) other = refl
accepts_none (Wrote id at bytes) other = refl
accepts_none (Submitted batch) other = absurd (other batch refl)
accepts_none (Ran batch node) other = refl
accepts_none (Fetched id at bytes) other = refl
accepts_none (Destroyed id) other = refl

-- the batches with the one that the next entry accepts, if it accepts one
goes_on : (now : List Batch) (more : List Batch) (journal : List Logged) (i : ℕ) (item : Logged) → i < length journal → item ≡ get_or journal i item
    → now ≡ accepted (take i journal) → accepts item ≡ more → now ++ more ≡ accepted (take (i + 1) journal)
goes_on now more journal i item lt at is accepts_more =
    ap (λ (bs : List Batch). bs ++ more) is ∙ ap (λ (bs : List Batch). accepted (take i journal) ++ bs) (sym accepts_more ∙ ap accepts at) ∙ sym (accepted-more journal i item lt)

pub loop-entry-init : goal.loop-entry-init
loop-entry-init c = ap lent c.new-batches.ensures.items ∙ sym accepted-none

pub loop-entry-preserved : goal.loop-entry-preserved
loop-entry-preserved c =
    let journal = c.args.journal.now in
    let i = c.loop-entry.entry-index in
    let item = c.entry-item.result in
    let so_far = lent c.loop-entry.batches.items in
    elim c.match-entry.branch [
      | in-Submitted+in_ok-push w ↦
          ap (λ (v : Vec (Bor Batch) Global). lent v.items) w.batches-is ∙ ap lent w.in_ok-push.ensures.items ∙ map-append (λ b. b.now) c.loop-entry.batches.items _
          ∙ goes_on so_far (w.in-Submitted.batch ∷ []) journal i item c.loop-entry-test.true c.entry-item.is c.loop-entry.invariant (accepts_it item w.in-Submitted.batch w.in-Submitted.is)
      | in_default w ↦
          ap (λ (v : Vec (Bor Batch) Global). lent v.items) w.batches-is ∙ sym (append-nil so_far)
          ∙ goes_on so_far [] journal i item c.loop-entry-test.true c.entry-item.is c.loop-entry.invariant (accepts_none item w.in_default.not-Submitted)
    ]
