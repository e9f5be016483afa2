-- Laws of the layers below, as they are handed to lemmas.
use Rattle.std.proofs.Common.{◌≡◌, ◌≢◌, ℕ, ◌+◌, ◌≤◌, false, List, [], ◌∷◌, ◌++◌, Some}
use Rattle.back_core.specs.declared.back_event.BackEvent.{BackEvent}
use Rattle.back_core.specs.Own.{Own}
use Rattle.back_core.specs.Link.{Link}
use Rattle.back_core.specs.Answers.{Learns}
use Rattle.back_core.specs.History.{own_part, link_of, completed, is_own}
use Rattle.back_core.specs.Frame.{GoesOn, IsGoing, uploaded, host_bytes}
use Rattle.back_core.specs.Run.{journal_of}
use Rattle.back_core.specs.Steps.{CleansWhole, HasGoneOn}
use Rattle.front_core.specs.Front.{FrontModel, FrontStands}

-- share groups over one back
pub record Apart : Type 0 where
  pub own : (h k : List BackEvent) (a b : ℕ) → GoesOn a (Some h) (Some k) → a ≢ b → own_part k b ≡ own_part h b
  pub completed_rises : (h k : List BackEvent) (a : ℕ) → GoesOn a (Some h) (Some k) → (index : ℕ) → completed h index ≤ completed k index
  pub wrote : (h k : List BackEvent) (a : ℕ) (gained : List Own) → GoesOn a (Some h) (Some k) →
      (link_of k a).mine ≡ (link_of h a).mine ++ gained →
      host_bytes (journal_of k) ≡ host_bytes (journal_of h) + uploaded gained

-- an event that is no group's own
pub record Outside : Type 0 where
  pub others : (h : List BackEvent) (g : ℕ) (e : BackEvent) → is_own g e ≡ false → own_part (h ++ e ∷ []) g ≡ own_part h g
  pub rises : (h : List BackEvent) (e : BackEvent) (index : ℕ) → completed h index ≤ completed (h ++ e ∷ []) index

-- the batches go on
pub record BatchesGoOn : Type 0 where
  pub going : (h k : List BackEvent) → HasGoneOn h k → IsGoing (Some h) → IsGoing (Some k)
  pub whole : (h k : List BackEvent) → HasGoneOn h k → CleansWhole h → CleansWhole k
  pub write : (h k : List BackEvent) → HasGoneOn h k → host_bytes (journal_of k) ≡ host_bytes (journal_of h)

-- a front goes on standing where its group only learns
abbrev pub GoOnStanding : Type 0
GoOnStanding = (f : FrontModel) (s t : Link) → FrontStands f s → Learns s t → FrontStands f t
