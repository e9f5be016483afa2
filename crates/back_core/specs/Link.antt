-- What a share group sees of its back, and how each call changes that.
use Rattle.std.specs.Prelude.{◌≡◌, ℕ, ◌==◌, Bool, true, false, List, [], ◌∷◌, ◌++◌, Option, Some, None, if◌then◌else◌, unwrap_or}
use Rattle.vk_types.specs.declared.handles.Kind.{Kind}
use Rattle.vk_types.specs.declared.handles.Kind.TheVariants.{Buffer}
use Rattle.vk_types.specs.declared.batches.Batch.{Batch}
use Rattle.vk_types.specs.declared.batches.QueueSerial.{QueueSerial}
use Rattle.vk_model.specs.Cells.{Contents}
use Rattle.vk_model.specs.Meaning.{eval}
use Rattle.back_core.specs.Own.{Own, HostWrote, Enqueued, HostRead, log_of}

-- how many published numbers were loaded, and the index of the last one, if there was one
pub record Asked : Type 0 where
  pub loads : ℕ
  pub index : Option ℕ

pub record Link : Type 0 where
  -- the group's number, from 0 to 7
  pub group : ℕ
  -- the group's own host writes, batches and host reads, in order
  pub mine : List Own
  -- for each index a number up to which its batches are known to be retired
  pub done : ℕ → ℕ
  -- the kinds of the objects that the group made
  pub kinds : ℕ → Option Kind
  -- whether the group holds an object
  pub held : ℕ → Bool
  -- the uses of an object that the group gave away
  pub given : ℕ → Option (List QueueSerial)
  -- the completed numbers, where they are told
  pub now : Option (ℕ → ℕ)
  -- the loads of published numbers, where they are told
  pub asked : Option Asked

-- a function with another value at one place
unfoldable pub put : {A : Type 0} → (ℕ → A) → ℕ → A → ℕ → A
put f k v = λ i. if i == k then v else f i

-- the kind of an object, which is that of an empty buffer where the group made none
abbrev pub kinds_of : Link → ℕ → Kind
kinds_of s id = unwrap_or (s.kinds id) (Buffer 0)

-- the contents of the objects after the group's own list
abbrev pub contents_of : Link → Contents
contents_of s = eval (kinds_of s) (log_of s.mine)

-- What a call that is accepted leaves

abbrev pub created : Link → ℕ → Kind → Link
created s id kind = record s { kinds = put s.kinds id (Some kind); held = put s.held id true }

abbrev pub wrote : Link → ℕ → ℕ → List ℕ → Link
wrote s id at bytes = record s { mine = s.mine ++ HostWrote id at bytes ∷ [] }

abbrev pub enqueued : Link → Batch → Link
enqueued s batch = record s { mine = s.mine ++ Enqueued batch ∷ [] }

abbrev pub fetched : Link → ℕ → ℕ → List ℕ → Link
fetched s id at bytes = record s { mine = s.mine ++ HostRead id at bytes ∷ [] }

abbrev pub abandoned : Link → ℕ → Link
abandoned s id = record s { held = put s.held id false }

abbrev pub gave : Link → ℕ → List QueueSerial → Link
gave s id uses = record s { held = put s.held id false; given = put s.given id (Some uses) }

-- a link of a group that has not used it
pub record IsNew (s : Link) (group : ℕ) : Type 0 where
  pub of_group : s.group ≡ group
  pub empty : s.mine ≡ []
  pub none_made : s.kinds ≡ (λ id. None)
  pub none_held : s.held ≡ (λ id. false)
  pub none_given : s.given ≡ (λ id. None)
