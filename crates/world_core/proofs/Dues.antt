-- How the bytes that are due grow with a call.
use Rattle.std.proofs.Common.{◌≡◌, ℕ, suc, zero, ◌+◌, ◌≤◌, List, [], ◌∷◌, ◌++◌, Some, refl, sym, ap, ◌∙◌, subst, arith}
use Rattle.std.specs.Prelude.{slice_get}
use Rattle.gl_calls.specs.declared.reply.Entry.{Entry}
use Rattle.gl_model.specs.declared.state.GroupState.{GroupState}
use Rattle.gl_model.specs.Reached.{reached}
use Rattle.trace_text.specs.Reading.{Plan}
use Rattle.back_core.specs.Link.{Link}
use Rattle.front_core.specs.Economy.{due_of, due_over}
use Rattle.front_core.specs.Front.{FrontModel, FrontStands}
use Rattle.play_model.specs.Plays.{Play, members}
use Rattle.world_core.specs.World.{due_among}

abbrev pub DuesGrow : Type 0
DuesGrow = (threads : List ℕ) (history : List Entry) (e : Entry) →
    due_over threads (history ++ e ∷ []) ≡ due_over threads history + due_of (reached threads history).group e.thread e.call

module _ (threads : List Plan) (p q : Play)
    (least : (b : ℕ) → due_over (members threads b) (p.histories b) ≤ due_over (members threads b) (q.histories b)) where
  due_least : (groups : List ℕ) → due_among groups threads p ≤ due_among groups threads q
  due_least [] = omega arith
  due_least (b ∷ groups) = let head = least b in let tail = due_least groups in omega arith

  -- where the bytes of one group grew by some, those of all did
  pub due_grown : (groups : List ℕ) (i g n : ℕ) → slice_get groups i ≡ Some g →
      due_over (members threads g) (p.histories g) + n ≤ due_over (members threads g) (q.histories g) →
      due_among groups threads p + n ≤ due_among groups threads q
  due_grown [] i g n at more = absurd (cc)
  due_grown (b ∷ groups) zero g n at more =
      let same : g ≡ b = cc in
      let here : due_over (members threads b) (p.histories b) + n ≤ due_over (members threads b) (q.histories b)
      = subst (λ (x : ℕ). due_over (members threads x) (p.histories x) + n ≤ due_over (members threads x) (q.histories x)) same more in
      let tail = due_least groups in
      omega arith
  due_grown (b ∷ groups) (suc i) g n at more = let head = least b in let tail = due_grown groups i g n at more in omega arith

-- the bytes of a front's group grow by those of its next call
pub front_due : DuesGrow → (f : FrontModel) (s : Link) (threads : List ℕ) (history : List Entry) (e : Entry) → FrontStands f s →
    f.threads ≡ threads → history ≡ f.history →
    due_over threads (history ++ e ∷ []) ≡ due_over threads history + due_of f.state e.thread e.call
front_due law f s threads history e stands same is =
    let state : (reached threads history).group ≡ f.state =
    ap (λ (h : List Entry). (reached threads h).group) is
    ∙ subst (λ (l : List ℕ). (reached l f.history).group ≡ f.state) same stands.group_is in
    law threads history e ∙ ap (λ (g : GroupState). due_over threads history + due_of g e.thread e.call) state
