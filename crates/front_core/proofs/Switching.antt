-- A call after a flush is a call from before it.
use Rattle.std.proofs.Common.{◌≡◌, ℕ, ◌≤◌, None, sym, ◌∙◌, ap, subst, arith}
use Rattle.std.specs.Prelude.{Option, Some, IfSome, Result, Ok, Err, OnOk, List}
use Rattle.std.specs.Option.{option_map}
use Rattle.gl_calls.specs.declared.call.Call.{Call}
use Rattle.gl_calls.specs.declared.reply.Reply.{Reply}
use Rattle.gl_model.specs.declared.state.GroupState.{GroupState}
use Rattle.vk_types.specs.declared.ops.Node.{Node}
use Rattle.back_core.specs.Link.{Link}
use Rattle.front_model.specs.declared.object.Object.{Object}
use Rattle.front_model.specs.declared.object.Object.TheVariants.{Buffer}
use Rattle.front_model.specs.Face.{Face, Outline, outline_at, view}
use Rattle.front_model.specs.Stands.{Moved, IsQuiet}
use Rattle.front_model.specs.Wanted.{wanted, AgreeWith}
use Rattle.sync_serials.specs.Serials.{SyncTables}
use Rattle.front_core.specs.Polls.{HasFlushedAll}
use Rattle.front_core.specs.Share.{MayCall, IsCarriedOut}

pub may_still : (f h : Face) (s u : Link) (group : GroupState) (thread : ℕ) (asked : Call) → MayCall f s group thread asked → Moved h u (view f s) (outline_at f) (IsQuiet f s) → MayCall h u group thread asked
may_still f h s u group thread asked may moved = record {
  backs = record {
    holds = moved.holds;
    kinds = λ o. ap (λ (x : Object → Option Outline). option_map (λ v. v.kind) (x o)) moved.outlines_are ∙ may.backs.kinds o;
    maps = λ b mapped. moved.still (Buffer b) (may.backs.maps b mapped);
  };
  declared = may.declared;
  accepted = may.accepted;
  model = may.model;
  is = may.is;
  its_data = may.its_data;
}

pub carried_from : (f h g : Face) (s u t : Link) (group after : GroupState) (thread : ℕ) (asked : Call) (answer : Reply) → view h u ≡ view f s → IsCarriedOut h g u t group after thread asked answer → IsCarriedOut f g s t group after thread asked answer
carried_from f h g s u t group after thread asked answer same x = record {
  backs = x.backs;
  state = x.state;
  agrees = λ state place is agree. x.agrees state place is (subst (λ v. AgreeWith v (wanted state)) (sym same) agree);
  answers = λ state is agree. x.answers state is (subst (λ v. AgreeWith v (wanted state)) (sym same) agree);
}

-- what holds of the index that was flushed holds of the one to be replaced, where that is the one
pub flushed_replaced : {A E : Type 0} (r : Result A E) (P : ℕ → Type 0) (index : ℕ) (replaced : Option ℕ) → Some index ≡ replaced → OnOk r (P index) → OnOk r (IfSome replaced P)
flushed_replaced (Err e) P index replaced is flushed = tt
flushed_replaced (Ok a) P index replaced is flushed = subst (λ o. IfSome o P) is flushed

-- an index that was flushed is so after a call that leaves all that is pending, and in which no number falls
pub flushed_still : (o : Option ℕ) (f g : Face) (tables : SyncTables) → g.pending ≡ f.pending → ((i : ℕ) → f.last i ≤ g.last i) → IfSome o (HasFlushedAll f tables) → IfSome o (HasFlushedAll g tables)
flushed_still None f g tables same risen flushed = tt
flushed_still (Some i) f g tables same risen flushed = record {
  pending = ap (λ (p : ℕ → List Node). p i) same ∙ flushed.pending;
  batched = omega (arith, flushed.batched, risen i);
}
