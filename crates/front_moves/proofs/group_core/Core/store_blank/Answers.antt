use Rattle.std.proofs.Common.{rules, arith, ◌≡◌, ◌==◌, true, None, refl, subst}
use Rattle.std.proofs.lemmas.Result.{on_ok_weaker}
use Rattle.front_model.specs.declared.object.Object.TheVariants.{Buffer}
use Rattle.front_model.specs.Face.{put_object, outline_at, view}
use Rattle.front_model.specs.Stands.{Moved}
use Rattle.front_moves.specs.Core.{face, IsQuietBut, outline_of_size, new_cells}
use Rattle.back_core.specs.Frame.{NoBatch}
use Rattle.front_moves.proofs.AtBack.{handless_then}
use Rattle.front_moves.proofs.StoreLaws.{ended_none, stored_anew}
use Rattle.front_moves.proofs.group_core.Core.store_blank.Goals as goal

pub begin-requires-clause-none : goal.begin-requires-clause-none
begin-requires-clause-none g c = ended_none (face c.args.self.now) (face c.end.new.self) (g.L.BackLink.state c.args.link.now) (g.L.BackLink.state c.end.new.link) c.args.buffer c.end.ensures.moved

pub returns-in-Ok-clause-moved : goal.returns-in-Ok-clause-moved
returns-in-Ok-clause-moved g c =
    on_ok_weaker c.begin.result
    (stored_anew (face c.args.self.now) (face c.end.new.self) (face c.begin.new.self) (g.L.BackLink.state c.args.link.now) (g.L.BackLink.state c.end.new.link) (g.L.BackLink.state c.blank.new.link) (g.L.BackLink.state c.begin.new.link)
    c.args.buffer c.in-Ok.fresh.0 c.args.size None (search rules) c.end.ensures.moved c.in-Ok.ensures.ok)
    c.begin.ensures.moved

pub returns-then-size-eq0-clause-moved : goal.returns-then-size-eq0-clause-moved
returns-then-size-eq0-clause-moved g c =
    let none : (c.args.size == 0) ≡ true = search rules in
    let outline_is : None ≡ outline_of_size c.args.size = rw none refl in
    subst (λ v. Moved (face c.end.new.self) (g.L.BackLink.state c.end.new.link) (put_object (view (face c.args.self.now) (g.L.BackLink.state c.args.link.now)) (Buffer c.args.buffer) (new_cells None)) (put_object (outline_at (face c.args.self.now)) (Buffer c.args.buffer) v) (IsQuietBut (face c.args.self.now) (g.L.BackLink.state c.args.link.now) (Buffer c.args.buffer))) outline_is c.end.ensures.moved

pub returns-in-Ok-clause-at_back : goal.returns-in-Ok-clause-at_back
returns-in-Ok-clause-at_back g c = handless_then (omega arith) (handless_then {due = 0} {MayHand = NoBatch} (omega arith) c.end.ensures.at_back c.in-Ok.ensures.at_back) c.begin.ensures.at_back

pub returns-in-Err-clause-at_back : goal.returns-in-Err-clause-at_back
returns-in-Err-clause-at_back g c = handless_then (omega arith) c.end.ensures.at_back c.in-Err.ensures.at_back
