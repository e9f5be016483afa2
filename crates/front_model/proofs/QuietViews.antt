-- What an object shows that the host may use.
use Rattle.std.proofs.Common.{◌≡◌, ℕ, sym, ap, ◌∙◌, false}
use Rattle.back_core.specs.Own.{log_of}
use Rattle.back_core.specs.Link.{Link, kinds_of, contents_of}
use Rattle.front_model.specs.declared.object.Object.{Object}
use Rattle.front_model.specs.Face.{Face, indexes_of, in_order, recorded, content_in, view, nodes_touch}
use Rattle.front_model.specs.Stands.{IsQuiet}
use Rattle.front_model.proofs.Contents.{none_touches, nodes_leave}
use Rattle.front_model.proofs.LinkViews.{then_pending}
use Rattle.front_model.proofs.Shown.{content_clear}

pub view_quiet : (f : Face) (s : Link) (o : Object) (quiet : IsQuiet f s o) → contents_of s quiet.stored.handle ≡ view f s o
view_quiet f s o quiet =
    let id : ℕ = quiet.stored.handle in
    let apart : nodes_touch (in_order f) id ≡ false = none_touches f.pending (indexes_of f.group) id quiet.untouched in
    let has : recorded f s id ≡ contents_of s id = ap (λ c. c id) (then_pending (kinds_of s) (log_of s.mine) (in_order f)) ∙ nodes_leave (kinds_of s) (in_order f) id apart (contents_of s) in
    let shows : view f s o ≡ recorded f s id = ap (content_in (kinds_of s) (recorded f s)) quiet.is ∙ content_clear (kinds_of s) (recorded f s) quiet.stored quiet.clear in
    sym (shows ∙ has)
