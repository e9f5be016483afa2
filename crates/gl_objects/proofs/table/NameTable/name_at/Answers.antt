use Rattle.std.proofs.Common.{◌≡◌, map, slice_get, ap, sym, is_some, ◌∙◌, List, ℕ, Option}
use Rattle.std.specs.List.{filter}
use Rattle.gl_objects.specs.declared.ids.ObjectId.{ObjectId}
use Rattle.gl_objects.proofs.NumberedNames.{object_names-numbered}
use Rattle.gl_objects.proofs.table.NameTable.name_at.Goals as goal

pub loop-name-init : goal.loop-name-init
loop-name-init c =
    let names = λ (es : List (ℕ × Option ObjectId)). slice_get (map (λ e. e.0) (filter (λ e. is_some e.1) es)) c.args.k in
    let given : c.into_iter-name-iterator.result ≡ c.self.inside.names = c.into_iter-name-iterator.ensures.into_iter_gives ∙ c.iter-name-items.ensures.rest in
    rw (← c.self.view_is)
    (ap (λ numbers. slice_get numbers c.args.k) (object_names-numbered c.self.inside.names c.self.inside.made) ∙ ap names (sym given))
