use Rattle.tables.specs.Table.{has}
use Rattle.gl_objects.proofs.SetNames.{Fits-given}
use Rattle.std.proofs.Common.{◌≡◌, ℕ, ap, sym, ◌∙◌, Some}
use Rattle.gl_objects.specs.Ids.{key_of}
use Rattle.gl_objects.specs.Objects.{object_at}
use Rattle.gl_objects.proofs.NumberedNames.{no_object-numbered, after_bind-numbered}
use Rattle.gl_objects.proofs.SoundNames.{IsSound-bound}
use Rattle.gl_objects.proofs.table.NameTable.bind_new.Goals as goal

pub invariant_of-self-2 : goal.invariant_of-self-2
invariant_of-self-2 c = record {
  sound =
      let inside = c.self.inside in
      let id = c.new-id.result in
      let slots = ap (λ s. s.slots) c.in_ok-reserve.ensures.rest_kept in
      let key : c.insert_reserved.result ≡ key_of id = c.insert_reserved.ensures.key ∙ sym c.vacant_key.ensures.value ∙ sym c.new-id.ensures.key in
      let made = c.insert_reserved.ensures.updates in
      let none = rw (← c.self.view_is) at c.requires.no_object in
      IsSound-bound _ _ _ _ _ c.args.name id c.self.invariant.sound c.in_ok-give_object.ensures.sets c.new-id.ensures.number
      (λ next has. no_object-numbered inside.names inside.made c.args.name next none has)
      (rw (← key, ← slots) c.insert_reserved.ensures.was_vacant)
      (record {
        here = rw (← key) (made.changed ∙ ap (λ n. Some (record { number = n; name = Some c.args.name; holds = 0 })) (sym c.new-id.ensures.number));
        others = λ other differs. made.others other (λ e. differs (e ∙ key)) ∙ ap (λ xs. object_at xs other) slots;
      });
  fits = rw c.in_ok-give_object.ensures.entries (Fits-given c.note_used.new.self c.args.name (Some c.new-id.result) c.self.inside.names (c.note_used.ensures (λ (n : ℕ). has n c.self.inside.names) c.self.invariant.fits));
}

pub returns-clause-names : goal.returns-clause-names
returns-clause-names c =
    let inside = c.self.inside in
    let none = rw (← c.self.view_is) at c.requires.no_object in
    rw (← c.self.view_is, c.in_ok-give_object.ensures.entries)
    (sym (after_bind-numbered inside.names inside.made c.args.name c.new-id.result c.requires.not_zero none c.new-id.ensures.number))
