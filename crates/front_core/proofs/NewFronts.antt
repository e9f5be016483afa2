-- A new front has nothing on the device, and what it has agrees with a group with nothing in it.
use Rattle.std.proofs.Common.{◌≡◌, ℕ, false, Option, Some, None, List, [], refl, sym, ◌∙◌, ap, arith}
use Rattle.std.specs.Option.{option_map}
use Rattle.std.proofs.lemmas.Bool.{false≢true}
use Rattle.gl_model.specs.declared.objects.BufferFacts.{BufferFacts}
use Rattle.gl_model.specs.GroupState.{opening_group}
use Rattle.gl_model.specs.GroupModel.{opening}
use Rattle.back_core.specs.Link.{Link, IsNew}
use Rattle.front_model.specs.declared.object.Object.{Object}
use Rattle.front_model.specs.declared.object.Object.TheVariants.{Buffer, Texture, Renderbuffer}
use Rattle.front_model.specs.Face.{Stored, Face, outline}
use Rattle.front_model.specs.Stands.{InHand, Holds, Owns, BarriersAreLicensed, no_hands}
use Rattle.front_model.specs.Wanted.{kind_wanted, wanted, IsMapped, Stands}
use Rattle.front_core.specs.Share.{HaveIndexes}

-- a link of a group that has not used it
new_link : ℕ → Link
new_link group = record {
  group = group;
  mine = [];
  done = λ index. 0;
  kinds = λ id. None;
  held = λ id. false;
  given = λ id. None;
  now = None;
  asked = None;
}

new_link_is_new : (group : ℕ) → IsNew (new_link group) group
unfolding new_link
new_link_is_new group = record { of_group = refl; empty = refl; none_made = refl; none_held = refl; none_given = refl }

-- where nothing is held, no object has a store
none_stored : (f : Face) (s : Link) → s.held ≡ (λ id. false) → Holds f no_hands s → (o : Object) → f.objects o ≡ None
none_stored f s none_held holds o = by_object (f.objects o) refl
  where
    by_object : (b : Option Stored) → f.objects o ≡ b → f.objects o ≡ None
    by_object None is = is
    by_object (Some b) is = absurd (false≢true (sym (ap (λ (held : ℕ → _). held b.handle) none_held) ∙ (holds.objects o b is).slot.held))

-- what holds on each new link has no store, and is of the group
pub nothing_stored : (f : Face) (group : ℕ) → ((s : Link) → IsNew s group → Holds f no_hands s) → (o : Object) → f.objects o ≡ None
nothing_stored f group holds = none_stored f (new_link group) (new_link_is_new group).none_held (holds (new_link group) (new_link_is_new group))

pub of_this_group : (f : Face) (group : ℕ) → ((s : Link) → IsNew s group → Holds f no_hands s) → f.group ≡ group
of_this_group f group holds = sym (holds (new_link group) (new_link_is_new group)).group ∙ (new_link_is_new group).of_group

no_kinds : (threads : List ℕ) (o : Object) → kind_wanted (opening_group threads) o ≡ None
no_kinds threads (Buffer b) = refl
no_kinds threads (Texture t) = refl
no_kinds threads (Renderbuffer r) = refl

nothing_wanted : (threads : List ℕ) (o : Object) (p : ℕ) → wanted (opening threads) o p ≡ 256
nothing_wanted threads (Buffer b) p = refl
nothing_wanted threads (Texture t) p = refl
nothing_wanted threads (Renderbuffer r) p = refl

none_mapped : (threads : List ℕ) (b : ℕ) → IsMapped (opening_group threads) b → ⊥
none_mapped threads b is_mapped = let bad : ⊥ = none_some is_mapped.facts is_mapped.is in bad
  where
    none_some : (facts : BufferFacts) → None ≡ Some facts → ⊥
    none_some facts h = cc

-- a front with no store stands on the opening state
pub opening_stands : (f : Face) (s : Link) (threads : List ℕ) → Holds f no_hands s → ((o : Object) → f.objects o ≡ None) → Stands f s (opening threads)
opening_stands f s threads holds none = record {
  holds = holds;
  kinds = λ o. ap (λ b. option_map (λ v. v.kind) (option_map outline b)) (none o) ∙ sym (no_kinds threads o);
  agreement = λ o p defined. absurd (omega (arith, nothing_wanted threads o p, defined));
  maps = λ b is_mapped. absurd (none_mapped threads b is_mapped);
}

-- the empty tables of contexts and indexes
pub no_indexes : (group : ℕ) → HaveIndexes [] [] group
no_indexes group = record {
  each = λ n. refl;
  of_group = λ n i at. absurd (none_some i at);
  distinct = λ n m i at_n at_m. absurd (none_some i at_n);
}
  where
    none_some : (i : ℕ) → None ≡ Some i → ⊥
    none_some i h = cc

-- where no object has a store, each is owned
pub none_owned : (f : Face) (s : Link) → ((o : Object) → f.objects o ≡ None) → BarriersAreLicensed s → Owns f.objects s
none_owned f s none licensed = record {
  owner = λ id. InHand;
  each = λ o b at. absurd (none_some b (sym (none o) ∙ at));
  licensed = licensed;
}
  where
    none_some : (b : Stored) → None ≡ Some b → ⊥
    none_some b h = cc
