use Rattle.std.proofs.Common.{◌<◌}
use Rattle.std.specs.Ordering.{nat_cmp}
use Rattle.std.specs.BTreeMap.{is_at}
use Rattle.std.proofs.lemmas.Map.Views.{IfSome-lookup_from_All}
use Rattle.gl_model.proofs.KeyLaws.{has-same_keys}
use Rattle.gl_model.proofs.SyncLaws.{reached-syncs, after_entry-syncs, effect-syncs}
use Rattle.gl_model.proofs.laws.syncs_are_of_the_group.Goals as goal

pub returns : goal.returns
returns c = record {
  reached = reached-syncs;
  entry = after_entry-syncs;
  effect = effect-syncs;
  numbers = λ state place n holds. (has-same_keys n state.fences state.group.syncs holds.fences, has-same_keys n state.egl_fences state.group.egl_syncs holds.egl_fences);
  places = λ state place n holds. (
    IfSome-lookup_from_All (λ f. f.place < place) (is_at (nat_cmp n)) state.fences holds.fence_places,
    IfSome-lookup_from_All (λ f. f.place < place) (is_at (nat_cmp n)) state.egl_fences holds.egl_fence_places,
    IfSome-lookup_from_All (λ birth. birth < place) (is_at (nat_cmp n)) state.births holds.birth_places,
  );
}
