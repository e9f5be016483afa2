use Rattle.front_model.proofs.KindsStores.{data_kinds, other_kinds, there_with_store, refused_kinds}
use Rattle.front_model.proofs.Maps.{data_unmaps, range_maps, other_maps, refused_maps}
use Rattle.front_model.proofs.state_laws.calls_keep_stores.Goals as goal

pub returns : goal.returns
returns c = record {
  «data» = data_kinds;
  others = other_kinds;
  stays = λ state thread asked o sizes left some. there_with_store state.group o some;
  refused = refused_kinds;
  unmapped = data_unmaps;
  mapped = range_maps;
  maps = other_maps;
  maps_stay = refused_maps;
}
