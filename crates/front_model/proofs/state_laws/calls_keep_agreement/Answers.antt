use Rattle.front_model.proofs.AgreeingStores.{Laws, other_agrees}
use Rattle.front_model.proofs.Agreeing.{data_agrees, sub_agrees, copy_agrees, map_write_agrees, map_agrees, flush_agrees, unmap_agrees, delete_agrees, refused_agrees, told_agrees}
use Rattle.front_model.proofs.state_laws.calls_keep_agreement.Goals as goal

pub returns : goal.returns
returns c =
    let laws : Laws = record {
      projects = c.group_is_a_projection.ensures.effect;
      writes = c.stores_after_an_effect.ensures.written;
      leaves_stores = c.stores_after_an_effect.ensures.others;
      changes_one = c.stores_after_an_effect.ensures.one;
      leaves_images = c.images_after_an_effect.ensures.others;
    } in
    record {
      «data» = data_agrees laws;
      sub = sub_agrees laws;
      copy = copy_agrees laws;
      map_write = map_write_agrees laws;
      map = map_agrees laws;
      flush = flush_agrees laws;
      unmap = unmap_agrees laws;
      delete = delete_agrees laws;
      others = λ state thread place asked seen buffer images agree. other_agrees laws state thread asked place images seen buffer agree;
      refused = refused_agrees;
      told = told_agrees;
    }
