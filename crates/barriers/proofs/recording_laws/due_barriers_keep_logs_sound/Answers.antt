use Rattle.std.proofs.Common.{ℕ, List, refl}
use Rattle.std.specs.Prelude.{Bool}
use Rattle.vk_types.specs.Accesses.{host_read}
use Rattle.vk_model.specs.Log.{Item, IsSound, IsOneQueue}
use Rattle.barriers.specs.Licence.{Use}
use Rattle.barriers.specs.Recording.{AreNoneEmpty, AreUsed}
use Rattle.barriers.proofs.Tracked.{tracked}
use Rattle.barriers.proofs.WithDue.{Grown, with_due_grown, due_grown, licensed_access}
use Rattle.barriers.proofs.recording_laws.due_barriers_keep_logs_sound.Goals as goal

grown : (is_image : ℕ → Bool) (log : List Item) (uses : ℕ → List Use) → IsOneQueue log → IsSound log → AreNoneEmpty log → AreUsed is_image log uses → Grown is_image log uses
grown is_image log uses one sound some used = record {
  one = one;
  sound = sound;
  tracked = λ id. tracked log id (uses id) sound some (used.in_log id);
  used = used.in_log;
  licensed = used.licensed;
}

told : (is_image : ℕ → Bool) (log : List Item) (uses : ℕ → List Use) → Grown is_image log uses → IsSound log × AreUsed is_image log uses
told is_image log uses g = (g.sound, record { in_log = g.used; licensed = g.licensed })

pub returns-clause-node : goal.returns-clause-node
returns-clause-node c = λ log is_image uses n one sound some used device layouts.
    let laws = c.licensed_barriers_keep_logs_sound.ensures in
    told is_image _ _ (with_due_grown is_image laws.barrier laws.node laws.others laws.queue log uses (grown is_image log uses one sound some used) n device layouts)

pub returns-clause-barrier : goal.returns-clause-barrier
returns-clause-barrier c = λ log is_image uses t one sound some used of.
    let laws = c.licensed_barriers_keep_logs_sound.ensures in
    told is_image _ _ (due_grown is_image laws.barrier laws.node laws.others laws.queue log uses (grown is_image log uses one sound some used) t of _ refl)

pub returns-clause-read : goal.returns-clause-read
returns-clause-read c = λ log id is_image uses touch used licensed host free. (
  c.licensed_barriers_keep_logs_sound.ensures.read log id.0 uses is_image touch used host free,
  licensed_access id is_image uses host_read licensed,
)
