use Rattle.std.proofs.Common.{ap}
use Rattle.vk_fakes.proofs.Blown.{blown}
use Rattle.vk_fakes.proofs.fuse.FuseDeviceDevice.create.Goals as goal

pub returns-then-blows-clause-cause : goal.returns-then-blows-clause-cause
returns-then-blows-clause-cause g c = blown _ _ _ _ (c.blows.ensures.blown c.if-blows.true) c.blows.ensures.later (ap g.D.Device.faults c.blows.ensures.inner)
