use Rattle.std.proofs.Common.{subst, sym}
use Rattle.vk_device.specs.Order.{log_of, FindItsLayouts}
use Rattle.vk_fakes.proofs.fuse.FuseDeviceDevice.submit.Goals as goal

pub submit-requires-clause-layouts : goal.submit-requires-clause-layouts
submit-requires-clause-layouts g c = subst (λ i. FindItsLayouts (log_of (g.D.Device.journal i)) c.args.batch.now) (sym c.blows.ensures.inner) c.requires.layouts
