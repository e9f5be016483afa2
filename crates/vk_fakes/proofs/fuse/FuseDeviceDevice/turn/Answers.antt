use Rattle.vk_fakes.proofs.Passing.{passed}
use Rattle.vk_fakes.proofs.fuse.FuseDeviceDevice.turn.Goals as goal

pub returns-clause-turned : goal.returns-clause-turned
returns-clause-turned g c = passed g.D.Device.journal g.D.Device.bytes_of (λ f. f.inner) _ _ c.blows.new.self.inner c.turn.result c.blows.ensures.inner c.turn.ensures.turned
