-- A turn that is passed on to the device inside.
use Rattle.std.proofs.Common.{◌≡◌, ℕ, List, subst, Ok, Err}
use Rattle.std.specs.Prelude.{Result}
use Rattle.vk_types.specs.declared.stops.Stop.{Stop}
use Rattle.vk_device.specs.declared.logged.Logged.{Logged}
use Rattle.vk_device.specs.declared.logged.Turned.{Turned}
use Rattle.vk_device.specs.declared.logged.Turned.TheVariants.{Ran, Idle}
use Rattle.vk_device.specs.Effects.{HasTurned}

module _ {D E : Type 0} (journal : D → List Logged) (bytes_of : D → ℕ → List ℕ) (inside : E → D) (old new : E) where
  outside : (result : Result Turned Stop) → HasTurned journal bytes_of (inside old) (inside new) result → HasTurned (λ (e : E). journal (inside e)) (λ (e : E) id. bytes_of (inside e) id) old new result
  outside (Ok (Ran batch node)) e = record { logged = e.logged; command = e.command; is = e.is; queue = e.queue; at = e.at; live = e.live; ready = e.ready; agree = e.agree; sizes = e.sizes }
  outside (Ok Idle) same = (record { logged = same.0.logged; others = same.0.others }, same.1)
  outside (Err stop) same = (record { logged = same.0.logged; others = same.0.others }, same.1)

  pub passed : (was : D) (result : Result Turned Stop) → was ≡ inside old → HasTurned journal bytes_of was (inside new) result → HasTurned (λ (e : E). journal (inside e)) (λ (e : E) id. bytes_of (inside e) id) old new result
  passed was result is turned = outside result (subst (λ d. HasTurned journal bytes_of d (inside new) result) is turned)
