-- An event of the host that a display takes waits for a part that is there.
use Rattle.std.proofs.Common.{◌≡◌, ℕ, ◌<◌, true, refl, arith}
use Rattle.std.proofs.lemmas.Bool.{false≢true}
use Rattle.std.proofs.lemmas.Bool.Decides.{nat_tests}
use Rattle.pv_words.specs.declared.device.HostEvent.{HostEvent}
use Rattle.pv_words.specs.declared.device.HostEvent.TheVariants as host
use Rattle.device_service.specs.Waits.{IsFor}
use Rattle.display_backend.specs.declared.waiting.Waiting.TheVariants as waiting
use Rattle.display_backend.specs.Service.{display}
use Rattle.display_backend.specs.Waiting.{is_for}

pub waits_for : (n : ℕ) (e : HostEvent) → is_for n e ≡ true → IsFor display n e
waits_for n (host.Blank c) h = let within : c < n = grind (arith, nat_tests, h) in (waiting.Blank c, refl, within)
waits_for n (host.Show c) h = let within : c < n = grind (arith, nat_tests, h) in (waiting.Show c, refl, within)
waits_for n (host.Tick s k) h = absurd (false≢true h)
waits_for n (host.Touch t) h = absurd (false≢true h)
waits_for n (host.Key code pressed) h = absurd (false≢true h)
waits_for n (host.Motion x y z) h = absurd (false≢true h)
waits_for n (host.Position x y z) h = absurd (false≢true h)
