-- An event of the host that a sound device takes waits for a part that is there.
use Rattle.std.proofs.Common.{◌≡◌, ℕ, ◌<◌, true, refl, arith}
use Rattle.std.proofs.lemmas.Bool.{false≢true}
use Rattle.std.proofs.lemmas.Bool.Decides.{nat_tests}
use Rattle.pv_words.specs.declared.device.HostEvent.{HostEvent}
use Rattle.pv_words.specs.declared.device.HostEvent.TheVariants as host
use Rattle.device_service.specs.Waits.{IsFor}
use Rattle.sound_backend.specs.declared.waiting.Waiting.TheVariants as waiting
use Rattle.sound_backend.specs.Service.{sound}
use Rattle.sound_backend.specs.Waiting.{is_for}

pub waits_for : (n : ℕ) (e : HostEvent) → is_for n e ≡ true → IsFor sound n e
waits_for n (host.Blank c) h = absurd (false≢true h)
waits_for n (host.Show c) h = absurd (false≢true h)
waits_for n (host.Tick s k) h = let within : s < n = grind (arith, nat_tests, h) in (waiting.Tick s k, refl, within)
waits_for n (host.Touch t) h = absurd (false≢true h)
waits_for n (host.Key code pressed) h = absurd (false≢true h)
waits_for n (host.Motion x y z) h = absurd (false≢true h)
waits_for n (host.Position x y z) h = absurd (false≢true h)
