use Rattle.framebuffers.proofs.Sound.{sound_with, sound_without}
use Rattle.framebuffers.proofs.laws.stays_sound.Goals as goal

pub returns : goal.returns
returns c fs sound = (λ a buffer accepted. sound_with fs a buffer sound accepted, λ cookie. sound_without cookie fs sound)
