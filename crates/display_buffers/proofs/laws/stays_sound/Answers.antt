use Rattle.display_buffers.proofs.Names.{sound_with, sound_without}
use Rattle.display_buffers.proofs.laws.stays_sound.Goals as goal

pub returns : goal.returns
returns g c bs sound = (
  λ asked pages passed. sound_with bs asked pages sound passed,
  λ cookie. sound_without cookie bs sound,
)
