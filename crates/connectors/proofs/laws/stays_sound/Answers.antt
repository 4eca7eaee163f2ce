use Rattle.connectors.proofs.Showing.{attached_sound, blanked_sound, configured_sound, detached_sound, flipped_sound}
use Rattle.connectors.proofs.laws.stays_sound.Goals as goal

pub returns : goal.returns
returns c = record {
  first = λ live. record { has_pixels = λ r e. absurd (cc); shown = λ fb e. absurd (cc); marked = λ fb e. absurd (cc) };
  attaches = attached_sound;
  detaches = detached_sound;
  configures = λ live k asked sound accepted. configured_sound live k asked accepted;
  flips = flipped_sound;
  blanks = blanked_sound;
}
