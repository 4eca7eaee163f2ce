-- Accesses that lie in the pages that are held.
use Rattle.std.proofs.Common.{◌≡◌, inl, inr, true, length, refl, arith}
use Rattle.std.proofs.lemmas.Bool.{false≢true}
use Rattle.pv_words.specs.declared.grant.Hold.{Hold}
use Rattle.pv_words.specs.declared.grant.Mode.TheVariants.{Write}
use Rattle.pv_words.specs.Held.{Has, Covers, CoversToWrite}
use Rattle.link_core.specs.declared.link.Kept.{Kept}
use Rattle.link_core.specs.declared.link.Kept.TheVariants as kept
use Rattle.link_core.specs.Stage.{held_in, has_ring_alone, has_event}

-- the ring's page is one of those that are held, where both are, and where it is alone
pub in_ring : (k : Kept) (r e : Hold) → length (held_in k r e) ≡ 2 → Has (Covers r.dom.0 r.frame.0) (held_in k r e)
in_ring kept.Nothing r e h = absurd (omega (arith, h))
in_ring kept.Ring r e h = absurd (omega (arith, h))
in_ring kept.Event r e h = absurd (omega (arith, h))
in_ring kept.Both r e h = inl (refl, refl)

pub in_ring_to_write : (k : Kept) (r e : Hold) → r.mode ≡ Write → length (held_in k r e) ≡ 2 → Has (CoversToWrite r.dom.0 r.frame.0) (held_in k r e)
in_ring_to_write kept.Nothing r e w h = absurd (omega (arith, h))
in_ring_to_write kept.Ring r e w h = absurd (omega (arith, h))
in_ring_to_write kept.Event r e w h = absurd (omega (arith, h))
in_ring_to_write kept.Both r e w h = inl ((refl, refl), w)

pub in_alone : (k : Kept) (r e : Hold) → has_ring_alone k ≡ true → Has (Covers r.dom.0 r.frame.0) (held_in k r e)
in_alone kept.Nothing r e h = absurd (false≢true h)
in_alone kept.Ring r e h = inl (refl, refl)
in_alone kept.Event r e h = absurd (false≢true h)
in_alone kept.Both r e h = absurd (false≢true h)

-- and so is the event page
pub in_event : (k : Kept) (r e : Hold) → has_event k ≡ true → Has (Covers e.dom.0 e.frame.0) (held_in k r e)
in_event kept.Nothing r e h = absurd (false≢true h)
in_event kept.Ring r e h = absurd (false≢true h)
in_event kept.Event r e h = inl (refl, refl)
in_event kept.Both r e h = inr (inl (refl, refl))
