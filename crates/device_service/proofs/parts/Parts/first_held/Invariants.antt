use Rattle.std.proofs.Common.{◌≡◌, ℕ, ◌<◌, Some, length, slice_get}
use Rattle.link_core.specs.declared.link.Link.{Link}
use Rattle.link_core.specs.Link.{held_of}
use Rattle.device_service.proofs.parts.Parts.first_held.Given as goal

abbrev pub invariant-loop-part : goal.invariant-loop-part
invariant-loop-part l = (i : ℕ) (b : Link) → i < l.part → slice_get l.self.links.items i ≡ Some b → length (held_of b) ≡ 0
