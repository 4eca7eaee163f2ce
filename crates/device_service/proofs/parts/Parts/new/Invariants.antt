use Rattle.std.proofs.Common.{◌≡◌, ℕ, true, Some, length, slice_get}
use Rattle.link_core.specs.declared.link.Link.{Link}
use Rattle.link_core.specs.Link.{dom_of, held_of, idle}
use Rattle.device_service.proofs.parts.Parts.new.Given as goal

abbrev pub invariant-loop-part : goal.invariant-loop-part
invariant-loop-part l =
    (length l.links.items ≡ l.part)
    × ((i : ℕ) (b : Link) → slice_get l.links.items i ≡ Some b → (dom_of b ≡ l.dom.0) × (length (held_of b) ≡ 0) × (idle b ≡ true))
