use Rattle.std.proofs.Common.{◌≡◌, ◌<◌, length, drop, slice_get}
use Rattle.device_service.specs.Doing.{all_held}
use Rattle.device_service.proofs.parts.Parts.hold_at.Given as goal

abbrev pub invariant-loop-part : goal.invariant-loop-part
invariant-loop-part l = (l.place < length (all_held (drop l.part l.self.links.items))) × (slice_get (all_held (drop l.part l.self.links.items)) l.place ≡ slice_get (all_held l.self.links.items) l.fn.i)
