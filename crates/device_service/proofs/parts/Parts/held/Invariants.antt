use Rattle.std.proofs.Common.{◌≡◌, ◌+◌, ◌*◌, ◌≤◌, length, drop}
use Rattle.device_service.specs.Doing.{all_held}
use Rattle.device_service.proofs.parts.Parts.held.Given as goal

abbrev pub invariant-loop-part : goal.invariant-loop-part
invariant-loop-part l = (l.count + length (all_held (drop l.part l.self.links.items)) ≡ length (all_held l.self.links.items)) × (l.count ≤ 2 * l.part)
