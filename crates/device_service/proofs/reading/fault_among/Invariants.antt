use Rattle.std.proofs.Common.{◌≡◌, ◌-◌}
use Rattle.device_service.specs.Nodes.{fault_in, keys_of}
use Rattle.device_service.specs.Parts.{kind_in}
use Rattle.xenbus_states.specs.Needs.{first_fault, needs_from}
use Rattle.device_service.proofs.reading.fault_among.Given as goal

abbrev pub invariant-loop-part : goal.invariant-loop-part
invariant-loop-part l = fault_in (first_fault l.nodes (needs_from (keys_of (kind_in l.fn.ringed)) 0 l.fn.parts)) ≡ fault_in (first_fault l.nodes (needs_from (keys_of (kind_in l.fn.ringed)) l.part (l.fn.parts - l.part)))
