use Rattle.std.proofs.Common.{◌≡◌, ◌+◌, ◌≤◌, ◌++◌, length}
use Rattle.multitouch.specs.Repair.{items_below}
use Rattle.multitouch.proofs.repair.push_contacts.Given as goal

abbrev pub invariant-loop-id : goal.invariant-loop-id
invariant-loop-id l = record {
  said : l.group ≡ l.initial.group ++ items_below l.told.contacts l.real.contacts l.id;
  few : length l.group ≤ length l.initial.group + l.id;
}
