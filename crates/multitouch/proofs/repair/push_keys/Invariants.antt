use Rattle.std.proofs.Common.{◌≡◌, ◌+◌, ◌≤◌, ◌++◌, length, map, take, not}
use Rattle.std.specs.List.{filter}
use Rattle.kbd_wire.specs.declared.Event.TheVariants.{Key}
use Rattle.multitouch.specs.Pressed.{is_key_down}
use Rattle.multitouch.proofs.repair.push_keys.Given as goal

abbrev pub invariant-loop-code : goal.invariant-loop-code
invariant-loop-code l = record {
  said : l.group ≡ l.initial.group ++ map (Key l.is_pressed) (filter (λ code. not (is_key_down l.those code)) (take l.code-index l.code-items));
  few : length l.group ≤ length l.initial.group + l.code-index;
}
