use Rattle.std.proofs.Common.{arith, Some, None}
use Rattle.cookie_table.specs.Entries.{IsUnused}
use Rattle.cookie_table.proofs.Keys.{all_push, distinct_push, fresh_absent, unused_kept}
use Rattle.cookie_table.proofs.entries.unused_entries.Goals as goal

pub loop-preserved : goal.loop-preserved
loop-preserved g c =
    let old = c.loop.entries in
    let new = c.insert_reserved-key.new.self in
    let key = c.insert_reserved-key.result in
    let keys = c.loop.keys.items in
    let made = c.insert_reserved-key.ensures in
    let pushed = c.push_reserved.ensures in
    let fresh = fresh_absent old key keys made.was_vacant c.loop.invariant.unused in
    record {
      unused = rw pushed.items (all_push (IsUnused new) keys key (unused_kept old new key (Some None) made.updates keys fresh c.loop.invariant.unused) made.updates.changed);
      distinct = rw pushed.items (distinct_push keys key c.loop.invariant.distinct fresh);
      number = omega (arith, pushed.len, c.loop.invariant.number);
      standing = omega (arith, made.len, c.loop.invariant.standing);
      entries_room = omega (arith, made.capacity, c.loop.invariant.entries_room);
      keys_room = omega (arith, pushed.capacity, c.loop.invariant.keys_room);
    }
