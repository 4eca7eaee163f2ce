-- The slots of a page lie in it.
use Rattle.std.proofs.Common.{◌≡◌, ℕ, suc, ◌+◌, ◌*◌, ◌/◌, ◌%◌, ◌<◌, ◌≤◌, arith}
use Rattle.std.proofs.Math.Nat.{mod-lt, mul-le-mul_left, mul-le-mul_right, mul-suc}
use Rattle.event_ring.specs.Events.{index_after}
use Rattle.link_core.specs.declared.link.event.Layout.{Layout}
use Rattle.link_core.specs.Raise.{IsInPage, word_at}

ends_within : (first a k b size : ℕ) → a + size ≤ b → k < size → first + b ≤ 1024 → first + a + k < 1024
ends_within first a k b size h i j = omega arith

module _ (layout : Layout) (fits : IsInPage layout) where
  pub few_slots : layout.slots ≤ 1024
  few_slots =
      let more : 1 * layout.slots ≤ layout.size * layout.slots = mul-le-mul_right layout.slots fits.1 in
      omega (arith, more, fits.2)

  slot_ends : (slot : ℕ) → slot < layout.slots → layout.size * slot + layout.size ≤ layout.size * layout.slots
  slot_ends slot h =
      let next : layout.size * suc slot ≡ layout.size * slot + layout.size = mul-suc layout.size slot in
      let grows : layout.size * suc slot ≤ layout.size * layout.slots = mul-le-mul_left layout.size h in
      omega (arith, next, grows)

  pub in_slot : (slot k : ℕ) → slot < layout.slots → k < layout.size → layout.first + layout.size * slot + k < 1024
  in_slot slot k h i = ends_within layout.first (layout.size * slot) k (layout.size * layout.slots) layout.size (slot_ends slot h) i fits.2

  -- each word of the events stands in the page
  pub in_page : (prod i : ℕ) → word_at layout prod i < 1024
  in_page prod i =
      in_slot (index_after prod (i / layout.size) % layout.slots) (i % layout.size) (mod-lt (index_after prod (i / layout.size)) fits.0) (mod-lt i fits.1)
