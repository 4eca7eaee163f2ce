use Rattle.std.proofs.Common.{◌≡◌, ℕ, ◌*◌, ◌<◌, ◌≤◌, ◌^◌, get_or, length}
use Rattle.pv_words.specs.Layout.{start_of}
use Rattle.pv_words.proofs.list_words.starts_of.Given as goal

-- the blocks so far begin where they should, and so will the next one
abbrev pub invariant-loop-b : goal.invariant-loop-b
invariant-loop-b l = record {
  long : length l.starts ≡ 10;
  before : (k : ℕ) → k < l.b → get_or l.starts k 0 ≡ start_of l.blocks k;
  next : l.start ≡ start_of l.blocks l.b;
  small : l.start ≤ l.b * 2 ^ 24;
}
