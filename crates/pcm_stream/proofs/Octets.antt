-- Pieces of the line, and marks of lists that are put together.
use Rattle.std.proofs.Common.{◌≡◌, ℕ, ◌+◌, ◌-◌, ◌%◌, ◌<◌, ◌≤◌, zero, suc, List, [], ◌∷◌, ◌++◌, length, take, drop, fold, min, refl, sym, ap, ◌∙◌, arith, add-zero, zero-add, append_assoc, length-append, append-nil, take_all}
use Rattle.std.proofs.lemmas.List.Sums.{fold-append}
use Rattle.circular_buffer.specs.Buffer.{Buffer, buffer}
use Rattle.pv_words.specs.Mark.{mark_after, mark_of}
use Rattle.pcm_stream.specs.Line.{line_from}

pub length-line_from : (k n : ℕ) → length (line_from k n) ≡ n
length-line_from k zero = refl
length-line_from k (suc n) = ap suc (length-line_from (suc k) n)

-- the line goes on behind its first octets
pub line_from-add : (k m n : ℕ) → line_from k (m + n) ≡ line_from k m ++ line_from (k + m) n
line_from-add k zero n = ap (λ (i : ℕ). line_from k i) (zero-add n) ∙ ap (λ (i : ℕ). line_from i n) (sym (add-zero k))
line_from-add k (suc m) n =
    let counts : suc m + n ≡ suc (m + n) = omega arith in
    let places : suc k + m ≡ k + suc m = omega arith in
    ap (λ (i : ℕ). line_from k i) counts
    ∙ ap (λ (xs : List ℕ). (k % 251) ∷ xs) (line_from-add (suc k) m n)
    ∙ ap (λ (i : ℕ). (k % 251) ∷ (line_from (suc k) m ++ line_from i n)) places

-- the line comes again after 251 octets
pub line_from-mod : (k j n : ℕ) → k % 251 ≡ j % 251 → line_from k n ≡ line_from j n
line_from-mod k j zero e = refl
line_from-mod k j (suc n) e =
    let next : suc k % 251 ≡ suc j % 251 = omega (arith, e) in
    ap (λ (i : ℕ). i ∷ line_from (suc k) n) e ∙ ap (λ (xs : List ℕ). (j % 251) ∷ xs) (line_from-mod (suc k) (suc j) n next)

-- a part of the line
pub drop-line_from : (i k n : ℕ) → drop i (line_from k (i + n)) ≡ line_from (k + i) n
drop-line_from zero k n = ap (λ (j : ℕ). line_from k j) (zero-add n) ∙ ap (λ (j : ℕ). line_from j n) (sym (add-zero k))
drop-line_from (suc i) k n =
    let counts : suc i + n ≡ suc (i + n) = omega arith in
    let places : suc k + i ≡ k + suc i = omega arith in
    ap (λ (j : ℕ). drop (suc i) (line_from k j)) counts
    ∙ drop-line_from i (suc k) n
    ∙ ap (λ (j : ℕ). line_from j n) places

pub take-line_from : (i k n : ℕ) → take i (line_from k (i + n)) ≡ line_from k i
take-line_from zero k n = refl
take-line_from (suc i) k n =
    let counts : suc i + n ≡ suc (i + n) = omega arith in
    ap (λ (j : ℕ). take (suc i) (line_from k j)) counts ∙ ap (λ (xs : List ℕ). (k % 251) ∷ xs) (take-line_from i (suc k) n)

pub piece-line_from : (i n whole : ℕ) → i + n ≤ whole → take n (drop i (line_from 0 whole)) ≡ line_from i n
piece-line_from i n whole h =
    let split : whole ≡ i + (n + (whole - (i + n))) = omega arith in
    let from : 0 + i ≡ i = omega arith in
    ap (λ (w : ℕ). take n (drop i (line_from 0 w))) split
    ∙ ap (λ (xs : List ℕ). take n xs) (drop-line_from i 0 (n + (whole - (i + n))))
    ∙ take-line_from n (0 + i) (whole - (i + n))
    ∙ ap (λ (j : ℕ). line_from j n) from

-- the first octets of two lists, one behind the other
take-both : (n : ℕ) (xs ys : List ℕ) → take n (xs ++ ys) ≡ take (min (length xs) n) xs ++ take (n - min (length xs) n) ys
take-both n [] ys =
    let none : min 0 n ≡ 0 = omega arith in
    let all : n - 0 ≡ n = omega arith in
    rw (none, all) refl
take-both zero (x ∷ xs) ys =
    let none : min (suc (length xs)) 0 ≡ 0 = omega arith in
    rw none refl
take-both (suc n) (x ∷ xs) ys =
    let both : min (suc (length xs)) (suc n) ≡ suc (min (length xs) n) = omega arith in
    let rest : suc n - suc (min (length xs) n) ≡ n - min (length xs) n = omega arith in
    rw (both, rest) (ap (λ (zs : List ℕ). x ∷ zs) (take-both n xs ys))

pub mark-take-both : (n : ℕ) (xs ys zs : List ℕ) → xs ++ ys ≡ zs
    → fold mark_after (fold mark_after 0 (take (min (length xs) n) xs)) (take (n - min (length xs) n) ys) ≡ mark_of (take n zs)
mark-take-both n xs ys zs e =
    sym (fold-append mark_after 0 (take (min (length xs) n) xs) (take (n - min (length xs) n) ys))
    ∙ ap (λ (v : List ℕ). fold mark_after 0 v) (sym (take-both n xs ys))
    ∙ ap (λ (v : List ℕ). fold mark_after 0 (take n v)) e

-- how far a capture has come: so many octets are left of those that are to be appended
pub record Captured (before : List ℕ) (capacity first count left next mark : ℕ) (queue : Buffer ℕ) : Type 0 where
  pub within : left ≤ count
  pub place : next ≡ (first + (count - left)) % 251
  pub told : mark ≡ mark_of (line_from first (count - left))
  pub holds : queue ≡ buffer (before ++ line_from first (count - left)) capacity

pub captures-none : (before : List ℕ) (capacity first count : ℕ) (queue : Buffer ℕ) → first < 251 → queue ≡ buffer before capacity
    → Captured before capacity first count count first 0 queue
captures-none before capacity first count queue below e =
    let none : count - count ≡ 0 = omega arith in
    record {
      within = omega arith;
      place = omega arith;
      told = rw none refl;
      holds = rw none (rw append-nil e);
    }

pub captures-more : (before : List ℕ) (capacity first count left next mark size room : ℕ) (queue : Buffer ℕ) (piece : List ℕ)
    → Captured before capacity first count left next mark queue
    → length before + count ≤ capacity
    → size ≤ left
    → piece ≡ line_from next size
    → room ≡ min (length piece) (queue.capacity - length queue.items)
    → Captured before capacity first count (left - size) ((next + size) % 251) (fold mark_after mark piece)
    (buffer (queue.items ++ take room piece) queue.capacity)
captures-more before capacity first count left next mark size room queue piece c fits some is_piece is_room =
    let more : count - (left - size) ≡ (count - left) + size = omega (arith, c.within) in
    let same : next % 251 ≡ (first + (count - left)) % 251 = omega (arith, c.place) in
    let line = line_from-add first (count - left) size in
    let goes_on : piece ≡ line_from (first + (count - left)) size = is_piece ∙ line_from-mod next (first + (count - left)) size same in
    let piece_length : length piece ≡ size = ap length is_piece ∙ length-line_from next size in
    let items : queue.items ≡ before ++ line_from first (count - left) = ap (λ (q : Buffer ℕ). q.items) c.holds in
    let capacity_is : queue.capacity ≡ capacity = ap (λ (q : Buffer ℕ). q.capacity) c.holds in
    let items_length : length queue.items ≡ length before + (count - left) =
    ap length items
    ∙ length-append before (line_from first (count - left))
    ∙ ap (λ (n : ℕ). length before + n) (length-line_from first (count - left)) in
    let whole : take room piece ≡ piece =
    take_all room piece (omega (arith, piece_length, items_length, capacity_is, is_room, fits, c.within, some)) in
    let longer : line_from first (count - (left - size)) ≡ line_from first (count - left) ++ piece =
    ap (λ (n : ℕ). line_from first n) more ∙ line ∙ ap (λ (xs : List ℕ). line_from first (count - left) ++ xs) (sym goes_on) in
    record {
      within = omega (arith, c.within);
      place = rw more (omega (arith, c.place));
      told =
          ap (λ (m : ℕ). fold mark_after m piece) c.told
          ∙ sym (fold-append mark_after 0 (line_from first (count - left)) piece)
          ∙ ap (λ (xs : List ℕ). fold mark_after 0 xs) (sym longer);
      holds =
          ap (λ (xs : List ℕ). buffer (queue.items ++ xs) queue.capacity) whole
          ∙ ap (λ (xs : List ℕ). buffer (xs ++ piece) queue.capacity) items
          ∙ ap (λ (xs : List ℕ). buffer xs queue.capacity) (append_assoc before (line_from first (count - left)) piece
          ∙ ap (λ (xs : List ℕ). before ++ xs) (sym longer))
          ∙ ap (λ (n : ℕ). buffer (before ++ line_from first (count - (left - size))) n) capacity_is;
    }

all-captured : (count left : ℕ) → left ≡ 0 → count - left ≡ count
all-captured count left none = omega (arith, none)

pub mark-captured : (before : List ℕ) (capacity first count left next mark : ℕ) (queue : Buffer ℕ)
    → Captured before capacity first count left next mark queue → left ≡ 0 → mark ≡ mark_of (line_from first count)
mark-captured before capacity first count left next mark queue c none =
    c.told ∙ ap (λ (n : ℕ). mark_of (line_from first n)) (all-captured count left none)

pub queue-captured : (before : List ℕ) (capacity first count left next mark : ℕ) (queue : Buffer ℕ)
    → Captured before capacity first count left next mark queue → left ≡ 0 → queue ≡ buffer (before ++ line_from first count) capacity
queue-captured before capacity first count left next mark queue c none =
    c.holds ∙ ap (λ (n : ℕ). buffer (before ++ line_from first n) capacity) (all-captured count left none)
