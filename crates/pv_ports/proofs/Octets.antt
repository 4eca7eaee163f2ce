-- How what calls of a port did to its octets adds up.
use Rattle.std.proofs.Common.{◌≡◌, ℕ, ◌+◌, ◌≤◌, List, [], ◌++◌, length, take, drop, Option, None, Some, refl, sym, ◌∙◌, ap, subst, arith, append_assoc, length-take}
use Rattle.std.proofs.lemmas.List.{append-nil, take-append-drop, take-append-le, drop-drop}
use Rattle.std.proofs.Math.Seq.{take-add, take-append-add, take-append_seam, drop-append_seam}
use borrow.Rule.Slice.PartMut.{put_mid, post_of}
use Rattle.std.specs.Prelude.{option_map, Result, Ok, Err, OnErr}
use Rattle.pv_ports.specs.Port.{Gave, Appended, AppendedPrefix}

-- a sink that stays as it was has got nothing
pub Appended-nothing : (told : Option (List ℕ)) → Appended told told []
Appended-nothing None = record { is = refl }
Appended-nothing (Some octets) = record { is = ap Some (sym (append-nil octets)) }

-- two pieces in a row are their concatenation
pub Appended-append : (old mid new : Option (List ℕ)) (first second : List ℕ) → Appended old mid first → Appended mid new second → Appended old new (first ++ second)
Appended-append None mid new first second a b = record { is = b.is ∙ ap (option_map (λ octets. octets ++ second)) a.is }
Appended-append (Some octets) mid new first second a b =
    record { is = b.is ∙ ap (option_map (λ octets. octets ++ second)) a.is ∙ ap Some (append_assoc octets first second) }

-- a sink that told what it had tells it with the piece behind it
pub Appended-told : (octets : List ℕ) (old new : Option (List ℕ)) (piece : List ℕ) → Appended old new piece → old ≡ Some octets → new ≡ Some (octets ++ piece)
Appended-told octets old new piece a told = a.is ∙ ap (option_map (λ octets. octets ++ piece)) told

-- the whole piece is a front of it
pub AppendedPrefix-whole : (old new : Option (List ℕ)) (piece : List ℕ) → Appended old new piece → AppendedPrefix old new piece
AppendedPrefix-whole old new piece a = record { front = piece; left = []; split = append-nil piece; appended = a }

-- so is nothing
pub AppendedPrefix-nothing : (told : Option (List ℕ)) (piece : List ℕ) → AppendedPrefix told told piece
AppendedPrefix-nothing told piece = record { front = []; left = piece; split = refl; appended = Appended-nothing told }

-- a front of the second piece after the whole first is a front of both
pub AppendedPrefix-append : (old mid new : Option (List ℕ)) (first second : List ℕ) → Appended old mid first → AppendedPrefix mid new second → AppendedPrefix old new (first ++ second)
AppendedPrefix-append old mid new first second a b =
    record {
      front = first ++ b.front;
      left = b.left;
      split = append_assoc first b.front b.left ∙ ap (λ (octets : List ℕ). first ++ octets) b.split;
      appended = Appended-append old mid new first b.front a b.appended;
    }

-- a front of a piece is a front of any piece that begins with it
pub AppendedPrefix-longer : (old new : Option (List ℕ)) (piece more : List ℕ) → AppendedPrefix old new piece → AppendedPrefix old new (piece ++ more)
AppendedPrefix-longer old new piece more a =
    record {
      front = a.front;
      left = a.left ++ more;
      split = sym (append_assoc a.front a.left more) ∙ ap (λ (octets : List ℕ). octets ++ more) a.split;
      appended = a.appended;
    }

-- a piece that was taken up to one place, and then up to a later one
pub Appended-take : (old mid new : Option (List ℕ)) (piece : List ℕ) (done count : ℕ) → Appended old mid (take done piece) → Appended mid new (take count (drop done piece)) → Appended old new (take (done + count) piece)
Appended-take old mid new piece done count a b = rw take-add (Appended-append old mid new (take done piece) (take count (drop done piece)) a b)

-- a piece that was taken up to some place, by a sink that then stayed as it was
pub AppendedPrefix-take : (old mid new : Option (List ℕ)) (piece : List ℕ) (done : ℕ) → Appended old mid (take done piece) → new ≡ mid → AppendedPrefix old new piece
AppendedPrefix-take old mid new piece done a same =
    record {
      front = take done piece;
      left = drop done piece;
      split = take-append-drop done piece;
      appended = record { is = same ∙ a.is };
    }

-- a source that stays as it was gave nothing
pub Gave-nothing : (told : Option (List ℕ)) → Gave told told []
Gave-nothing None = record { was = refl }
Gave-nothing (Some rest) = record { was = refl }

-- what two reads in a row gave is their octets, one after the other
pub Gave-append : (old mid new : Option (List ℕ)) (first second : List ℕ) → Gave old mid first → Gave mid new second → Gave old new (first ++ second)
Gave-append old mid None first second a b = record { was = a.was ∙ ap (option_map (λ rest. first ++ rest)) b.was }
Gave-append old mid (Some rest) first second a b =
    record { was = a.was ∙ ap (option_map (λ rest. first ++ rest)) b.was ∙ ap Some (sym (append_assoc first second rest)) }

-- a source that told its rest tells what is behind the octets
pub Gave-told : (rest : List ℕ) (old new : Option (List ℕ)) (octets : List ℕ) → Gave old new octets → old ≡ Some rest → new ≡ Some (drop (length octets) rest)
Gave-told rest old None octets gave told = cc
Gave-told rest old (Some left) octets gave told =
    let whole : rest ≡ octets ++ left = cc in
    rw whole (ap Some (sym (drop-append_seam octets left)))

-- and the octets stood at its front
pub Gave-front : (rest : List ℕ) (old new : Option (List ℕ)) (octets : List ℕ) → Gave old new octets → old ≡ Some rest → take (length octets) rest ≡ octets
Gave-front rest old None octets gave told = cc
Gave-front rest old (Some left) octets gave told =
    let whole : rest ≡ octets ++ left = cc in
    rw whole (take-append_seam octets left)

-- what is behind a place in a list is the octets that were read there and what is behind them
pub drop-between : (bytes : List ℕ) (at count : ℕ) (octets : List ℕ) → octets ≡ take count (drop at bytes) → drop at bytes ≡ octets ++ drop (at + count) bytes
drop-between bytes at count octets is = sym (rw (is, ← drop-drop count at bytes) (take-append-drop count (drop at bytes)))

-- a list that was read up to one place, and then up to a later one
pub Gave-between : (bytes : List ℕ) (at count : ℕ) (octets : List ℕ) → octets ≡ take count (drop at bytes) → Gave (Some (drop at bytes)) (Some (drop (at + count) bytes)) octets
Gave-between bytes at count octets is =
    record { was = ap Some (drop-between bytes at count octets is) }

-- the same, where the last call's result is returned as it is
pub OnErr-append : {T E : Type 0} (result : Result T E) (old mid new : Option (List ℕ)) (first second : List ℕ) → Appended old mid first → OnErr result (AppendedPrefix mid new second) → OnErr result (AppendedPrefix old new (first ++ second))
OnErr-append (Ok x) old mid new first second a b = tt
OnErr-append (Err e) old mid new first second a b = AppendedPrefix-append old mid new first second a b

-- a buffer that was filled up to one place, and then, by a read into what is behind it, up to a later one
pub Gave-fill : (old mid new : Option (List ℕ)) (into part : List ℕ) (done room count : ℕ) → done ≤ length into → count ≤ length part → Gave old mid (take done into) → Gave mid new (take count part) → Gave old new (take (done + count) (put_mid done room into part))
Gave-fill old mid new into part done room count within fits a b =
    let front : List ℕ = take done into in
    let behind : List ℕ = part ++ post_of done room into in
    let is_done : length front ≡ done = omega (arith, length-take done into) in
    let Splits : ℕ → Type 0 = λ (n : ℕ). take (n + count) (front ++ behind) ≡ front ++ take count behind in
    let both : take (done + count) (front ++ behind) ≡ front ++ take count behind = subst Splits is_done (take-append-add front behind count) in
    let filled : take count behind ≡ take count part = take-append-le count part (post_of done room into) fits in
    rw (both, filled) (Gave-append old mid new front (take count part) a b)

-- what adds up, for tactics
pub ruleset adding_up = (Appended-nothing, Appended-append, Appended-take, AppendedPrefix-whole, AppendedPrefix-nothing, AppendedPrefix-append, AppendedPrefix-longer, AppendedPrefix-take, OnErr-append, Gave-nothing, Gave-append, Gave-between, Gave-fill)
