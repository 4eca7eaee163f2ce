-- A buffer that is filled in turns.
use Rattle.std.proofs.Common.{◌≡◌, ℕ, ◌+◌, ◌≤◌, List, ◌++◌, length, take, Option, arith, length-append, length-take}
use Rattle.std.proofs.lemmas.List.{take-take, take-append-le}
use borrow.Rule.Slice.PartMut.{put_mid, post_of}
use Rattle.pv_ports.specs.Port.{Gave}
use Rattle.pv_ports.proofs.Octets.{Gave-fill, Gave-append}
use Rattle.scenario_io.specs.Script.{GaveAtMost}

-- what was put behind a place in a buffer lies within the buffer
pub within-put_mid : (done room count : ℕ) (into part : List ℕ) → done ≤ length into → count ≤ length part → done + count ≤ length (put_mid done room into part)
within-put_mid done room count into part within fits =
    omega (arith, length-take done into, length-append (take done into) (part ++ post_of done room into), length-append part (post_of done room into))

-- a buffer that was filled up to one place, made longer, and filled up to a later place
pub Gave-refill : (old mid new : Option (List ℕ)) (into part tail : List ℕ) (done room count whole : ℕ) → done ≤ length into → count ≤ length part → done + count ≤ whole → Gave old mid (take done into) → Gave mid new (take count part) → Gave old new (take (done + count) (take whole (put_mid done room into part ++ tail)))
Gave-refill old mid new into part tail done room count whole within fits below a b =
    let octets = put_mid done room into part in
    let front : take (done + count) (take whole (octets ++ tail)) ≡ take (done + count) (octets ++ tail) = take-take (done + count) whole (octets ++ tail) below in
    let inner : take (done + count) (octets ++ tail) ≡ take (done + count) octets = take-append-le (done + count) octets tail (within-put_mid done room count into part within fits) in
    rw (front, inner) (Gave-fill old mid new into part done room count within fits a b)

-- a longer buffer that begins with all of a buffer begins with each front of it
pub take-longer : (before after held : List ℕ) (len whole : ℕ) → len ≤ whole → take whole after ≡ before → held ≡ after → take len before ≡ take len held
take-longer before after held len whole below kept is =
    let front : take len (take whole after) ≡ take len after = take-take len whole after below in
    cc

-- a front of a buffer, and then no more than the rest of the buffer
pub GaveAtMost-append : (old mid new : Option (List ℕ)) (into : List ℕ) (done more limit : ℕ) → done + more ≤ limit → Gave old mid (take done into) → GaveAtMost mid new more → GaveAtMost old new limit
GaveAtMost-append old mid new into done more limit below gave then =
    record {
      octets = take done into ++ then.octets;
      few = omega (arith, length-take done into, length-append (take done into) then.octets, then.few);
      gave = Gave-append old mid new (take done into) then.octets gave then.gave;
    }
