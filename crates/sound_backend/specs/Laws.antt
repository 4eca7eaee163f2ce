-- What the pages of streams come to, and which streams there are.
use Rattle.std.specs.Prelude.{◌≡◌, ℕ, List, [], drop}
use Rattle.pv_words.specs.declared.device.NodeValue.{NodeValue}
use Rattle.pv_words.specs.declared.device.StreamKind.{StreamKind}
use Rattle.device_service.specs.Held as held
use Rattle.sound_backend.specs.contracts.service.ServiceServe.TheImpl.{ghosts}
use Rattle.sound_backend.specs.Service.{Known, Ending, sound}
use Rattle.sound_backend.specs.Stock.{Stock, kinds_in, pages_of, stripped, without_first}

-- The first page that is given up is the first of all; what is left is the others, in order. With all of them given up there are
-- the same streams as with one less.
abbrev pub GivesUpInOrder : Type 0
GivesUpInOrder =
    (s : Stock) → (pages_of (without_first s) ≡ drop 1 (pages_of s)) × (stripped (without_first s) ≡ stripped s) × (pages_of (stripped s) ≡ [])

-- Which way the octets of each stream go stays as it was declared, whatever the device does and hears, and over all connections: by a
-- request that comes, is answered or is dropped, by all that its activities come to, and where a connection begins and ends.
abbrev pub kinds_of : Known → List StreamKind
kinds_of x = kinds_in x.stock.streams

pub record KindsStay : Type 0 where
  pub begun : (x : Known) (nodes : List NodeValue) → kinds_of (sound.begun x nodes) ≡ kinds_of x
  pub taken : (x : Known) (part : ℕ) (words : List ℕ) → kinds_of (sound.taken x part words) ≡ kinds_of x
  pub ended : (x : Known) (a : Ending) → kinds_of (sound.after x a) ≡ kinds_of x
  pub answered : (x : Known) → kinds_of (sound.answered x) ≡ kinds_of x
  pub stripped : (x : Known) → kinds_of (sound.stripped x) ≡ kinds_of x
  pub dropped : (x : Known) → kinds_of (sound.dropped x) ≡ kinds_of x

-- Wherever a sound device stands by what it has done and heard, the pages that it tells are just those that its accesses hold, each
-- as often.
abbrev pub TellsWhatIsHeld : Type 0
TellsWhatIsHeld = held.AllTell ghosts
