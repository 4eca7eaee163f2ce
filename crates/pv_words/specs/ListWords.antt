-- A list of words as memory.
use Rattle.std.specs.Prelude.{◌≡◌, ℕ, ◌+◌, true, false, List, Option, Some, None, slice_index}
use Rattle.pv_words.specs.declared.place.DevId.{DevId}
use Rattle.pv_words.specs.declared.place.Place.{Place}
use Rattle.pv_words.specs.declared.access.Access.{Access}
use Rattle.pv_words.specs.declared.list_words.ListWords.{ListWords}
use Rattle.pv_words.specs.Layout.{start_of, block_of, offset_of, frames_in, grants_in}
use Rattle.pv_words.specs.Memory.{Answers}
use Rattle.pv_words.specs.Port.{Port, no_listing}

-- where in the list a word stands
abbrev pub index_of : List ℕ → Place → ℕ
index_of blocks at = start_of blocks (block_of at) + offset_of at

-- the word at a place
abbrev pub word_at : ListWords → Place → ℕ
word_at w at = slice_index w.words.items (index_of w.blocks at)

-- an access found the word that stood there and changed that word alone, and the places, and whose turn it is, are as
-- they were
pub record Makes (old : ListWords) (a : Access) (new : ListWords) : Type 0 where
  pub blocks : new.blocks ≡ old.blocks
  pub device : new.device ≡ old.device
  pub answers : Answers (frames_in old.blocks) (grants_in old.blocks) (word_at old) a (word_at new)

abbrev pub number_of_device : Option DevId → Option ℕ
number_of_device None = None
number_of_device (Some d) = Some d.0

-- it stands for every domain, may touch every place in range in any way, and tells each word; it keeps no entries, and needs
-- no list of mappings
abbrev pub port_of : ListWords → Port
port_of w =
    record { device = number_of_device w.device; serves = λ dom. true; everywhere = true; keeps = λ dom. false; opens = λ dom gref. None; listed = λ d. no_listing; told = λ at. Some (word_at w at) }
