-- The fields of accesses to single words.
use Rattle.std.specs.Prelude.{ℕ, List, [], ◌∷◌, ◌++◌, codes}
use Rattle.std.specs.Fmt.{decimal}
use Rattle.pv_words.specs.declared.access.Access.{Access}
use Rattle.pv_words.specs.declared.access.Access.TheVariants.{Load, Store, Cas, Clear}
use Rattle.pv_words.specs.declared.place.Half.{Half}
use Rattle.pv_words.specs.declared.place.Half.TheVariants.{Flags, FrameNo}
use Rattle.pv_words.specs.declared.place.Place.{Place}
use Rattle.pv_words.specs.declared.place.Place.TheVariants.{Cell, Grant}

-- which word of a grant entry
abbrev pub half_word : Half → List ℕ
half_word Flags = codes "flags"
half_word FrameNo = codes "frame"

-- where a word stands
abbrev pub place_fields : Place → List (List ℕ)
place_fields (Cell dom frame word) = codes "cell" ∷ decimal dom.0 ∷ decimal frame.0 ∷ decimal word ∷ []
place_fields (Grant dom gref half) = codes "grant" ∷ decimal dom.0 ∷ decimal gref.0 ∷ half_word half ∷ []

-- what was done to a word, and where
abbrev pub access_fields : Access → List (List ℕ)
access_fields (Load place value) = codes "load" ∷ (place_fields place ++ decimal value ∷ [])
access_fields (Store place value) = codes "store" ∷ (place_fields place ++ decimal value ∷ [])
access_fields (Cas place old new seen) =
    codes "swap" ∷ (place_fields place ++ decimal old ∷ decimal new ∷ decimal seen ∷ [])
access_fields (Clear place mask seen) = codes "clear" ∷ (place_fields place ++ decimal mask ∷ decimal seen ∷ [])
