-- What ends and permits come to.
use Rattle.std.specs.Prelude.{◌≡◌, ℕ, ◌==◌, ◌<◌, ◌^◌, true, false, Bool, Option, None, if◌then◌else◌}
use Rattle.pv_words.specs.declared.grant.Mode.{Mode}
use Rattle.pv_words.specs.declared.grant.Mode.TheVariants.{Read, Write}
use Rattle.pv_words.specs.declared.place.Half.TheVariants.{Flags}
use Rattle.pv_words.specs.Flags.{has, used}
use Rattle.pv_words.specs.Held.{permits}
use Rattle.pv_words.specs.Keeping.{KeepsTo, nothing_known}
use Rattle.pv_words.specs.Memory.{without}
use Rattle.pv_words.specs.Port.{Opening, FitsHalf}
use Rattle.grant_table.specs.declared.owner.Owned.{Owned}
use Rattle.grant_table.specs.declared.owner.Owned.TheVariants.{Opened, AlreadyOpen, Ended, Busy, Moved}
use Rattle.grant_table.specs.Owning.{granting, permit_plan, end_plan, opened_at, ended_at}

-- the flags' word after the exchange of an end that loaded this word and saw the other
abbrev pub closed : ℕ → ℕ → ℕ
closed word seen = if seen == without word used then 0 else seen

-- what an answer says of the flags' word that was seen, and of the one that stands there then
abbrev pub Means : Owned → (seen now : ℕ) → Type 0
Means Opened seen now = ⊥
Means (AlreadyOpen w) seen now = ⊥
Means Ended seen now = (has seen used ≡ false) × (now ≡ 0)
Means (Busy s) seen now = (has seen used ≡ true) × ((s ≡ seen) × (now ≡ seen))
Means (Moved w s) seen now = (has seen used ≡ false) × ((s ≡ seen) × (now ≡ seen))

-- Ended: no in-use bit was set, and the entry is free. Else it is as it was, and Busy tells that an in-use bit was set
abbrev pub EndsExactly : Type 0
EndsExactly = (word seen : ℕ) → Means (ended_at word seen) seen (closed word seen)

-- a grant for a mode lets a page be mapped for the same mode, and one for writing for reading too
abbrev pub lets : Mode → Mode → Bool
lets Read Read = true
lets Read Write = false
lets Write Read = true
lets Write Write = true

-- the flags' word that a permit leaves permits what the grant is for
abbrev pub GrantsExactly : Type 0
GrantsExactly = (given asked : Mode) → permits (granting given) asked ≡ lets given asked

-- each access of a permit and of an end, whatever it finds, goes to the entry, as it may after those before it
abbrev pub PermitsAtEntry : Type 0
PermitsAtEntry =
    (dom gref frame : ℕ) (mode : Mode) → KeepsTo dom gref frame nothing_known (permit_plan dom gref frame mode)

abbrev pub EndsAtEntry : Type 0
EndsAtEntry = (dom gref frame : ℕ) → KeepsTo dom gref frame nothing_known (end_plan dom gref)

-- What the answers come to over an entry that a port keeps, whose flags' words fit whether the grant is open: a permit
-- opens it exactly where it isn't open.
abbrev pub OpensExactly : Type 0
OpensExactly =
    (o : Option Opening) (seen : ℕ) → FitsHalf Flags o seen →
    ((opened_at seen ≡ Opened) → (o ≡ None)) × ((o ≡ None) → (opened_at seen ≡ Opened))

-- And an end is Busy where its exchange saw an in-use bit, and Ended else.
abbrev pub FreesExactly : Type 0
FreesExactly =
    (o : Option Opening) (word seen : ℕ) → seen < 2 ^ 32 → FitsHalf Flags o word → FitsHalf Flags o seen →
    ended_at word seen ≡ (if has seen used then Busy seen else Ended)
