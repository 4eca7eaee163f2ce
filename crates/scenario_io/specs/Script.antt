-- What is read of a source.
use Rattle.std.specs.Prelude.{◌≡◌, ℕ, ◌≤◌, ◌%◌, List, length, Option, Result, Ok, Err}
use Rattle.pv_ports.specs.Port.{Gave, Rose}
use Rattle.scenario_io.specs.declared.script.ReadError.{ReadError}
use Rattle.scenario_io.specs.declared.script.ReadError.TheVariants.{Failed, TooLong, OutOfMemory}

-- the source gave so many octets, in order, with none left out
pub record GaveMany (old new : Option (List ℕ)) (count : ℕ) : Type 0 where
  pub octets : List ℕ
  pub many : length octets ≡ count
  pub gave : Gave old new octets

-- the source gave at most so many octets, in order, with none left out
pub record GaveAtMost (old new : Option (List ℕ)) (limit : ℕ) : Type 0 where
  pub octets : List ℕ
  pub few : length octets ≤ limit
  pub gave : Gave old new octets

-- the source gave so many whole blocks of 65536 octets as a script may have, or none
pub record GaveBlocks (old new : Option (List ℕ)) : Type 0 where
  pub octets : List ℕ
  pub whole : length octets % 65536 ≡ 0
  pub few : length octets ≤ 4194304
  pub gave : Gave old new octets

-- how the source's count of faults stands after a result: it rose where the source failed, and is as it was after any other
abbrev pub TellsFaults : {A : Type 0} (before now : ℕ) → Result A ReadError → Type 0
TellsFaults before now (Ok script) = now ≡ before
TellsFaults before now (Err Failed) = Rose before now
TellsFaults before now (Err TooLong) = now ≡ before
TellsFaults before now (Err OutOfMemory) = now ≡ before
