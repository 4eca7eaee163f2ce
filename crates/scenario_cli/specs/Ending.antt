-- How a command ends.
use Rattle.std.specs.Prelude.{◌≡◌, ℕ, ◌≤◌, ◌⊎◌, Bool, true, List, [], length, Option, Some, None, Ok as ok, Err as err}
use Rattle.pv_words.specs.declared.entry.Entry.{Entry}
use Rattle.pv_ports.specs.Port.{Gave, IsAtEnd, Appended, AppendedPrefix, Rose}
use Rattle.backend_core.specs.Marked.{Item}
use Rattle.report_text.specs.Report.{text}
use Rattle.scenario_text.specs.Scenario.{Scenario}
use Rattle.scenario_text.specs.Lines.{lines}
use Rattle.scenario_text.specs.Reading.{scenario_of, holds_item}
use Rattle.scenario_io.specs.Script.{GaveAtMost, GaveBlocks, GaveMany}
use Rattle.scenario_run.specs.Legal.{IsTrueJournal, IsLegal, IsLegalTo, IsFullFor, IsWantingFor}
use Rattle.scenario_cli.specs.declared.command.Command.{Command}
use Rattle.scenario_cli.specs.declared.command.Command.TheVariants.{Run}
use Rattle.scenario_cli.specs.declared.status.Status.{Status}
use Rattle.scenario_cli.specs.declared.status.Status.TheVariants as status

-- what a source tells: what is still to be read, and how often it failed
pub record SourceTold : Type 0 where
  pub rest : Option (List ℕ)
  pub faults : ℕ

-- what a sink tells: what it has got, and how often it failed
pub record SinkTold : Type 0 where
  pub bytes : Option (List ℕ)
  pub faults : ℕ

-- the source was read to its end, and had these octets, no more than a script may have
pub record IsRead (old new : Option (List ℕ)) (octets : List ℕ) : Type 0 where
  pub gave : Gave old new octets
  pub end : IsAtEnd new
  pub within : length octets ≤ 4194304

-- nothing was played, and the sink is as it was
pub record NothingDone (old new : SinkTold) (es : List Entry) : Type 0 where
  pub not_played : es ≡ []
  pub not_written : new ≡ old

-- the sink got this piece, and never failed
pub record IsWritten (old new : SinkTold) (piece : List ℕ) : Type 0 where
  pub appended : Appended old.bytes new.bytes piece
  pub no_fault : new.faults ≡ old.faults

-- the journal is one of these octets' scenario, to its end or to where the journal is full
pub record IsJournalFor (octets : List ℕ) (es : List Entry) : Type 0 where
  pub scenario : Scenario
  pub reads : scenario_of octets ≡ ok scenario
  pub legal : IsLegal scenario es ⊎ (IsLegalTo scenario es × IsFullFor scenario es)

-- where memory was wanting for a script of these octets: for what a line of it holds, or in its play, between two steps
abbrev pub WantsMemoryAt : (octets : List ℕ) (es : List Entry) → Type 0
WantsMemoryAt octets es =
    ((es ≡ []) × (holds_item (lines octets) ≡ true))
    ⊎ ((s : Scenario) × (scenario_of octets ≡ ok s) × IsWantingFor s es)

-- how a run ends that has read these octets: by status, with what became of the sink; the report is the text of the journal,
-- with a line for every entry where `with_words` is true
abbrev pub EndsFor : (with_words : Bool) (octets : List ℕ) (old new : SinkTold) (es : List Entry) → Status → Type 0
EndsFor with_words octets old new es status.Ok =
    (s : Scenario) × (scenario_of octets ≡ ok s) × IsLegal s es × IsWritten old new (text es with_words)
EndsFor with_words octets old new es (status.Script f) = (scenario_of octets ≡ err f) × NothingDone old new es
EndsFor with_words octets old new es status.WriteFault =
    Rose old.faults new.faults × IsJournalFor octets es × AppendedPrefix old.bytes new.bytes (text es with_words)
EndsFor with_words octets old new es status.OutOfMemory = WantsMemoryAt octets es × (new ≡ old)
EndsFor with_words octets old new es status.JournalFull =
    (s : Scenario) × (scenario_of octets ≡ ok s) × IsFullFor s es × IsLegalTo s es × IsWritten old new (text es with_words)
EndsFor with_words octets old new es status.Usage = ⊥
EndsFor with_words octets old new es status.ReadFault = ⊥
EndsFor with_words octets old new es status.TooLong = ⊥
EndsFor with_words octets old new es (status.NotLegal l) = ⊥

-- the script was read without a fault, and the run ended by it
pub record EndsBy (with_words : Bool) (was is : SourceTold) (old new : SinkTold) (es : List Entry) (s : Status) : Type 0 where
  pub octets : List ℕ
  pub is_read : IsRead was.rest is.rest octets
  pub no_fault : is.faults ≡ was.faults
  pub ends : EndsFor with_words octets old new es s

-- memory was wanting for a script that wasn't read to its end: the source never failed, and gave whole blocks of octets, or
-- none, and no octet that makes the script too long
pub record EndsUnread (was is : SourceTold) (old new : SinkTold) (es : List Entry) : Type 0 where
  pub gave : GaveBlocks was.rest is.rest
  pub no_fault : is.faults ≡ was.faults
  pub nothing_done : NothingDone old new es

-- how a run ends: by status, with what the source was and is, and what the sink was and is
abbrev pub RunEnds : (with_words : Bool) (was is : SourceTold) (old new : SinkTold) (es : List Entry) → Status → Type 0
RunEnds with_words was is old new es status.Usage = ⊥
RunEnds with_words was is old new es status.ReadFault =
    GaveAtMost was.rest is.rest 4194304 × Rose was.faults is.faults × NothingDone old new es
RunEnds with_words was is old new es status.TooLong =
    GaveMany was.rest is.rest 4194305 × (is.faults ≡ was.faults) × NothingDone old new es
RunEnds with_words was is old new es status.OutOfMemory =
    EndsUnread was is old new es ⊎ EndsBy with_words was is old new es status.OutOfMemory
RunEnds with_words was is old new es status.Ok = EndsBy with_words was is old new es status.Ok
RunEnds with_words was is old new es (status.Script f) = EndsBy with_words was is old new es (status.Script f)
RunEnds with_words was is old new es status.WriteFault = EndsBy with_words was is old new es status.WriteFault
RunEnds with_words was is old new es status.JournalFull = EndsBy with_words was is old new es status.JournalFull
RunEnds with_words was is old new es (status.NotLegal l) = ⊥

-- how a call ends that was asked for this command; where its words are none, nothing is read, played or written
abbrev pub Ends : Option Command → (was is : SourceTold) (old new : SinkTold) (es : List Entry) → Status → Type 0
Ends None was is old new es s = (s ≡ status.Usage) × (is ≡ was) × NothingDone old new es
Ends (Some (Run with_words)) was is old new es s = RunEnds with_words was is old new es s

-- the journal is a true one of the scenario that was read
pub record IsTrueFor (octets : List ℕ) (es : List Entry) : Type 0 where
  pub scenario : Scenario
  pub reads : scenario_of octets ≡ ok scenario
  pub marked : List Item
  pub true_journal : IsTrueJournal scenario marked es

-- if anything was played, it was the scenario of the octets that the source had, and the journal is a true one
abbrev pub HasPlayed : (old new : Option (List ℕ)) (es : List Entry) → Type 0
HasPlayed old new es = (es ≡ []) ⊎ ((octets : List ℕ) × IsRead old new octets × IsTrueFor octets es)
