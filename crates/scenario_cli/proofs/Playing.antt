-- Whatever the status, what was played is true.
use Rattle.std.specs.Prelude.{◌≡◌, ℕ, ◌⊎◌, Bool, List, [], Option, Ok as ok}
use Rattle.std.proofs.Common.{inl, inr}
use Rattle.pv_words.specs.declared.entry.Entry.{Entry}
use Rattle.scenario_text.specs.Scenario.{Scenario}
use Rattle.scenario_text.specs.Reading.{scenario_of}
use Rattle.scenario_run.specs.Legal.{IsLegal, IsLegalTo, IsFullFor}
use Rattle.scenario_cli.specs.declared.status.Status.{Status}
use Rattle.scenario_cli.specs.declared.status.Status.TheVariants as status
use Rattle.scenario_cli.specs.Ending.{EndsFor, SinkTold, WantsMemoryAt, HasPlayed, IsRead, IsTrueFor}

legal_is_true : (octets : List ℕ) (es : List Entry) (s : Scenario) → scenario_of octets ≡ ok s → IsLegal s es → IsTrueFor octets es
legal_is_true octets es s reads legal = record { scenario = s; reads = reads; marked = legal.marked; true_journal = legal.so_far }

legal_to_is_true : (octets : List ℕ) (es : List Entry) (s : Scenario) → scenario_of octets ≡ ok s → IsLegalTo s es → IsTrueFor octets es
legal_to_is_true octets es s reads legal = record { scenario = s; reads = reads; marked = legal.marked; true_journal = legal.so_far }

either_is_true : (octets : List ℕ) (es : List Entry) (s : Scenario) → scenario_of octets ≡ ok s → (IsLegal s es ⊎ (IsLegalTo s es × IsFullFor s es)) → IsTrueFor octets es
either_is_true octets es s reads (inl legal) = legal_is_true octets es s reads legal
either_is_true octets es s reads (inr legal) = legal_to_is_true octets es s reads legal.0

to_some_statement : (octets : List ℕ) (es : List Entry) → WantsMemoryAt octets es → (es ≡ []) ⊎ IsTrueFor octets es
to_some_statement octets es (inl p) = inl p.0
to_some_statement octets es (inr p) = inr (legal_to_is_true octets es p.0 p.1 p.2.legal)

what_was_played : (with_words : Bool) (octets : List ℕ) (old new : SinkTold) (es : List Entry) (s : Status) → EndsFor with_words octets old new es s → (es ≡ []) ⊎ IsTrueFor octets es
what_was_played with_words octets old new es status.Ok p = inr (legal_is_true octets es p.0 p.1 p.2)
what_was_played with_words octets old new es (status.Script f) p = inl p.1.not_played
what_was_played with_words octets old new es status.WriteFault p =
    inr (either_is_true octets es p.1.scenario p.1.reads p.1.legal)
what_was_played with_words octets old new es status.OutOfMemory p = to_some_statement octets es p.0
what_was_played with_words octets old new es status.JournalFull p = inr (legal_to_is_true octets es p.0 p.1 p.3)
what_was_played with_words octets old new es status.Usage p = elim p [ ]
what_was_played with_words octets old new es status.ReadFault p = elim p [ ]
what_was_played with_words octets old new es status.TooLong p = elim p [ ]
what_was_played with_words octets old new es (status.NotLegal l) p = elim p [ ]

of_read : (old new : Option (List ℕ)) (octets : List ℕ) (es : List Entry) → IsRead old new octets → ((es ≡ []) ⊎ IsTrueFor octets es) → HasPlayed old new es
of_read old new octets es is_read (inl none) = inl none
of_read old new octets es is_read (inr p) = inr (octets, is_read, p)

-- however it ended after the source was read
pub has_played : (with_words : Bool) (was is : Option (List ℕ)) (octets : List ℕ) (old new : SinkTold) (es : List Entry) (s : Status) → IsRead was is octets → EndsFor with_words octets old new es s → HasPlayed was is es
has_played with_words was is octets old new es s is_read ends = of_read was is octets es is_read (what_was_played with_words octets old new es s ends)
