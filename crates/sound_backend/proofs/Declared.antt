-- Which way the octets of each stream go stays as it was declared.
use Rattle.std.proofs.Common.{◌≡◌, ℕ, Bool, true, false, Option, Some, None, refl}
use Rattle.snd_wire.specs.declared.types.Asked.{Asked}
use Rattle.snd_wire.specs.declared.types.Asked.TheVariants as asked
use Rattle.pcm_stream.specs.Stream.{closed, opened}
use Rattle.pcm_stream.specs.Tick.{after_tick}
use Rattle.page_directory.specs.declared.walk.Walked.TheVariants as walked
use Rattle.sound_backend.specs.declared.course.Demand.{Demand}
use Rattle.sound_backend.specs.declared.waiting.Waiting.TheVariants as waiting
use Rattle.sound_backend.specs.Laws.{KindsStay, kinds_of}
use Rattle.sound_backend.specs.Service.{Known, Ending, Listed, Freed, Served, after_end, answered_for, status_of}
use Rattle.sound_backend.specs.Stock.{Stock, kinds_in, stock_after}
use Rattle.page_directory.specs.Progress.{is_accepted}
use Rattle.sound_backend.proofs.Streams.{kinds_changed, kinds_closed, tick_kind}

ended : (x : Known) (a : Ending) → kinds_of (after_end x a) ≡ kinds_of x
ended x (Listed (walked.Pages ps)) = refl
ended x (Listed (walked.Refused why)) = refl
ended x Freed = refl
ended x (Served (waiting.Tick part n)) = kinds_changed (λ s. after_tick s n) (tick_kind n) x.stock.streams part

after_answer : (s : Stock) (part : ℕ) (a : Asked) (b : Bool) → kinds_in (stock_after s part a b).streams ≡ kinds_in s.streams
after_answer s part (asked.Open p) true = kinds_changed (λ s. opened s.kind p) (λ s. refl) s.streams part
after_answer s part (asked.Open p) false = refl
after_answer s part asked.Close true = kinds_changed (λ s. closed s.kind) (λ s. refl) s.streams part
after_answer s part asked.Close false = refl
after_answer s part (asked.Read o z) b = refl
after_answer s part a b = refl

answered : (x : Known) (o : Option Demand) → kinds_of (answered_for x o) ≡ kinds_of x
answered x None = refl
answered x (Some d) = after_answer x.stock d.part d.request.asked (is_accepted (status_of x d))

pub kinds_stay : KindsStay
kinds_stay =
    record {
      begun = λ x nodes. kinds_closed (kinds_in x.stock.streams);
      taken = λ x part words. refl;
      ended = ended;
      answered = λ x. answered x x.demand;
      stripped = λ x. refl;
      dropped = λ x. refl;
    }
