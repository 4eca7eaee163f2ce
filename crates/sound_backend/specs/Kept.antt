-- What is known of a sound device's service.
use Rattle.std.proofs.Common.{◌≡◌, ℕ, zero, suc, ◌<◌, ◌++◌, pos, Bool, true, false, List, [], ◌∷◌, length, Option, Some, None, is_some, replicate, slice_get, refl, sym, ap, ◌∙◌}
use Rattle.std.proofs.lemmas.Bool.{true≢false}
use Rattle.std.specs.List.{AllByRecursion}
use Rattle.pv_words.specs.declared.grant.Hold.{Hold}
use Rattle.pv_words.specs.Found.{Found}
use Rattle.pv_words.specs.Plan.{IsUntouched}
use Rattle.snd_wire.specs.declared.types.Asked.TheVariants as asked
use Rattle.pcm_params.specs.declared.params.Params.{Params}
use Rattle.pcm_stream.specs.State.{is_closed}
use Rattle.pcm_stream.specs.Stream.{Pcm}
use Rattle.page_directory.specs.declared.walk.Walked.{Walked}
use Rattle.page_directory.specs.declared.walk.Walked.TheVariants as walked
use Rattle.page_directory.specs.Laws as walk
use Rattle.link_core.specs.Laws.{AreOf}
use Rattle.device_core.specs.Touched.{Touch}
use Rattle.device_service.specs.Laws.{Facts}
use Rattle.page_directory.specs.Lists.{left_nil, right_nil}
use Rattle.sound_backend.specs.declared.course.Course.{Course}
use Rattle.sound_backend.specs.declared.course.Course.TheVariants.{Rests, Walks, Frees}
use Rattle.sound_backend.specs.declared.course.Demand.{Demand}
use Rattle.page_directory.specs.declared.progress.Progress.{Progress}
use Rattle.page_directory.specs.declared.progress.Progress.TheVariants as progress
use Rattle.sound_backend.specs.declared.waiting.Waiting.{Waiting}
use Rattle.sound_backend.specs.Course.{is_under_way, pages_walked, stock_at}
use Rattle.sound_backend.specs.Held.{all_bared, list_at, pages_in}
use Rattle.sound_backend.specs.Names.{Numbered}
use Rattle.sound_backend.specs.Service.{Known, Ending, Listed, Freed, Served, closed_known, reply_for, sound}
use Rattle.sound_backend.specs.Stock.{Stock, kinds_in, pages_of, stripped}
use Rattle.sound_backend.specs.Verdict.{mode_at, verdict}

-- the request in hand is an OPEN that is accepted, or a CLOSE
abbrev pub IsOpening : Stock → Demand → Params → Type 0
IsOpening s d p = (d.request.asked ≡ asked.Open p) × (verdict s.streams d ≡ pos 0)

abbrev pub IsClosing : Stock → Demand → Type 0
IsClosing s d = (d.request.asked ≡ asked.Close) × (verdict s.streams d ≡ pos 0)

-- How far the request in hand has come: pages are mapped for an accepted OPEN alone, and those of the stream of an accepted CLOSE are
-- unmapped.
abbrev pub HasComeTo : Stock → Demand → Progress → Type 0
HasComeTo s d progress.Decided = s.mapped ≡ []
HasComeTo s d progress.NoMemory = ((p : Params) × IsOpening s d p) × (s.mapped ≡ [])
HasComeTo s d progress.Denied = ((p : Params) × IsOpening s d p) × (s.mapped ≡ [])
HasComeTo s d progress.Mapped = ((p : Params) × IsOpening s d p) × (0 < length s.mapped)
HasComeTo s d progress.Released = (IsClosing s d × (list_at s.held d.part ≡ [])) × (s.mapped ≡ [])

abbrev pub Come : Stock → Progress → Option Demand → Type 0
Come s p None = (p ≡ progress.Decided) × (s.mapped ≡ [])
Come s p (Some d) = HasComeTo s d p

abbrev pub HasCome : Bool → Known → Type 0
HasCome b x = (is_some x.demand ≡ b) × Come x.stock x.progress x.demand

-- the stream of this part is there, and open
pub record IsOpen (streams : List Pcm) (part : ℕ) : Type 0 where
  pub stream : Pcm
  pub is : slice_get streams part ≡ Some stream
  pub opened : is_closed stream.state ≡ false

-- each name is that of an open stream
abbrev pub AreNamed : List Pcm → List Numbered → Type 0
AreNamed streams m = AllByRecursion (λ (e : Numbered). IsOpen streams e.part) m

abbrev pub IsNamed : Known → List Numbered → Type 0
IsNamed x m = AreNamed x.stock.streams m

-- there is a list of pages for each stream, and a closed one has none
abbrev pub AreKept : List Pcm → List (List Hold) → Type 0
AreKept [] [] = Unit {0}
AreKept [] (hs ∷ lists) = ⊥
AreKept (s ∷ ss) [] = ⊥
AreKept (s ∷ ss) (hs ∷ lists) = (is_closed s.state ≡ true → hs ≡ []) × AreKept ss lists

-- an accepted OPEN that has its pages mapped; an accepted CLOSE whose stream has its pages unmapped
pub record IsWalking (x : Known) : Type 0 where
  pub demand : Demand
  pub params : Params
  pub in_hand : x.demand ≡ Some demand
  pub opening : IsOpening x.stock demand params
  pub decided : x.progress ≡ progress.Decided
  pub bare : x.stock.mapped ≡ []

pub record IsFreeing (x : Known) : Type 0 where
  pub demand : Demand
  pub in_hand : x.demand ≡ Some demand
  pub closing : IsClosing x.stock demand
  pub decided : x.progress ≡ progress.Decided
  pub freed : list_at x.stock.held demand.part ≡ []
  pub bare : x.stock.mapped ≡ []

module _ (frames grants : ℕ → ℕ) (dom parts : ℕ) where
  -- Its pages are the domain's, and there is a list of them for each stream.
  abbrev pub IsSane : Known → Type 0
  IsSane x = AreOf (grants dom) dom (pages_of x.stock) × AreKept x.stock.streams x.stock.held

  abbrev pub HasListed : Walked → Type 0
  HasListed (walked.Pages ps) = AreOf (grants dom) dom ps × (0 < length ps)
  HasListed (walked.Refused why) = Unit {0}

  abbrev pub EndsHeld : Known → Ending → Type 0
  EndsHeld x (Listed came) = IsWalking x × HasListed came
  EndsHeld x Freed = IsFreeing x
  EndsHeld x (Served e) = ⊥

  -- why the walk of the OPEN in hand was refused, as the words show that were found last
  abbrev pub ListedFound : Known → Found → Walked → Type 0
  ListedFound x f (walked.Pages ps) = Unit {0}
  ListedFound x f (walked.Refused why) =
      (d : Demand) (p : Params) → x.demand ≡ Some d → d.request.asked ≡ asked.Open p
      → walk.IsReason (frames dom) (grants dom) p.gref_directory (mode_at x.stock.streams d.part) f why

  abbrev pub EndsFound : Known → Found → Ending → Type 0
  EndsFound x f (Listed came) = ListedFound x f came
  EndsFound x f Freed = Unit {0}
  EndsFound x f (Served e) = Unit {0}

  abbrev pub EndsOwn : Known → Found → List Touch → Ending → Type 0
  EndsOwn x f ts a = EndsHeld x a × EndsFound x f a

  abbrev pub EndsDone : Waiting → Known → Found → List Touch → Ending → Type 0
  EndsDone e x f ts (Served v) = v ≡ e
  EndsDone e x f ts other = ⊥

  abbrev pub facts : Facts Known Ending Waiting (List Numbered)
  facts =
      record {
        Sane = IsSane;
        Has = HasCome;
        Named = IsNamed;
        EndsOwn = EndsOwn;
        EndsDone = EndsDone;
        Meets = λ x want note. IsUntouched note;
      }

-- where no page is held, giving up all of them changes nothing
pub bare_lists : (lists : List (List Hold)) → pages_in lists ≡ [] → all_bared lists ≡ lists
bare_lists [] e = refl
bare_lists (hs ∷ lists) e =
    ap (λ (ks : List Hold). ks ∷ all_bared lists) (sym (left_nil hs (pages_in lists) e))
    ∙ ap (λ rest. hs ∷ rest) (bare_lists lists (right_nil hs (pages_in lists) e))

abbrev stock : List Hold → List (List Hold) → List Pcm → Stock
stock mapped held streams = record { mapped = mapped; held = held; streams = streams }

pub bare_stripped : (s : Stock) → pages_of s ≡ [] → stripped s ≡ s
bare_stripped s e =
    ap (λ hs. stock hs (all_bared s.held) s.streams) (sym (left_nil s.mapped (pages_in s.held) e))
    ∙ ap (λ lists. stock s.mapped lists s.streams) (bare_lists s.held (right_nil s.mapped (pages_in s.held) e))

-- none is held where a connection begins
none_in : (n : ℕ) → pages_in (replicate n []) ≡ []
none_in zero = refl
none_in (suc n) = none_in n

pub begins_bare : (x : Known) → pages_of (closed_known x).stock ≡ []
begins_bare x = none_in (length (kinds_in x.stock.streams))

-- between two activities just the pages of streams are held
pub holds_pages : (course : Course) (s : Stock) → is_under_way course ≡ false → pages_walked course ++ pages_of s ≡ pages_of (stock_at course s)
holds_pages Rests s e = refl
holds_pages (Walks w) s e = absurd (true≢false e)
holds_pages (Frees part) s e = absurd (true≢false e)

-- where none is held, none is given up
pub stays_bare : (x : Known) → pages_of x.stock ≡ [] → sound.stripped x ≡ x
stays_bare x e = ap (λ (s : Stock). record x { stock = s }) (bare_stripped x.stock e)

-- a reply has sixteen words
whole_reply : (x : Known) (o : Option Demand) → length (reply_for x o) ≡ 16
whole_reply x None = refl
whole_reply x (Some d) = refl

pub whole_replies : (x : Known) → length (sound.reply x) ≡ 16
whole_replies x = whole_reply x x.demand
