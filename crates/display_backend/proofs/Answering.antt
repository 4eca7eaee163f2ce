-- What an answer makes of the buffers, their pages and their names.
use Rattle.std.proofs.Common.{◌≡◌, inl, inr, ℕ, ◌<◌, ◌&&◌, Bool, true, false, cond, List, [], ◌∷◌, Ok, Some, None, refl, sym, ◌∙◌, ap, subst, length}
use Rattle.std.proofs.lemmas.List.{map-append}
use Rattle.displ_wire.specs.declared.Asked.{Asked}
use Rattle.displ_wire.specs.declared.Asked.TheVariants as asked
use Rattle.displ_wire.specs.declared.Create.{Create}
use Rattle.displ_wire.specs.declared.Request.{Request}
use Rattle.display_buffers.specs.Buffers.{AreDistinct, AreSound, check_of, cookies, made_of}
use Rattle.display_buffers.proofs.Names.{sound_with, sound_without}
use Rattle.display_buffers.specs.Stock.{Stock, Held, pages_of, pages_under}
use Rattle.display_buffers.proofs.Order.{creating_keeps, destroying_keeps}
use Rattle.page_directory.specs.Same.{AreSame}
use Rattle.device_core.specs.Names.{Name, Sight, all_drawn, cells_of, drawn, with_name, words_in}
use Rattle.page_directory.specs.declared.progress.Progress.{Progress}
use Rattle.page_directory.specs.declared.progress.Progress.TheVariants as progress
use Rattle.display_backend.specs.Kept.{HasComeTo, IsCreating, IsDestroying}
use Rattle.display_backend.specs.Names.{ids_after, live_names, numbered}
use Rattle.display_backend.specs.Reply.{replied_to, stock_after}
use Rattle.display_backend.specs.Scene.{Scene}
use Rattle.display_backend.specs.Verdict.{IsStatus, is_creation, verdict}
use Rattle.page_directory.specs.Progress.{is_accepted, is_denied, status_in}
use Rattle.display_backend.proofs.Names.{names_with, names_without}
use Rattle.display_backend.proofs.Numbered.{AreAll, all_with, all_without, numbered_with, numbered_without, passes_by}

-- What there is once a request is answered by a status that accepts it, or by another: a CREATE that passed its checks with its
-- pages, or a DESTROY of a buffer without any.
abbrev pub IsDone : Stock → Asked → Bool → Type 0
IsDone stock (asked.Create c) true = (check_of stock.buffers c ≡ Ok tt) × (0 < length stock.mapped)
IsDone stock (asked.Destroy cookie) true = (pages_under cookie stock.buffers ≡ []) × (stock.mapped ≡ [])
IsDone stock asks accepted = stock.mapped ≡ []

-- the request in hand is answered by a status that it may get, where it has come so far
abbrev pub IsAnswerAt : Stock → Scene → Request → Progress → Type 0
IsAnswerAt stock sc q p =
    IsDone stock q.asked (is_accepted (status_in p (verdict stock.buffers sc q.asked)))
    × IsStatus (is_denied p) stock.buffers sc q.asked (status_in p (verdict stock.buffers sc q.asked))

-- the buffers alone
pub answer_buffers : (stock : Stock) (asks : Asked) (accepted : Bool) → (stock_after stock asks accepted).buffers ≡ replied_to stock.buffers stock.mapped asks accepted
answer_buffers stock (asked.Create c) true = refl
answer_buffers stock (asked.Create c) false = refl
answer_buffers stock (asked.Destroy cookie) true = refl
answer_buffers stock (asked.Destroy cookie) false = refl
answer_buffers stock (asked.Config c) accepted = refl
answer_buffers stock asks accepted = refl

module _ (stock : Stock) where
  -- the pages stay, the buffers are sound still, and no page is mapped for a CREATE any more
  pub answer_same : (asks : Asked) (accepted : Bool) → AreDistinct (cookies stock.buffers) → IsDone stock asks accepted → AreSame (pages_of stock) (pages_of (stock_after stock asks accepted))
  answer_same (asked.Create c) true distinct d = creating_keeps stock c
  answer_same (asked.Create c) false distinct d = λ k. refl
  answer_same (asked.Destroy cookie) true distinct d = destroying_keeps stock cookie distinct d.0
  answer_same (asked.Destroy cookie) false distinct d = λ k. refl
  answer_same (asked.Config c) accepted distinct d = λ k. refl
  answer_same asks accepted distinct d = λ k. refl

  pub answer_sound : (asks : Asked) (accepted : Bool) → AreSound stock.buffers → IsDone stock asks accepted → AreSound (stock_after stock asks accepted).buffers
  answer_sound (asked.Create c) true s d = sound_with stock.buffers c stock.mapped s d.0
  answer_sound (asked.Create c) false s d = s
  answer_sound (asked.Destroy cookie) true s d = sound_without cookie stock.buffers s
  answer_sound (asked.Destroy cookie) false s d = s
  answer_sound (asked.Config c) accepted s d = s
  answer_sound asks accepted s d = s

  pub answer_none : (asks : Asked) (accepted : Bool) → IsDone stock asks accepted → (stock_after stock asks accepted).mapped ≡ []
  answer_none (asked.Create c) true d = refl
  answer_none (asked.Create c) false d = d
  answer_none (asked.Destroy cookie) true d = d.1
  answer_none (asked.Destroy cookie) false d = d
  answer_none (asked.Config c) accepted d = d
  answer_none asks accepted d = d

  module _ (n : ℕ) (ids : List ℕ) (named : AreAll stock.buffers ids) where
    -- each buffer has its number still
    pub answer_all : (asks : Asked) (accepted : Bool) → AreAll (stock_after stock asks accepted).buffers (ids_after stock.buffers n ids asks accepted)
    answer_all (asked.Create c) true =
        all_with stock.buffers ids (record { buffer = made_of c; pages = stock.mapped }) n named
    answer_all (asked.Create c) false = named
    answer_all (asked.Destroy cookie) true = all_without cookie stock.buffers ids named
    answer_all (asked.Destroy cookie) false = named
    answer_all (asked.Config c) accepted = named
    answer_all asks accepted = named

    pub answer_rows : (asks : Asked) (accepted : Bool) → numbered (stock_after stock asks accepted).buffers (ids_after stock.buffers n ids asks accepted) ≡ replied_to (numbered stock.buffers ids) n asks accepted
    answer_rows (asked.Create c) true =
        numbered_with stock.buffers ids (record { buffer = made_of c; pages = stock.mapped }) n named
    answer_rows (asked.Create c) false = refl
    answer_rows (asked.Destroy cookie) true = numbered_without cookie stock.buffers ids named
    answer_rows (asked.Destroy cookie) false = refl
    answer_rows (asked.Config c) accepted = refl
    answer_rows asks accepted = refl

    -- a CREATE that is accepted makes a name of the words of its pages
    pub answer_names : (asks : Asked) (accepted : Bool) (sight : Sight) → AreDistinct (cookies stock.buffers) → IsDone stock asks accepted → all_drawn sight (live_names (stock_after stock asks accepted).buffers (ids_after stock.buffers n ids asks accepted)) ≡ with_name (all_drawn sight (live_names stock.buffers ids)) (cond (is_creation asks && accepted) (Some n) None) (words_in sight (cond (is_creation asks && accepted) (cells_of stock.mapped) []))
    answer_names (asked.Create c) true sight distinct d =
        let b : Held = record { buffer = made_of c; pages = stock.mapped } in
        let name : Name = record { number = n; cells = cells_of stock.mapped } in
        ap (all_drawn sight) (names_with stock.buffers ids b n named d.1) ∙ map-append (drawn sight) (live_names stock.buffers ids) (name ∷ [])
    answer_names (asked.Create c) false sight distinct d = refl
    answer_names (asked.Destroy cookie) true sight distinct d =
        ap (all_drawn sight) (names_without cookie stock.buffers ids named distinct d.0)
    answer_names (asked.Destroy cookie) false sight distinct d = refl
    answer_names (asked.Config c) accepted sight distinct d = refl
    answer_names asks accepted sight distinct d = refl

  pub done_as : (asks other : Asked) (b c : Bool) → asks ≡ other → b ≡ c → IsDone stock other c → IsDone stock asks b
  done_as asks other b c e f d = subst (λ (x : Asked). IsDone stock x b) (sym e) (subst (λ t. IsDone stock other t) (sym f) d)

  pub refused_done : (asks : Asked) → stock.mapped ≡ [] → IsDone stock asks false
  refused_done (asked.Create c) none = none
  refused_done (asked.Destroy cookie) none = none
  refused_done (asked.Config c) none = none
  refused_done asks none = none

  module _ (sc : Scene) (q : Request) where
    created_done : (c : Create) → IsCreating stock sc q c → 0 < length stock.mapped → IsDone stock q.asked (is_accepted (verdict stock.buffers sc q.asked))
    created_done c creating some =
        let passed = passes_by (check_of stock.buffers c) (ap (verdict stock.buffers sc) (sym creating.0) ∙ creating.1) in
        done_as q.asked (asked.Create c) (is_accepted (verdict stock.buffers sc q.asked)) true creating.0 (ap is_accepted creating.1) (passed, some)

    destroyed_done : (cookie : ℕ) → IsDestroying stock sc q cookie → pages_under cookie stock.buffers ≡ [] → stock.mapped ≡ [] → IsDone stock q.asked (is_accepted (verdict stock.buffers sc q.asked))
    destroyed_done cookie destroying bare none =
        done_as q.asked (asked.Destroy cookie) (is_accepted (verdict stock.buffers sc q.asked)) true destroying.0 (ap is_accepted destroying.1) (bare, none)

    -- the answers of a request of which more is known than its verdict
    pub answers_at : (p : Progress) → (p ≡ progress.Decided → ⊥) → HasComeTo stock sc q p → IsAnswerAt stock sc q p
    answers_at progress.Decided apart come = absurd (apart refl)
    answers_at progress.NoMemory apart come =
        (refused_done q.asked come.1, inr (ap is_creation come.0.1.0, come.0.1.1, refl))
    answers_at progress.Denied apart come = (refused_done q.asked come.1, refl)
    answers_at progress.Mapped apart come = (created_done come.0.0 come.0.1 come.1, inl refl)
    answers_at progress.Released apart come = (destroyed_done come.0.0 come.0.1 come.0.2 come.1, inl refl)
