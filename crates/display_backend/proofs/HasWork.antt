-- What a request leads to before its answer.
use Rattle.std.proofs.Common.{◌≡◌, ℕ, pos, Bool, true, false, not, ◌&&◌, List, [], length, nat_lt, refl, sym, ap, ◌∙◌}
use Rattle.std.proofs.lemmas.Bool.{false≢true, not-false, not-true}
use Rattle.displ_wire.specs.declared.Asked.{Asked}
use Rattle.displ_wire.specs.declared.Asked.TheVariants as asked
use Rattle.displ_wire.specs.declared.Create.{Create}
use Rattle.display_backend.specs.Scene.{Scene}
use Rattle.display_backend.specs.Verdict.{verdict}
use Rattle.page_directory.specs.Progress.{is_accepted}
use Rattle.display_backend.specs.Service.{has_work}
use Rattle.display_buffers.specs.Stock.{Held, pages_under}
use Rattle.page_directory.proofs.Ready.{accepted_is, and_rest, none_left}

and_both : (a b : Bool) → not (a && b) ≡ false → (a ≡ true) × (not b ≡ false)
and_both true b h = (refl, h)
and_both false b h = absurd (false≢true (sym h))

module _ (bs : List Held) (sc : Scene) (asks : Asked) where
  pub create_accepted : (c : Create) → asks ≡ asked.Create c → not (has_work bs sc (asked.Create c)) ≡ false → verdict bs sc asks ≡ pos 0
  create_accepted c e h = ap (verdict bs sc) e ∙ accepted_is (verdict bs sc (asked.Create c)) (not-false (is_accepted (verdict bs sc (asked.Create c))) h)

  pub create_refused : (c : Create) → asks ≡ asked.Create c → not (has_work bs sc (asked.Create c)) ≡ true → is_accepted (verdict bs sc asks) ≡ false
  create_refused c e h = ap (λ x. is_accepted (verdict bs sc x)) e ∙ not-true (is_accepted (verdict bs sc (asked.Create c))) h

  pub destroy_bare : (cookie : ℕ) → asks ≡ asked.Destroy cookie → is_accepted (verdict bs sc asks) ≡ true → not (has_work bs sc (asked.Destroy cookie)) ≡ true → pages_under cookie bs ≡ []
  destroy_bare cookie e f h =
      let accepted : is_accepted (verdict bs sc (asked.Destroy cookie)) ≡ true = ap (λ x. is_accepted (verdict bs sc x)) (sym e) ∙ f in
      none_left (pages_under cookie bs) (and_rest (is_accepted (verdict bs sc (asked.Destroy cookie))) (nat_lt 0 (length (pages_under cookie bs))) accepted h)

  pub destroy_accepted : (cookie : ℕ) → asks ≡ asked.Destroy cookie → not (has_work bs sc (asked.Destroy cookie)) ≡ false → verdict bs sc asks ≡ pos 0
  destroy_accepted cookie e h =
      let both = and_both (is_accepted (verdict bs sc (asked.Destroy cookie))) (nat_lt 0 (length (pages_under cookie bs))) h in
      ap (verdict bs sc) e ∙ accepted_is (verdict bs sc (asked.Destroy cookie)) both.0
