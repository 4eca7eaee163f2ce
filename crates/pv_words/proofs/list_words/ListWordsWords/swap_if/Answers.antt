use Rattle.std.proofs.Common.{◌≡◌, ℕ, ◌==◌, Bool, true, cond, ◌∙◌, ap, get_or, refl, arith, eq-eqb}
use Rattle.std.proofs.lemmas.List.{get_or_read}
use Rattle.pv_words.proofs.Apart.{stored}
use Rattle.pv_words.proofs.list_words.ListWordsWords.swap_if.Goals as goal

taken : (b : Bool) (x y z : ℕ) → b ≡ true → z ≡ x → z ≡ cond b x y
taken b x y z t e = rw t e

pub returns-then-seen-old : goal.returns-then-seen-old
returns-then-seen-old c =
    let w = c.args.self.now in
    let t : (c.index-seen.result.now == c.args.old) ≡ true = eq-eqb _ _ c.if-seen-old.true in
    record {
      blocks = refl;
      device = refl;
      answers = record {
        found = get_or_read w.words.items _ _ (omega (arith, w.words.ok.0)) c.index-seen.ensures 0 ∙ ap (λ i. get_or w.words.items i 0) c.index-i.ensures.exact;
        left = λ q r. taken _ _ _ _ t (stored w.words.items w.blocks c.args.at c.index-i.result c.args.new c.index-i.ensures.exact (omega (arith, w.words.ok.0)) c.requires q r);
      };
    }
