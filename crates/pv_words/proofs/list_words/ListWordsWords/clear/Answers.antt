use Rattle.std.proofs.Common.{◌∙◌, ap, get_or, refl, arith}
use Rattle.std.proofs.lemmas.List.{get_or_read}
use Rattle.pv_words.proofs.Apart.{stored}
use Rattle.pv_words.specs.Memory.{without}
use Rattle.pv_words.proofs.list_words.ListWordsWords.clear.Goals as goal

pub returns : goal.returns
returns c =
    let w = c.args.self.now in
    record {
      blocks = refl;
      device = refl;
      answers = record {
        found = get_or_read w.words.items _ _ (omega (arith, w.words.ok.0)) c.index-seen.ensures 0 ∙ ap (λ i. get_or w.words.items i 0) c.index-i.ensures.exact;
        left = stored w.words.items w.blocks c.args.at c.index-i.result (without c.index-seen.result.now c.args.mask) c.index-i.ensures.exact (omega (arith, w.words.ok.0)) c.requires;
      };
    }
