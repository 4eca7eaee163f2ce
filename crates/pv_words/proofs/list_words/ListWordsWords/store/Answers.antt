use Rattle.std.proofs.Common.{refl, arith}
use Rattle.pv_words.proofs.Apart.{stored}
use Rattle.pv_words.proofs.list_words.ListWordsWords.store.Goals as goal

pub returns : goal.returns
returns c =
    let w = c.args.self.now in
    record {
      blocks = refl;
      device = refl;
      answers = record {
        found = tt;
        left = stored w.words.items w.blocks c.args.at c.index-i.result c.args.v c.index-i.ensures.exact (omega (arith, w.words.ok.0)) c.requires;
      };
    }
