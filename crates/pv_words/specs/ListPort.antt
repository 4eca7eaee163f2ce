-- A list of words keeps to the laws of a port.
use Rattle.std.proofs.Common.{inl, refl, ap}
use Rattle.std.proofs.lemmas.Bool.{false≢true}
use Rattle.pv_words.specs.declared.access.Access.{Access}
use Rattle.pv_words.specs.declared.access.Access.TheVariants as access
use Rattle.pv_words.specs.declared.list_words.ListWords.{ListWords}
use Rattle.pv_words.specs.Layout.{frames_in, grants_in}
use Rattle.pv_words.specs.ListWords.{Makes, port_of, number_of_device}
use Rattle.pv_words.specs.Port.{Leaves, FindsTold}

pub list_leaves : (old : ListWords) (a : Access) (new : ListWords) → Makes old a new → Leaves (frames_in old.blocks) (grants_in old.blocks) (port_of old) a (port_of new)
list_leaves old a new made =
    record {
      device = ap number_of_device made.device;
      serves = λ dom. refl;
      everywhere = refl;
      keeps = λ dom. refl;
      opens = λ dom gref e. absurd (false≢true e);
      told = λ at v range e unwritten learns. absurd (false≢true e);
      listed = inl (refl, λ dom. refl);
    }

pub list_tells : (old : ListWords) (a : Access) (new : ListWords) → Makes old a new → FindsTold (port_of old) a
list_tells old (access.Load at v) new made = (made.answers.found, tt)
list_tells old (access.Store at v) new made = tt
list_tells old (access.Cas at o n seen) new made = (made.answers.found, tt)
list_tells old (access.Clear at mask seen) new made = (made.answers.found, tt)
