-- No access changes a port that keeps, lists and tells nothing.
use Rattle.std.specs.Prelude.{ℕ}
use Rattle.std.proofs.Common.{inl, refl}
use Rattle.std.proofs.lemmas.Bool.{false≢true}
use Rattle.pv_words.specs.declared.access.Access.{Access}
use Rattle.pv_words.specs.declared.access.Access.TheVariants.{Load, Store, Cas, Clear}
use Rattle.pv_words.specs.FreePort.{free_port}
use Rattle.pv_words.specs.Port.{Leaves, FindsTold}

pub stays_free : (frames grants : ℕ → ℕ) (a : Access) → Leaves frames grants free_port a free_port
stays_free frames grants a =
    record {
      device = refl;
      serves = λ dom. refl;
      everywhere = refl;
      keeps = λ dom. refl;
      opens = λ dom gref e. absurd (false≢true e);
      told = λ at v range e unwritten learns. absurd (false≢true e);
      listed = inl (refl, λ dom. refl);
    }

-- each word that is found is one that it may tell
pub finds_any : (a : Access) → FindsTold free_port a
finds_any (Load at v) = (tt, tt)
finds_any (Store at v) = tt
finds_any (Cas at old new seen) = (tt, tt)
finds_any (Clear at mask seen) = (tt, tt)
