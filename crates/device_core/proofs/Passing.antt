-- News may come wherever a device stands, and so may the accesses of others, which leave it where it stands.
use Rattle.std.proofs.Common.{◌≡◌, refl}
use Rattle.pv_words.specs.declared.access.Access.{Access}
use Rattle.device_core.specs.Order.{News, Rules, Stand, Between, During, Telling, Heard, Others, May, next}

module _ {W O : Type 0} (r : Rules W O) where
  pub news_may_come : (s : Stand W O) (news : News) → May r s (Heard news)
  news_may_come (Between w) news = tt
  news_may_come (During w p) news = tt
  news_may_come (Telling t w o) news = tt

  pub others_may_pass : (s : Stand W O) (a : Access) → May r s (Others a)
  others_may_pass (Between w) a = tt
  others_may_pass (During w p) a = tt
  others_may_pass (Telling t w o) a = tt

  pub others_pass : (s : Stand W O) (a : Access) → next r s (Others a) ≡ s
  others_pass (Between w) a = refl
  others_pass (During w p) a = refl
  others_pass (Telling t w o) a = refl
