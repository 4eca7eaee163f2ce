-- What a waiting event of a display leads to.
use Rattle.std.proofs.Common.{◌≡◌, ℕ, Option, Some, None, option_map, refl}
use Rattle.device_service.specs.Operating.{words_of}
use Rattle.display_backend.specs.Service.{blank_of, flip_words}

pub blank_words : (part prod : ℕ) (o : Option ℕ) → option_map (λ fb. flip_words fb prod) o ≡ words_of (blank_of part o) prod
blank_words part prod None = refl
blank_words part prod (Some fb) = refl
