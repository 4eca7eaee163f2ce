-- What is known of a request by how far it has come.
use Rattle.std.proofs.Common.{◌≡◌, zero, suc, ◌&&◌, ℤ, pos, negsuc, not, nat_lt, Bool, true, false, List, [], ◌∷◌, length, refl, sym, ap, ◌∙◌, arith}
use Rattle.std.proofs.lemmas.Bool.{true≢false, lt-ltb, not-true}
use Rattle.pv_words.specs.declared.grant.Hold.{Hold}
use Rattle.page_directory.specs.declared.progress.Progress.{Progress}
use Rattle.page_directory.specs.declared.progress.Progress.TheVariants as progress
use Rattle.page_directory.specs.Progress.{is_accepted, ready_at, status_in}

-- a status that accepts is 0
pub accepted_is : (status : ℤ) → is_accepted status ≡ true → status ≡ pos 0
accepted_is (pos zero) h = refl
accepted_is (pos (suc n)) h = let wrong : ⊥ = cc in absurd wrong
accepted_is (negsuc n) h = let wrong : ⊥ = cc in absurd wrong

-- so is the verdict then
pub accepted_at : (p : Progress) (verdict : ℤ) → is_accepted (status_in p verdict) ≡ true → verdict ≡ pos 0
accepted_at progress.Decided v h = accepted_is v h
accepted_at progress.NoMemory v h = let wrong : ⊥ = cc in absurd wrong
accepted_at progress.Denied v h = let wrong : ⊥ = cc in absurd wrong
accepted_at progress.Mapped v h = accepted_is v h
accepted_at progress.Released v h = accepted_is v h

-- what isn't to be answered is decided
pub ready_decided : (p : Progress) (working : Bool) → ready_at p working ≡ false → p ≡ progress.Decided
ready_decided progress.Decided working h = refl
ready_decided progress.NoMemory working h = absurd (true≢false h)
ready_decided progress.Denied working h = absurd (true≢false h)
ready_decided progress.Mapped working h = absurd (true≢false h)
ready_decided progress.Released working h = absurd (true≢false h)

-- where nothing is left to do before the answer, it is to be answered
ready_rest : (p : Progress) → ready_at p false ≡ true
ready_rest progress.Decided = refl
ready_rest progress.NoMemory = refl
ready_rest progress.Denied = refl
ready_rest progress.Mapped = refl
ready_rest progress.Released = refl

no_work : (b : Bool) → (b && false) ≡ false
no_work true = refl
no_work false = refl

pub ready_bare : (p : Progress) (accepted : Bool) → ready_at p (accepted && false) ≡ true
ready_bare p accepted = ap (ready_at p) (no_work accepted) ∙ ready_rest p

-- no page is left to give up
pub none_left : (hs : List Hold) → not (nat_lt 0 (length hs)) ≡ true → hs ≡ []
none_left [] h = refl
none_left (x ∷ hs) h = absurd (true≢false (sym (lt-ltb 0 (suc (length hs)) (omega arith)) ∙ not-true _ h))

-- an accepted one that isn't to be answered has pages to give up
pub and_rest : (a b : Bool) → a ≡ true → not (a && b) ≡ true → not b ≡ true
and_rest a b e h = ap (λ t. not (t && b)) (sym e) ∙ h
