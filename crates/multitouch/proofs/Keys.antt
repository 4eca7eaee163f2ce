-- The codes of one set that aren't in another, as they are found one after another.
use Rattle.std.proofs.Common.{◌≡◌, ℕ, ◌+◌, ◌<◌, Bool, true, false, cond, List, [], ◌∷◌, ◌++◌, map, length, take, get_or, refl, sym, ap, ◌∙◌, T, nat_cmp, None, Equal}
use Rattle.std.proofs.lemmas.List.{map-append}
use Rattle.std.proofs.lemmas.List.Elements.{filter_more}
use Rattle.std.specs.List.{filter}
use Rattle.std.specs.Cmp.{nat_cmp_total}
use Rattle.std.specs.FinMap as finite
use Rattle.std.specs.FinMap.Entries.{where_key, is_sorted-where_key, find-where_key}
use Rattle.multitouch.specs.Pressed.{KeySet}

respects : (p : ℕ → Bool) (q x : ℕ) → nat_cmp q x ≡ Equal → p x ≡ p q
respects p q x tie = ap p (sym (finite.nat_cmp-IsAntisymmetric q x tie))

keys_where : (p : ℕ → Bool) (es : List (ℕ × Unit {0})) → map (λ e. e.0) (where_key nat_cmp p es) ≡ filter p (map (λ e. e.0) es)
keys_where p [] = refl
keys_where p (e ∷ es) =
    elim (p e.0) as (λ b. map (λ x. x.0) (cond b (e ∷ where_key nat_cmp p es) (where_key nat_cmp p es)) ≡ cond b (e.0 ∷ filter p (map (λ x. x.0) es)) (filter p (map (λ x. x.0) es))) [
      | true ↦ ap (λ codes. e.0 ∷ codes) (keys_where p es)
      | false ↦ keys_where p es
    ]

-- the keys of a set that pass a test, in order
pub keys-retain_keys : (keys : KeySet) (p : ℕ → Bool) → finite.keys (finite.retain_keys keys p) ≡ filter p (finite.keys keys)
keys-retain_keys keys p =
    let sorted : T (finite.is_sorted nat_cmp (where_key nat_cmp p (finite.entries keys))) = is_sorted-where_key nat_cmp p (finite.entries keys) (finite.entries_sorted keys) in
    let same : finite.retain_keys keys p ≡ finite.from_sorted (where_key nat_cmp p (finite.entries keys)) =
    finite.same_map nat_cmp_total finite.nat_cmp-IsAntisymmetric _ _ (λ q.
    finite.get-retain_keys keys p q (respects p q)
    ∙ ap (λ o. cond (p q) o None) (finite.get-entries keys q)
    ∙ sym (finite.get-from_sorted nat_cmp (where_key nat_cmp p (finite.entries keys)) q sorted ∙ find-where_key nat_cmp p q (respects p q) (finite.entries keys))) in
    ap (λ (m : KeySet). finite.keys m) same
    ∙ ap (map (λ e. e.0)) (finite.entries-from_sorted nat_cmp (where_key nat_cmp p (finite.entries keys)) sorted)
    ∙ keys_where p (finite.entries keys)

-- one code more
pub kept_more : {B : Type 0} (f : ℕ → B) (p : ℕ → Bool) (codes : List ℕ) (i : ℕ) → i < length codes → map f (filter p (take i codes)) ++ map f (cond (p (get_or codes i 0)) (get_or codes i 0 ∷ []) []) ≡ map f (filter p (take (i + 1) codes))
kept_more f p codes i h = sym (ap (map f) (filter_more p codes i 0 h) ∙ map-append f _ _)
