-- A history goes on.
use Rattle.std.proofs.Common.{◌≡◌, ℕ, ◌<◌, ◌==◌, cond, List, [], ◌∷◌, ◌++◌, refl, sym, subst, ◌∙◌, ap, append_assoc}
use Rattle.std.proofs.lemmas.List.{append-nil}
use Rattle.std.specs.List.{AllByRecursion}
use Rattle.pv_words.specs.declared.access.Access.{Access}
use Rattle.pv_words.specs.declared.access.Access.TheVariants as access
use Rattle.pv_words.specs.declared.entry.Entry.{Entry}
use Rattle.pv_words.specs.declared.place.Place.{Place}
use Rattle.pv_words.specs.declared.place.Place.TheVariants.{Cell, Grant}
use Rattle.pv_words.specs.declared.setup.DeviceSetup.{DeviceSetup}
use Rattle.pv_words.specs.Along.{after, Along, after-append, Along-append}
use Rattle.pv_words.specs.Memory.{Memory, Finds, IsLawful, IsTrueOf, access_of, memory_after, place_of, remembered, without, written, zeros}
use Rattle.pv_words.specs.Place.{InRange, same_place}
use Rattle.pv_words.specs.Plan.{aim_of, wanted}
use Rattle.device_core.specs.Order.{Own}
use Rattle.backend_core.specs.Marked.{Item, entries, own, own_from, nodes_in, nodes_next}
use Rattle.backend_core.specs.History.{IsHistory, BelongsIn, IsExplainedIn, IsPromptIn, site_of}
pub use Rattle.backend_core.specs.History.{IsDirectAt}
use Rattle.backend_core.specs.Kinds.{Continues, IsExplained}
use Rattle.backend_core.proofs.Items.{entries_append, own_append}
use Rattle.backend_core.proofs.EachKind.{along_front, continues_append, continues_front}

pub all_front : {X : Type 0} (P : X → Type 0) (xs ys : List X) → AllByRecursion P (xs ++ ys) → AllByRecursion P xs
all_front P [] ys h = tt
all_front P (x ∷ xs) ys h = (h.0, all_front P xs ys h.1)

pub all_append : {X : Type 0} (P : X → Type 0) (xs ys : List X) → AllByRecursion P xs → AllByRecursion P ys → AllByRecursion P (xs ++ ys)
all_append P [] ys a b = b
all_append P (x ∷ xs) ys a b = (a.0, all_append P xs ys a.1 b)

pub all_weaker : {X : Type 0} (P Q : X → Type 0) → ((x : X) → P x → Q x) → (xs : List X) → AllByRecursion P xs → AllByRecursion Q xs
all_weaker P Q f [] h = tt
all_weaker P Q f (x ∷ xs) h = (f x h.0, all_weaker P Q f xs h.1)

pub all_with : {X : Type 0} (P Q R : X → Type 0) → ((x : X) → P x → Q x → R x) → (xs : List X) → AllByRecursion P xs → AllByRecursion Q xs → AllByRecursion R xs
all_with P Q R f [] h k = tt
all_with P Q R f (x ∷ xs) h k = (f x h.0 k.0, all_with P Q R f xs h.1 k.1)

pub all_of : {X : Type 0} (P : X → Type 0) → ((x : X) → P x) → (xs : List X) → AllByRecursion P xs
all_of P f [] = tt
all_of P f (x ∷ xs) = (f x, all_of P f xs)

-- places in range are in range of equal sizes
pub in_range_from : (f g h k : ℕ → ℕ) → ((d : ℕ) → f d ≡ g d) → ((d : ℕ) → h d ≡ k d) → (q : Place) → InRange f h q → InRange g k q
in_range_from f g h k a b (Cell d p w) r = (subst (λ n. p.0 < n) (a d.0) r.0, r.1)
in_range_from f g h k a b (Grant d p w) r = subst (λ n. p.0 < n) (b d.0) r

-- what an access writes depends on the memory at that place alone
pub written_same : (m n : Memory) (a : Access) (q : Place) → m q ≡ n q → written m a q ≡ written n a q
written_same m n (access.Load at v) q e = e
written_same m n (access.Store at v) q e = ap (λ x. cond (same_place at q) v x) e
written_same m n (access.Cas at old new seen) q e = ap (λ x. cond (seen == old) (cond (same_place at q) new x) x) e
written_same m n (access.Clear at mask seen) q e = ap (λ x. cond (same_place at q) (without seen mask) x) e

pub finds_same : (m n : Memory) (a : Access) → m (place_of a) ≡ n (place_of a) → Finds m a → Finds n a
finds_same m n (access.Load at v) e f = f ∙ e
finds_same m n (access.Store at v) e f = tt
finds_same m n (access.Cas at old new seen) e f = f ∙ e
finds_same m n (access.Clear at mask seen) e f = f ∙ e

pub aimed : (a : Access) → place_of a ≡ aim_of (wanted a)
aimed (access.Load at v) = refl
aimed (access.Store at v) = refl
aimed (access.Cas at old new seen) = refl
aimed (access.Clear at mask seen) = refl

-- the memory after further items
pub memory_more : (m n : List Item) (q : Place) → memory_after (entries (m ++ n)) q ≡ after remembered (memory_after (entries m)) (entries n) q
memory_more m n q =
    ap (λ (es : List Entry). memory_after es q) (entries_append m n) ∙ ap (λ (x : Memory). x q) (after-append remembered zeros (entries m) (entries n))

abbrev pub IsTrueNext : (frames grants : ℕ → ℕ) → Memory → Entry → Type 0
IsTrueNext frames grants m e = IsTrueOf frames grants m (access_of e)

module _ (frames grants : ℕ → ℕ) where
  -- what a device does and hears in further items
  abbrev pub own_more : List Item → List Item → DeviceSetup → List Own
  own_more m n s = own_from s.dev.0 (nodes_in s.dev.0 m) n

  pub own_is : (m n : List Item) (s : DeviceSetup) → own s.dev.0 (m ++ n) ≡ own s.dev.0 m ++ own_more m n s
  own_is m n s = own_append s.dev.0 _ m n

  pub nodes_more : (m n : List Item) (d : ℕ) → nodes_in d (m ++ n) ≡ after (nodes_next d) (nodes_in d m) n
  nodes_more m n d = after-append (nodes_next d) _ m n

  -- what comes next of a device
  abbrev pub IsNextIn : List Item → List Item → DeviceSetup → Type 0
  IsNextIn m n s = Continues s.kind (site_of frames grants s) (own s.dev.0 m) (own_more m n s)

  explained_more : (m n : List Item) (s : DeviceSetup) → IsExplainedIn frames grants m s → IsNextIn m n s → IsExplainedIn frames grants (m ++ n) s
  explained_more m n s h k =
      subst (λ (es : List Own). IsExplained s.kind (site_of frames grants s) es) (sym (own_is m n s)) (continues_append s.kind (site_of frames grants s) [] (own s.dev.0 m) (own_more m n s) h k)

  pub history_more : (devices : List DeviceSetup) (m n : List Item) → IsHistory frames grants devices m → Along remembered (IsTrueNext frames grants) (memory_after (entries m)) (entries n) → AllByRecursion (BelongsIn devices) n → AllByRecursion (IsNextIn m n) devices → IsHistory frames grants devices (m ++ n)
  history_more devices m n h t b x =
      record {
        lawful = subst (λ (es : List Entry). IsLawful frames grants es) (sym (entries_append m n)) (Along-append remembered (IsTrueNext frames grants) zeros (entries m) (entries n) h.lawful t);
        belongs = all_append (BelongsIn devices) m n h.belongs b;
        explained = all_with (IsExplainedIn frames grants m) (IsNextIn m n) (IsExplainedIn frames grants (m ++ n)) (explained_more m n) devices h.explained x;
      }

  explained_front : (m n : List Item) (s : DeviceSetup) → IsExplainedIn frames grants (m ++ n) s → IsExplainedIn frames grants m s
  explained_front m n s h =
      continues_front s.kind (site_of frames grants s) [] (own s.dev.0 m) (own_more m n s) (subst (λ (es : List Own). IsExplained s.kind (site_of frames grants s) es) (own_is m n s) h)

  -- the front of a history is one
  pub history_front : (devices : List DeviceSetup) (m n : List Item) → IsHistory frames grants devices (m ++ n) → IsHistory frames grants devices m
  history_front devices m n h =
      record {
        lawful = along_front remembered (IsTrueNext frames grants) zeros (entries m) (entries n) (subst (λ (es : List Entry). IsLawful frames grants es) (entries_append m n) h.lawful);
        belongs = all_front (BelongsIn devices) m n h.belongs;
        explained = all_weaker (IsExplainedIn frames grants (m ++ n)) (IsExplainedIn frames grants m) (explained_front m n) devices h.explained;
      }

  -- and is prompt, where the whole is
  pub prompt_front : (devices : List DeviceSetup) (m n : List Item) → AllByRecursion (IsPromptIn frames grants (m ++ n)) devices → AllByRecursion (IsPromptIn frames grants m) devices
  prompt_front devices m n h = all_weaker (IsPromptIn frames grants (m ++ n)) (IsPromptIn frames grants m) (λ s k. along_front (λ before x. before ++ x ∷ []) _ [] m n k) devices h

  -- the items so far
  items_so_far : (front m : List Item) → after (λ before x. before ++ x ∷ []) front m ≡ front ++ m
  items_so_far front [] = sym (append-nil front)
  items_so_far front (i ∷ m) = items_so_far (front ++ i ∷ []) m ∙ append_assoc front (i ∷ []) m

  pub prompt_more : (m n : List Item) (s : DeviceSetup) → IsPromptIn frames grants m s → Along (λ before x. before ++ x ∷ []) (λ before i. IsDirectAt frames grants before i s) m n → IsPromptIn frames grants (m ++ n) s
  prompt_more m n s h k =
      Along-append (λ before x. before ++ x ∷ []) (λ before i. IsDirectAt frames grants before i s) [] m n h
      (subst (λ x. Along (λ before x. before ++ x ∷ []) (λ before i. IsDirectAt frames grants before i s) x n) (sym (items_so_far [] m)) k)
