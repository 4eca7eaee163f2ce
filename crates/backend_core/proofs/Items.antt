-- Items of steps, and what a device does in them.
use Rattle.std.proofs.Common.{◌≡◌, ℕ, ◌+◌, ◌≤◌, ◌==◌, Bool, true, false, cond, List, [], ◌∷◌, ◌++◌, arith, Option, Some, None, refl, sym, subst, ◌∙◌, ap, append_assoc, eq-eqb}
use Rattle.pv_words.specs.declared.access.Access.{Access}
use Rattle.pv_words.specs.declared.entry.Entry.{Entry}
use Rattle.pv_words.specs.declared.entry.Entry.TheVariants as entry
use Rattle.pv_words.specs.declared.entry.End.TheVariants as end
use Rattle.pv_words.specs.declared.place.DevId.{DevId}
use Rattle.pv_words.specs.declared.device.Said.{Said}
use Rattle.pv_words.specs.declared.device.Said.TheVariants as said
use Rattle.pv_words.specs.declared.device.NodeValue.{NodeValue}
use Rattle.pv_words.specs.declared.device.State.{State}
use Rattle.pv_words.specs.Along.{after}
use Rattle.device_core.specs.Order.{Own, Did, Spoke, Rested, Others, steps_of}
use Rattle.backend_core.specs.History.{IsNoState}
use Rattle.backend_core.specs.Marked.{Item, Entered, Idle, entries, told_by, told_in, own_from, node_set, nodes_next, entry_of, items_of, is_access, accesses_in, IsStepOf, AreSteps}
use Rattle.backend_core.specs.Marked.{progress}
use Rattle.device_core.proofs.Stations.{AreOthers}

abbrev pub rest_of : DevId → Option Said → List Item
rest_of dev None = []
rest_of dev (Some s) = Entered (entry_of dev s) ∷ []

pub access_first : (dev : DevId) (a : Access) (x : Option Access) (s : Option Said) → x ≡ Some a → items_of dev x s ≡ [] ++ Entered (entry.Back dev a) ∷ rest_of dev s
access_first dev a None s e = let wrong : ⊥ = cc in absurd wrong
access_first dev a (Some b) None e = let same : b ≡ a = cc in ap (λ (y : Access). Entered (entry.Back dev y) ∷ []) same
access_first dev a (Some b) (Some t) e = let same : b ≡ a = cc in ap (λ (y : Access). Entered (entry.Back dev y) ∷ Entered (entry_of dev t) ∷ []) same

pub said_second : (dev : DevId) (a : Access) (t : Said) (x : Option Access) (s : Option Said) → x ≡ Some a → s ≡ Some t → items_of dev x s ≡ (Entered (entry.Back dev a) ∷ []) ++ Entered (entry_of dev t) ∷ []
said_second dev a t x s e f = ap (λ (y : Option Access). items_of dev y s) e ∙ ap (items_of dev (Some a)) f

pub said_alone : (dev : DevId) (t : Said) (x : Option Access) (s : Option Said) → x ≡ None → s ≡ Some t → items_of dev x s ≡ [] ++ Entered (entry_of dev t) ∷ []
said_alone dev t x s e f = ap (λ (y : Option Access). items_of dev y s) e ∙ ap (items_of dev None) f

-- the entries of two journals, one after the other, and what a device does in them
pub entries_append : (m n : List Item) → entries (m ++ n) ≡ entries m ++ entries n
entries_append [] n = refl
entries_append (Entered e ∷ m) n = ap (λ (es : List Entry). e ∷ es) (entries_append m n)
entries_append (Idle d ∷ m) n = entries_append m n

pub own_append : (d : ℕ) (nodes : List NodeValue) (m n : List Item) → own_from d nodes (m ++ n) ≡ own_from d nodes m ++ own_from d (after (nodes_next d) nodes m) n
own_append d nodes [] n = refl
own_append d nodes (i ∷ m) n =
    let later : List NodeValue = nodes_next d nodes i in
    ap (λ (es : List Own). told_in d nodes i ++ es) (own_append d later m n) ∙ sym (append_assoc (told_in d nodes i) (own_from d later m) (own_from d (after (nodes_next d) later m) n))

pub chosen : (b : Bool) (xs ys : List Own) → b ≡ true → cond b xs ys ≡ xs
chosen true xs ys e = refl
chosen false xs ys e = let wrong : ⊥ = cc in absurd wrong

pub dev_same : (a b : DevId) → a.0 ≡ b.0 → a ≡ b
dev_same a b e = ap (λ n. record { 0 = n }) e

same_device : (dev : DevId) → (dev.0 == dev.0) ≡ true
same_device dev = eq-eqb dev.0 dev.0 refl

-- What a device says is entered as a state of its bus, or, where it is no state, as said.
pub as_said : (P : Said → Entry → Type 0) (dev : DevId) → ((state : State) → P (said.State state) (entry.Bus dev end.Back state)) → ((s : Said) → IsNoState s → P s (entry.Said dev s)) → (s : Said) → P s (entry_of dev s)
as_said P dev f g (said.State state) = f state
as_said P dev f g other = g other tt

told_said : (dev : DevId) (nodes : List NodeValue) (s : Said) → told_by dev.0 nodes (entry_of dev s) ≡ Spoke s ∷ []
told_said dev nodes s =
    as_said (λ t e. told_by dev.0 nodes e ≡ Spoke t ∷ []) dev
    (λ state. chosen (dev.0 == dev.0) (Spoke (said.State state) ∷ []) [] (same_device dev))
    (λ t no_state. chosen (dev.0 == dev.0) (Spoke t ∷ []) [] (same_device dev)) s

-- what a device says sets no node
said_sets : (d : ℕ) (dev : DevId) (nodes : List NodeValue) (s : Said) → node_set d nodes (entry_of dev s) ≡ nodes
said_sets d dev nodes s = as_said (λ t e. node_set d nodes e ≡ nodes) dev (λ state. refl) (λ t no_state. refl) s

-- the items of a step are that step, and set no node
pub own_step : (dev : DevId) (nodes : List NodeValue) (a : Option Access) (s : Option Said) → own_from dev.0 nodes (items_of dev a s) ≡ steps_of a s
own_step dev nodes None None = ap (λ (es : List Own). es ++ []) (chosen (dev.0 == dev.0) (Rested ∷ []) [] (same_device dev))
own_step dev nodes None (Some s) = ap (λ (es : List Own). es ++ []) (told_said dev nodes s)
own_step dev nodes (Some a) None = ap (λ (es : List Own). es ++ []) (chosen (dev.0 == dev.0) (Did a ∷ []) (Others a ∷ []) (same_device dev))
own_step dev nodes (Some a) (Some s) =
    ap (λ (es : List Own). es ++ (told_by dev.0 nodes (entry_of dev s) ++ [])) (chosen (dev.0 == dev.0) (Did a ∷ []) (Others a ∷ []) (same_device dev))
    ∙ ap (λ (es : List Own). Did a ∷ (es ++ [])) (told_said dev nodes s)

pub nodes_step : (d : ℕ) (dev : DevId) (nodes : List NodeValue) (a : Option Access) (s : Option Said) → after (nodes_next d) nodes (items_of dev a s) ≡ nodes
nodes_step d dev nodes None None = refl
nodes_step d dev nodes None (Some s) = said_sets d dev nodes s
nodes_step d dev nodes (Some a) None = refl
nodes_step d dev nodes (Some a) (Some s) = said_sets d dev nodes s

-- to another device they are at most an access of another
not_chosen : (b : Bool) (xs ys : List Own) → b ≡ false → cond b xs ys ≡ ys
not_chosen false xs ys e = refl
not_chosen true xs ys e = let wrong : ⊥ = cc in absurd wrong

others_as : (es fs : List Own) → es ≡ fs → AreOthers fs → AreOthers es
others_as es fs e o = subst (λ (x : List Own). AreOthers x) (sym e) o

told_other : (d : ℕ) (dev : DevId) (nodes : List NodeValue) (s : Said) → (dev.0 == d) ≡ false → told_by d nodes (entry_of dev s) ≡ []
told_other d dev nodes s apart =
    as_said (λ t e. told_by d nodes e ≡ []) dev
    (λ state. not_chosen (dev.0 == d) (Spoke (said.State state) ∷ []) [] apart)
    (λ t no_state. not_chosen (dev.0 == d) (Spoke t ∷ []) [] apart) s

pub own_other : (d : ℕ) (dev : DevId) (nodes : List NodeValue) (a : Option Access) (s : Option Said) → (dev.0 == d) ≡ false → AreOthers (own_from d nodes (items_of dev a s))
own_other d dev nodes None None e = others_as _ [] (ap (λ (es : List Own). es ++ []) (not_chosen (dev.0 == d) (Rested ∷ []) [] e)) tt
own_other d dev nodes None (Some s) e = others_as _ [] (ap (λ (es : List Own). es ++ []) (told_other d dev nodes s e)) tt
own_other d dev nodes (Some a) None e = others_as _ (Others a ∷ []) (ap (λ (es : List Own). es ++ []) (not_chosen (dev.0 == d) (Did a ∷ []) (Others a ∷ []) e)) tt
own_other d dev nodes (Some a) (Some s) e =
    others_as _ (Others a ∷ []) (ap (λ (es : List Own). es ++ (told_by d nodes (entry_of dev s) ++ [])) (not_chosen (dev.0 == d) (Did a ∷ []) (Others a ∷ []) e)
    ∙ ap (λ (es : List Own). Others a ∷ (es ++ [])) (told_other d dev nodes s e)) tt

is_step_said : (dev : DevId) (s : Said) → IsStepOf dev.0 (entry_of dev s)
is_step_said dev s = as_said (λ t e. IsStepOf dev.0 e) dev (λ state. refl) (λ t no_state. refl) s

-- a step that isn't idle has steps alone, with one access or none; an idle one has a mark alone
pub busy_steps : (dev : DevId) (a : Option Access) (s : Option Said) (b : Bool) → Some b ≡ progress a s → AreSteps dev.0 (items_of dev a s)
busy_steps dev None None b e = let wrong : ⊥ = cc in absurd wrong
busy_steps dev None (Some s) b e = (is_step_said dev s, tt)
busy_steps dev (Some a) None b e = (refl, tt)
busy_steps dev (Some a) (Some s) b e = (refl, (is_step_said dev s, tt))

no_access_said : (dev : DevId) (s : Said) → is_access (Entered (entry_of dev s)) ≡ false
no_access_said dev s = as_said (λ t e. is_access (Entered e) ≡ false) dev (λ state. refl) (λ t no_state. refl) s

said_counts : (dev : DevId) (s : Said) → accesses_in (Entered (entry_of dev s) ∷ []) ≡ 0
said_counts dev s = ap (λ (b : Bool). cond b 1 0 + 0) (no_access_said dev s)

pub one_access : (dev : DevId) (a : Option Access) (s : Option Said) → Some true ≡ progress a s → (x : Access) × (a ≡ Some x) × (accesses_in (items_of dev a s) ≡ 1)
one_access dev None None e = let wrong : ⊥ = cc in absurd wrong
one_access dev None (Some s) e = let wrong : ⊥ = cc in absurd wrong
one_access dev (Some a) None e = (a, refl, refl)
one_access dev (Some a) (Some s) e = (a, refl, ap (λ n. 1 + n) (said_counts dev s))

pub no_access : (dev : DevId) (a : Option Access) (s : Option Said) → Some false ≡ progress a s → accesses_in (items_of dev a s) ≡ 0
no_access dev None None e = let wrong : ⊥ = cc in absurd wrong
no_access dev None (Some s) e = said_counts dev s
no_access dev (Some a) None e = let wrong : ⊥ = cc in absurd wrong
no_access dev (Some a) (Some s) e = let wrong : ⊥ = cc in absurd wrong

pub most_one : (dev : DevId) (a : Option Access) (s : Option Said) → accesses_in (items_of dev a s) ≤ 1
most_one dev None None = omega arith
most_one dev None (Some s) = let n = said_counts dev s in omega (arith, n)
most_one dev (Some a) None = omega arith
most_one dev (Some a) (Some s) = let n = said_counts dev s in omega (arith, n)

pub idle_mark : (dev : DevId) (a : Option Access) (s : Option Said) → None ≡ progress a s → items_of dev a s ≡ Idle dev.0 ∷ []
idle_mark dev None None e = refl
idle_mark dev None (Some s) e = let wrong : ⊥ = cc in absurd wrong
idle_mark dev (Some a) None e = let wrong : ⊥ = cc in absurd wrong
idle_mark dev (Some a) (Some s) e = let wrong : ⊥ = cc in absurd wrong

-- accesses are counted one after another, and a part of a step has no more of them
pub counts_append : (m n : List Item) → accesses_in (m ++ n) ≡ accesses_in m + accesses_in n
counts_append [] n = omega arith
counts_append (i ∷ m) n = let rest = counts_append m n in omega (arith, rest)

has_entry : (m : List Item) (due : Entry) (n : List Item) (d : ℕ) → m ++ Entered due ∷ n ≡ Idle d ∷ [] → ⊥
has_entry [] due n d e = cc
has_entry (Entered f ∷ m) due n d e = cc
has_entry (Idle c ∷ []) due n d e = let rest : Entered due ∷ n ≡ [] = cc in let wrong : ⊥ = cc in wrong
has_entry (Idle c ∷ i ∷ m) due n d e = let rest : i ∷ (m ++ Entered due ∷ n) ≡ [] = cc in let wrong : ⊥ = cc in wrong

pub front_steps : (dev : DevId) (a : Option Access) (s : Option Said) (m : List Item) (due : Entry) (n : List Item) → items_of dev a s ≡ m ++ Entered due ∷ n → AreSteps dev.0 (m ++ Entered due ∷ n)
front_steps dev None None m due n e = absurd (has_entry m due n dev.0 (sym e))
front_steps dev None (Some s) m due n e = subst (λ (x : List Item). AreSteps dev.0 x) e (is_step_said dev s, tt)
front_steps dev (Some a) None m due n e = subst (λ (x : List Item). AreSteps dev.0 x) e (refl, tt)
front_steps dev (Some a) (Some s) m due n e = subst (λ (x : List Item). AreSteps dev.0 x) e (refl, (is_step_said dev s, tt))

pub steps_append : (d : ℕ) (m n : List Item) → AreSteps d m → AreSteps d n → AreSteps d (m ++ n)
steps_append d [] n a b = b
steps_append d (Entered e ∷ m) n a b = (a.0, steps_append d m n a.1 b)
steps_append d (Idle c ∷ m) n a b = absurd a
