-- Steps of a Sleep, part by part.
use Rattle.std.proofs.Common.{◌≡◌, ℕ, ◌+◌, ◌≤◌, Bool, true, false, List, ◌∷◌, Option, Some, None, length, map, drop, slice_get, slice_set, refl, sym, ap, subst, ◌∙◌, arith}
use Rattle.std.proofs.lemmas.List.{drop-set-lt}
use Rattle.pv_words.specs.declared.access.Access.{Access}
use Rattle.pv_words.specs.Plan.{Plan, Finished, Make, Goes, MayGo, Turns, Want, IsUnfinished, joined}
use Rattle.link_core.specs.declared.link.Link.{Link}
use Rattle.link_core.specs.Activities.{Page, sleep_plan}
use Rattle.link_core.specs.Link.{held_of, idle, joined_of, rsp_of, sleep_left}
use Rattle.link_core.proofs.Links.{whole_sleep, rsp_joined}
use Rattle.device_service.specs.declared.parts.Doing.{Doing}
use Rattle.device_service.specs.declared.parts.Doing.TheVariants as doing
use Rattle.device_service.specs.Parts.{sleep_from, sleeping, slept_to}
use Rattle.device_service.specs.Work.{ring_page, sleep_all, sleeps_on}
use Rattle.device_service.proofs.Holding.Held.{page_shown}
use Rattle.device_service.proofs.Lists.{drop_get, drop_past, get_set, within}

-- one that isn't under way begins at the first part
pub none_slept : (d : Doing) → ((part : ℕ) → d ≡ doing.Sleeping part → ⊥) → 0 ≡ slept_to d
none_slept doing.Bare n = refl
none_slept (doing.Connecting part) n = refl
none_slept (doing.Undoing why) n = refl
none_slept doing.Open n = refl
none_slept (doing.Taking part) n = refl
none_slept (doing.Answering part) n = refl
none_slept (doing.Raising part) n = refl
none_slept (doing.Sleeping part) n = absurd (n part refl)
none_slept doing.Dropping n = refl

pub goes_joined : {A B : Type 0} (f : A → Plan B) (p : Plan A) (a : Access) (q : Plan A) → Goes p a q → Goes (joined p f) a (joined q f)
goes_joined f (Finished x) a q g = absurd g
goes_joined f (Make want note more) a q g = (g.0, ap (λ r. joined r f) g.1)

pub unfinished_joined : {A B : Type 0} (f : A → Plan B) (p : Plan A) → IsUnfinished p → IsUnfinished (joined p f)
unfinished_joined f (Finished x) u = absurd u
unfinished_joined f (Make want note more) u = tt

pub may_joined : {A B : Type 0} (may : Want → Type 0) (p : Plan A) (f : A → Plan B) → MayGo may (joined p f) → MayGo may p
may_joined may (Make want note more) f h = h
may_joined may (Finished x) f h = tt

turns_joined : {A B : Type 0} (f : A → Plan B) (p : Plan A) (access : Option Access) (q : Plan A) → Turns p access None q → Turns (joined p f) access None (joined q f)
turns_joined f p None q t = absurd t
turns_joined f p (Some a) q t = (goes_joined f p a q t.0, unfinished_joined f q t.1)

-- at a link that rests
sleep_first : (rest : List Link) (l : Link) → idle l ≡ true → length (held_of l) ≡ 2 → sleep_from rest (Some l) ≡ sleep_all (map joined_of (l ∷ rest))
sleep_first rest l i h =
    ap (λ (p : Plan Bool). joined p (sleeps_on (sleep_all (map joined_of rest))))
    (whole_sleep l i ∙ (ap (λ (p : Page). sleep_plan p (rsp_of l)) (page_shown l h) ∙ ap (sleep_plan (ring_page (joined_of l))) (rsp_joined l)))

-- the Sleep at a part
pub sleeping_at : (ls : List Link) (k : ℕ) (l : Link) → slice_get ls k ≡ Some l → idle l ≡ true → length (held_of l) ≡ 2 → sleeping k ls ≡ sleep_all (map joined_of (drop k ls))
sleeping_at ls k l e i h =
    ap (sleep_from (drop (k + 1) ls)) e ∙ (sleep_first (drop (k + 1) ls) l i h ∙ ap (λ (ks : List Link). sleep_all (map joined_of ks)) (sym (drop_get ls k l e)))

sleeps_more : (l : Link) (rest : List Link) → IsUnfinished (sleep_all (map joined_of (l ∷ rest)))
sleeps_more l rest = tt

module _ (ls : List Link) (k : ℕ) (l : Link) (g : slice_get ls k ≡ Some l) where
  follows : Bool → Plan Bool
  follows = sleeps_on (sleep_all (map joined_of (drop (k + 1) ls)))

  pub may_sleep : (may : Want → Type 0) → MayGo may (sleeping k ls) → MayGo may (sleep_left l)
  unfolding follows
  may_sleep may m = may_joined may (sleep_left l) follows (subst (λ (o : Option Link). MayGo may (sleep_from (drop (k + 1) ls) o)) g m)

  module _ (new : Link) where
    stays : drop (k + 1) (slice_set ls k new) ≡ drop (k + 1) ls
    stays = drop-set-lt (k + 1) ls k new (omega arith)

    -- it goes on at the same part
    pub sleep_on : (access : Option Access) → Turns (sleep_left l) access None (sleep_left new) → Turns (sleeping k ls) access None (sleeping k (slice_set ls k new))
    unfolding follows
    sleep_on access t =
        let rest = drop (k + 1) ls in
        let step = turns_joined follows (sleep_left l) access (sleep_left new) t in
        subst (λ (o : Option Link). Turns (sleep_from rest o) access None (sleeping k (slice_set ls k new))) (sym g)
        (subst (λ (o : Option Link). Turns (sleep_from rest (Some l)) access None (sleep_from (drop (k + 1) (slice_set ls k new)) o)) (sym (get_set ls k new (within ls k l g)))
        (subst (λ (ks : List Link). Turns (sleep_from rest (Some l)) access None (sleep_from ks (Some new))) (sym stays) step))

    -- no request came at a part, and the next part follows
    pub sleep_next : (after : Link) (access : Option Access) (q : Plan Bool) → slice_get (slice_set ls k new) (k + 1) ≡ Some after → idle after ≡ true → length (held_of after) ≡ 2 → Turns (sleep_left l) access (Some true) q → Turns (sleeping k ls) access None (sleeping (k + 1) (slice_set ls k new))
    unfolding follows
    sleep_next after None q e i h t = absurd t
    sleep_next after (Some a) q e i h t =
        let rest = drop (k + 1) ls in
        let all : sleeping (k + 1) (slice_set ls k new) ≡ sleep_all (map joined_of rest) =
        sleeping_at (slice_set ls k new) (k + 1) after e i h ∙ ap (λ (ks : List Link). sleep_all (map joined_of ks)) stays in
        let more : IsUnfinished (sleep_all (map joined_of rest)) =
        subst (λ (ks : List Link). IsUnfinished (sleep_all (map joined_of ks))) (sym (drop_get (slice_set ls k new) (k + 1) after e) ∙ stays) (sleeps_more after (drop (k + 1 + 1) (slice_set ls k new))) in
        let goes = goes_joined follows (sleep_left l) a (Finished true) t in
        subst (λ (o : Option Link). Turns (sleep_from rest o) (Some a) None (sleeping (k + 1) (slice_set ls k new))) (sym g)
        (subst (λ (p : Plan Bool). Turns (sleep_from rest (Some l)) (Some a) None p) (sym all) (goes, more))

  -- it is over at this part
  pub sleep_over : (access : Option Access) (quiet : Bool) (q new : Plan Bool) → (quiet ≡ true → length ls ≤ k + 1) → Turns (sleep_left l) access (Some quiet) q → Turns (sleeping k ls) access (Some quiet) new
  unfolding follows
  sleep_over None quiet q new past t = absurd t
  sleep_over (Some a) quiet q new past t =
      let goes : Goes (joined (sleep_left l) follows) a (Finished quiet) = subst (λ (p : Plan Bool). Goes (joined (sleep_left l) follows) a p) (last_of quiet past) (goes_joined follows (sleep_left l) a (Finished quiet) t) in
      subst (λ (o : Option Link). Goes (sleep_from (drop (k + 1) ls) o) a (Finished quiet)) (sym g) goes
    where
      last_of : (quiet : Bool) → (quiet ≡ true → length ls ≤ k + 1) → follows quiet ≡ Finished quiet
      last_of true h = ap (λ (ks : List Link). sleep_all (map joined_of ks)) (drop_past ls (k + 1) (h refl))
      last_of false h = refl
