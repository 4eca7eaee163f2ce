-- One access leads from what is left of a Raise or a Publish to what is left then.
use Rattle.std.proofs.Common.{◌≡◌, ◌≢◌, ℕ, ◌+◌, ◌<◌, ◌≤◌, ◌-◌, ◌==◌, Bool, true, false, cond, nat_lt, nat_le, List, [], ◌∷◌, ◌++◌, length, drop, get_or, Option, Some, None, refl, inl, inr, sym, ap, ◌∙◌, arith, ⊎_elim}
use Rattle.std.proofs.lemmas.Bool.{cases_lt, false≢true}
use Rattle.std.proofs.lemmas.Bool.Decides.{nat_tests}
use Rattle.std.proofs.lemmas.List.{drop_more, drop_all}
use Rattle.std.specs.List.{flat_map}
use Rattle.pv_words.specs.declared.access.Access.TheVariants as access
use Rattle.pv_words.specs.declared.grant.Hold.{Hold}
use Rattle.pv_words.specs.declared.grant.Mode.TheVariants.{Write}
use Rattle.pv_words.specs.Held.{Has, Covers, CoversToWrite}
use Rattle.pv_words.specs.Plan.{Plan, Want, Finished, Make, Load, Store, Plain, Goes, IsUnfinished, MayGo, Turns}
use Rattle.ring_words.specs.Ring.{since}
use Rattle.event_ring.specs.declared.Room.TheVariants as room
use Rattle.event_ring.specs.Events.{Events, HasRoom, index_after, room_of, unread}
use Rattle.link_core.specs.declared.link.Link.{Link}
use Rattle.link_core.specs.declared.link.Kept.{Kept}
use Rattle.link_core.specs.declared.link.Kept.TheVariants as kept
use Rattle.link_core.specs.declared.link.Put.{Put}
use Rattle.link_core.specs.declared.link.Put.TheVariants as put
use Rattle.link_core.specs.declared.link.Stage.{Stage}
use Rattle.link_core.specs.declared.link.Stage.TheVariants as stage
use Rattle.link_core.specs.Activities.{Joined, Page, page_at, word_of, stores, hold_list}
use Rattle.link_core.specs.declared.link.event.Layout.{Layout}
use Rattle.link_core.specs.Link.{idle, joined_of, publish_left, published_if, put_rest, raise_left, rests}
use Rattle.link_core.specs.Raise.{event_layout, event_place, events_plan, group_plan, input_layout, obstacle_of, publish_events, put_events, put_in, raise_plan, unless_barred, word_at}
use Rattle.link_core.specs.Stage.{held_in, may_raise, ring_in}
use Rattle.link_core.proofs.Transitions.{goes_from, may_from, stores_one, stores_none, unfinished_from}

-- there is room for as many events as there are slots where nothing is unread
pub has_room : (e : Events) (n slots : ℕ) → e.len ≡ slots → e.limit ≡ 4294967232 → 1 ≤ slots → n ≤ slots → e.prod < 4294967232 → HasRoom e n
has_room e n slots len limit some few h =
    let fresh : unread e.prod e.prod ≡ 0 = omega arith in
    let spent : nat_le e.limit e.prod ≡ false = grind (arith, nat_tests) in
    let bad : nat_lt e.len (unread e.prod e.prod) ≡ false = grind (arith, nat_tests) in
    let full : (unread e.prod e.prod == e.len) ≡ false = grind (arith, nat_tests) in
    let k : ℕ = e.len - unread e.prod e.prod in (
      e.prod,
      k,
      ap (λ b. cond b room.Spent (cond (nat_lt e.len (unread e.prod e.prod)) (room.Bad e.prod) (cond (unread e.prod e.prod == e.len) room.Full (room.Free k)))) spent
          ∙ (ap (λ b. cond b (room.Bad e.prod) (cond (unread e.prod e.prod == e.len) room.Full (room.Free k))) bad
          ∙ ap (λ b. cond b room.Full (room.Free k)) full),
      omega (arith, fresh, len, few),
    )

-- one that isn't under way begins
pub whole : (layout : Layout) (page : Page) (prod stored n : ℕ) (words : List ℕ) (st : Stage) → st ≢ stage.Raise → put_rest layout page prod st stored n words ≡ events_plan layout page prod n words
whole layout page prod stored n words stage.Rest h = refl
whole layout page prod stored n words stage.Take h = refl
whole layout page prod stored n words stage.Answer h = refl
whole layout page prod stored n words stage.Sleep h = refl
whole layout page prod stored n words stage.Raise h = absurd (h refl)
whole layout page prod stored n words stage.Ring h = refl
whole layout page prod stored n words stage.Index h = refl
whole layout page prod stored n words stage.Event h = refl
whole layout page prod stored n words stage.Prod h = refl

rests_apart : (s : Stage) → rests s ≡ true → s ≢ stage.Raise
rests_apart s h e = false≢true (sym (ap rests e) ∙ h)

pub begins_raise : (l : Link) (words : List ℕ) → idle l ≡ true → raise_left l words ≡ raise_plan (page_at (joined_of l).event) (joined_of l).prod words
unfolding idle raise_left joined_of
begins_raise l words h = whole event_layout (page_at l.event_page) l.prod l.stored 1 words l.stage (rests_apart l.stage h)

pub begins_publish : (l : Link) (group : List (List ℕ)) → idle l ≡ true → publish_left l group ≡ group_plan (page_at (joined_of l).event) (joined_of l).prod group
unfolding idle publish_left joined_of
begins_publish l group h = whole input_layout (page_at l.event_page) l.prod l.stored (length group) (flat_map (λ e. e) group) l.stage (rests_apart l.stage h)

-- words are stored only where in_prod isn't spent
pub unspent : (st : Stage) (prod : ℕ) → st ≡ stage.Raise → may_raise st prod ≡ true → prod < 4294967232
unspent st prod at may =
    let test : nat_lt prod 4294967232 ≡ true = sym (ap (λ (x : Stage). may_raise x prod) at) ∙ may in
    grind (arith, nat_tests)

-- what an answer about the room says of the tests that it comes from
found_free : (s b f : Bool) (c k free : ℕ) → cond s room.Spent (cond b (room.Bad c) (cond f room.Full (room.Free k))) ≡ room.Free free → (b ≡ false) × (k ≡ free)
found_free true b f c k free h = let wrong : ⊥ = cc in absurd wrong
found_free false true f c k free h = let wrong : ⊥ = cc in absurd wrong
found_free false false true c k free h = let wrong : ⊥ = cc in absurd wrong
found_free false false false c k free h = let same : k ≡ free = cc in (refl, same)

found_full : (s b f : Bool) (c k : ℕ) → cond s room.Spent (cond b (room.Bad c) (cond f room.Full (room.Free k))) ≡ room.Full → (b ≡ false) × (f ≡ true)
found_full true b f c k h = let wrong : ⊥ = cc in absurd wrong
found_full false true f c k h = let wrong : ⊥ = cc in absurd wrong
found_full false false true c k h = (refl, refl)
found_full false false false c k h = let wrong : ⊥ = cc in absurd wrong

found_bad : (s b f : Bool) (c k d : ℕ) → cond s room.Spent (cond b (room.Bad c) (cond f room.Full (room.Free k))) ≡ room.Bad d → (b ≡ true) × (c ≡ d)
found_bad true b f c k d h = let wrong : ⊥ = cc in absurd wrong
found_bad false true f c k d h = let same : c ≡ d = cc in (refl, same)
found_bad false false true c k d h = let wrong : ⊥ = cc in absurd wrong
found_bad false false false c k d h = let wrong : ⊥ = cc in absurd wrong

module _ (e : Events) (cons slots prod : ℕ) (len : e.len ≡ slots) (is : e.prod ≡ prod) where
  same_unread : unread e.prod cons ≡ since cons prod
  same_unread = ap (λ p. unread p cons) is

  -- so many events may come more, none more, or there are too many already
  pub free_is : (free : ℕ) → room_of e cons ≡ room.Free free → since cons prod + free ≡ slots
  free_is free h =
      let found = found_free (nat_le e.limit e.prod) (nat_lt e.len (unread e.prod cons)) (unread e.prod cons == e.len) cons (e.len - unread e.prod cons) free h in
      let test : nat_lt e.len (unread e.prod cons) ≡ false = found.0 in
      let within : unread e.prod cons ≤ e.len = grind (arith, nat_tests) in
      omega (arith, found.1, within, same_unread, len)

  pub full_is : room_of e cons ≡ room.Full → since cons prod + 0 ≡ slots
  full_is h =
      let found = found_full (nat_le e.limit e.prod) (nat_lt e.len (unread e.prod cons)) (unread e.prod cons == e.len) cons (e.len - unread e.prod cons) h in
      let test : (unread e.prod cons == e.len) ≡ true = found.1 in
      let all : unread e.prod cons ≡ e.len = grind (arith, nat_tests) in
      omega (arith, all, same_unread, len)

  pub bad_is : (d : ℕ) → room_of e cons ≡ room.Bad d → (slots < since cons prod) × (cons ≡ d)
  bad_is d h =
      let found = found_bad (nat_le e.limit e.prod) (nat_lt e.len (unread e.prod cons)) (unread e.prod cons == e.len) cons (e.len - unread e.prod cons) d h in
      let test : nat_lt e.len (unread e.prod cons) ≡ true = found.0 in
      let over : e.len < unread e.prod cons = grind (arith, nat_tests) in
      (omega (arith, over, same_unread, len), found.1)

-- what stands against n more events
module _ (slots prod n cons : ℕ) where
  pub bars_bad : slots < since cons prod → obstacle_of slots prod n cons (since cons prod) ≡ Some (put.BadCons prod cons)
  bars_bad h =
      let test : nat_lt slots (since cons prod) ≡ true = grind (arith, nat_tests) in
      ap (λ b. cond b (Some (put.BadCons prod cons)) (cond (nat_lt slots (since cons prod + n)) (Some put.Full) None)) test

  pub bars_full : since cons prod ≤ slots → slots < since cons prod + n → obstacle_of slots prod n cons (since cons prod) ≡ Some put.Full
  bars_full h i =
      let test : nat_lt slots (since cons prod) ≡ false = grind (arith, nat_tests) in
      let over : nat_lt slots (since cons prod + n) ≡ true = grind (arith, nat_tests) in
      ap (λ b. cond b (Some (put.BadCons prod cons)) (cond (nat_lt slots (since cons prod + n)) (Some put.Full) None)) test
      ∙ ap (λ b. cond b (Some put.Full) None) over

  pub bars_none : since cons prod + n ≤ slots → obstacle_of slots prod n cons (since cons prod) ≡ None
  bars_none h =
      let test : nat_lt slots (since cons prod) ≡ false = grind (arith, nat_tests) in
      let over : nat_lt slots (since cons prod + n) ≡ false = grind (arith, nat_tests) in
      ap (λ b. cond b (Some (put.BadCons prod cons)) (cond (nat_lt slots (since cons prod + n)) (Some put.Full) None)) test
      ∙ ap (λ b. cond b (Some put.Full) None) over

  in_room : (b f : Bool) → None ≡ cond b (Some (put.BadCons prod cons)) (cond f (Some put.Full) None) → f ≡ false
  in_room true f h = let wrong : ⊥ = cc in absurd wrong
  in_room false true h = let wrong : ⊥ = cc in absurd wrong
  in_room false false h = refl

  -- where nothing does, they fit in the slots
  pub fits_slots : None ≡ obstacle_of slots prod n cons (since cons prod) → n ≤ slots
  fits_slots h =
      let test : nat_lt slots (since cons prod + n) ≡ false = in_room (nat_lt slots (since cons prod)) (nat_lt slots (since cons prod + n)) h in
      grind (arith, nat_tests)

  not_put : (b f : Bool) (end : Put) (j : Joined) → Some end ≡ cond b (Some (put.BadCons prod cons)) (cond f (Some put.Full) None) → published_if n (Some end) j ≡ j
  not_put b f put.Full j h = refl
  not_put b f (put.BadCons p c) j h = refl
  not_put b f (put.Spent p) j h = refl
  not_put true f put.Done j h = let wrong : ⊥ = cc in absurd wrong
  not_put false true put.Done j h = let wrong : ⊥ = cc in absurd wrong
  not_put false false put.Done j h = let wrong : ⊥ = cc in absurd wrong

  -- and where something does, none is published
  pub none_published : (end : Put) (j : Joined) → Some end ≡ obstacle_of slots prod n cons (since cons prod) → published_if n (Some end) j ≡ j
  none_published end j h = not_put (nat_lt slots (since cons prod)) (nat_lt slots (since cons prod + n)) end j h

-- the load of in_cons leads to the stores, or to an end
module _ (layout : Layout) (page : Page) (prod n cons : ℕ) (words : List ℕ) (below : prod < 4294967232) where
  loads_cons : events_plan layout page prod n words ≡ put_events layout page prod n words
  loads_cons =
      let test : nat_lt prod 4294967232 ≡ true = grind (arith, nat_tests) in
      ap (λ b. cond b (put_events layout page prod n words) (Finished (put.Spent prod))) test

  pub may_load : (may : Want → Type 0) → MayGo may (events_plan layout page prod n words) → may (Load (word_of page 0))
  may_load may m = may_from may (events_plan layout page prod n words) (Load (word_of page 0)) (put_in layout page prod n words) loads_cons m

  finds : (o : Option Put) → o ≡ obstacle_of layout.slots prod n cons (since cons prod) → Goes (events_plan layout page prod n words) (access.Load (word_of page 0) cons) (unless_barred o (put_rest layout page prod stage.Raise 0 n words))
  finds o told =
      goes_from (events_plan layout page prod n words) (Load (word_of page 0)) (put_in layout page prod n words) (access.Load (word_of page 0) cons) (unless_barred o (put_rest layout page prod stage.Raise 0 n words)) loads_cons
      (refl, ap (λ (x : Option Put). unless_barred x (put_rest layout page prod stage.Raise 0 n words)) told)

  pub finds_room : None ≡ obstacle_of layout.slots prod n cons (since cons prod) → Goes (events_plan layout page prod n words) (access.Load (word_of page 0) cons) (put_rest layout page prod stage.Raise 0 n words)
  finds_room told = finds None told

  pub finds_bar : (end : Put) → Some end ≡ obstacle_of layout.slots prod n cons (since cons prod) → Goes (events_plan layout page prod n words) (access.Load (word_of page 0) cons) (Finished end)
  finds_bar end told = finds (Some end) told

module _ (layout : Layout) (page : Page) (prod i n : ℕ) (words : List ℕ) (st : Stage) (at : st ≡ stage.Raise) where
  left : put_rest layout page prod st i n words ≡ stores (event_place layout page prod) (publish_events page prod n) i (drop i words)
  left = ap (λ (x : Stage). put_rest layout page prod x i n words) at

  pub put_head : (s v : ℕ) → s ≡ word_at layout prod i → v ≡ get_or words i 0 → i < length words → put_rest layout page prod st i n words ≡ Make (Store (word_of page s) v) Plain (λ _. stores (event_place layout page prod) (publish_events page prod n) (i + 1) (drop (i + 1) words))
  put_head s v place value h =
      left
      ∙ (stores_one (event_place layout page prod) (publish_events page prod n) i (drop i words) (drop (i + 1) words) (get_or words i 0) (drop_more words i 0 h)
      ∙ (ap (λ p. Make (Store p (get_or words i 0)) Plain (λ _. stores (event_place layout page prod) (publish_events page prod n) (i + 1) (drop (i + 1) words))) (ap (word_of page) (sym place))
      ∙ ap (λ x. Make (Store (word_of page s) x) Plain (λ _. stores (event_place layout page prod) (publish_events page prod n) (i + 1) (drop (i + 1) words))) (sym value)))

  pub put_publishes : length words ≤ i → put_rest layout page prod st i n words ≡ publish_events page prod n
  put_publishes h =
      left ∙ stores_none (event_place layout page prod) (publish_events page prod n) i (drop i words) (drop_all i words h)

module _ (layout : Layout) (page : Page) (prod i n : ℕ) (words : List ℕ) (st : Stage) (at : st ≡ stage.Raise) where
  pub unfinished_put : IsUnfinished (put_rest layout page prod st i n words)
  unfinished_put =
      ⊎_elim
      (λ l. unfinished_from (put_rest layout page prod st i n words) (Store (word_of page (word_at layout prod i)) (get_or words i 0)) (λ _. stores (event_place layout page prod) (publish_events page prod n) (i + 1) (drop (i + 1) words)) (put_head layout page prod i n words st at (word_at layout prod i) (get_or words i 0) refl refl l))
      (λ l. unfinished_from (put_rest layout page prod st i n words) (Store (word_of page 1) (index_after prod n)) (λ _. Finished put.Done) (put_publishes layout page prod i n words st at (omega arith)))
      (cases_lt i (length words))

module _ (layout : Layout) (page : Page) (prod i n : ℕ) (words : List ℕ) (st : Stage) (at : st ≡ stage.Raise) where
  pub put_stores : (s v : ℕ) → s ≡ word_at layout prod i → v ≡ get_or words i 0 → i < length words → Turns (put_rest layout page prod st i n words) (Some (access.Store (word_of page s) v)) None (put_rest layout page prod st (i + 1) n words)
  put_stores s v place value h = (
    goes_from (put_rest layout page prod st i n words) (Store (word_of page s) v) (λ _. stores (event_place layout page prod) (publish_events page prod n) (i + 1) (drop (i + 1) words)) (access.Store (word_of page s) v) (put_rest layout page prod st (i + 1) n words) (put_head layout page prod i n words st at s v place value h) (refl, ap (λ (x : Stage). put_rest layout page prod x (i + 1) n words) at),
    unfinished_put layout page prod (i + 1) n words st at,
  )

  pub put_ends : (v : ℕ) (new : Plan Put) → v ≡ index_after prod n → length words ≤ i → Turns (put_rest layout page prod st i n words) (Some (access.Store (word_of page 1) v)) (Some put.Done) new
  put_ends v new value h =
      goes_from (put_rest layout page prod st i n words) (Store (word_of page 1) (index_after prod n)) (λ _. Finished put.Done) (access.Store (word_of page 1) v) (Finished put.Done) (put_publishes layout page prod i n words st at h) (ap (Store (word_of page 1)) value, refl)

-- the event page is one of those that are held by a link that is joined
pub in_joined : (k : Kept) (r e : Hold) → held_in k r e ≡ hold_list (ring_in k r) ++ e ∷ [] → Has (Covers e.dom.0 e.frame.0) (held_in k r e)
in_joined kept.Nothing r e h = absurd cc
in_joined kept.Ring r e h = absurd (omega (arith, ap length h))
in_joined kept.Event r e h = inl (refl, refl)
in_joined kept.Both r e h = inr (inl (refl, refl))

pub in_joined_to_write : (k : Kept) (r e : Hold) → e.mode ≡ Write → held_in k r e ≡ hold_list (ring_in k r) ++ e ∷ [] → Has (CoversToWrite e.dom.0 e.frame.0) (held_in k r e)
in_joined_to_write kept.Nothing r e w h = absurd cc
in_joined_to_write kept.Ring r e w h = absurd (omega (arith, ap length h))
in_joined_to_write kept.Event r e w h = inl ((refl, refl), w)
in_joined_to_write kept.Both r e w h = inr (inl ((refl, refl), w))
