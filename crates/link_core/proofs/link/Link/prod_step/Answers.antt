use Rattle.link_core.specs.declared.link.Stage.{Stage}
use Rattle.std.proofs.Common.{◌≡◌, None, true, refl, sym, subst, ap, ◌∙◌}
use Rattle.pv_words.specs.declared.access.Access.TheVariants as access
use Rattle.pv_words.specs.Plan.{Finished, Goes, MayGo}
use Rattle.link_core.specs.Activities.{Joins, page_at, word_of}
use Rattle.link_core.specs.Link.{dom_of, held_of, is_joined, joined_of, idle, connect_left, connect_rest, rings}
use Rattle.link_core.specs.Stage.{agrees, has_event, ring_in, ring_comes}
use Rattle.link_core.proofs.Links.{held_pages, both_held}
use Rattle.link_core.proofs.Stays.{in_event}
use Rattle.link_core.proofs.link.Link.prod_step.Goals as goal

pub returns-clause-stays : goal.returns-clause-stays
unfolding held_of
returns-clause-stays g c = in_event c.args.self.now.kept c.args.self.now.ring_page c.args.self.now.event_page (subst (λ s. agrees s c.args.self.now.kept ≡ true) c.requires.stage c.args.self.now.agrees)

pub load-prod-requires : goal.load-prod-requires
unfolding connect_left dom_of
load-prod-requires g c =
    let l = c.args.self.now in
    let frames = g.W.Words.frames_of c.args.words.now l.dom.0 in
    let grants = g.W.Words.grants_of c.args.words.now l.dom.0 in
    subst (λ s. MayGo (g.W.Words.may c.args.words.now) (connect_rest frames grants None 0 l s)) c.requires.stage c.requires.may

pub returns-clause-leads : goal.returns-clause-leads
unfolding connect_left joined_of
returns-clause-leads g c =
    let l = c.args.self.now in
    λ frames grants ring event. subst (λ s. Goes (connect_rest frames grants ring event l s) (access.Load (word_of (page_at l.event_page) 1) c.load-prod.result) (Finished (Joins (record { ring = ring_in l.kept l.ring_page; event = l.event_page; rsp = l.ring; prod = c.load-prod.result })))) (sym c.requires.stage) (refl, refl)

pub returns-clause-dom : goal.returns-clause-dom
unfolding dom_of
returns-clause-dom g c = refl

pub returns-clause-ends : goal.returns-clause-ends
unfolding idle is_joined held_of joined_of
returns-clause-ends g c =
    let l = c.args.self.now in
    let has : has_event l.kept ≡ true = subst (λ s. agrees s l.kept ≡ true) c.requires.stage l.agrees in
    (refl, refl, held_pages l.kept l.ring_page l.event_page has)

pub returns-clause-came : goal.returns-clause-came
unfolding rings held_of
returns-clause-came g c = λ h.
    both_held c.args.self.now.kept c.args.self.now.ring_page c.args.self.now.event_page (sym (ap (λ (s : Stage). ring_comes s c.args.self.now.kept) c.requires.stage) ∙ h)
