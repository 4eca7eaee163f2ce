use Rattle.std.proofs.Common.{[], ◌∷◌, refl, sym, ap, subst, ◌∙◌}
use Rattle.pv_words.specs.Plan.{Finished, Goes, MayGo}
use Rattle.link_core.specs.Activities.{unmaps}
use Rattle.link_core.specs.Link.{dom_of, held_of, is_joined, idle, drop_left, rest_of}
use Rattle.link_core.specs.Stage.{held_in}
use Rattle.link_core.proofs.Links.{agrees_at_rest}
use Rattle.link_core.proofs.link.Link.drop_step.Goals as goal

pub unmap-access-requires : goal.unmap-access-requires
unfolding drop_left held_of
unmap-access-requires g c =
    let l = c.args.self.now in
    subst (λ k. MayGo (g.W.Words.may c.args.words.now) (unmaps (held_in k l.ring_page l.event_page) (Finished tt))) c.in-Ring.is c.requires.may

pub unmap-access-requires-in-Event : goal.unmap-access-requires-in-Event
unfolding drop_left held_of
unmap-access-requires-in-Event g c =
    let l = c.args.self.now in
    subst (λ k. MayGo (g.W.Words.may c.args.words.now) (unmaps (held_in k l.ring_page l.event_page) (Finished tt))) c.in-Event.is c.requires.may

pub unmap-first-requires : goal.unmap-first-requires
unfolding drop_left held_of
unmap-first-requires g c =
    let l = c.args.self.now in
    subst (λ k. MayGo (g.W.Words.may c.args.words.now) (unmaps (held_in k l.ring_page l.event_page) (Finished tt))) c.in-Both.is c.requires.may

pub invariant_of-self-in-Ring-clause-agrees : goal.invariant_of-self-in-Ring-clause-agrees
unfolding idle
invariant_of-self-in-Ring-clause-agrees g c = agrees_at_rest c.args.self.now.stage _ c.requires.idle

pub invariant_of-self-in-Event-clause-agrees : goal.invariant_of-self-in-Event-clause-agrees
unfolding idle
invariant_of-self-in-Event-clause-agrees g c = agrees_at_rest c.args.self.now.stage _ c.requires.idle

pub returns-in-Nothing-clause-leads : goal.returns-in-Nothing-clause-leads
unfolding drop_left held_of
returns-in-Nothing-clause-leads g c =
    let l = c.args.self.now in
    ap (λ k. unmaps (held_in k l.ring_page l.event_page) (Finished tt)) c.in-Nothing.is

pub returns-in-Nothing-clause-held : goal.returns-in-Nothing-clause-held
unfolding held_of
returns-in-Nothing-clause-held g c =
    let l = c.args.self.now in
    ap (λ k. held_in k l.ring_page l.event_page) c.in-Nothing.is ∙ sym (ap (λ k. rest_of (held_in k l.ring_page l.event_page)) c.in-Nothing.is)

pub returns-in-Both-clause-leads : goal.returns-in-Both-clause-leads
unfolding drop_left held_of
returns-in-Both-clause-leads g c =
    let l = c.args.self.now in
    (subst (λ k. Goes (unmaps (held_in k l.ring_page l.event_page) (Finished tt)) c.unmap-first.result (unmaps (l.event_page ∷ []) (Finished tt))) (sym c.in-Both.is) (c.unmap-first.ensures.clears, refl), tt)

pub returns-in-Ring-clause-leads : goal.returns-in-Ring-clause-leads
unfolding drop_left held_of
returns-in-Ring-clause-leads g c =
    let l = c.args.self.now in
    subst (λ k. Goes (unmaps (held_in k l.ring_page l.event_page) (Finished tt)) c.unmap-access.result (Finished tt)) (sym c.in-Ring.is) (c.unmap-access.ensures.clears, refl)

pub returns-in-Event-clause-leads : goal.returns-in-Event-clause-leads
unfolding drop_left held_of
returns-in-Event-clause-leads g c =
    let l = c.args.self.now in
    subst (λ k. Goes (unmaps (held_in k l.ring_page l.event_page) (Finished tt)) c.unmap-access-in-Event.result (Finished tt)) (sym c.in-Event.is) (c.unmap-access-in-Event.ensures.clears, refl)

pub returns-in-Ring-clause-held : goal.returns-in-Ring-clause-held
unfolding held_of
returns-in-Ring-clause-held g c =
    let l = c.args.self.now in
    sym (ap (λ k. rest_of (held_in k l.ring_page l.event_page)) c.in-Ring.is)

pub returns-in-Event-clause-held : goal.returns-in-Event-clause-held
unfolding held_of
returns-in-Event-clause-held g c =
    let l = c.args.self.now in
    sym (ap (λ k. rest_of (held_in k l.ring_page l.event_page)) c.in-Event.is)

pub returns-in-Both-clause-held : goal.returns-in-Both-clause-held
unfolding held_of
returns-in-Both-clause-held g c =
    let l = c.args.self.now in
    sym (ap (λ k. rest_of (held_in k l.ring_page l.event_page)) c.in-Both.is)

pub returns-in-Nothing-clause-dom : goal.returns-in-Nothing-clause-dom
unfolding dom_of
returns-in-Nothing-clause-dom g c = refl

pub returns-in-Nothing-clause-apart : goal.returns-in-Nothing-clause-apart
unfolding is_joined
returns-in-Nothing-clause-apart g c = refl

pub returns-in-Nothing-clause-idle : goal.returns-in-Nothing-clause-idle
unfolding idle
returns-in-Nothing-clause-idle g c = c.requires.idle

pub returns-in-Ring-clause-dom : goal.returns-in-Ring-clause-dom
unfolding dom_of
returns-in-Ring-clause-dom g c = refl

pub returns-in-Ring-clause-apart : goal.returns-in-Ring-clause-apart
unfolding is_joined
returns-in-Ring-clause-apart g c = refl

pub returns-in-Ring-clause-idle : goal.returns-in-Ring-clause-idle
unfolding idle
returns-in-Ring-clause-idle g c = c.requires.idle

pub returns-in-Event-clause-dom : goal.returns-in-Event-clause-dom
unfolding dom_of
returns-in-Event-clause-dom g c = refl

pub returns-in-Event-clause-apart : goal.returns-in-Event-clause-apart
unfolding is_joined
returns-in-Event-clause-apart g c = refl

pub returns-in-Event-clause-idle : goal.returns-in-Event-clause-idle
unfolding idle
returns-in-Event-clause-idle g c = c.requires.idle

pub returns-in-Both-clause-dom : goal.returns-in-Both-clause-dom
unfolding dom_of
returns-in-Both-clause-dom g c = refl

pub returns-in-Both-clause-apart : goal.returns-in-Both-clause-apart
unfolding is_joined
returns-in-Both-clause-apart g c = refl

pub returns-in-Both-clause-idle : goal.returns-in-Both-clause-idle
unfolding idle
returns-in-Both-clause-idle g c = c.requires.idle
