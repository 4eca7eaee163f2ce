use Rattle.std.proofs.Common.{refl, sym, ap, ◌∙◌}
use Rattle.std.proofs.lemmas.Bool.{false≢true}
use Rattle.device_core.specs.Order.{Between}
use Rattle.device_service.specs.Parts.{held_of, joined_of}
use Rattle.device_service.specs.Stand.{dom_of, given_up, parts_of, stand_of, work_of}
use Rattle.device_service.proofs.Leaving.{bare_joins, known_leaving, left_nil, no_hand, none_in_hand, right_nil, shut_as, waits_same, within_same}
use Rattle.device_service.proofs.backend.Backend.shut.Goals as goal

pub given_up-requires-clause-bare : goal.given_up-requires-clause-bare
unfolding given_up
given_up-requires-clause-bare g c =
    let d = c.args.self.now in
    right_nil (g.S.Serve.service.pages (g.S.Serve.knows d.service)) (held_of d.parts) c.requires.bare

pub drop_hand-requires-clause-bare : goal.drop_hand-requires-clause-bare
unfolding given_up
drop_hand-requires-clause-bare g c =
    let d = c.args.self.now in
    left_nil (g.S.Serve.service.pages (g.S.Serve.knows d.service)) (held_of d.parts) c.requires.bare

pub invariant_of-self : goal.invariant_of-self
unfolding given_up
invariant_of-self g c =
    let d = c.args.self.now in
    let s = g.S.Serve.service in
    let none = left_nil (s.pages (g.S.Serve.knows d.service)) (held_of d.parts) c.requires.bare in
    let same = c.given_up.ensures.same in
    record {
      dom_is = same.dom ∙ d.dom_is;
      kind_is = same.kind ∙ d.kind_is;
      stands = c.given_up.ensures.doing;
      raises = refl;
      at_in = within_same _ _ _ same.count d.at_in;
      round_in = within_same _ _ _ same.count d.round_in;
      hand_in = λ h e. none_in_hand h e;
      rung = λ e. no_hand e;
      waits = waits_same s.at _ _ d.waiting same.count d.waits;
      of_domain = λ e. absurd (false≢true e);
      works = c.drop_hand.ensures.idle;
      bare = λ e. ap s.pages c.drop_hand.ensures.knows ∙ g.S.Serve.drops_bare (g.S.Serve.knows d.service) none;
      ready = λ e. absurd (false≢true e);
    }

pub returns-clause-stand : goal.returns-clause-stand
unfolding stand_of work_of given_up
returns-clause-stand g c = λ site.
    let d = c.args.self.now in
    let s = g.S.Serve.service in
    let x = g.S.Serve.knows d.service in
    let none = left_nil (s.pages x) (held_of d.parts) c.requires.bare in
    let known = known_leaving s.stripped d.activity c.args.why x c.requires.leaving ∙ g.S.Serve.stays_bare x none in
    ap (λ w. Between w) (shut_as s (work_of d) (joined_of c.given_up.new.self) (g.S.Serve.knows c.drop_hand.new.self) (bare_joins c.given_up.new.self c.given_up.ensures.doing) (c.drop_hand.ensures.knows ∙ ap s.dropped (sym known)))

pub returns-clause-same : goal.returns-clause-same
unfolding dom_of parts_of
returns-clause-same g c = (refl, refl, c.given_up.ensures.same.count)
