use Rattle.std.proofs.Common.{refl, sym, ap, ◌∙◌}
use Rattle.std.proofs.lemmas.Bool.{false≢true}
use Rattle.device_core.specs.Order.{Between}
use Rattle.device_service.specs.Parts.{joined_of}
use Rattle.device_service.specs.Stand.{dom_of, parts_of, stand_of, work_of}
use Rattle.device_service.proofs.Leaving.{apart_holds, bare_between, bare_joins, known_between, no_hand, none_in_hand, shut_as}
use Rattle.device_service.proofs.backend.Backend.refuse.Goals as goal

pub invariant_of-self : goal.invariant_of-self
invariant_of-self g c =
    let d = c.args.self.now in
    let s = g.S.Serve.service in
    let none = d.bare (apart_holds d.activity _ c.requires.between c.requires.apart) in
    record {
      dom_is = d.dom_is;
      kind_is = d.kind_is;
      stands = bare_between d.activity _ _ d.at d.hand c.requires.between c.requires.apart d.stands;
      raises = refl;
      at_in = d.at_in;
      round_in = d.round_in;
      hand_in = λ h e. none_in_hand h e;
      rung = λ e. no_hand e;
      waits = d.waits;
      of_domain = λ e. absurd (false≢true e);
      works = c.drop_hand.ensures.idle;
      bare = λ e. ap s.pages c.drop_hand.ensures.knows ∙ g.S.Serve.drops_bare (g.S.Serve.knows d.service) none;
      ready = λ e. absurd (false≢true e);
    }

pub returns-clause-stand : goal.returns-clause-stand
unfolding stand_of work_of
returns-clause-stand g c = λ site.
    let d = c.args.self.now in
    let s = g.S.Serve.service in
    let bare = bare_between d.activity _ _ d.at d.hand c.requires.between c.requires.apart d.stands in
    let known = known_between s.stripped d.activity (g.S.Serve.knows d.service) c.requires.between in
    ap (λ w. Between w) (shut_as s (work_of d) (joined_of d.parts) (g.S.Serve.knows c.drop_hand.new.self) (bare_joins d.parts bare) (c.drop_hand.ensures.knows ∙ ap s.dropped (sym known)))

pub returns-clause-same : goal.returns-clause-same
unfolding dom_of parts_of
returns-clause-same g c = (refl, refl, refl)
