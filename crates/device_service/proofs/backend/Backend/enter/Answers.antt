use Rattle.std.proofs.Common.{◌≡◌, false, refl, sym, ap, ◌∙◌}
use Rattle.std.proofs.lemmas.Bool.{false≢true}
use Rattle.xenbus_states.specs.Connection.{Connection}
use Rattle.device_core.specs.Order.{Between}
use Rattle.device_service.specs.Activity.{is_connected}
use Rattle.device_service.specs.Stand.{dom_of, parts_of, stand_of, work_of}
use Rattle.device_service.proofs.Leaving.{entered_as, known_between, none_wait, no_hand, none_in_hand, rests_entered}
use Rattle.device_service.proofs.backend.Backend.enter.Goals as goal

pub invariant_of-self : goal.invariant_of-self
invariant_of-self g c =
    let d = c.args.self.now in
    let apart : is_connected c.moved.new.self.back ≡ false = ap (λ (k : Connection). is_connected k.back) c.moved.ensures ∙ c.requires.state in
    record {
      dom_is = d.dom_is;
      kind_is = d.kind_is;
      stands = rests_entered d.activity _ _ _ d.at d.hand c.requires.between c.requires.apart apart d.stands;
      raises = refl;
      at_in = d.at_in;
      round_in = d.round_in;
      hand_in = λ h e. none_in_hand h e;
      rung = λ e. no_hand e;
      waits = none_wait g.S.Serve.service.at _ _ c.clear.ensures;
      of_domain = λ e. absurd (false≢true e);
      works = c.start.ensures.idle;
      bare = λ e. ap g.S.Serve.service.pages c.start.ensures.knows ∙ g.S.Serve.begins_bare (g.S.Serve.knows d.service) d.read;
      ready = λ e. absurd (false≢true e);
    }

pub returns-clause-stand : goal.returns-clause-stand
unfolding stand_of work_of
returns-clause-stand g c = λ site.
    let d = c.args.self.now in
    let s = g.S.Serve.service in
    let known = known_between s.stripped d.activity (g.S.Serve.knows d.service) c.requires.between in
    let begun = c.start.ensures.knows ∙ ap (λ x. s.begun x d.read) (sym known) in
    ap (λ w. Between w) (entered_as s (work_of d) c.args.s c.moved.new.self c.clear.new.self (g.S.Serve.knows c.start.new.self) c.moved.ensures c.clear.ensures begun)

pub returns-clause-same : goal.returns-clause-same
unfolding dom_of parts_of
returns-clause-same g c = (refl, refl, refl)
