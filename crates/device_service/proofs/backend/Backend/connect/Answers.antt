use Rattle.std.proofs.Common.{Some, refl, sym, ap, subst, ◌∙◌}
use Rattle.pv_words.specs.Plan.{MayGo}
use Rattle.link_core.specs.Link.{Leads}
use Rattle.device_core.specs.Site.{Site}
use Rattle.device_service.specs.Activity.{is_connecting}
use Rattle.device_service.specs.Claims.{site_of}
use Rattle.device_service.specs.Parts.{connect_left, count_of, ending_of, held_of as parts_held, joined_of}
use Rattle.device_service.specs.Stand.{dom_of, held_of, parts_of, stand_of, work_of}
use Rattle.device_service.proofs.Connecting.{connect_met, connect_on, connect_refused, connecting_as, connecting_in, connecting_joins, goes_on, in_behind, known_connecting, met_as, refused_bare}
use Rattle.device_service.proofs.Leaving.{bare_joins, shut_as}
use Rattle.device_service.proofs.backend.Backend.connect.Goals as goal

pub connect_step-turn-requires-clause-may : goal.connect_step-turn-requires-clause-may
unfolding dom_of parts_of
connect_step-turn-requires-clause-may g c =
    let d = c.args.self.now in
    let frames = g.W.Words.frames_of c.args.words.now in
    let grants = g.W.Words.grants_of c.args.words.now in
    let at = ap (λ n. site_of frames grants n (count_of d.parts)) d.dom_is in
    subst (λ (site : Site). MayGo (g.W.Words.may c.args.words.now) (connect_left site d.read d.parts)) (sym at) c.requires.may

pub returns-in_default-clause-goes : goal.returns-in_default-clause-goes
unfolding dom_of parts_of stand_of work_of
returns-in_default-clause-goes g c =
    let d = c.args.self.now in
    let s = g.S.Serve.service in
    let frames = g.W.Words.frames_of c.args.words.now in
    let grants = g.W.Words.grants_of c.args.words.now in
    let here = site_of frames grants d.dom.0 (count_of d.parts) in
    let turn = c.connect_step-turn in
    let new = turn.new.self in
    let at = ap (λ n. site_of frames grants n (count_of d.parts)) d.dom_is in
    let leads = subst (λ (site : Site). Leads (connect_left site d.read d.parts) turn.result.access (ending_of new turn.result.done) (connect_left site d.read new)) at turn.ensures.leads in
    let before = connecting_joins d.parts (connecting_in d.activity _ _ d.at d.hand c.requires.connecting d.stands) in
    let after = connecting_joins new (goes_on turn.result.done _ c.in_default.is turn.ensures.connected) in
    let same = connecting_as (work_of d) (joined_of new) (g.S.Serve.knows d.service) (ap is_connecting c.requires.connecting) (after ∙ sym before) (sym (known_connecting s.stripped d.activity (g.S.Serve.knows d.service) c.requires.connecting)) in
    connect_on s here (work_of d) _ (connect_left here d.read d.parts) (connect_left here d.read new) new turn.result.access turn.result.done leads c.in_default.is same

pub returns-in_default-clause-stays : goal.returns-in_default-clause-stays
unfolding held_of
returns-in_default-clause-stays g c =
    let d = c.args.self.now in
    in_behind (g.S.Serve.holds d.service) (parts_held d.parts) c.connect_step-turn.result.access c.connect_step-turn.ensures.stays

pub returns-in_default-clause-same : goal.returns-in_default-clause-same
unfolding dom_of parts_of
returns-in_default-clause-same g c = (refl, refl, c.connect_step-turn.ensures.same.count)

pub returns-in-Err-clause-goes : goal.returns-in-Err-clause-goes
unfolding dom_of parts_of stand_of work_of
returns-in-Err-clause-goes g c =
    let d = c.args.self.now in
    let s = g.S.Serve.service in
    let frames = g.W.Words.frames_of c.args.words.now in
    let grants = g.W.Words.grants_of c.args.words.now in
    let here = site_of frames grants d.dom.0 (count_of d.parts) in
    let turn = c.connect_step-turn in
    let new = turn.new.self in
    let at = ap (λ n. site_of frames grants n (count_of d.parts)) d.dom_is in
    let leads = subst (λ (site : Site). Leads (connect_left site d.read d.parts) turn.result.access (ending_of new turn.result.done) (connect_left site d.read new)) at turn.ensures.leads in
    let end = c.in-Some.is ∙ ap (λ r. Some r) c.in-Err.is in
    let known = known_connecting s.stripped d.activity (g.S.Serve.knows d.service) c.requires.connecting in
    let same = shut_as s (work_of d) (joined_of new) (g.S.Serve.knows c.drop_hand.new.self) (bare_joins new (refused_bare turn.result.done c.in-Err.refusal _ end turn.ensures.connected)) (c.drop_hand.ensures.knows ∙ ap s.dropped (sym known)) in
    connect_refused s here (work_of d) _ (connect_left here d.read d.parts) (connect_left here d.read new) new turn.result.access turn.result.done leads c.in-Err.refusal end same

pub returns-in-Err-clause-stays : goal.returns-in-Err-clause-stays
unfolding held_of
returns-in-Err-clause-stays g c =
    let d = c.args.self.now in
    in_behind (g.S.Serve.holds d.service) (parts_held d.parts) c.connect_step-turn.result.access c.connect_step-turn.ensures.stays

pub returns-in-Err-clause-same : goal.returns-in-Err-clause-same
unfolding dom_of parts_of
returns-in-Err-clause-same g c = (refl, refl, c.connect_step-turn.ensures.same.count)

pub returns-clause-goes : goal.returns-clause-goes
unfolding dom_of parts_of stand_of work_of
returns-clause-goes g c =
    let d = c.args.self.now in
    let s = g.S.Serve.service in
    let frames = g.W.Words.frames_of c.args.words.now in
    let grants = g.W.Words.grants_of c.args.words.now in
    let here = site_of frames grants d.dom.0 (count_of d.parts) in
    let turn = c.connect_step-turn in
    let new = turn.new.self in
    let at = ap (λ n. site_of frames grants n (count_of d.parts)) d.dom_is in
    let leads = subst (λ (site : Site). Leads (connect_left site d.read d.parts) turn.result.access (ending_of new turn.result.done) (connect_left site d.read new)) at turn.ensures.leads in
    let end = c.in-Some.is ∙ ap (λ r. Some r) c.in_default-end.is in
    let known = known_connecting s.stripped d.activity (g.S.Serve.knows d.service) c.requires.connecting in
    let begun = c.start.ensures.knows ∙ ap (λ x. s.begun x d.read) (sym known) in
    let same = met_as s here (work_of d) (joined_of new) c.moved.new.self c.clear.new.self (g.S.Serve.knows c.start.new.self) c.moved.ensures c.clear.ensures begun in
    connect_met s here (work_of d) _ (connect_left here d.read d.parts) (connect_left here d.read new) new turn.result.access turn.result.done leads c.in_default-end.field-0 end turn.ensures.joins same

pub returns-clause-stays : goal.returns-clause-stays
unfolding held_of
returns-clause-stays g c =
    let d = c.args.self.now in
    in_behind (g.S.Serve.holds d.service) (parts_held d.parts) c.connect_step-turn.result.access c.connect_step-turn.ensures.stays

pub returns-clause-same : goal.returns-clause-same
unfolding dom_of parts_of
returns-clause-same g c = (refl, refl, c.connect_step-turn.ensures.same.count)
