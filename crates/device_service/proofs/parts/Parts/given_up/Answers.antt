use Rattle.std.proofs.Common.{length, refl, ap}
use Rattle.device_service.specs.Doing.{busy_in}
use Rattle.device_service.specs.Parts.{count_of, doing_of, dom_of, held_of, kind_of}
use Rattle.device_service.proofs.Wholes.{whole_left}
use Rattle.device_service.proofs.parts.Parts.given_up.Goals as goal

pub invariant_of-self : goal.invariant_of-self
unfolding doing_of held_of
invariant_of-self c =
    let p = c.args.self.now in
    record { whole = whole_left p.dom.0 p.ringed p.doing p.links.items p.whole (ap (λ d. busy_in d (length p.links.items)) c.requires.dropping) c.requires.bare }

pub returns-clause-doing : goal.returns-clause-doing
unfolding doing_of
returns-clause-doing c = refl

pub returns-clause-held : goal.returns-clause-held
unfolding held_of
returns-clause-held c = c.requires.bare

pub returns-clause-same : goal.returns-clause-same
unfolding count_of dom_of kind_of
returns-clause-same c = record { dom = refl; count = refl; kind = refl }
