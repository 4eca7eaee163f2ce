use Rattle.std.proofs.Common.{refl}
use Rattle.device_service.specs.Parts.{count_of, doing_of, dom_of, held_of, kind_of}
use Rattle.device_service.proofs.Wholes.{whole_dropping}
use Rattle.device_service.proofs.parts.Parts.give_up.Goals as goal

pub invariant_of-self : goal.invariant_of-self
unfolding doing_of
invariant_of-self c =
    let p = c.args.self.now in record { whole = whole_dropping p.dom.0 p.ringed p.doing p.links.items p.whole c.requires }

pub returns-clause-doing : goal.returns-clause-doing
unfolding doing_of
returns-clause-doing c = refl

pub returns-clause-held : goal.returns-clause-held
unfolding held_of
returns-clause-held c = refl

pub returns-clause-same : goal.returns-clause-same
unfolding count_of dom_of kind_of
returns-clause-same c = record { dom = refl; count = refl; kind = refl }
