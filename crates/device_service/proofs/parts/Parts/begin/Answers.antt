use Rattle.std.proofs.Common.{◌<◌, refl, sym, ap, ◌∙◌, arith}
use Rattle.device_service.specs.Parts.{connect_left, count_of, doing_of, dom_of, held_of, joined_in, joined_of, kind_of}
use Rattle.device_service.specs.Doing.{is_open}
use Rattle.device_service.proofs.Connects.{begins_at}
use Rattle.device_service.proofs.Lists.{got}
use Rattle.device_service.proofs.Wholes.{bare_rest, whole_connecting}
use Rattle.device_service.proofs.parts.Parts.begin.Goals as goal

pub invariant_of-self : goal.invariant_of-self
unfolding doing_of
invariant_of-self c =
    let p = c.args.self.now in record { whole = whole_connecting p.dom.0 p.ringed p.doing p.links.items p.whole c.requires }

pub returns-clause-connects : goal.returns-clause-connects
unfolding doing_of
returns-clause-connects c = refl

pub returns-clause-begins : goal.returns-clause-begins
unfolding connect_left count_of doing_of dom_of kind_of
returns-clause-begins c = λ site nodes dom parts.
    let p = c.args.self.now in
    let ls = p.links.items in
    let first = got ls 0 p.whole.some in
    let rest = bare_rest p.dom.0 p.ringed p.doing ls p.whole c.requires 0 first.0 first.1 in
    let some : 0 < site.parts = omega (arith, p.whole.some, parts) in
    begins_at site (kind_of p) nodes ls first.0 first.1 rest.2 (rest.0 ∙ sym dom) some

pub returns-clause-keeps : goal.returns-clause-keeps
unfolding count_of dom_of doing_of held_of joined_of kind_of
returns-clause-keeps c =
    record {
      same = record { dom = refl; count = refl; kind = refl };
      held = refl;
      stays = sym (ap (λ d. joined_in (is_open d) c.args.self.now.links.items) c.requires);
    }
