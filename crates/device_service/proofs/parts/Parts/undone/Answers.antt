use Rattle.std.proofs.Common.{◌≡◌, ◌<◌, ◌==◌, true, false, length, refl, sym, ap, ◌∙◌, arith}
use Rattle.std.proofs.lemmas.Bool.Decides.{nat_tests}
use Rattle.device_service.specs.declared.parts.Doing.{Doing}
use Rattle.device_service.specs.Doing.{busy_in}
use Rattle.device_service.specs.Parts.{connects, count_of, doing_of, dom_of, held_of, kind_of}
use Rattle.device_service.proofs.Holding.Held.{nil_of, none_held, still_held}
use Rattle.device_service.proofs.Wholes.{whole_left}
use Rattle.device_service.proofs.parts.Parts.undone.Goals as goal

pub returns-then-not-is_bare : goal.returns-then-not-is_bare
unfolding count_of dom_of kind_of
returns-then-not-is_bare c =
    let p = c.args.self.now in
    let test : (length (held_of p) == 0) ≡ false = sym c.is_bare.ensures ∙ c.if-not-is_bare.true in
    let some : 0 < length (held_of p) = grind (arith, nat_tests, test) in
    let still = still_held c.args.why (held_of p) (doing_of p) some c.requires in
    record {
      ends = still.0;
      connected = ap connects c.requires;
      left = still.1;
      held = refl;
      same = record { dom = refl; count = refl; kind = refl };
    }

pub invariant_of-self : goal.invariant_of-self
unfolding doing_of held_of
invariant_of-self c =
    let p = c.args.self.now in
    let test : (length (held_of p) == 0) ≡ true = sym c.is_bare.ensures ∙ c.if-not-is_bare.false in
    let none : length (held_of p) ≡ 0 = grind (arith, nat_tests, test) in
    record { whole = whole_left p.dom.0 p.ringed p.doing p.links.items p.whole (ap (λ (d : Doing). busy_in d (length p.links.items)) c.requires) (nil_of (held_of p) none) }

pub returns : goal.returns
unfolding count_of doing_of dom_of held_of kind_of
returns c =
    let p = c.args.self.now in
    let test : (length (held_of p) == 0) ≡ true = sym c.is_bare.ensures ∙ c.if-not-is_bare.false in
    let none : length (held_of p) ≡ 0 = grind (arith, nat_tests, test) in
    let over = none_held c.args.why (held_of p) none in
    record {
      ends = over.0;
      connected = refl;
      left = over.1;
      held = refl;
      same = record { dom = refl; count = refl; kind = refl };
    }
