use Rattle.std.proofs.Common.{◌≡◌, ◌+◌, ◌-◌, suc, Some, None, sym, ap, ◌∙◌, arith}
use Rattle.device_service.specs.Nodes.{fault_in, keys_of}
use Rattle.device_service.specs.Parts.{kind_in}
use Rattle.xenbus_states.specs.Needs.{first_fault, needs_at, needs_from}
use Rattle.device_service.proofs.Faults.{fault_more, fault_here}
use Rattle.device_service.proofs.reading.fault_among.Goals as goal

pub loop-part-init : goal.loop-part-init
loop-part-init c = let same : c.args.parts ≡ c.args.parts - 0 = omega arith in ap (λ n. fault_in (first_fault c.args.nodes.now (needs_from (keys_of (kind_in c.args.ringed)) 0 n))) same

pub loop-part-preserved : goal.loop-part-preserved
loop-part-preserved c =
    let part = c.loop-part.part in
    let parts = c.args.parts in
    let one : parts - part ≡ suc (parts - (part + 1)) = omega arith in
    let none : fault_in (first_fault c.args.nodes.now (needs_at (keys_of (kind_in c.args.ringed)) part)) ≡ None = sym c.fault_of.ensures ∙ c.in_default.is in
    c.loop-part.invariant ∙ (ap (λ n. fault_in (first_fault c.args.nodes.now (needs_from (keys_of (kind_in c.args.ringed)) part n))) one ∙ fault_more c.args.nodes.now (needs_at (keys_of (kind_in c.args.ringed)) part) (needs_from (keys_of (kind_in c.args.ringed)) (part + 1) (parts - (part + 1))) none)

pub returns-in-Some : goal.returns-in-Some
returns-in-Some c =
    let part = c.loop-part.part in
    let parts = c.args.parts in
    let one : parts - part ≡ suc (parts - (part + 1)) = omega arith in
    let some : fault_in (first_fault c.args.nodes.now (needs_at (keys_of (kind_in c.args.ringed)) part)) ≡ Some c.in-Some.why = sym c.fault_of.ensures ∙ c.in-Some.is in
    sym (c.loop-part.invariant ∙ (ap (λ n. fault_in (first_fault c.args.nodes.now (needs_from (keys_of (kind_in c.args.ringed)) part n))) one ∙ fault_here c.args.nodes.now (needs_at (keys_of (kind_in c.args.ringed)) part) (needs_from (keys_of (kind_in c.args.ringed)) (part + 1) (parts - (part + 1))) c.in-Some.why some))

pub returns : goal.returns
returns c =
    let none : c.args.parts - c.loop-part.part ≡ 0 = omega arith in
    sym (c.loop-part.invariant ∙ ap (λ n. fault_in (first_fault c.args.nodes.now (needs_from (keys_of (kind_in c.args.ringed)) c.loop-part.part n))) none)
