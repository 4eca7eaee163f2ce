use Rattle.std.proofs.Common.{◌≡◌, ◌≤◌, None, Some, ap, subst, sym, ◌∙◌}
use Rattle.device_service.specs.Parts as of_parts
use Rattle.device_service.specs.Stand.{work_of}
use Rattle.device_service.proofs.Raising.{apart_none, connected_open, owed_none, owes_none, part_is, past_none}
use Rattle.device_service.proofs.Leaving.{known_between}
use Rattle.device_service.proofs.backend.Backend.owed.Goals as goal

pub returns-in_default-clause-none : goal.returns-in_default-clause-none
unfolding work_of
returns-in_default-clause-none g c = λ _ site.
    let d = c.args.self.now in
    let s = g.S.Serve.service in
    let x = g.S.Serve.knows d.service in
    let none = owed_none (s.owes x) (sym c.owed_part.ensures ∙ c.in_default.is) in
    owes_none s site (work_of d) _ (λ o e. let is : Some o ≡ None = sym e ∙ (ap s.owes (known_between s.stripped d.activity x c.requires.between) ∙ none) in let wrong : ⊥ = cc in absurd wrong)

pub returns-in_default-back : goal.returns-in_default-back
unfolding work_of
returns-in_default-back g c =
    let d = c.args.self.now in
    record {
      some = λ part e. let wrong : ⊥ = cc in absurd wrong;
      none = λ _ site.
          owes_none g.S.Serve.service site (work_of d) _
          (λ o e. apart_none d.activity d.closing d.connection.back d.parts d.at d.hand o.part c.requires.between c.requires.closing (λ b. c.in_default-back.not-Connected (c.back.ensures ∙ b)) d.stands);
    }

pub returns-then-part-len-clause-none : goal.returns-then-part-len-clause-none
unfolding work_of
returns-then-part-len-clause-none g c = λ _ site.
    let d = c.args.self.now in
    let s = g.S.Serve.service in
    let x = g.S.Serve.knows d.service in
    let opened = connected_open d.activity d.closing d.connection.back d.parts d.at d.hand c.requires.between c.requires.closing (sym c.back.ensures ∙ c.in-Connected.is) d.stands in
    owes_none s site (work_of d) _
    (λ o e.
    let at = part_is (s.owes x) o c.in-Some.part (sym (ap s.owes (known_between s.stripped d.activity x c.requires.between)) ∙ e) (sym c.owed_part.ensures ∙ c.in-Some.is) in
    past_none d.parts o.part opened (subst (λ k. of_parts.count_of d.parts ≤ k) (sym at) (subst (λ n. n ≤ c.in-Some.part) c.len.ensures.exact c.if-part-len.true)))
