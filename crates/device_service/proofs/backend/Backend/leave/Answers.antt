use Rattle.std.proofs.Common.{◌++◌, sym, ap, ◌∙◌}
use Rattle.device_service.specs.Activity.{is_leaving}
use Rattle.device_service.specs.Parts.{held_of as parts_held, joined_of}
use Rattle.device_service.specs.Stand.{dom_of, given_up, known_in, parts_of, stand_of, work_of}
use Rattle.device_service.proofs.Leaving.{dropping_in, dropping_joins, idle_in, leave_first, leave_last, leave_none, may_first, may_last, no_pages, none_held, none_of, strips_same}
use Rattle.device_service.proofs.backend.Backend.leave.Goals as goal

pub unmap_first-requires-clause-may : goal.unmap_first-requires-clause-may
unfolding given_up
unmap_first-requires-clause-may g c =
    let d = c.args.self.now in
    may_first (g.W.Words.may c.args.words.now) (g.S.Serve.service.pages (g.S.Serve.knows d.service)) (parts_held d.parts) c.requires.may

pub returns-then-held-gt0-clause-goes : goal.returns-then-held-gt0-clause-goes
unfolding work_of given_up
returns-then-held-gt0-clause-goes g c = λ site.
    let d = c.args.self.now in
    let s = g.S.Serve.service in
    let x = g.S.Serve.knows d.service in
    let y = g.S.Serve.knows c.unmap_first.new.self in
    let same = ap (λ (z : g.S.Serve.Known). record (work_of d) { service = z }) (strips_same s.stripped d.activity c.args.why x y c.requires.leaving c.unmap_first.ensures.strips) in
    leave_first s site c.args.why (record (work_of d) { service = known_in s.stripped (is_leaving d.activity) y }) (work_of d) (s.pages x) (s.pages y) (parts_held d.parts) c.unmap_first.result c.leaves-said.result (stand_of site c.leaves-said.new.self) c.unmap_first.ensures.drops same (c.leaves-said.ensures.went site)

pub returns-then-held-gt0-clause-same : goal.returns-then-held-gt0-clause-same
unfolding dom_of parts_of
returns-then-held-gt0-clause-same g c = c.leaves-said.ensures.same

pub shut-requires-clause-bare : goal.shut-requires-clause-bare
unfolding given_up
shut-requires-clause-bare g c =
    let d = c.args.self.now in
    let s = g.S.Serve.service in
    let idle = idle_in d.activity c.args.why (g.S.Serve.going d.service) c.requires.leaving d.works in
    let none = no_pages s.pages g.S.Serve.knows g.S.Serve.holds g.S.Serve.going g.S.Serve.holds_pages d.service idle c.held.result c.held.ensures.count c.if-held-gt0.false in
    none_held (s.pages (g.S.Serve.knows d.service)) (parts_held d.parts) none (none_of (parts_held d.parts) (sym c.is_bare.ensures ∙ c.if-is_bare.true))

pub returns-then-is_bare-clause-goes : goal.returns-then-is_bare-clause-goes
unfolding given_up
returns-then-is_bare-clause-goes g c = λ site.
    let d = c.args.self.now in
    let s = g.S.Serve.service in
    let hs = s.pages (g.S.Serve.knows d.service) in
    let idle = idle_in d.activity c.args.why (g.S.Serve.going d.service) c.requires.leaving d.works in
    let none = no_pages s.pages g.S.Serve.knows g.S.Serve.holds g.S.Serve.going g.S.Serve.holds_pages d.service idle c.held.result c.held.ensures.count c.if-held-gt0.false in
    leave_none s site c.args.why (work_of d) (hs ++ parts_held d.parts) c.shut.result (stand_of site c.shut.new.self) (none_held hs (parts_held d.parts) none (none_of (parts_held d.parts) (sym c.is_bare.ensures ∙ c.if-is_bare.true))) c.shut.ensures.said (c.shut.ensures.stand site)

pub drop_step-requires-clause-may : goal.drop_step-requires-clause-may
unfolding given_up
drop_step-requires-clause-may g c =
    let d = c.args.self.now in
    let s = g.S.Serve.service in
    let idle = idle_in d.activity c.args.why (g.S.Serve.going d.service) c.requires.leaving d.works in
    let none = no_pages s.pages g.S.Serve.knows g.S.Serve.holds g.S.Serve.going g.S.Serve.holds_pages d.service idle c.held.result c.held.ensures.count c.if-held-gt0.false in
    may_last (g.W.Words.may c.args.words.now) (s.pages (g.S.Serve.knows d.service)) (parts_held d.parts) none c.requires.may

pub returns-clause-goes : goal.returns-clause-goes
unfolding work_of given_up
returns-clause-goes g c = λ site.
    let d = c.args.self.now in
    let s = g.S.Serve.service in
    let hs = s.pages (g.S.Serve.knows d.service) in
    let idle = idle_in d.activity c.args.why (g.S.Serve.going d.service) c.requires.leaving d.works in
    let none = no_pages s.pages g.S.Serve.knows g.S.Serve.holds g.S.Serve.going g.S.Serve.holds_pages d.service idle c.held.result c.held.ensures.count c.if-held-gt0.false in
    let left = c.drop_step.new.self in
    let before = dropping_joins d.parts (dropping_in d.activity c.args.why _ _ d.at d.hand c.requires.leaving d.stands) in
    let same = ap (λ js. record (work_of d) { parts = js }) (dropping_joins left c.drop_step.ensures.doing ∙ sym before) in
    leave_last s site c.args.why (record (work_of d) { parts = joined_of left }) (work_of d) hs (parts_held d.parts) (parts_held left) c.drop_step.result c.leaves-said-2.result (stand_of site c.leaves-said-2.new.self) none c.drop_step.ensures.drops same (c.leaves-said-2.ensures.went site)

pub returns-clause-same : goal.returns-clause-same
unfolding dom_of parts_of
returns-clause-same g c =
    let same = c.leaves-said-2.ensures.same in
    (same.0, same.1, same.2 ∙ c.drop_step.ensures.same.count)
