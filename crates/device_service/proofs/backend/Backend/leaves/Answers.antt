use Rattle.std.proofs.Common.{◌++◌, None, sym, ap, subst, ◌∙◌}
use Rattle.device_core.specs.Order.{Stand, Went}
use Rattle.device_service.specs.Parts.{held_of as parts_held}
use Rattle.device_service.specs.Stand.{given_up, leaving_plan, stand_in, stand_of, work_of}
use Rattle.device_service.specs.Work.{End, Work, device}
use Rattle.device_service.proofs.Leaving.{idle_in, no_pages, none_held, none_of, some_first, some_last, some_of, some_pages, went_on, went_shut}
use Rattle.device_service.proofs.backend.Backend.leaves.Goals as goal

pub returns-then-held-gt0-clause-went : goal.returns-then-held-gt0-clause-went
unfolding stand_of given_up
returns-then-held-gt0-clause-went g c = λ site.
    let d = c.args.self.now in
    let s = g.S.Serve.service in
    let hs = s.pages (g.S.Serve.knows d.service) in
    let idle = idle_in d.activity c.args.why (g.S.Serve.going d.service) c.requires d.works in
    let some = some_pages s.pages g.S.Serve.knows g.S.Serve.holds g.S.Serve.going g.S.Serve.holds_pages d.service idle c.held.result c.held.ensures.count c.if-held-gt0.true in
    subst (λ (x : Stand (Work g.S.Serve.Known g.row.S-Event.Denot) (End g.S.Serve.End g.row.S-Event.Denot)). Went (device s site) (work_of d) (leaving_plan c.args.why (hs ++ parts_held d.parts)) None x)
    (sym (ap (stand_in site d (work_of d)) c.requires))
    (went_on s site c.args.why (work_of d) (hs ++ parts_held d.parts) (some_first hs (parts_held d.parts) some))

pub returns-then-not-is_bare-clause-went : goal.returns-then-not-is_bare-clause-went
unfolding stand_of given_up
returns-then-not-is_bare-clause-went g c = λ site.
    let d = c.args.self.now in
    let s = g.S.Serve.service in
    let hs = s.pages (g.S.Serve.knows d.service) in
    let some = some_of (parts_held d.parts) (sym c.is_bare.ensures ∙ c.if-not-is_bare.true) in
    subst (λ (x : Stand (Work g.S.Serve.Known g.row.S-Event.Denot) (End g.S.Serve.End g.row.S-Event.Denot)). Went (device s site) (work_of d) (leaving_plan c.args.why (hs ++ parts_held d.parts)) None x)
    (sym (ap (stand_in site d (work_of d)) c.requires))
    (went_on s site c.args.why (work_of d) (hs ++ parts_held d.parts) (some_last hs (parts_held d.parts) some))

pub shut-requires-clause-bare : goal.shut-requires-clause-bare
unfolding given_up
shut-requires-clause-bare g c =
    let d = c.args.self.now in
    let s = g.S.Serve.service in
    let idle = idle_in d.activity c.args.why (g.S.Serve.going d.service) c.requires d.works in
    let none = no_pages s.pages g.S.Serve.knows g.S.Serve.holds g.S.Serve.going g.S.Serve.holds_pages d.service idle c.held.result c.held.ensures.count c.if-held-gt0.false in
    none_held (s.pages (g.S.Serve.knows d.service)) (parts_held d.parts) none (none_of (parts_held d.parts) (sym c.is_bare.ensures ∙ c.if-not-is_bare.false))

pub returns-clause-went : goal.returns-clause-went
unfolding given_up
returns-clause-went g c = λ site.
    let d = c.args.self.now in
    let s = g.S.Serve.service in
    let hs = s.pages (g.S.Serve.knows d.service) in
    let idle = idle_in d.activity c.args.why (g.S.Serve.going d.service) c.requires d.works in
    let none = no_pages s.pages g.S.Serve.knows g.S.Serve.holds g.S.Serve.going g.S.Serve.holds_pages d.service idle c.held.result c.held.ensures.count c.if-held-gt0.false in
    went_shut s site c.args.why (work_of d) (hs ++ parts_held d.parts) c.shut.result (stand_of site c.shut.new.self) (none_held hs (parts_held d.parts) none (none_of (parts_held d.parts) (sym c.is_bare.ensures ∙ c.if-not-is_bare.false))) c.shut.ensures.said (c.shut.ensures.stand site)
