use Rattle.std.proofs.Common.{ℕ, List, ap, refl, subst, sym}
use Rattle.pv_words.specs.Plan.{MayGo}
use Rattle.device_core.specs.Site.{Site}
use Rattle.device_service.specs.Claims.{site_of}
use Rattle.device_service.specs.Operating.{Continues}
use Rattle.device_service.specs.Stand.{dom_of, held_of, parts_of, work_of}
use Rattle.device_service.proofs.Deeds.{serves_on, serves_over}
use Rattle.device_service.proofs.Serving.{in_service}
use Rattle.device_service.proofs.Works.{serving_work}
use Rattle.device_service.proofs.backend.Backend.go_on_serving.Goals as goal

pub go_on-deed-requires-clause-may : goal.go_on-deed-requires-clause-may
unfolding dom_of parts_of
go_on-deed-requires-clause-may g c =
    let d = c.args.self.now in
    let site : ℕ → Site = λ n. site_of (g.W.Words.frames_of c.args.words.now) (g.W.Words.grants_of c.args.words.now) d.dom.0 n in
    subst (λ n. MayGo (g.W.Words.may c.args.words.now) (g.S.Serve.left (site n) d.service)) (sym c.len.ensures.exact) c.requires.may

pub returns-in-GoesOn-clause-goes : goal.returns-in-GoesOn-clause-goes
unfolding work_of dom_of parts_of
returns-in-GoesOn-clause-goes g c =
    let d = c.args.self.now in
    let s = g.S.Serve.service in
    let deed = c.go_on-deed in
    let site : ℕ → Site = λ n. site_of (g.W.Words.frames_of c.args.words.now) (g.W.Words.grants_of c.args.words.now) d.dom.0 n in
    let goes = subst (λ n. Continues s (g.S.Serve.knows d.service) (g.S.Serve.left (site n) d.service) deed.result.access deed.result.now deed.result.said (g.S.Serve.knows deed.new.self) (g.S.Serve.left (site n) deed.new.self)) c.len.ensures.exact deed.ensures.goes in
    serves_on (site (parts_of d)) d _ deed.result.access deed.result.now deed.result.said c.requires.serving c.requires.serving refl goes c.in-GoesOn.is

pub returns-in-GoesOn-clause-stays : goal.returns-in-GoesOn-clause-stays
unfolding held_of
returns-in-GoesOn-clause-stays g c = in_service _ _ c.go_on-deed.result.access c.go_on-deed.ensures.stays

pub returns-in-GoesOn-clause-same : goal.returns-in-GoesOn-clause-same
unfolding dom_of parts_of
returns-in-GoesOn-clause-same g c = (refl, refl, refl)

pub returns-in_default : goal.returns-in_default
unfolding work_of dom_of parts_of held_of
returns-in_default g c =
    let d = c.args.self.now in
    let s = g.S.Serve.service in
    let deed = c.go_on-deed in
    let site : ℕ → Site = λ n. site_of (g.W.Words.frames_of c.args.words.now) (g.W.Words.grants_of c.args.words.now) d.dom.0 n in
    let goes = subst (λ n. Continues s (g.S.Serve.knows d.service) (g.S.Serve.left (site n) d.service) deed.result.access deed.result.now deed.result.said (g.S.Serve.knows deed.new.self) (g.S.Serve.left (site n) deed.new.self)) c.len.ensures.exact deed.ensures.goes in
    record {
      goes = serves_over (site (parts_of d)) d _ deed.result.access deed.result.now deed.result.said c.requires.serving refl (ap (λ (vs : List g.row.S-Event.Denot). record (serving_work d) { waiting = vs; service = g.S.Serve.knows deed.new.self }) c.drop_oldest.ensures) goes c.in_default.not-GoesOn;
      made = deed.ensures.made;
      stays = in_service _ _ deed.result.access deed.ensures.stays;
      same = (refl, refl, refl);
    }
