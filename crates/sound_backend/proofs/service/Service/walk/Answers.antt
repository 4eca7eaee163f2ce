use Rattle.std.proofs.Common.{refl, sym, ap, ◌∙◌}
use Rattle.page_directory.specs.declared.walk.Walked.{Walked}
use Rattle.page_directory.specs.WalkLeft.{walk_left}
use Rattle.page_directory.specs.WalkLeft.{dom_of as walked_dom}
use Rattle.device_service.proofs.Mapping.Steps.{walk_ends, walk_goes}
use Rattle.sound_backend.specs.Course.{stock_at}
use Rattle.sound_backend.specs.Known.{known_of}
use Rattle.sound_backend.specs.Service.{Listed, after_walk, sound}
use Rattle.device_service.specs.Mapping.{denied_by}
use Rattle.sound_backend.specs.Store.{stock_of}
use Rattle.sound_backend.proofs.Serviced.{knowing}
use Rattle.sound_backend.proofs.service.Service.walk.Goals as goal

pub returns-in_default-clause-comes : goal.returns-in_default-clause-comes
returns-in_default-clause-comes g c = λ parts.
    let d = c.args.self.now in
    let turn = c.step-turn in
    let frames = g.W.Words.frames_of c.args.words.now in
    let grants = g.W.Words.grants_of c.args.words.now in
    let dom = walked_dom c.args.walk in
    walk_goes sound Listed (known_of d) _ (walk_left (frames dom) (grants dom) c.args.walk) (walk_left (frames dom) (grants dom) turn.new.self) turn.result.access turn.result.done _ c.in_default.is
    (ap (λ k. knowing (stock_at k (stock_of d.store)) d.hand d.progress) (sym c.requires.idle)) turn.ensures.turns refl

pub returns-clause-comes : goal.returns-clause-comes
returns-clause-comes g c = λ parts.
    let d = c.args.self.now in
    let turn = c.step-turn in
    let frames = g.W.Words.frames_of c.args.words.now in
    let grants = g.W.Words.grants_of c.args.words.now in
    let dom = walked_dom c.args.walk in
    walk_ends sound Listed (λ x why. refl) (known_of d) (known_of c.listed-said.new.self) (walk_left (frames dom) (grants dom) c.args.walk) (walk_left (frames dom) (grants dom) turn.new.self) turn.result.access turn.result.done c.in-Some.end c.listed-said.result _ c.in-Some.is turn.ensures.turns (turn.ensures.pages c.requires.going)
    (c.listed-said.ensures.says ∙ ap (λ (z : Walked). denied_by z) c.in-Some.end-is) (c.listed-said.ensures.knows ∙ ap (λ (z : Walked). after_walk (known_of d) z) c.in-Some.end-is)
