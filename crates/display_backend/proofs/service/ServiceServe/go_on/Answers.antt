use Rattle.std.proofs.Common.{◌≡◌, true, sym, subst, ◌∙◌}
use Rattle.std.proofs.lemmas.Bool.{eqb-true}
use Rattle.page_directory.specs.WalkLeft.{dom_of}
use Rattle.display_backend.specs.declared.course.Course.{Course}
use Rattle.display_backend.specs.declared.course.Course.TheVariants.{Walks}
use Rattle.display_backend.specs.Course.{is_walk_of}
use Rattle.display_backend.specs.Known.{held_of, is_of, known_of, left_of}
use Rattle.display_backend.specs.Showing.{scene_of}
use Rattle.display_buffers.specs.Store.{stock_of, count_of}
use Rattle.display_backend.proofs.Serviced.{in_walked, walk_continues}
use Rattle.display_backend.proofs.service.ServiceServe.go_on.Goals as goal

pub returns-in-Frees-clause-stays : goal.returns-in-Frees-clause-stays
returns-in-Frees-clause-stays g c = c.free.ensures.stays (held_of c.args.self.now)

pub returns : goal.returns
returns g c =
    let d = c.args.self.now in
    let w = c.in-Walks.walk in
    let is : d.course ≡ Walks w = sym c.replace.ensures.value ∙ c.in-Walks.is in
    let home : dom_of w ≡ c.args.dom.0 = eqb-true _ _ (subst (λ (k : Course). is_walk_of c.args.dom.0 k ≡ true) is c.requires.domain) in
    record {
      goes =
          walk_continues (g.W.Words.frames_of c.args.words.now) (g.W.Words.grants_of c.args.words.now) c.args.dom.0 c.args.parts d.course c.replace.new.dest w d.hand d.progress (stock_of d.store) (scene_of d.scene) (count_of d.store) c.walk.result.access c.walk.result.now c.walk.result.said (known_of c.walk.new.self) (λ site. left_of site c.walk.new.self)
          is c.replace.ensures.after c.requires.domain d.stands c.walk.ensures.comes;
      made = c.walk.ensures.made;
      stays = in_walked c.walk.result.access d.course w (stock_of d.store) is c.walk.ensures.stays;
      going = c.walk.ensures.going;
      domain = subst (λ n. is_of n c.walk.new.self ≡ true) home c.walk.ensures.domain;
    }
