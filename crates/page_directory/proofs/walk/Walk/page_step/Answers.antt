use Rattle.std.proofs.Common.{◌++◌, ◌∷◌, [], sym, arith}
use Rattle.std.specs.List.{insert}
use Rattle.page_directory.specs.WalkLeft.{held_by, held_in}
use Rattle.page_directory.proofs.Changing.{map_keeps, map_stands, map_gains, insert_push}
use Rattle.std.proofs.Common.{◌++◌, ◌∷◌, [], Some, Err, refl, sym, subst, ap, ◌∙◌}
use Rattle.std.specs.List.{insert}
use Rattle.pv_words.specs.Plan.{IsUnfinished}
use Rattle.pv_words.specs.MapLeft.{dom_of as map_dom}
use Rattle.page_directory.specs.Stages.{is_mapping, is_last}
use Rattle.page_directory.specs.Walking.{with_map, undo_plan, rest_plan}
use Rattle.page_directory.specs.WalkLeft.{left_in, walk_left, dom_of, is_over}
use Rattle.page_directory.proofs.Plans.{map_may, map_goes_on, map_leads, map_holds, may_then, steps_from}
use Rattle.page_directory.proofs.Transitions.{rest_unfinished}
use Rattle.page_directory.proofs.walk.Walk.page_step.Goals as goal

pub step-turn-requires : goal.step-turn-requires
unfolding walk_left dom_of
step-turn-requires g c =
    let w = c.args.self.now in
    let frames = g.W.Words.frames_of c.args.words.now in
    let grants = g.W.Words.grants_of c.args.words.now in
    let left = left_in (frames w.dom.0) (grants w.dom.0) w.dom.0 w.mode in
    let is = ap (left w.map w.more w.begins w.pages.items) c.requires.mapping in
    let next = with_map (insert w.pages.items w.begins c.args.directory) (λ h. rest_plan (frames w.dom.0) (grants w.dom.0) w.dom.0 w.mode w.more c.args.directory w.begins (w.pages.items ++ h ∷ [])) in
    map_may frames grants (map_dom w.map) w.dom.0 w.same_dom w.map next (walk_left (frames w.dom.0) (grants w.dom.0) w) is (g.W.Words.may c.args.words.now) c.requires.may

pub returns-in_default-clause-steps : goal.returns-in_default-clause-steps
unfolding walk_left dom_of is_over held_by
returns-in_default-clause-steps g c =
    let w = c.args.self.now in
    let frames = g.W.Words.frames_of c.args.words.now in
    let grants = g.W.Words.grants_of c.args.words.now in
    let left = left_in (frames w.dom.0) (grants w.dom.0) w.dom.0 w.mode in
    let is = ap (left w.map w.more w.begins w.pages.items) c.requires.mapping in
    let next = with_map (insert w.pages.items w.begins c.args.directory) (λ h. rest_plan (frames w.dom.0) (grants w.dom.0) w.dom.0 w.mode w.more c.args.directory w.begins (w.pages.items ++ h ∷ [])) in
    record {
      rests = tt;
      holds = map_keeps frames grants (map_dom w.map) w.dom.0 w.same_dom w.map next (walk_left (frames w.dom.0) (grants w.dom.0) w) is c.step-turn.result.access c.step-turn.result.done c.step-turn.new.self (held_by w) (held_by w) c.step-turn.ensures.advances c.in_default.is refl;
      moves = map_goes_on frames grants (map_dom w.map) w.dom.0 w.same_dom w.map next (walk_left (frames w.dom.0) (grants w.dom.0) w) is c.step-turn.result.access c.step-turn.result.done c.step-turn.new.self _ c.step-turn.ensures.advances c.in_default.is (ap (left c.step-turn.new.self w.more w.begins w.pages.items) c.requires.mapping);
      dom = refl;
      over = ap is_last c.requires.mapping;
    }

pub refuse-requires : goal.refuse-requires
unfolding walk_left dom_of
refuse-requires g c =
    let w = c.args.self.now in
    let frames = g.W.Words.frames_of c.args.words.now in
    let grants = g.W.Words.grants_of c.args.words.now in
    let left = left_in (frames w.dom.0) (grants w.dom.0) w.dom.0 w.mode in
    let is = ap (left w.map w.more w.begins w.pages.items) c.requires.mapping in
    let next = with_map (insert w.pages.items w.begins c.args.directory) (λ h. rest_plan (frames w.dom.0) (grants w.dom.0) w.dom.0 w.mode w.more c.args.directory w.begins (w.pages.items ++ h ∷ [])) in
    let held = c.keep.new.self.pages.items in
    let leads = map_leads frames grants (map_dom w.map) w.dom.0 w.same_dom w.map next (walk_left (frames w.dom.0) (grants w.dom.0) w) is c.step-turn.result.access c.step-turn.result.done c.step-turn.new.self (Err c.in-Err.refusal) (undo_plan held c.in-Err.refusal) c.step-turn.ensures.advances (c.in-Some.is ∙ ap Some c.in-Err.is) (ap (λ hs. undo_plan hs c.in-Err.refusal) c.keep.ensures.pages) in
    record { may = λ none. may_then g.W.Words.may g.W.Words.makes c.args.words.now c.step-turn.new.words c.step-turn.result.access (walk_left (frames w.dom.0) (grants w.dom.0) w) (undo_plan held c.in-Err.refusal) none c.step-turn.ensures.made leads c.requires.may }

pub returns-in-Ok-clause-steps : goal.returns-in-Ok-clause-steps
unfolding walk_left dom_of held_by
returns-in-Ok-clause-steps g c =
    let w = c.args.self.now in
    let frames = g.W.Words.frames_of c.args.words.now in
    let grants = g.W.Words.grants_of c.args.words.now in
    let left = left_in (frames w.dom.0) (grants w.dom.0) w.dom.0 w.mode in
    let is = ap (left w.map w.more w.begins w.pages.items) c.requires.mapping in
    let next = with_map (insert w.pages.items w.begins c.args.directory) (λ h. rest_plan (frames w.dom.0) (grants w.dom.0) w.dom.0 w.mode w.more c.args.directory w.begins (w.pages.items ++ h ∷ [])) in
    let going = c.step-turn.ensures.held (w.maps (ap is_mapping c.requires.mapping)) in
    let here = c.push.ensures.left (frames w.dom.0) (grants w.dom.0) in
    let more = subst IsUnfinished (sym here) (rest_unfinished (frames w.dom.0) (grants w.dom.0) w.dom.0 w.mode w.more c.args.directory w.begins (w.pages.items ++ c.in-Ok.page ∷ [])) in
    record {
      rests = tt;
      holds = map_gains frames grants (map_dom w.map) w.dom.0 w.same_dom w.map next (walk_left (frames w.dom.0) (grants w.dom.0) w) is c.step-turn.result.access c.step-turn.result.done c.step-turn.new.self c.in-Ok.page (held_by w) (held_by c.push.new.self) c.step-turn.ensures.advances (c.in-Some.is ∙ ap Some c.in-Ok.is) going (c.push.ensures.held ∙ insert_push w.pages.items w.begins c.args.directory c.in-Ok.page (omega (arith, w.begin, w.pages.ok)) ∙ ap (λ hs. hs ++ c.in-Ok.page ∷ []) (sym (ap (held_in w.begins w.pages.items) c.requires.mapping)));
      moves = map_holds frames grants (map_dom w.map) w.dom.0 w.same_dom w.map next (walk_left (frames w.dom.0) (grants w.dom.0) w) is c.step-turn.result.access c.step-turn.result.done c.step-turn.new.self c.in-Ok.page (walk_left (frames w.dom.0) (grants w.dom.0) c.push.new.self) c.step-turn.ensures.advances (c.in-Some.is ∙ ap Some c.in-Ok.is) going here more;
      dom = c.push.ensures.dom;
      over = c.push.ensures.over;
    }

pub returns-in-Err-clause-steps : goal.returns-in-Err-clause-steps
unfolding walk_left dom_of held_by
returns-in-Err-clause-steps g c =
    let w = c.args.self.now in
    let frames = g.W.Words.frames_of c.args.words.now in
    let grants = g.W.Words.grants_of c.args.words.now in
    let left = left_in (frames w.dom.0) (grants w.dom.0) w.dom.0 w.mode in
    let is = ap (left w.map w.more w.begins w.pages.items) c.requires.mapping in
    let next = with_map (insert w.pages.items w.begins c.args.directory) (λ h. rest_plan (frames w.dom.0) (grants w.dom.0) w.dom.0 w.mode w.more c.args.directory w.begins (w.pages.items ++ h ∷ [])) in
    let held = c.keep.new.self.pages.items in
    let old = walk_left (frames w.dom.0) (grants w.dom.0) w in
    let leads = map_leads frames grants (map_dom w.map) w.dom.0 w.same_dom w.map next (walk_left (frames w.dom.0) (grants w.dom.0) w) is c.step-turn.result.access c.step-turn.result.done c.step-turn.new.self (Err c.in-Err.refusal) (undo_plan held c.in-Err.refusal) c.step-turn.ensures.advances (c.in-Some.is ∙ ap Some c.in-Err.is) (ap (λ hs. undo_plan hs c.in-Err.refusal) c.keep.ensures.pages) in
    let stand = map_stands frames grants (map_dom w.map) w.dom.0 w.same_dom w.map next (walk_left (frames w.dom.0) (grants w.dom.0) w) is c.step-turn.result.access c.step-turn.result.done c.step-turn.new.self c.in-Err.refusal (held_by w) c.keep.new.self.pages.items c.step-turn.ensures.advances (c.in-Some.is ∙ ap Some c.in-Err.is) (ap (held_in w.begins w.pages.items) c.requires.mapping ∙ sym c.keep.ensures.pages) in
    steps_from (frames w.dom.0) (grants w.dom.0) w.dom.0 (dom_of c.keep.new.self) (held_by w) (held_by w) old old c.refuse.result.access c.refuse.result.done c.refuse.new.self c.keep.ensures.dom refl refl (c.refuse.ensures.steps (frames w.dom.0) (grants w.dom.0) (held_by w) old leads stand)
