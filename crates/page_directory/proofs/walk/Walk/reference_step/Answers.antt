use Rattle.std.proofs.Common.{sym}
use Rattle.pv_words.specs.declared.access.Access.TheVariants as access
use Rattle.page_directory.specs.Walking.{word_in}
use Rattle.page_directory.proofs.Changing.{changes_first}
use Rattle.std.proofs.Common.{◌≡◌, ◌+◌, ◌-◌, ◌≤◌, length, refl, ap, arith}
use Rattle.pv_words.specs.MapLeft.{map_left}
use Rattle.page_directory.specs.Walking.{rest_plan}
use Rattle.page_directory.specs.WalkLeft.{left_in, walk_left, dom_of, is_over, held_by, held_in}
use Rattle.page_directory.proofs.Plans.{may_first}
use Rattle.page_directory.proofs.Transitions.{entry_head, entry_turns}
use Rattle.page_directory.proofs.walk.Walk.reference_step.Goals as goal

pub load-gref-requires : goal.load-gref-requires
unfolding walk_left dom_of
load-gref-requires g c =
    let w = c.args.self.now in
    let frames = g.W.Words.frames_of c.args.words.now w.dom.0 in
    let grants = g.W.Words.grants_of c.args.words.now w.dom.0 in
    let word : c.len.result - w.begins + 1 ≡ length w.pages.items - w.begins + 1 = omega (arith, c.len.ensures, w.pages.ok) in
    may_first _ _ _ _ _ (entry_head frames grants w.dom.0 w.mode (rest_plan frames grants w.dom.0 w.mode w.more c.args.directory w.begins) c.args.directory w.begins w.pages.items (c.len.result - w.begins + 1) (walk_left frames grants w) (ap (left_in frames grants w.dom.0 w.mode w.map w.more w.begins w.pages.items) c.requires.reading) word) c.requires.may

pub returns-clause-steps : goal.returns-clause-steps
unfolding walk_left dom_of is_over held_by
returns-clause-steps g c =
    let w = c.args.self.now in
    let word : c.len.result - w.begins + 1 ≡ length w.pages.items - w.begins + 1 = omega (arith, c.len.ensures, w.pages.ok) in
    let within : w.begins ≤ length w.pages.items = omega (arith, w.begin, w.pages.ok) in
    λ frames grants. record {
      rests = tt;
      holds = changes_first frames (held_by w) (walk_left frames grants w) _ _ _ (access.Load (word_in c.args.directory (c.len.result - w.begins + 1)) c.load-gref.result) _ (entry_head frames grants w.dom.0 w.mode (rest_plan frames grants w.dom.0 w.mode w.more c.args.directory w.begins) c.args.directory w.begins w.pages.items (c.len.result - w.begins + 1) (walk_left frames grants w) (ap (left_in frames grants w.dom.0 w.mode w.map w.more w.begins w.pages.items) c.requires.reading) word) (sym (ap (held_in w.begins w.pages.items) c.requires.reading));
      moves = entry_turns frames grants w.dom.0 w.mode (rest_plan frames grants w.dom.0 w.mode w.more c.args.directory w.begins) c.args.directory w.begins w.pages.items (c.len.result - w.begins + 1) c.load-gref.result (walk_left frames grants w) (map_left frames grants c.new-self.result) (ap (left_in frames grants w.dom.0 w.mode w.map w.more w.begins w.pages.items) c.requires.reading) word (c.new-self.ensures.whole frames grants) within;
      dom = refl;
      over = refl;
    }
