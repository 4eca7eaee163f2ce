use Rattle.std.proofs.Common.{◌≡◌, ◌∙◌, ◌+◌, ◌*◌, ◌<◌, ◌++◌, Ok, Err, subst, sym, arith}
use Rattle.std.proofs.lemmas.Result.{err_from_is_err_and}
use Rattle.backend_core.specs.Marked.{Item}
use Rattle.pv_world.specs.World.{Enters, devices_of, memory_of}
use Rattle.pv_world.proofs.Seen.{seen}
use Rattle.scenario_run.specs.Follows.{stores_of}
use Rattle.scenario_run.proofs.Fills.{fill_stops, one_more, store_is, word_in_range}
use Rattle.scenario_run.proofs.player.fill.Goals as goal

pub put-requires-clause-standing : goal.put-requires-clause-standing
put-requires-clause-standing g c =
    let s = c.requires.standing in
    let here = c.loop-k.invariant.steps s.0 s.1 s.2 s.3 s.4 in
    (s.0, s.1, s.2 ++ stores_of c.args.filling.now c.loop-k.k, here.0, here.1)

pub put-requires-clause-range : goal.put-requires-clause-range
put-requires-clause-range g c =
    let f = c.args.filling.now in
    let s = c.requires.standing in
    let here = c.loop-k.invariant.steps s.0 s.1 s.2 s.3 s.4 in
    let same : g.W.Words.frames_of (memory_of c.loop-k.world) f.dom.0 ≡ g.W.Words.frames_of (memory_of c.args.world.now) f.dom.0 = here.0.frames_are f.dom.0 ∙ sym (s.3.frames_are f.dom.0) in
    let below : 1024 * f.frame.0 + c.from.result + c.loop-k.k < 1024 * g.W.Words.frames_of (memory_of c.loop-k.world) f.dom.0 = omega (arith, c.requires.playable.0, c.loop-k-test.true, c.from.ensures, same) in
    word_in_range (g.W.Words.frames_of (memory_of c.loop-k.world)) (g.W.Words.grants_of (memory_of c.loop-k.world)) f.dom (1024 * f.frame.0 + c.from.result + c.loop-k.k) below

pub returns-in_err-put-clause-played : goal.returns-in_err-put-clause-played
returns-in_err-put-clause-played g c = λ frames grants m st e.
    let p = err_from_is_err_and c.from_residual.result c.from_residual.ensures.1 in
    let f = c.args.filling.now in
    let w = seen g.W.Words g.W.Machine in
    let before = c.loop-k.invariant.steps frames grants m st e in
    let stored = c.in_err-put.ensures.stored frames grants (m ++ stores_of f c.loop-k.k) before.0 before.1 in
    let due = subst (λ (i : Item). Enters w frames grants (memory_of c.put.new.self) (devices_of c.put.new.self) i c.put.new.journal.entries (m ++ stores_of f c.loop-k.k) {A = Unit {0}} (Err c.in_err-put.field-0.0)) (store_is f c.from.result c.loop-k.k c.from.ensures) stored in
    rw (p.1, p.2) (fill_stops w frames grants f (memory_of c.put.new.self) (devices_of c.put.new.self) c.loop-k.k c.put.new.journal.entries m c.in_err-put.field-0.0 c.loop-k-test.true due)

pub loop-k-preserved : goal.loop-k-preserved
loop-k-preserved g c =
    let f = c.args.filling.now in
    let w = seen g.W.Words g.W.Machine in
    record {
      devices = c.put.ensures.devices ∙ c.loop-k.invariant.devices;
      keeps = λ dom. c.put.ensures.keeps dom ∙ c.loop-k.invariant.keeps dom;
      steps = λ frames grants m st e.
          let before = c.loop-k.invariant.steps frames grants m st e in
          let stored = c.in_ok-put.ensures.stored frames grants (m ++ stores_of f c.loop-k.k) before.0 before.1 in
          let due = subst (λ (i : Item). Enters w frames grants (memory_of c.put.new.self) (devices_of c.put.new.self) i c.put.new.journal.entries (m ++ stores_of f c.loop-k.k) (Ok (tt {0}))) (store_is f c.from.result c.loop-k.k c.from.ensures) stored in
          one_more w frames grants f (tt {0}) (memory_of c.put.new.self) (devices_of c.put.new.self) c.loop-k.k c.put.new.journal.entries m due;
    }
