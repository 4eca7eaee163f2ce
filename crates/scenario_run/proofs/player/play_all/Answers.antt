use Rattle.std.proofs.Common.{◌≡◌, ℕ, ◌<◌, ◌++◌, List, [], length, take, get_or, sym, subst, ◌∙◌, ap, arith}
use Rattle.std.proofs.lemmas.List.{get_or_default, take_all}
use Rattle.std.proofs.lemmas.Result.{err_from_is_err_and}
use Rattle.pv_words.specs.declared.journal.Stop.TheVariants.{JournalFull, OutOfMemory}
use Rattle.pv_words.specs.declared.place.Place.TheVariants.{Cell}
use Rattle.pv_words.specs.declared.setup.DeviceSetup.{DeviceSetup}
use Rattle.pv_words.specs.Sizes.{frames_by, grants_by}
use Rattle.scenario_text.specs.declared.statement.Statement.{Statement}
use Rattle.scenario_text.specs.declared.statement.Statement.TheVariants.{Put}
use Rattle.scenario_text.specs.Playable.{IsPlayed}
use Rattle.pv_world.specs.World.{setups, devices_of, memory_of}
use Rattle.scenario_run.specs.Follows.{AreSettled, Follows, IsRow, rides_in}
use Rattle.scenario_run.specs.Legal.{IsFullFor, IsLegalTo, IsWantingFor}
use Rattle.scenario_run.specs.Played.{IsPromptHistory, StopsAt}
use Rattle.scenario_run.proofs.Plays.{all_at, can_play, follows_push, front_is, stops_play, true_journal}
use Rattle.scenario_run.proofs.Wholes.{settled_all}
use Rattle.scenario_run.proofs.player.play_all.Given.{Over}
use Rattle.scenario_run.proofs.player.play_all.Goals.{In_err-play_statement}
use Rattle.scenario_run.proofs.player.play_all.Goals as goal

-- a statement that no list has at a place beyond its end
abbrev beyond : Statement
beyond = Put (Cell (record { 0 = 0 }) (record { 0 = 0 }) 0) 0

-- the statement of a turn is the script's
turn : (xs ys : List Statement) (i : ℕ) → xs ≡ ys → i < length ys → get_or xs i beyond ≡ get_or ys i (get_or xs i beyond)
turn xs ys i e l = ap (λ (zs : List Statement). get_or zs i beyond) e ∙ get_or_default ys i beyond (get_or xs i beyond) l

pub play_statement-requires-clause-playable : goal.play_statement-requires-clause-playable
play_statement-requires-clause-playable g c =
    let s = c.args.script.now in
    let i = c.loop-statement.statement-index in
    let inv = c.loop-statement.invariant in
    let inside : i < length s.statements = omega (arith, ap length c.statements-statements.ensures) in
    let played = all_at (IsPlayed s) s.statements i beyond c.requires.playable.statements inside in
    rw c.statements-statements.ensures (can_play s (g.W.Words.frames_of (memory_of c.loop-statement.world)) (g.W.Words.grants_of (memory_of c.loop-statement.world)) (g.W.Words.port (memory_of c.loop-statement.world)) (setups (devices_of c.loop-statement.world)) (get_or s.statements i beyond) inv.2.frames_are inv.2.grants_are inv.5 inv.4 c.requires.playable.sizes c.requires.playable.devices played)

-- what the statement that was stopped shows of the play
stopped : (g : Over) (c : In_err-play_statement g) → IsLegalTo c.args.script.now c.play_statement.new.journal.entries × (c.in_err-play_statement.field-0.0 ≡ JournalFull → IsFullFor c.args.script.now c.play_statement.new.journal.entries) × (c.in_err-play_statement.field-0.0 ≡ OutOfMemory → IsWantingFor c.args.script.now c.play_statement.new.journal.entries)
stopped g c =
    let s = c.args.script.now in
    let i = c.loop-statement.statement-index in
    let inv = c.loop-statement.invariant in
    let x = get_or c.statements-statements.result.now i beyond in
    let inside : i < length s.statements = omega (arith, ap length c.statements-statements.ensures) in
    let es = c.play_statement.new.journal.entries in
    let stop = c.in_err-play_statement.field-0.0 in
    let at = subst (λ (ds : List DeviceSetup). StopsAt (frames_by s.sizes) (grants_by s.sizes) ds x stop inv.0 es) (c.play_statement.ensures.devices ∙ inv.4) (c.in_err-play_statement.ensures.played (frames_by s.sizes) (grants_by s.sizes) inv.0 inv.2 inv.3) in
    stops_play s i x inside (turn c.statements-statements.result.now s.statements i c.statements-statements.ensures inside) stop inv.0 es inv.1 at

pub returns-in_err-play_statement-clause-stopped : goal.returns-in_err-play_statement-clause-stopped
returns-in_err-play_statement-clause-stopped g c =
    let p = err_from_is_err_and c.from_residual.result c.from_residual.ensures.1 in
    rw p.1 (stopped g (goal.at.returns-in_err-play_statement-clause-stopped g c).In_err-play_statement).0

pub returns-in_err-play_statement-clause-full : goal.returns-in_err-play_statement-clause-full
returns-in_err-play_statement-clause-full g c = λ full.
    let p = err_from_is_err_and c.from_residual.result c.from_residual.ensures.1 in
    let is_full : c.in_err-play_statement.field-0.0 ≡ JournalFull = cc (p.1, p.2, full) in
    (stopped g (goal.at.returns-in_err-play_statement-clause-full g c).In_err-play_statement).1 is_full

pub returns-in_err-play_statement-clause-wanting : goal.returns-in_err-play_statement-clause-wanting
returns-in_err-play_statement-clause-wanting g c = λ below.
    let p = err_from_is_err_and c.from_residual.result c.from_residual.ensures.1 in
    let wanting : c.in_err-play_statement.field-0.0 ≡ OutOfMemory = cc (p.1, p.2, below) in
    (stopped g (goal.at.returns-in_err-play_statement-clause-wanting g c).In_err-play_statement).2 wanting

pub loop-statement-preserved : goal.loop-statement-preserved
loop-statement-preserved g c =
    let s = c.args.script.now in
    let i = c.loop-statement.statement-index in
    let inv = c.loop-statement.invariant in
    let xs = c.statements-statements.result.now in
    let x = get_or xs i beyond in
    let inside : i < length s.statements = omega (arith, ap length c.statements-statements.ensures) in
    let played = c.in_ok-play_statement.ensures.played (frames_by s.sizes) (grants_by s.sizes) inv.0 inv.2 inv.3 in
    let world = c.play_statement.new.world in
    let f = frames_by s.sizes in
    let h = grants_by s.sizes in
    let same = c.play_statement.ensures.devices ∙ inv.4 in
    let row = subst (λ (ds : List DeviceSetup). IsRow (rides_in f h ds inv.0) x played.0) same played.1 in
    let whole = subst (λ (ds : List DeviceSetup). AreSettled f h ds (inv.0 ++ played.0)) same (settled_all _ f h (memory_of world) (devices_of world) (inv.0 ++ played.0) played.2) in (
      inv.0 ++ played.0,
      subst (λ (ss : List Statement). Follows f h s.devices ss [] (inv.0 ++ played.0)) (sym (front_is s i x inside (turn xs s.statements i c.statements-statements.ensures inside))) (follows_push f h s.devices (take i s.statements) x [] inv.0 played.0 inv.1 row whole),
      played.2,
      played.3,
      c.play_statement.ensures.devices ∙ inv.4,
      λ dom. c.play_statement.ensures.keeps dom ∙ inv.5 dom,
    )

pub returns-clause-ok : goal.returns-clause-ok
returns-clause-ok g c =
    let s = c.args.script.now in
    let inv = c.loop-statement.invariant in
    let whole : take c.loop-statement.statement-index s.statements ≡ s.statements = take_all c.loop-statement.statement-index s.statements (omega (arith, ap length c.statements-statements.ensures)) in
    record {
      marked = inv.0;
      so_far = true_journal s inv.0 c.loop-statement.journal.entries inv.3 (subst (λ (ds : List DeviceSetup). IsPromptHistory (frames_by s.sizes) (grants_by s.sizes) ds inv.0) inv.4 (inv.2.so_far, inv.2.prompt));
      follows = subst (λ (ss : List Statement). Follows (frames_by s.sizes) (grants_by s.sizes) s.devices ss [] inv.0) whole inv.1;
    }
