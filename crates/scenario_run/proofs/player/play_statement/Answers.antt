use Rattle.std.proofs.Common.{subst, sym}
use Rattle.pv_world.specs.World.{devices_of, memory_of}
use Rattle.pv_world.proofs.Seen.{seen}
use Rattle.scenario_text.specs.declared.statement.Statement.{Statement}
use Rattle.scenario_run.specs.Played.{Played}
use Rattle.scenario_run.proofs.Plays.{back_played, bus_played, host_played, node_played, put_played, serve_played, swap_played, wake_played}
use Rattle.scenario_run.proofs.player.play_statement.Goals as goal

pub returns-in-Put-clause-played : goal.returns-in-Put-clause-played
returns-in-Put-clause-played g c = λ frames grants m st e.
    let w = seen g.W.Words g.W.Machine in
    subst (λ (s : Statement). Played w frames grants (memory_of c.put.new.self) (devices_of c.put.new.self) s c.put.new.journal.entries m c.put.result) (sym c.in-Put.is)
    (put_played w frames grants (memory_of c.put.new.self) (devices_of c.put.new.self) c.in-Put.place c.in-Put.v c.put.new.journal.entries m c.put.result (c.put.ensures.stored frames grants m st e))

pub returns-in-Swap-clause-played : goal.returns-in-Swap-clause-played
returns-in-Swap-clause-played g c = λ frames grants m st e.
    let w = seen g.W.Words g.W.Machine in
    subst (λ (s : Statement). Played w frames grants (memory_of c.swap.new.self) (devices_of c.swap.new.self) s c.swap.new.journal.entries m c.swap.result) (sym c.in-Swap.is)
    (swap_played w frames grants (memory_of c.swap.new.self) (devices_of c.swap.new.self) c.in-Swap.place c.in-Swap.old c.in-Swap.new c.swap.new.journal.entries m c.swap.result (c.swap.ensures.exchanged frames grants m st e))

pub returns-in-Node-clause-played : goal.returns-in-Node-clause-played
returns-in-Node-clause-played g c = λ frames grants m st e.
    let w = seen g.W.Words g.W.Machine in
    subst (λ (s : Statement). Played w frames grants (memory_of c.node.new.self) (devices_of c.node.new.self) s c.node.new.journal.entries m c.node.result) (sym c.in-Node.is)
    (node_played w frames grants (memory_of c.node.new.self) (devices_of c.node.new.self) c.in-Node.dev c.in-Node.part c.in-Node.key c.in-Node.v c.node.new.journal.entries m c.node.result (c.node.ensures.set frames grants m st e))

pub returns-in-Bus-clause-played : goal.returns-in-Bus-clause-played
returns-in-Bus-clause-played g c = λ frames grants m st e.
    let w = seen g.W.Words g.W.Machine in
    subst (λ (s : Statement). Played w frames grants (memory_of c.bus.new.self) (devices_of c.bus.new.self) s c.bus.new.journal.entries m c.bus.result) (sym c.in-Bus.is)
    (bus_played w frames grants (memory_of c.bus.new.self) (devices_of c.bus.new.self) c.in-Bus.dev c.in-Bus.state c.bus.new.journal.entries m c.bus.result (c.bus.ensures.heard frames grants m st e))

pub returns-in-Wake-clause-played : goal.returns-in-Wake-clause-played
returns-in-Wake-clause-played g c = λ frames grants m st e.
    let w = seen g.W.Words g.W.Machine in
    subst (λ (s : Statement). Played w frames grants (memory_of c.wake.new.self) (devices_of c.wake.new.self) s c.wake.new.journal.entries m c.wake.result) (sym c.in-Wake.is)
    (wake_played w frames grants (memory_of c.wake.new.self) (devices_of c.wake.new.self) c.in-Wake.dev c.wake.new.journal.entries m c.wake.result (c.wake.ensures.woken frames grants m st e))

pub returns-in-Host-clause-played : goal.returns-in-Host-clause-played
returns-in-Host-clause-played g c = λ frames grants m st e.
    let w = seen g.W.Words g.W.Machine in
    subst (λ (s : Statement). Played w frames grants (memory_of c.host.new.self) (devices_of c.host.new.self) s c.host.new.journal.entries m c.host.result) (sym c.in-Host.is)
    (host_played w frames grants (memory_of c.host.new.self) (devices_of c.host.new.self) c.in-Host.dev c.in-Host.e c.host.new.journal.entries m c.host.result (c.host.ensures.hosted frames grants m st e))

pub returns-in-Back-clause-played : goal.returns-in-Back-clause-played
returns-in-Back-clause-played g c = λ frames grants m st e.
    let w = seen g.W.Words g.W.Machine in
    subst (λ (s : Statement). Played w frames grants (memory_of c.back.new.self) (devices_of c.back.new.self) s c.back.new.journal.entries m c.back.result) (sym c.in-Back.is)
    (back_played w frames grants (memory_of c.back.new.self) (devices_of c.back.new.self) c.in-Back.dev c.in-Back.count c.back.new.journal.entries m c.back.result (c.back.ensures.stepped frames grants m st e))

pub returns-in-Serve-clause-played : goal.returns-in-Serve-clause-played
returns-in-Serve-clause-played g c = λ frames grants m st e.
    let w = seen g.W.Words g.W.Machine in
    subst (λ (s : Statement). Played w frames grants (memory_of c.back-in-Serve.new.self) (devices_of c.back-in-Serve.new.self) s c.back-in-Serve.new.journal.entries m c.back-in-Serve.result) (sym c.in-Serve.is)
    (serve_played w frames grants (memory_of c.back-in-Serve.new.self) (devices_of c.back-in-Serve.new.self) c.in-Serve.dev c.back-in-Serve.new.journal.entries m c.back-in-Serve.result (c.back-in-Serve.ensures.stepped frames grants m st e))
