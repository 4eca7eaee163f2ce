use Rattle.std.proofs.Common.{◌≤◌, arith, length, slice_get, sym, ap, ◌∙◌, List, Option}
use Rattle.pcm_stream.specs.Stream.{Pcm}
use Rattle.pcm_stream.specs.Tick.{after_tick}
use Rattle.sound_backend.specs.Stock.{changed}
use Rattle.sound_backend.specs.Store.{stock_of}
use Rattle.sound_backend.specs.Waiting.{ticked_in}
use Rattle.sound_backend.proofs.Streams.{changed_past, get_there, set_changed}
use Rattle.sound_backend.proofs.store.Store.tick.Goals as goal

pub returns-then-k-len-clause-stock : goal.returns-then-k-len-clause-stock
returns-then-k-len-clause-stock c =
    let ss = c.args.self.now.streams.items in
    let past : length ss ≤ c.args.part = omega (arith, c.if-k-len.true, c.from-k.ensures) in
    ap (λ (streams : List Pcm). record (stock_of c.args.self.now) { streams = streams }) (sym (changed_past (λ s. after_tick s c.args.frames) ss c.args.part past))

pub returns-clause-ticked : goal.returns-clause-ticked
returns-clause-ticked c =
    let ss = c.args.self.now.streams.items in
    let k = c.from-k.result in
    c.tick.ensures.ticked
    ∙ (sym (ap (λ (o : Option Pcm). ticked_in o c.args.frames) (get_there ss k c.index_mut.result.now (omega arith) c.index_mut.ensures.value))
    ∙ ap (λ n. ticked_in (slice_get ss n) c.args.frames) c.from-k.ensures)

pub returns-clause-stock : goal.returns-clause-stock
returns-clause-stock c =
    let ss = c.args.self.now.streams.items in
    let f : Pcm → Pcm = λ s. after_tick s c.args.frames in
    ap (λ (streams : List Pcm). record (stock_of c.args.self.now) { streams = streams })
    (set_changed f ss c.from-k.result c.index_mut.result.now c.tick.new.self (omega arith) c.index_mut.ensures.value c.tick.ensures.after ∙ ap (changed f ss) c.from-k.ensures)
