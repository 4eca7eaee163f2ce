use Rattle.std.proofs.Common.{ap, ◌∙◌, arith, slice_get}
use Rattle.pcm_stream.specs.Stream.{Pcm, opened}
use Rattle.sound_backend.specs.Held.{with_list}
use Rattle.sound_backend.specs.Stock.{changed}
use Rattle.sound_backend.proofs.Streams.{open_accepted, set_changed, stock_by, stream_within}
use Rattle.sound_backend.proofs.store.Store.open.Goals as goal

pub returns : goal.returns
returns c =
    let d = c.args.self.now in
    let ss = d.streams.items in
    let o = open_accepted (slice_get ss c.args.part) c.args.params.now c.requires.accepted in
    let f : Pcm → Pcm = λ s. opened s.kind c.args.params.now in
    let within = stream_within ss c.args.part o.stream o.is in
    stock_by c.take-pages.ensures.none (c.put.ensures ∙ (ap (with_list d.held c.from.result) c.take-pages.ensures.pages ∙ ap (λ n. with_list d.held n d.mapped) c.from.ensures))
    (set_changed f ss c.from-2.result c.index_mut.result.now c.begin.new.self (omega (arith, within, c.from-2.ensures)) c.index_mut.ensures.value c.begin.ensures ∙ ap (changed f ss) c.from-2.ensures)
