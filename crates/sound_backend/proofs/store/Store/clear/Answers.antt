use Rattle.std.proofs.Common.{◌≡◌, [], arith, length, replicate, ap, sym, ◌∙◌}
use Rattle.pcm_stream.specs.Stream.{Pcm, closed}
use Rattle.sound_backend.specs.Stock.{kinds_in}
use Rattle.sound_backend.proofs.Lists.{all_none}
use Rattle.page_directory.proofs.Lists.{all_taken, through_more}
use Rattle.sound_backend.proofs.Streams.{closed_all, length_kinds, stock_by}
use Rattle.sound_backend.proofs.store.Store.clear.Goals as goal

abbrev closed_of : Pcm → Pcm
closed_of s = closed s.kind

pub loop-stream-preserved : goal.loop-stream-preserved
loop-stream-preserved c =
    through_more closed_of c.args.self.now.streams.items c.loop-stream.stream-items c.loop-stream.stream-index c.new.result c.stream-item.result c.loop-stream.invariant (omega (arith, c.loop-stream-test.true))
    (c.new.ensures ∙ ap closed c.kind.ensures)

pub returns : goal.returns
returns c =
    let d = c.args.self.now in
    let ss = d.streams.items in
    let all = all_taken closed_of ss c.loop-stream.stream-items _ c.loop-stream.stream-index d.streams.len c.loop-stream.invariant (omega (arith, c.loop-stream-test.false)) (omega (arith, d.streams.ok.0)) in
    let long : length d.held ≡ length (kinds_in ss) = d.same ∙ sym (length_kinds ss) in
    stock_by c.take.ensures.none (c.clear.ensures ∙ (all_none d.held ∙ ap (λ n. replicate n []) long)) (all ∙ closed_all ss)
