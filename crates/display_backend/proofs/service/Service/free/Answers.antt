use Rattle.std.proofs.Common.{◌≡◌, ◌<◌, [], length, refl, ap, arith}
use Rattle.pv_words.specs.Plan.{Finished}
use Rattle.display_backend.specs.Course.{left_at}
use Rattle.display_backend.specs.Known.{known_of, left_of}
use Rattle.display_backend.specs.Service.{Freed, display}
use Rattle.display_backend.specs.Showing.{scene_of}
use Rattle.display_buffers.specs.Stock.{Stock, pages_under}
use Rattle.display_buffers.specs.Store.{stock_of}
use Rattle.page_directory.specs.declared.progress.Progress.TheVariants as progress
use Rattle.device_service.proofs.Holding.Held.{nil_of}
use Rattle.device_service.proofs.Mapping.Steps.{free_ends, free_goes, unmap_lies}
use Rattle.page_directory.proofs.Releases.{may_first}
use Rattle.display_backend.proofs.Serviced.{knowing, stock_freed, stock_less}
use Rattle.display_backend.proofs.service.Service.free.Goals as goal

pub unmap_of-requires-clause-may : goal.unmap_of-requires-clause-may
unmap_of-requires-clause-may g c =
    may_first (g.W.Words.may c.args.words.now) (pages_under c.args.cookie (stock_of c.args.self.now.store).buffers) (Finished Freed) c.requires.may

pub returns-then-held_of-gt0-clause-goes : goal.returns-then-held_of-gt0-clause-goes
returns-then-held_of-gt0-clause-goes g c = λ site.
    let d = c.args.self.now in
    let k = c.args.cookie in
    let s = stock_of d.store in
    let t = stock_of c.unmap_of.new.self in
    let more : 0 < length (pages_under k t.buffers) = omega (arith, c.if-held_of-gt0.true, c.held_of.ensures) in
    free_goes display Freed (known_of d) _ (left_of site d) (pages_under k s.buffers) (pages_under k t.buffers) c.unmap_of.result _ (ap (λ x. left_at site x s) c.requires.freeing) c.unmap_of.ensures.drops more
    (ap (λ (x : Stock). knowing x (scene_of d.scene) d.hand d.progress) (stock_less d.course k s t c.requires.freeing c.unmap_of.ensures.stock))
    (ap (λ x. left_at site x t) c.requires.freeing)

pub returns-then-held_of-gt0-clause-stays : goal.returns-then-held_of-gt0-clause-stays
returns-then-held_of-gt0-clause-stays g c =
    let k = c.args.cookie in
    let old = (stock_of c.args.self.now.store).buffers in
    let new = (stock_of c.unmap_of.new.self).buffers in
    unmap_lies (pages_under k old) (pages_under k new) c.unmap_of.result c.unmap_of.ensures.drops

pub returns-clause-goes : goal.returns-clause-goes
returns-clause-goes g c = λ site.
    let d = c.args.self.now in
    let k = c.args.cookie in
    let s = stock_of d.store in
    let t = stock_of c.unmap_of.new.self in
    let bare : pages_under k t.buffers ≡ [] = nil_of (pages_under k t.buffers) (omega (arith, c.if-held_of-gt0.false, c.held_of.ensures)) in
    free_ends display Freed (known_of d) _ (left_of site d) (pages_under k s.buffers) (pages_under k t.buffers) c.unmap_of.result _ refl (ap (λ x. left_at site x s) c.requires.freeing) c.unmap_of.ensures.drops bare
    (ap (λ (x : Stock). knowing x (scene_of d.scene) d.hand progress.Released) (stock_freed d.course k s t c.requires.freeing c.unmap_of.ensures.stock bare))

pub returns-clause-stays : goal.returns-clause-stays
returns-clause-stays g c =
    let k = c.args.cookie in
    let old = (stock_of c.args.self.now.store).buffers in
    let new = (stock_of c.unmap_of.new.self).buffers in
    unmap_lies (pages_under k old) (pages_under k new) c.unmap_of.result c.unmap_of.ensures.drops
