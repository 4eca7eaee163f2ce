use Rattle.std.proofs.Common.{◌≡◌, ◌<◌, [], length, refl, ap, arith}
use Rattle.pv_words.specs.Plan.{Finished}
use Rattle.page_directory.proofs.Releases.{may_first}
use Rattle.device_service.proofs.Holding.Held.{nil_of}
use Rattle.device_service.proofs.Mapping.Steps.{free_ends, free_goes, unmap_lies}
use Rattle.page_directory.specs.declared.progress.Progress.TheVariants as progress
use Rattle.sound_backend.specs.Course.{left_at}
use Rattle.sound_backend.specs.Held.{list_at}
use Rattle.sound_backend.specs.Known.{known_of, left_of}
use Rattle.sound_backend.specs.Service.{Freed, sound}
use Rattle.sound_backend.specs.Stock.{Stock}
use Rattle.sound_backend.specs.Store.{stock_of}
use Rattle.sound_backend.proofs.Serviced.{knowing, stock_freed, stock_less}
use Rattle.sound_backend.proofs.service.Service.free.Goals as goal

pub unmap_of-requires-clause-may : goal.unmap_of-requires-clause-may
unmap_of-requires-clause-may g c =
    may_first (g.W.Words.may c.args.words.now) (list_at (stock_of c.args.self.now.store).held c.args.part) (Finished Freed) c.requires.may

pub returns-then-held_of-gt0-clause-goes : goal.returns-then-held_of-gt0-clause-goes
returns-then-held_of-gt0-clause-goes g c = λ site.
    let d = c.args.self.now in
    let k = c.args.part in
    let s = stock_of d.store in
    let t = stock_of c.unmap_of.new.self in
    let more : 0 < length (list_at t.held k) = omega (arith, c.if-held_of-gt0.true, c.held_of.ensures) in
    free_goes sound Freed (known_of d) _ (left_of site d) (list_at s.held k) (list_at t.held k) c.unmap_of.result _ (ap (λ x. left_at site x s) c.requires.freeing) c.unmap_of.ensures.drops more
    (ap (λ (x : Stock). knowing x d.hand d.progress) (stock_less d.course k s t c.requires.freeing c.unmap_of.ensures.stock))
    (ap (λ x. left_at site x t) c.requires.freeing)

pub returns-then-held_of-gt0-clause-stays : goal.returns-then-held_of-gt0-clause-stays
returns-then-held_of-gt0-clause-stays g c =
    let k = c.args.part in
    unmap_lies (list_at (stock_of c.args.self.now.store).held k) (list_at (stock_of c.unmap_of.new.self).held k) c.unmap_of.result c.unmap_of.ensures.drops

pub returns-clause-goes : goal.returns-clause-goes
returns-clause-goes g c = λ site.
    let d = c.args.self.now in
    let k = c.args.part in
    let s = stock_of d.store in
    let t = stock_of c.unmap_of.new.self in
    let bare : list_at t.held k ≡ [] = nil_of (list_at t.held k) (omega (arith, c.if-held_of-gt0.false, c.held_of.ensures)) in
    free_ends sound Freed (known_of d) _ (left_of site d) (list_at s.held k) (list_at t.held k) c.unmap_of.result _ refl (ap (λ x. left_at site x s) c.requires.freeing) c.unmap_of.ensures.drops bare
    (ap (λ (x : Stock). knowing x d.hand progress.Released) (stock_freed d.course k s t c.requires.freeing c.unmap_of.ensures.stock bare))

pub returns-clause-stays : goal.returns-clause-stays
returns-clause-stays g c =
    let k = c.args.part in
    unmap_lies (list_at (stock_of c.args.self.now.store).held k) (list_at (stock_of c.unmap_of.new.self).held k) c.unmap_of.result c.unmap_of.ensures.drops
