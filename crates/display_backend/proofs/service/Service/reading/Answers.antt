use Rattle.std.proofs.Common.{◌≡◌, ◌*◌, true, Option, sym, ap, ◌∙◌, subst, length, List, refl}
use Rattle.pv_words.specs.declared.grant.Hold.{Hold}
use Rattle.picture_scan.specs.declared.shape.Shape.{Shape}
use Rattle.picture_scan.specs.Rectangle.{IsWithin}
use Rattle.display_buffers.specs.Buffers.{has_cookie}
use Rattle.display_backend.specs.declared.picture.Reading.{Reading}
use Rattle.display_backend.specs.Course.{stock_at}
use Rattle.display_buffers.specs.Left.{pages_at}
use Rattle.display_backend.specs.Over.{ReadsFor}
use Rattle.display_backend.specs.Picture.{is_within, source_at}
use Rattle.display_backend.specs.Service.{show_of}
use Rattle.display_backend.specs.Showing.{scene_of}
use Rattle.display_buffers.specs.Store.{stock_of}
use Rattle.display_backend.proofs.Loads.{read_by, tested, told_by, told_without}
use Rattle.display_backend.proofs.Pictures.{within_by}
use Rattle.display_buffers.proofs.Places.{first_within, under_none, under_place}
use Rattle.display_backend.proofs.service.Service.reading.Goals as goal

pub returns-in_err-place : goal.returns-in_err-place
returns-in_err-place c =
    let d = c.args.self.now in
    let part = c.args.part in
    let st = stock_of d.store in
    let sc = scene_of d.scene in
    let s = c.in_ok-source.source in
    subst (λ (o : Option Reading). ReadsFor d part o) (sym c.from_residual-in_err-place.ensures)
    (ap (λ k. show_of part (stock_at k st).buffers (source_at (stock_at k st).buffers sc part)) c.requires.idle
    ∙ told_without part st.buffers (source_at st.buffers sc part) s (sym c.in_ok-source.ensures) (under_none s.dbuf st.buffers c.in_err-place.ensures))

pub held_at-requires : goal.held_at-requires
held_at-requires c =
    first_within (has_cookie c.in_ok-source.source.dbuf) (stock_of c.args.self.now.store).buffers c.in_ok-place.place c.in_ok-place.ensures

pub returns-then-not-is_within : goal.returns-then-not-is_within
returns-then-not-is_within c =
    let d = c.args.self.now in
    let part = c.args.part in
    let st = stock_of d.store in
    let sc = scene_of d.scene in
    let s = c.in_ok-source.source in
    let here = under_place s.dbuf st.buffers c.in_ok-place.place c.in_ok-place.ensures in
    ap (λ k. show_of part (stock_at k st).buffers (source_at (stock_at k st).buffers sc part)) c.requires.idle
    ∙ told_by part st.buffers (source_at st.buffers sc part) s (sym c.in_ok-source.ensures)
    (ap (λ (ps : List Hold). is_within (4096 * length ps) s.shape) here
    ∙ ap (λ n. is_within (4096 * n) s.shape) (sym c.held_at.ensures.count)
    ∙ tested c.is_within.result (4096 * c.held_at.result) s.shape c.is_within.ensures
    ∙ c.if-not-is_within.true)

pub returns : goal.returns
returns c =
    let d = c.args.self.now in
    let part = c.args.part in
    let st = stock_of d.store in
    let sc = scene_of d.scene in
    let s = c.in_ok-source.source in
    let k = c.in_ok-place.place in
    let here = under_place s.dbuf st.buffers k c.in_ok-place.ensures in
    let inside : is_within (4096 * length (pages_at st.buffers k)) s.shape ≡ true =
    ap (λ n. is_within (4096 * n) s.shape) (sym c.held_at.ensures.count)
    ∙ tested c.is_within.result (4096 * c.held_at.result) s.shape c.is_within.ensures
    ∙ c.if-not-is_within.false in
    let r : Reading = record { part = part; place = k; scan = c.new.result } in
    let lies : IsWithin (4096 * length (pages_at st.buffers k)) s.shape = within_by (4096 * length (pages_at st.buffers k)) s.shape inside in (
      ap (λ x. show_of part (stock_at x st).buffers (source_at (stock_at x st).buffers sc part)) c.requires.idle
          ∙ read_by part st.buffers (source_at st.buffers sc part) s (sym c.in_ok-source.ensures) r k refl refl here inside (c.new.ensures.begins (pages_at st.buffers k)),
      record {
        going = c.new.ensures.going;
        lies = subst (λ (x : Shape). IsWithin (4096 * length (pages_at st.buffers k)) x) (sym c.new.ensures.shape) lies;
      },
    )
