use Rattle.std.proofs.Common.{◌≡◌, ◌+◌, ◌/◌, false, Some, sym, ◌∙◌, ap, subst, arith}
use Rattle.pv_words.specs.declared.access.Access.TheVariants as access
use Rattle.pv_words.specs.declared.place.Place.{Place}
use Rattle.pv_words.specs.Plan.{Load, Takes, Turns}
use Rattle.pv_words.proofs.Plans.{may_from}
use Rattle.picture_scan.specs.Scan.{is_over, left_in, left_of, shape_of}
use Rattle.octet_window.specs.Pages.{word_place}
use Rattle.octet_window.proofs.Pages.{place_is}
use Rattle.picture_scan.proofs.Scans.{head_is}
use Rattle.picture_scan.proofs.scan.Scan.step.Goals as goal

pub get-page-requires : goal.get-page-requires
unfolding shape_of
get-page-requires g c = let w = c.args.self.now in omega (arith, w.inside, w.some, c.requires.lies.down)

pub load-word-requires : goal.load-word-requires
unfolding left_of is_over
load-word-requires g c =
    let w = c.args.self.now in
    let pages = g.P.PageList.holds c.args.pages.now in
    let going : w.over ≡ false = c.requires.going in
    let head = head_is w.shape pages w.key (w.row + 1) w.rows w.place w.more w.pixels w.some in
    let P : Place → Type 0 = λ at. g.W.Words.may c.args.words.now (Load at) in
    subst P (sym (place_is pages (w.place / 4) c.get-page.result c.get-page.ensures))
    (may_from (g.W.Words.may c.args.words.now) (left_of pages w) (Load (word_place pages (w.place / 4))) (Takes w.key (w.place / 4)) head.0 (ap (left_in w.shape pages w.key (w.row + 1) w.rows w.place w.more w.pixels) going ∙ head.1) c.requires.may)

pub returns-clause-turns : goal.returns-clause-turns
returns-clause-turns g c =
    let w = c.args.self.now in
    let pages = g.P.PageList.holds c.args.pages.now in
    let P : Place → Type 0 = λ at. Turns (left_of pages w) (Some (access.Load at c.load-word.result)) c.absorb.result (left_of pages c.absorb.new.self) in
    subst P (sym (place_is pages (w.place / 4) c.get-page.result c.get-page.ensures)) (c.absorb.ensures.turns pages)

pub returns-clause-stays : goal.returns-clause-stays
unfolding shape_of
returns-clause-stays g c =
    let w = c.args.self.now in
    let pages = g.P.PageList.holds c.args.pages.now in
    record {
      index = w.place / 4;
      word = c.load-word.result;
      inside = omega (arith, w.inside, w.some, c.requires.lies.down);
      is = ap (λ at. access.Load at c.load-word.result) (place_is pages (w.place / 4) c.get-page.result c.get-page.ensures);
    }
