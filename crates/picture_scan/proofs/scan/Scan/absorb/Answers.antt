use Rattle.std.proofs.Common.{◌≡◌, ◌+◌, ◌-◌, ◌/◌, false, Bool, Some, None, sym, subst}
use Rattle.pv_words.specs.declared.access.Access.TheVariants as access
use Rattle.pv_words.specs.Plan.{Turns}
use Rattle.picture_scan.specs.Scan.{is_over, left_in, left_of}
use Rattle.octet_window.specs.Pages.{word_place}
use Rattle.picture_scan.proofs.Scans.{turns_more, turns_last}
use Rattle.picture_scan.proofs.scan.Scan.absorb.Goals as goal

pub returns-then-count-self-clause-turns : goal.returns-then-count-self-clause-turns
unfolding left_of is_over
returns-then-count-self-clause-turns c =
    let w = c.args.self.now in
    let going : w.over ≡ false = c.requires in
    λ pages. let P : Bool → Type 0 = λ o. Turns (left_in w.shape pages w.key (w.row + 1) w.rows w.place w.more w.pixels o) (Some (access.Load (word_place pages (w.place / 4)) c.args.word)) None (left_in w.shape pages w.key (w.row + 1) w.rows (w.place + c.min-count.result) (w.more - c.min-count.result) c.absorb-self.result o) in
    subst P (sym going) (turns_more w.shape pages w.key (w.row + 1) w.rows w.place c.min-count.result w.more c.args.word w.pixels c.absorb-self.result c.min-count.ensures c.if-count-self.true c.absorb-self.ensures)

pub returns-clause-turns : goal.returns-clause-turns
unfolding left_of is_over
returns-clause-turns c =
    let w = c.args.self.now in
    let going : w.over ≡ false = c.requires in
    λ pages. let P : Bool → Type 0 = λ o. Turns (left_in w.shape pages w.key (w.row + 1) w.rows w.place w.more w.pixels o) (Some (access.Load (word_place pages (w.place / 4)) c.args.word)) c.end_row.result (left_of pages c.end_row.new.self) in
    subst P (sym going) (turns_last w.shape pages w.key (w.row + 1) w.rows w.place c.min-count.result w.more c.args.word w.pixels c.absorb-self.result c.end_row.result (left_of pages c.end_row.new.self) w.some c.min-count.ensures c.if-count-self.false c.absorb-self.ensures (c.end_row.ensures.ends pages))
