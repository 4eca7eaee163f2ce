use Rattle.std.proofs.Common.{arith, sym, ap, subst, ◌∙◌, ◌≡◌, ◌<◌, Some, Option, IsSomeAnd}
use Rattle.cookie_table.proofs.Rows.{find_all}
use Rattle.display_buffers.specs.declared.live.Live.{Live}
use Rattle.display_buffers.specs.Buffers.{buffer_of, has_cookie}
use Rattle.display_buffers.specs.Pixels.{IsWhole}
use Rattle.display_buffers.proofs.buffers.Buffers.pixel_place.Goals as goal

pub place_of-requires : goal.place_of-requires
place_of-requires g c =
    let bs = c.self.inside.table in
    let b = c.in-Some.live.now in
    let there : buffer_of c.args.cookie bs ≡ Some b = sym {b = buffer_of c.args.cookie bs} c.in-Some.ensures in
    let has = find_all (IsWhole g.P.PageList.holds) (has_cookie c.args.cookie) bs b there c.self.invariant in
    let Q : Option (Live g.row.P.Denot) → Type 0 = λ o. IsSomeAnd o (λ x. c.args.octet < x.buffer.buffer_sz) in
    let inside : c.args.octet < b.buffer.buffer_sz = subst Q (ap (buffer_of c.args.cookie) (sym c.self.view_is) ∙ there) c.requires in
    omega (arith, has.1, inside)
