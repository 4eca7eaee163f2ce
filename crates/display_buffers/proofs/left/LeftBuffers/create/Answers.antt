use Rattle.std.proofs.Common.{◌≡◌, arith, sym, ap, ◌∙◌, length}
use Rattle.display_buffers.specs.Buffers.{cookies, with_buffer}
use Rattle.display_buffers.proofs.Checks.{check_by, leaves_room}
use Rattle.page_directory.specs.Release.{left_of}
use Rattle.display_buffers.specs.Left.{left_in}
use Rattle.display_buffers.proofs.Lefts.{cookies_left, count_left, created_left}
use Rattle.display_buffers.proofs.left.LeftBuffers.create.Goals as goal

pub create-requires-clause-checked : goal.create-requires-clause-checked
create-requires-clause-checked c =
    let bs = c.self.inside.buffers in
    let same = sym (cookies_left bs c.self.inside.releases.items) ∙ ap cookies c.self.view_is in
    check_by bs c.args.self.now same c.args.c.now ∙ c.requires.checked

pub push_reserved-requires : goal.push_reserved-requires
push_reserved-requires c =
    let room = leaves_room c.args.self.now c.args.c.now c.requires.checked in
    let count = count_left c.self.inside.buffers c.args.self.now c.self.inside.releases.items c.self.view_is in
    omega (arith, room, count, c.self.invariant.0, c.self.invariant.1)

pub returns : goal.returns
returns c =
    let bs = c.self.inside.buffers in
    let rs = c.self.inside.releases.items in
    let long : length rs ≡ length bs = omega (arith, c.self.invariant.0, c.self.inside.releases.ok.0) in
    ap (λ cs. left_in cs c.push_reserved.new.self.items) c.create.ensures
    ∙ ap (left_in (with_buffer bs c.args.c.now c.args.pages)) c.push_reserved.ensures.items
    ∙ created_left bs rs c.args.c.now c.args.pages c.args.release long
    ∙ ap (λ cs. with_buffer cs c.args.c.now (left_of c.args.release c.args.pages)) c.self.view_is
