use Rattle.std.proofs.Common.{◌≡◌, arith, sym, ap, subst, ◌∙◌, length}
use Rattle.display_buffers.specs.Buffers.{AreDistinct, cookies, has_cookie, without_buffer}
use Rattle.display_buffers.specs.Left.{left_in, IsFirst}
use Rattle.display_buffers.proofs.Lefts.{cookies_left, count_left, destroyed_left, first_left, length_without}
use Rattle.display_buffers.proofs.Places.{first_within, without_none}
use Rattle.display_buffers.proofs.left.LeftBuffers.destroy.Goals as goal

pub returns-in_default : goal.returns-in_default
returns-in_default c = without_none c.args.cookie c.args.self.now (c.in_default.ensures.place)

pub remove-requires : goal.remove-requires
remove-requires c =
    let within = first_within (has_cookie c.args.cookie) c.args.self.now c.in-Some.at c.in-Some.ensures.place in
    let count = count_left c.self.inside.buffers c.args.self.now c.self.inside.releases.items c.self.view_is in
    omega (arith, within, count, c.self.invariant.0)

pub invariant_of-self : goal.invariant_of-self
invariant_of-self c =
    let bs = c.self.inside.buffers in
    let rs = c.self.inside.releases.items in
    let distinct = subst AreDistinct (ap cookies (sym c.self.view_is) ∙ cookies_left bs rs) c.in-Some.ensures.distinct in
    let first : IsFirst (has_cookie c.args.cookie) (left_in bs rs) c.in-Some.at =
    subst (λ cs. IsFirst (has_cookie c.args.cookie) cs c.in-Some.at) (sym c.self.view_is) c.in-Some.ensures.place in
    let one = length_without c.args.cookie bs c.in-Some.at (first_left c.args.cookie bs rs c.in-Some.at first) distinct in (
      omega (arith, one, ap length c.destroy.ensures.rest, c.remove.ensures.len, c.self.invariant.0),
      omega (arith, c.remove.ensures.capacity, c.self.invariant.1),
    )

pub returns : goal.returns
returns c =
    let bs = c.self.inside.buffers in
    let rs = c.self.inside.releases.items in
    let long : length rs ≡ length bs = omega (arith, c.self.invariant.0, c.self.inside.releases.ok.0) in
    let distinct = subst AreDistinct (ap cookies (sym c.self.view_is) ∙ cookies_left bs rs) c.in-Some.ensures.distinct in
    let first : IsFirst (has_cookie c.args.cookie) (left_in bs rs) c.in-Some.at =
    subst (λ cs. IsFirst (has_cookie c.args.cookie) cs c.in-Some.at) (sym c.self.view_is) c.in-Some.ensures.place in
    ap (λ cs. left_in cs c.remove.new.self.items) c.destroy.ensures.rest
    ∙ ap (left_in (without_buffer c.args.cookie bs)) c.remove.ensures.items
    ∙ destroyed_left c.args.cookie bs rs c.in-Some.at (first_left c.args.cookie bs rs c.in-Some.at first) distinct long
    ∙ ap (without_buffer c.args.cookie) c.self.view_is
