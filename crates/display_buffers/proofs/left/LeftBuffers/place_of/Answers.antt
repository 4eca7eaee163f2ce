use Rattle.std.proofs.Common.{◌≡◌, arith, true, false, subst}
use Rattle.std.proofs.lemmas.Bool.{eq-eqb, ne_eqb}
use Rattle.std.proofs.lemmas.List.{take_all}
use Rattle.std.specs.List.{AllByRecursion}
use Rattle.display_buffers.specs.Buffers.{has_cookie}
use Rattle.display_buffers.proofs.Lefts.{cookie_left, count_left}
use Rattle.display_buffers.proofs.Places.{first_passes, none_more}
use Rattle.display_buffers.proofs.left.LeftBuffers.place_of.Goals as goal

pub cookie_at-requires : goal.cookie_at-requires
cookie_at-requires c =
    omega (arith, c.count-k-end.ensures.count, count_left c.self.inside.buffers c.args.self.now c.self.inside.releases.items c.self.view_is)

pub returns-then-cookie_at-cookie-clause-place : goal.returns-then-cookie_at-cookie-clause-place
returns-then-cookie_at-cookie-clause-place c =
    let test = eq-eqb c.cookie_at.result c.args.cookie c.if-cookie_at-cookie.true in
    let here = cookie_left c.self.inside.buffers c.args.self.now c.self.inside.releases.items c.self.view_is c.loop-k.k c.args.cookie c.cookie_at.result true c.cookie_at.ensures test in
    first_passes (has_cookie c.args.cookie) c.args.self.now c.loop-k.k c.loop-k.invariant here

pub loop-k-preserved : goal.loop-k-preserved
loop-k-preserved c =
    let test = ne_eqb c.cookie_at.result c.args.cookie c.if-cookie_at-cookie.false in
    let here = cookie_left c.self.inside.buffers c.args.self.now c.self.inside.releases.items c.self.view_is c.loop-k.k c.args.cookie c.cookie_at.result false c.cookie_at.ensures test in
    none_more (has_cookie c.args.cookie) c.args.self.now c.loop-k.k c.loop-k.invariant here

pub returns-clause-place : goal.returns-clause-place
returns-clause-place c =
    let bs = c.args.self.now in
    let all = take_all c.loop-k.k bs (omega arith) in
    subst (AllByRecursion (λ b. has_cookie c.args.cookie b ≡ false)) all c.loop-k.invariant
