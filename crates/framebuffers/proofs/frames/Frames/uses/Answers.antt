use Rattle.std.proofs.Common.{◌+◌, ◌||◌, drop, sym, ap, ◌∙◌, eq-eqb}
use Rattle.std.proofs.lemmas.Bool.{ne_eqb}
use Rattle.framebuffers.specs.Frames.{is_used}
use Rattle.framebuffers.proofs.Used.{used_more}
use Rattle.framebuffers.proofs.frames.Frames.uses.Goals as goal

pub returns-then-nth-cookie : goal.returns-then-nth-cookie
returns-then-nth-cookie c =
    let fs = c.self.inside.table in
    let more = used_more c.args.cookie fs c.loop-k.k c.nth.result.now c.nth.ensures in
    let here = ap (λ t. t || is_used c.args.cookie (drop (c.loop-k.k + 1) fs)) (eq-eqb _ _ c.if-nth-cookie.true) in
    sym here ∙ sym more ∙ c.loop-k.invariant ∙ ap (is_used c.args.cookie) c.self.view_is

pub loop-k-preserved : goal.loop-k-preserved
loop-k-preserved c =
    let fs = c.self.inside.table in
    let more = used_more c.args.cookie fs c.loop-k.k c.nth.result.now c.nth.ensures in
    let here = ap (λ t. t || is_used c.args.cookie (drop (c.loop-k.k + 1) fs)) (ne_eqb _ _ c.if-nth-cookie.false) in
    sym here ∙ sym more ∙ c.loop-k.invariant
