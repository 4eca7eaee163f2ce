use Rattle.std.proofs.Common.{◌≡◌, inl, inr, length-append, ◌+◌, true, ◌∷◌, [], length, slice_get, refl, sym, ap, subst, ◌∙◌, arith}
use Rattle.link_core.specs.declared.link.Link.{Link}
use Rattle.link_core.specs.Link.{dom_of as link_dom, held_of as link_held, idle}
use Rattle.device_service.specs.Parts.{count_of, doing_of, dom_of, held_of, kind_of}
use Rattle.device_service.proofs.Holding.Held.{bare_held}
use Rattle.device_service.proofs.Lists.{get_push}
use Rattle.device_service.proofs.Wholes.{whole_bare}
use Rattle.device_service.proofs.parts.Parts.new.Goals as goal

pub loop-part-preserved : goal.loop-part-preserved
loop-part-preserved c =
    let items = c.in_ok-push.ensures.items in
    let made = c.new.ensures in
    let before = c.loop-part.invariant in (
      ap length items ∙ (length-append c.loop-part.links.items (c.new.result ∷ []) ∙ ap (λ n. n + 1) before.0),
      λ i b e.
          elim (get_push c.loop-part.links.items i c.new.result b (ap (λ xs. slice_get xs i) (sym items) ∙ e)) [
            | inl old ↦ before.1 i b old
            | inr is ↦ subst (λ (x : Link). (link_dom x ≡ c.args.dom.0) × (length (link_held x) ≡ 0) × (idle x ≡ true)) is (made.dom, ap length made.bare, made.idle)
          ],
    )

pub invariant_of-result : goal.invariant_of-result
invariant_of-result c =
    let before = c.loop-part.invariant in
    record { whole = whole_bare c.args.dom.0 c.args.ringed c.loop-part.links.items c.args.parts (before.0 ∙ omega arith) c.requires.some c.requires.few before.1 }

pub returns-clause-dom : goal.returns-clause-dom
unfolding dom_of
returns-clause-dom c = refl

pub returns-clause-count : goal.returns-clause-count
unfolding count_of
returns-clause-count c = c.loop-part.invariant.0 ∙ omega arith

pub returns-clause-kind : goal.returns-clause-kind
unfolding kind_of
returns-clause-kind c = refl

pub returns-clause-bare : goal.returns-clause-bare
unfolding doing_of
returns-clause-bare c = refl

pub returns-clause-held : goal.returns-clause-held
unfolding held_of
returns-clause-held c = bare_held _ (λ i l e. (c.loop-part.invariant.1 i l e).1)
