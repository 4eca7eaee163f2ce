use Rattle.std.proofs.Common.{List, [], ◌∷◌, ◌++◌, ap, ◌∙◌, arith, length, replicate}
use Rattle.std.proofs.lemmas.List.{length-replicate, replicate-append-replicate}
use Rattle.pv_words.specs.declared.grant.Hold.{Hold}
use Rattle.sound_backend.proofs.held.PageLists.new.Goals as goal

abbrev no_page : List Hold
no_page = []

pub loop-k-preserved : goal.loop-k-preserved
loop-k-preserved c =
    c.in_ok-push.ensures.items
    ∙ ap (λ (xs : List (List Hold)). xs ++ c.none.result ∷ []) c.loop-k.invariant
    ∙ ap (λ (hs : List Hold). replicate c.loop-k.k no_page ++ hs ∷ []) c.none.ensures
    ∙ replicate-append-replicate c.loop-k.k 1 no_page

pub invariant_of-result : goal.invariant_of-result
invariant_of-result c =
    omega (arith, ap length c.loop-k.invariant, length-replicate {A = List Hold} c.loop-k.k no_page, c.requires)
