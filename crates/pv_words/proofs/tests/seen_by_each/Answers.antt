use Rattle.std.proofs.Common.{ap, arith}
use Rattle.pv_words.specs.Layout.{frames_in, grants_in}
use Rattle.pv_words.proofs.tests.seen_by_each.Goals as goal

pub store-requires : goal.store-requires
store-requires c = (omega (arith, c.turn.ensures.frames 1, c.requires.frames), omega arith)

pub store-requires-2 : goal.store-requires-2
store-requires-2 c = omega (arith, ap (λ b. grants_in b 1) c.store.ensures.blocks, c.turn.ensures.grants 1, c.requires.grants)

pub load-stored-requires : goal.load-stored-requires
load-stored-requires c = (
  omega (arith, c.turn-2.ensures.frames 1, ap (λ b. frames_in b 1) c.store-2.ensures.blocks, ap (λ b. frames_in b 1) c.store.ensures.blocks, c.turn.ensures.frames 1, c.requires.frames),
  omega arith,
)

pub swap_if-kept-requires : goal.swap_if-kept-requires
swap_if-kept-requires c =
    omega (arith, ap (λ b. grants_in b 1) c.load-stored.ensures.blocks, c.turn-2.ensures.grants 1, ap (λ b. grants_in b 1) c.store-2.ensures.blocks, ap (λ b. grants_in b 1) c.store.ensures.blocks, c.turn.ensures.grants 1, c.requires.grants)

pub swap_if-swapped-requires : goal.swap_if-swapped-requires
swap_if-swapped-requires c =
    omega (arith, ap (λ b. grants_in b 1) c.swap_if-kept.ensures.blocks, ap (λ b. grants_in b 1) c.load-stored.ensures.blocks, c.turn-2.ensures.grants 1, ap (λ b. grants_in b 1) c.store-2.ensures.blocks, ap (λ b. grants_in b 1) c.store.ensures.blocks, c.turn.ensures.grants 1, c.requires.grants)

pub clear-cleared-requires : goal.clear-cleared-requires
clear-cleared-requires c =
    omega (arith, ap (λ b. grants_in b 1) c.swap_if-swapped.ensures.blocks, ap (λ b. grants_in b 1) c.swap_if-kept.ensures.blocks, ap (λ b. grants_in b 1) c.load-stored.ensures.blocks, c.turn-2.ensures.grants 1, ap (λ b. grants_in b 1) c.store-2.ensures.blocks, ap (λ b. grants_in b 1) c.store.ensures.blocks, c.turn.ensures.grants 1, c.requires.grants)

pub load-requires : goal.load-requires
load-requires c =
    omega (arith, ap (λ b. grants_in b 1) c.clear-cleared.ensures.blocks, ap (λ b. grants_in b 1) c.swap_if-swapped.ensures.blocks, ap (λ b. grants_in b 1) c.swap_if-kept.ensures.blocks, ap (λ b. grants_in b 1) c.load-stored.ensures.blocks, c.turn-2.ensures.grants 1, ap (λ b. grants_in b 1) c.store-2.ensures.blocks, ap (λ b. grants_in b 1) c.store.ensures.blocks, c.turn.ensures.grants 1, c.requires.grants)
