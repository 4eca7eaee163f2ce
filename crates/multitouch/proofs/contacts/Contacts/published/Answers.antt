use Rattle.std.proofs.Common.{sym, ap, ◌∙◌, subst, refl, map}
use Rattle.multitouch.specs.Known.{Known, group_of, published, settled}
use Rattle.multitouch.specs.Sound.{IsSound}
use Rattle.multitouch.proofs.Soundness.{chosen_accepted, let_go_of, sound_let_go}
use Rattle.multitouch.proofs.contacts.Contacts.published.Goals as goal

pub follow-requires : goal.follow-requires
follow-requires c =
    let inside = c.self.inside in
    let before : Known = record { real = inside.real; told = inside.told; queue = map group_of inside.queue.items; gap = inside.has_gap; under_way = inside.under_way } in
    chosen_accepted before c.in-Some.group c.self.invariant.1 (sym c.take.ensures.value ∙ c.in-Some.is)

pub invariant_of-self : goal.invariant_of-self
invariant_of-self c =
    let inside = c.self.inside in
    let before : Known = record { real = inside.real; told = inside.told; queue = map group_of inside.queue.items; gap = inside.has_gap; under_way = inside.under_way } in
    let chosen = sym c.take.ensures.value ∙ c.in-Some.is in
    let left = let_go_of before inside.queue.items c.pop_front.new.self.items c.follow.new.panel c.in-Some.group c.take.new.self refl (ap (λ q. q.items) c.pop_front.ensures.items) chosen c.follow.ensures c.take.ensures.after in (
      ap (λ q. q.capacity) c.pop_front.ensures.items ∙ c.self.invariant.0,
      subst (λ (k : Known). IsSound k) (sym left) (sound_let_go before c.in-Some.group c.self.invariant.1 chosen),
    )

pub returns : goal.returns
returns c =
    let inside = c.self.inside in
    let before : Known = record { real = inside.real; told = inside.told; queue = map group_of inside.queue.items; gap = inside.has_gap; under_way = inside.under_way } in
    let chosen = sym c.take.ensures.value ∙ c.in-Some.is in
    c.settle.ensures
    ∙ ap settled (let_go_of before inside.queue.items c.pop_front.new.self.items c.follow.new.panel c.in-Some.group c.take.new.self refl (ap (λ q. q.items) c.pop_front.ensures.items) chosen c.follow.ensures c.take.ensures.after)
    ∙ ap published c.self.view_is
