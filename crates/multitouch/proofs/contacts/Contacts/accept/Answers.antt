use Rattle.std.proofs.Common.{◌≡◌, sym, ap, ◌∙◌, subst, refl, map, not, None}
use Rattle.multitouch.specs.Known.{Known, accepted, group_of, settled}
use Rattle.multitouch.specs.Pressed.{after_event, refusal_of}
use Rattle.multitouch.specs.Sound.{IsSound}
use Rattle.multitouch.proofs.Soundness.{joined_items, sound_joined}
use Rattle.multitouch.proofs.contacts.Contacts.accept.Goals as goal

pub invariant_of-self : goal.invariant_of-self
invariant_of-self c =
    let inside = c.self.inside in
    let before : Known = record { real = inside.real; told = inside.told; queue = map group_of inside.queue.items; gap = inside.has_gap; under_way = inside.under_way } in
    let next : Known = record before { real = after_event inside.real c.args.event } in
    let fits : refusal_of inside.real c.args.event ≡ None = ap (λ (k : Known). refusal_of k.real c.args.event) c.self.view_is ∙ c.requires in
    let has_joined = joined_items next inside.queue.items c.join.new.queue.items c.args.event c.join.result refl c.join.ensures.joins c.join.ensures.queue in (
      c.join.ensures.room,
      subst (λ real. IsSound (record { real = real; told = inside.told; queue = map group_of c.join.new.queue.items; gap = not c.join.result; under_way = inside.under_way })) (sym c.apply.ensures)
          (subst (λ (k : Known). IsSound k) (sym has_joined) (sound_joined before c.args.event c.self.invariant.1 fits)),
    )

pub returns : goal.returns
returns c =
    let inside = c.self.inside in
    let next : Known = record { real = after_event inside.real c.args.event; told = inside.told; queue = map group_of inside.queue.items; gap = inside.has_gap; under_way = inside.under_way } in
    c.settle.ensures
    ∙ ap (λ real. settled (record { real = real; told = inside.told; queue = map group_of c.join.new.queue.items; gap = not c.join.result; under_way = inside.under_way })) c.apply.ensures
    ∙ ap settled (joined_items next inside.queue.items c.join.new.queue.items c.args.event c.join.result refl c.join.ensures.joins c.join.ensures.queue)
    ∙ ap (λ k. accepted k c.args.event) c.self.view_is
