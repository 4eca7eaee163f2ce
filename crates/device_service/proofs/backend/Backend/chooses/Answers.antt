use Rattle.std.proofs.Common.{not, ◌&&◌, ap, sym, ◌∙◌}
use Rattle.device_core.specs.Order.{Rest}
use Rattle.device_service.specs.declared.backend.Activity.{Activity}
use Rattle.device_service.specs.Activity.{is_connected, is_open}
use Rattle.device_service.specs.Stand.{work_of}
use Rattle.device_service.specs.Work.{choice, with_owed}
use Rattle.device_service.proofs.Choices.{action_busy, apart_is, closing_is, connected_is, kept_is, none_in, order_busy, some_in}
use Rattle.device_service.proofs.Leaving.{known_between}
use Rattle.device_service.proofs.Raising.{owed_busy, owed_in, owed_is}
use Rattle.device_service.proofs.Serving.{joined_at}
use Rattle.device_service.proofs.backend.Backend.chooses.Goals as goal

pub returns-then-self : goal.returns-then-self
unfolding work_of
returns-then-self g c = λ site.
    let d = c.args.self.now in
    let s = g.S.Serve.service in
    let w = work_of d in
    order_busy s site (choice s site w) _ (closing_is s site w c.if-self.true)

pub returns-then-is_some : goal.returns-then-is_some
unfolding work_of
returns-then-is_some g c = λ site.
    let d = c.args.self.now in
    let s = g.S.Serve.service in
    let w = work_of d in
    let why = some_in d.kept (sym c.is_some.ensures ∙ c.if-is_some.true) in
    order_busy s site (choice s site w) _ (kept_is s site w why.0 c.if-self.false why.1)

pub is_busy-requires-clause-opened : goal.is_busy-requires-clause-opened
is_busy-requires-clause-opened g c =
    let d = c.args.self.now in
    ap (λ (a : Activity). is_open a d.closing d.connection.back) c.requires ∙ (ap (λ b. not b && is_connected d.connection.back) c.if-self.false ∙ ap is_connected (sym c.back.ensures ∙ c.in-Connected.is))

pub returns-in-Connected : goal.returns-in-Connected
unfolding work_of
returns-in-Connected g c = λ site.
    let d = c.args.self.now in
    let s = g.S.Serve.service in
    let w = work_of d in
    let none = none_in d.kept (sym c.is_some.ensures ∙ c.if-is_some.false) in
    c.is_busy.ensures site ∙ order_busy s site (choice s site w) _ (connected_is s site w c.if-self.false none (c.owed.ensures.none (none_in c.owed.result (sym c.is_some-2.ensures ∙ c.if-is_some-2.false)) site) (sym c.action.ensures ∙ c.in-Stay.is) (sym c.back.ensures ∙ c.in-Connected.is))

pub returns-in_default-back : goal.returns-in_default-back
unfolding work_of
returns-in_default-back g c = λ site.
    let d = c.args.self.now in
    let s = g.S.Serve.service in
    let w = work_of d in
    let none = none_in d.kept (sym c.is_some.ensures ∙ c.if-is_some.false) in
    order_busy s site (choice s site w) (Rest w) (apart_is s site w c.if-self.false none (c.owed.ensures.none (none_in c.owed.result (sym c.is_some-2.ensures ∙ c.if-is_some-2.false)) site) (sym c.action.ensures ∙ c.in-Stay.is) (λ e. c.in_default-back.not-Connected (c.back.ensures ∙ e)))

pub returns-in_default : goal.returns-in_default
unfolding work_of
returns-in_default g c = λ site.
    let d = c.args.self.now in
    let s = g.S.Serve.service in
    let w = work_of d in
    let none = none_in d.kept (sym c.is_some.ensures ∙ c.if-is_some.false) in
    action_busy s site w c.if-self.false none (c.owed.ensures.none (none_in c.owed.result (sym c.is_some-2.ensures ∙ c.if-is_some-2.false)) site) (λ e. c.in_default.not-Stay (c.action.ensures ∙ e))

pub returns-then-is_some-2 : goal.returns-then-is_some-2
unfolding work_of
returns-then-is_some-2 g c = λ site.
    let d = c.args.self.now in
    let s = g.S.Serve.service in
    let w = work_of d in
    let x = g.S.Serve.knows d.service in
    let none = none_in d.kept (sym c.is_some.ensures ∙ c.if-is_some.false) in
    let part = some_in c.owed.result (sym c.is_some-2.ensures ∙ c.if-is_some-2.true) in
    let owed = c.owed.ensures.some part.0 part.1 in
    let y = owed_in (s.owes x) part.0 owed.part_is in
    let j = joined_at d.parts part.0 owed.connected owed.there in
    owed_busy s site w (s.owes x) y.0 part.0 j.0 y.1 y.2 j.1
    ∙ order_busy s site (choice s site w) (with_owed s site w (s.owes x)) (owed_is s site w x c.if-self.false none (known_between s.stripped d.activity x c.requires))
