use Rattle.std.proofs.Common.{refl, sym, ap, ◌∙◌}
use Rattle.std.proofs.lemmas.Bool.{false≢true}
use Rattle.xenbus_states.specs.Connection.{Connection}
use Rattle.xenbus_states.specs.Nodes.{no_nodes}
use Rattle.device_service.specs.Activity.{is_connected, resting}
use Rattle.device_core.specs.Order.{Between}
use Rattle.device_service.specs.Parts.{held_of as parts_held, joined_of}
use Rattle.device_service.specs.Stand.{dom_of, held_of, parts_of, stand_of, work_of}
use Rattle.device_service.proofs.Leaving.{bare_joins, new_work, no_hand, none_held, none_in_hand, none_wait, within_first}
use Rattle.device_service.proofs.backend.Backend.new.Goals as goal

pub invariant_of-result : goal.invariant_of-result
invariant_of-result g c =
    let p = c.in_ok-parts in
    let bare = ap g.S.Serve.service.pages (sym c.requires.fresh) ∙ g.S.Serve.begins_bare (g.S.Serve.knows c.args.service) no_nodes in
    record {
      dom_is = p.ensures.dom;
      kind_is = p.ensures.kind ∙ c.is_ringed.ensures;
      stands = p.ensures.bare ∙ sym (ap (λ (k : Connection). resting (is_connected k.back)) c.new-3.ensures);
      raises = refl;
      at_in = within_first _ _ p.ensures.count c.requires.some;
      round_in = within_first _ _ p.ensures.count c.requires.some;
      hand_in = λ h e. none_in_hand h e;
      rung = λ e. no_hand e;
      waits = none_wait g.S.Serve.service.at _ _ c.in_ok-waiting.ensures;
      of_domain = λ e. absurd (false≢true e);
      works = c.requires.idle;
      bare = λ e. bare;
      ready = λ e. absurd (false≢true e);
    }

pub returns-clause-between : goal.returns-clause-between
unfolding stand_of work_of
returns-clause-between g c = λ site.
    let p = c.in_ok-parts in
    ap (λ w. Between w) (new_work c.new-3.result c.new-4.result c.new-5.result (joined_of p.parts) c.in_ok-waiting.waiting (g.S.Serve.knows c.args.service) c.new-3.ensures c.new-4.ensures c.new-5.ensures (bare_joins p.parts p.ensures.bare) c.in_ok-waiting.ensures)

pub returns-clause-dom : goal.returns-clause-dom
unfolding dom_of
returns-clause-dom g c = refl

pub returns-clause-parts : goal.returns-clause-parts
unfolding parts_of
returns-clause-parts g c = c.in_ok-parts.ensures.count

pub returns-clause-held : goal.returns-clause-held
unfolding held_of
returns-clause-held g c =
    let x = c.args.service in
    let bare = ap g.S.Serve.service.pages (sym c.requires.fresh) ∙ g.S.Serve.begins_bare (g.S.Serve.knows c.args.service) no_nodes in
    none_held (g.S.Serve.holds x) (parts_held c.in_ok-parts.parts) (g.S.Serve.holds_pages x c.requires.idle ∙ bare) c.in_ok-parts.ensures.held
