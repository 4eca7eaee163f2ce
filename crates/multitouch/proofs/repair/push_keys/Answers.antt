use Rattle.std.proofs.Common.{List, ℕ, ◌++◌, not, sym, ap, ◌∙◌, map, take_all}
use Rattle.std.specs.List.{filter}
use Rattle.kbd_wire.specs.declared.Event.TheVariants.{Key}
use Rattle.multitouch.specs.Pressed.{is_key_down}
use Rattle.multitouch.proofs.Keys.{keys-retain_keys}
use Rattle.multitouch.proofs.repair.push_keys.Goals as goal

pub returns-clause-keys : goal.returns-clause-keys
returns-clause-keys c =
    let said = λ (codes : List ℕ). c.args.group.now ++ map (Key c.args.is_pressed) codes in
    let up = λ (code : ℕ). not (is_key_down c.args.those.now code) in
    c.loop-code.invariant.said
    ∙ ap (λ codes. said (filter up codes)) (take_all c.loop-code.code-index c.codes-code-items.result.now c.loop-code-test.false ∙ c.codes-code-items.ensures.codes)
    ∙ ap said (sym (keys-retain_keys c.args.these.now.keys up))
