use Rattle.std.proofs.Common.{◌≡◌, ℕ, false, sym, ap, ◌∙◌, arith, cond, Some, None, Bool, nat_lt}
use Rattle.std.proofs.lemmas.Bool.{lt-ltb, le-ltb}
use Rattle.std.specs.FinMap as map
use Rattle.pv_words.specs.declared.device.HostRefusal.TheVariants.{KeyIsDown, TooManyKeys}
use Rattle.multitouch.specs.Pressed.{Pressed, is_key_down, press_refusal}
use Rattle.multitouch.proofs.Codes.{len-keys_of}
use Rattle.multitouch.proofs.panel.Panel.press_refusal.Goals as goal

-- the answer for a key that isn't down, by whether there is room for one more
answered : (p : Pressed) (code : ℕ) (room : Bool) → false ≡ is_key_down p code → nat_lt (map.len p.keys) 16 ≡ room → cond room None (Some (TooManyKeys code)) ≡ press_refusal p code
answered p code room up is_room =
    ap (λ b. cond b (Some (KeyIsDown code)) (cond room None (Some (TooManyKeys code)))) up
    ∙ ap (λ b. cond (is_key_down p code) (Some (KeyIsDown code)) (cond b None (Some (TooManyKeys code)))) (sym is_room)

pub returns-then-len-ge-KEY_LIMIT : goal.returns-then-len-ge-KEY_LIMIT
returns-then-len-ge-KEY_LIMIT c =
    let count = len-keys_of c.self.inside.codes.items c.self.invariant.0 in
    let now = ap (λ (p : Pressed). map.len p.keys) c.self.view_is in
    answered c.args.self.now c.args.code _ c.if-is_key_down.ensures (le-ltb _ _ (omega (arith, count, now, c.len.ensures.value)))

pub returns : goal.returns
returns c =
    let count = len-keys_of c.self.inside.codes.items c.self.invariant.0 in
    let now = ap (λ (p : Pressed). map.len p.keys) c.self.view_is in
    answered c.args.self.now c.args.code _ c.if-is_key_down.ensures (lt-ltb _ _ (omega (arith, count, now, c.len.ensures.value)))
