-- The search for a framebuffer of a display buffer.
use Rattle.std.proofs.Common.{◌≡◌, ℕ, ◌+◌, Bool, true, false, cond, ◌==◌, ◌||◌, List, [], ◌∷◌, drop, slice_get, Some, sym, ap, ◌∙◌, eq-eqb}
use Rattle.std.proofs.lemmas.List.{at_drop_more}
use Rattle.std.proofs.lemmas.Bool.{or_parts}
use Rattle.std.proofs.lemmas.Option.{get_or_from_slice_get, slice_get_within}
use Rattle.displ_wire.specs.declared.framebuffer.Framebuffer.{Framebuffer}
use Rattle.framebuffers.specs.Frames.{cookie_of, frame_of, is_used}
use Rattle.cookie_table.specs.Cookies.{has_cookie}

pub used_more : (dbuf : ℕ) (fs : List Framebuffer) (k : ℕ) (f : Framebuffer) → slice_get fs k ≡ Some f → is_used dbuf (drop k fs) ≡ (f.dbuf == dbuf) || is_used dbuf (drop (k + 1) fs)
used_more dbuf fs k f there =
    at_drop_more (is_used dbuf) fs k f (slice_get_within fs k f there)
    ∙ ap (λ (g : Framebuffer). (g.dbuf == dbuf) || is_used dbuf (drop (k + 1) fs)) (get_or_from_slice_get fs k f f there)

-- no framebuffer that is found is of a display buffer that isn't used
pub unused_none : (fs : List Framebuffer) (dbuf cookie : ℕ) (f : Framebuffer) → is_used dbuf fs ≡ false → frame_of cookie fs ≡ Some f → f.dbuf ≡ dbuf → ⊥
unused_none [] dbuf cookie f unused found same = cc
unused_none (g ∷ fs) dbuf cookie f unused found same =
    let parts = or_parts (g.dbuf == dbuf) (is_used dbuf fs) unused in
    by_test (has_cookie cookie_of cookie g) found parts.0 (λ later. unused_none fs dbuf cookie f parts.1 later same)
  where
    by_test : (t : Bool) → cond t (Some g) (frame_of cookie fs) ≡ Some f → (g.dbuf == dbuf) ≡ false → (frame_of cookie fs ≡ Some f → ⊥) → ⊥
    by_test true here other later =
        let is : g ≡ f = cc in
        let yes : (g.dbuf == dbuf) ≡ true = eq-eqb g.dbuf dbuf (ap (λ (x : Framebuffer). x.dbuf) is ∙ same) in
        let wrong : false ≡ true = sym other ∙ yes in
        cc
    by_test false here other later = later here
