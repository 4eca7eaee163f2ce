use Rattle.std.proofs.Common.{refl, ◌+◌, Some, None, Ok, Err, is_some, sym, ◌∙◌, ap, arith}
use Rattle.std.proofs.lemmas.Bool.{false≢true}
use Rattle.pv_words.specs.declared.access.Access.TheVariants as access
use Rattle.pv_words.specs.declared.place.Half.TheVariants.{Flags, FrameNo}
use Rattle.pv_words.specs.declared.grant.GrantRefusal.TheVariants.{Moved, BadFrame}
use Rattle.pv_words.specs.Plan.{Finished}
use Rattle.pv_words.specs.Flags.{flags_place, frame_place}
use Rattle.pv_words.specs.Mapping.{frame_plan, undo_plan, hold_of}
use Rattle.pv_words.specs.MapLeft.{map_left, dom_of, gref_of, mode_of, is_over, is_last}
use Rattle.pv_words.proofs.Plans.{may_from, advances_as, by_access, at_entry, wins_as}
use Rattle.pv_words.proofs.Maps.{begin_head, begin_moved, begin_holds, name_head, name_ends, name_undoes, undo_head, undo_ends, over_ends}
use Rattle.pv_words.proofs.map.MapStep.step.Goals as goal

pub swap_if-seen-requires : goal.swap_if-seen-requires
unfolding map_left dom_of
swap_if-seen-requires g c =
    let m = c.args.self.now in
    let frames = g.W.Words.frames_of c.args.words.now m.dom.0 in
    let grants = g.W.Words.grants_of c.args.words.now m.dom.0 in
    may_from _ _ _ _ _ (begin_head frames grants m.dom.0 m.gref.0 m.mode m.stage c.in-Begin.word c.bits_of.result c.in-Begin.is c.bits_of.ensures.exact) c.requires

pub returns-then-seen-old-clause-advances : goal.returns-then-seen-old-clause-advances
unfolding map_left dom_of
returns-then-seen-old-clause-advances g c =
    let m = c.args.self.now in
    let frames = g.W.Words.frames_of c.args.words.now m.dom.0 in
    let grants = g.W.Words.grants_of c.args.words.now m.dom.0 in
    advances_as (map_left frames grants m) c.goes_on.result.access (Some (access.Cas (flags_place m.dom.0 m.gref.0) c.in-Begin.word (c.in-Begin.word + c.bits_of.result) c.swap_if-seen.result)) c.goes_on.result.done None (map_left frames grants c.goes_on.new.self) (frame_plan frames m.dom.0 m.gref.0 m.mode) c.goes_on.ensures.access c.goes_on.ensures.done (ap (map_left frames grants) c.goes_on.ensures.left) (begin_holds frames grants m.dom.0 m.gref.0 m.mode m.stage c.in-Begin.word c.bits_of.result c.swap_if-seen.result c.in-Begin.is c.bits_of.ensures.exact c.if-seen-old.true)

pub returns-then-seen-old-clause-dom : goal.returns-then-seen-old-clause-dom
unfolding dom_of
returns-then-seen-old-clause-dom g c = ap dom_of c.goes_on.ensures.left

pub returns-then-seen-old-clause-over : goal.returns-then-seen-old-clause-over
unfolding is_over
returns-then-seen-old-clause-over g c = ap is_over c.goes_on.ensures.left ∙ sym (ap is_some c.goes_on.ensures.done)

pub returns-then-seen-old-clause-held : goal.returns-then-seen-old-clause-held
returns-then-seen-old-clause-held g c =
    let m = c.args.self.now in
    λ _. by_access c.goes_on.result.access (Some (access.Cas (flags_place m.dom.0 m.gref.0) c.in-Begin.word (c.in-Begin.word + c.bits_of.result) c.swap_if-seen.result)) c.goes_on.result.done None c.goes_on.ensures.access c.goes_on.ensures.done tt

pub returns-else-seen-old-clause-advances : goal.returns-else-seen-old-clause-advances
unfolding map_left dom_of
returns-else-seen-old-clause-advances g c =
    let m = c.args.self.now in
    let frames = g.W.Words.frames_of c.args.words.now m.dom.0 in
    let grants = g.W.Words.grants_of c.args.words.now m.dom.0 in
    advances_as (map_left frames grants m) c.ends.result.access (Some (access.Cas (flags_place m.dom.0 m.gref.0) c.in-Begin.word (c.in-Begin.word + c.bits_of.result) c.swap_if-seen.result)) c.ends.result.done (Some (Err (Moved c.in-Begin.word c.swap_if-seen.result))) (map_left frames grants c.ends.new.self) (Finished (Err (Moved c.in-Begin.word c.swap_if-seen.result))) c.ends.ensures.access c.ends.ensures.done (ap (map_left frames grants) c.ends.ensures.left) (begin_moved frames grants m.dom.0 m.gref.0 m.mode m.stage c.in-Begin.word c.bits_of.result c.swap_if-seen.result c.in-Begin.is c.bits_of.ensures.exact c.if-seen-old.false)

pub returns-else-seen-old-clause-dom : goal.returns-else-seen-old-clause-dom
unfolding dom_of
returns-else-seen-old-clause-dom g c = ap dom_of c.ends.ensures.left

pub returns-else-seen-old-clause-over : goal.returns-else-seen-old-clause-over
unfolding is_over
returns-else-seen-old-clause-over g c = ap is_over c.ends.ensures.left ∙ sym (ap is_some c.ends.ensures.done)

pub returns-else-seen-old-clause-held : goal.returns-else-seen-old-clause-held
returns-else-seen-old-clause-held g c =
    let m = c.args.self.now in
    λ _. by_access c.ends.result.access (Some (access.Cas (flags_place m.dom.0 m.gref.0) c.in-Begin.word (c.in-Begin.word + c.bits_of.result) c.swap_if-seen.result)) c.ends.result.done (Some (Err (Moved c.in-Begin.word c.swap_if-seen.result))) c.ends.ensures.access c.ends.ensures.done tt

pub load-frame-requires : goal.load-frame-requires
unfolding map_left dom_of
load-frame-requires g c =
    let m = c.args.self.now in
    let frames = g.W.Words.frames_of c.args.words.now m.dom.0 in
    let grants = g.W.Words.grants_of c.args.words.now m.dom.0 in
    may_from _ _ _ _ _ (name_head frames grants m.dom.0 m.gref.0 m.mode m.stage c.in-Name.is) c.requires

pub returns-then-frame-frames-clause-advances : goal.returns-then-frame-frames-clause-advances
unfolding map_left dom_of
returns-then-frame-frames-clause-advances g c =
    let m = c.args.self.now in
    let frames = g.W.Words.frames_of c.args.words.now m.dom.0 in
    let grants = g.W.Words.grants_of c.args.words.now m.dom.0 in
    advances_as (map_left frames grants m) c.ends-then-frame-frames.result.access (Some (access.Load (frame_place m.dom.0 m.gref.0) c.load-frame.result)) c.ends-then-frame-frames.result.done (Some (Ok (hold_of m.dom.0 m.gref.0 m.mode c.load-frame.result))) (map_left frames grants c.ends-then-frame-frames.new.self) (Finished (Ok (hold_of m.dom.0 m.gref.0 m.mode c.load-frame.result))) c.ends-then-frame-frames.ensures.access (c.ends-then-frame-frames.ensures.done ∙ ap (λ h. Some (Ok h)) c.hold-hold.ensures) (ap (map_left frames grants) c.ends-then-frame-frames.ensures.left ∙ ap (λ h. Finished (Ok h)) c.hold-hold.ensures) (name_ends frames grants m.dom.0 m.gref.0 m.mode m.stage c.load-frame.result c.in-Name.is (omega (arith, c.frames.ensures, g.met.W.Words.keeps_frames _ _ _ c.load-frame.ensures m.dom.0)))

pub returns-then-frame-frames-clause-dom : goal.returns-then-frame-frames-clause-dom
unfolding dom_of
returns-then-frame-frames-clause-dom g c = ap dom_of c.ends-then-frame-frames.ensures.left

pub returns-then-frame-frames-clause-over : goal.returns-then-frame-frames-clause-over
unfolding is_over
returns-then-frame-frames-clause-over g c = ap is_over c.ends-then-frame-frames.ensures.left ∙ sym (ap is_some c.ends-then-frame-frames.ensures.done)

pub returns-then-frame-frames-clause-held : goal.returns-then-frame-frames-clause-held
returns-then-frame-frames-clause-held g c =
    let m = c.args.self.now in
    λ _. by_access c.ends-then-frame-frames.result.access (Some (access.Load (frame_place m.dom.0 m.gref.0) c.load-frame.result)) c.ends-then-frame-frames.result.done (Some (Ok (hold_of m.dom.0 m.gref.0 m.mode c.load-frame.result))) c.ends-then-frame-frames.ensures.access (c.ends-then-frame-frames.ensures.done ∙ ap (λ h. Some (Ok h)) c.hold-hold.ensures) tt

pub returns-else-frame-frames-clause-advances : goal.returns-else-frame-frames-clause-advances
unfolding map_left dom_of
returns-else-frame-frames-clause-advances g c =
    let m = c.args.self.now in
    let frames = g.W.Words.frames_of c.args.words.now m.dom.0 in
    let grants = g.W.Words.grants_of c.args.words.now m.dom.0 in
    advances_as (map_left frames grants m) c.goes_on-else-frame-frames.result.access (Some (access.Load (frame_place m.dom.0 m.gref.0) c.load-frame.result)) c.goes_on-else-frame-frames.result.done None (map_left frames grants c.goes_on-else-frame-frames.new.self) (undo_plan m.dom.0 m.gref.0 m.mode c.load-frame.result) c.goes_on-else-frame-frames.ensures.access c.goes_on-else-frame-frames.ensures.done (ap (map_left frames grants) c.goes_on-else-frame-frames.ensures.left) (name_undoes frames grants m.dom.0 m.gref.0 m.mode m.stage c.load-frame.result c.in-Name.is (omega (arith, c.frames.ensures, g.met.W.Words.keeps_frames _ _ _ c.load-frame.ensures m.dom.0)))

pub returns-else-frame-frames-clause-dom : goal.returns-else-frame-frames-clause-dom
unfolding dom_of
returns-else-frame-frames-clause-dom g c = ap dom_of c.goes_on-else-frame-frames.ensures.left

pub returns-else-frame-frames-clause-over : goal.returns-else-frame-frames-clause-over
unfolding is_over
returns-else-frame-frames-clause-over g c = ap is_over c.goes_on-else-frame-frames.ensures.left ∙ sym (ap is_some c.goes_on-else-frame-frames.ensures.done)

pub returns-else-frame-frames-clause-held : goal.returns-else-frame-frames-clause-held
returns-else-frame-frames-clause-held g c =
    let m = c.args.self.now in
    λ _. by_access c.goes_on-else-frame-frames.result.access (Some (access.Load (frame_place m.dom.0 m.gref.0) c.load-frame.result)) c.goes_on-else-frame-frames.result.done None c.goes_on-else-frame-frames.ensures.access c.goes_on-else-frame-frames.ensures.done tt

pub clear-seen-requires : goal.clear-seen-requires
unfolding map_left dom_of
clear-seen-requires g c =
    let m = c.args.self.now in
    let frames = g.W.Words.frames_of c.args.words.now m.dom.0 in
    let grants = g.W.Words.grants_of c.args.words.now m.dom.0 in
    may_from _ _ _ _ _ (undo_head frames grants m.dom.0 m.gref.0 m.mode m.stage c.in-Undo.frame c.bits_of-mask.result c.in-Undo.is c.bits_of-mask.ensures.exact) c.requires

pub returns-in-Undo-clause-advances : goal.returns-in-Undo-clause-advances
unfolding map_left dom_of
returns-in-Undo-clause-advances g c =
    let m = c.args.self.now in
    let frames = g.W.Words.frames_of c.args.words.now m.dom.0 in
    let grants = g.W.Words.grants_of c.args.words.now m.dom.0 in
    advances_as (map_left frames grants m) c.ends-in-Undo.result.access (Some (access.Clear (flags_place m.dom.0 m.gref.0) c.bits_of-mask.result c.clear-seen.result)) c.ends-in-Undo.result.done (Some (Err (BadFrame c.in-Undo.frame))) (map_left frames grants c.ends-in-Undo.new.self) (Finished (Err (BadFrame c.in-Undo.frame))) c.ends-in-Undo.ensures.access c.ends-in-Undo.ensures.done (ap (map_left frames grants) c.ends-in-Undo.ensures.left) (undo_ends frames grants m.dom.0 m.gref.0 m.mode m.stage c.in-Undo.frame c.bits_of-mask.result c.clear-seen.result c.in-Undo.is c.bits_of-mask.ensures.exact)

pub returns-in-Undo-clause-dom : goal.returns-in-Undo-clause-dom
unfolding dom_of
returns-in-Undo-clause-dom g c = ap dom_of c.ends-in-Undo.ensures.left

pub returns-in-Undo-clause-over : goal.returns-in-Undo-clause-over
unfolding is_over
returns-in-Undo-clause-over g c = ap is_over c.ends-in-Undo.ensures.left ∙ sym (ap is_some c.ends-in-Undo.ensures.done)

pub returns-in-Undo-clause-held : goal.returns-in-Undo-clause-held
returns-in-Undo-clause-held g c =
    let m = c.args.self.now in
    λ _. by_access c.ends-in-Undo.result.access (Some (access.Clear (flags_place m.dom.0 m.gref.0) c.bits_of-mask.result c.clear-seen.result)) c.ends-in-Undo.result.done (Some (Err (BadFrame c.in-Undo.frame))) c.ends-in-Undo.ensures.access c.ends-in-Undo.ensures.done tt

pub returns-in-Over-clause-advances : goal.returns-in-Over-clause-advances
unfolding map_left dom_of
returns-in-Over-clause-advances g c =
    let m = c.args.self.now in
    let frames = g.W.Words.frames_of c.args.words.now m.dom.0 in
    let grants = g.W.Words.grants_of c.args.words.now m.dom.0 in
    advances_as (map_left frames grants m) c.ends-in-Over.result.access None c.ends-in-Over.result.done (Some c.in-Over.end) (map_left frames grants c.ends-in-Over.new.self) (Finished c.in-Over.end) c.ends-in-Over.ensures.access c.ends-in-Over.ensures.done (ap (map_left frames grants) c.ends-in-Over.ensures.left) (over_ends frames grants m.dom.0 m.gref.0 m.mode m.stage c.in-Over.end c.in-Over.is)

pub returns-in-Over-clause-dom : goal.returns-in-Over-clause-dom
unfolding dom_of
returns-in-Over-clause-dom g c = ap dom_of c.ends-in-Over.ensures.left

pub returns-in-Over-clause-over : goal.returns-in-Over-clause-over
unfolding is_over
returns-in-Over-clause-over g c = ap is_over c.ends-in-Over.ensures.left ∙ sym (ap is_some c.ends-in-Over.ensures.done)

pub returns-in-Over-clause-held : goal.returns-in-Over-clause-held
unfolding is_over
returns-in-Over-clause-held g c = λ going. absurd (false≢true (sym going ∙ ap is_last c.in-Over.is))

pub returns-then-seen-old-clause-entry : goal.returns-then-seen-old-clause-entry
unfolding gref_of mode_of
returns-then-seen-old-clause-entry g c = (ap gref_of c.goes_on.ensures.left, ap mode_of c.goes_on.ensures.left)

pub returns-then-seen-old-clause-stays : goal.returns-then-seen-old-clause-stays
unfolding dom_of gref_of
returns-then-seen-old-clause-stays g c =
    let m = c.args.self.now in
    at_entry m.dom.0 m.gref.0 c.goes_on.result.access (Some (access.Cas (flags_place m.dom.0 m.gref.0) c.in-Begin.word (c.in-Begin.word + c.bits_of.result) c.swap_if-seen.result)) c.goes_on.ensures.access (Flags, refl)

pub returns-then-seen-old-clause-won : goal.returns-then-seen-old-clause-won
unfolding dom_of gref_of mode_of
returns-then-seen-old-clause-won g c =
    let m = c.args.self.now in
    λ _. wins_as m.dom.0 m.gref.0 m.mode c.goes_on.result.done None c.goes_on.ensures.done tt

pub returns-else-seen-old-clause-entry : goal.returns-else-seen-old-clause-entry
unfolding gref_of mode_of
returns-else-seen-old-clause-entry g c = (ap gref_of c.ends.ensures.left, ap mode_of c.ends.ensures.left)

pub returns-else-seen-old-clause-stays : goal.returns-else-seen-old-clause-stays
unfolding dom_of gref_of
returns-else-seen-old-clause-stays g c =
    let m = c.args.self.now in
    at_entry m.dom.0 m.gref.0 c.ends.result.access (Some (access.Cas (flags_place m.dom.0 m.gref.0) c.in-Begin.word (c.in-Begin.word + c.bits_of.result) c.swap_if-seen.result)) c.ends.ensures.access (Flags, refl)

pub returns-else-seen-old-clause-won : goal.returns-else-seen-old-clause-won
unfolding dom_of gref_of mode_of
returns-else-seen-old-clause-won g c =
    let m = c.args.self.now in
    λ _. wins_as m.dom.0 m.gref.0 m.mode c.ends.result.done (Some (Err (Moved c.in-Begin.word c.swap_if-seen.result))) c.ends.ensures.done tt

pub returns-then-frame-frames-clause-entry : goal.returns-then-frame-frames-clause-entry
unfolding gref_of mode_of
returns-then-frame-frames-clause-entry g c = (ap gref_of c.ends-then-frame-frames.ensures.left, ap mode_of c.ends-then-frame-frames.ensures.left)

pub returns-then-frame-frames-clause-stays : goal.returns-then-frame-frames-clause-stays
unfolding dom_of gref_of
returns-then-frame-frames-clause-stays g c =
    let m = c.args.self.now in
    at_entry m.dom.0 m.gref.0 c.ends-then-frame-frames.result.access (Some (access.Load (frame_place m.dom.0 m.gref.0) c.load-frame.result)) c.ends-then-frame-frames.ensures.access (FrameNo, refl)

pub returns-then-frame-frames-clause-won : goal.returns-then-frame-frames-clause-won
unfolding dom_of gref_of mode_of
returns-then-frame-frames-clause-won g c =
    let m = c.args.self.now in
    λ _. wins_as m.dom.0 m.gref.0 m.mode c.ends-then-frame-frames.result.done (Some (Ok (hold_of m.dom.0 m.gref.0 m.mode c.load-frame.result))) (c.ends-then-frame-frames.ensures.done ∙ ap (λ h. Some (Ok h)) c.hold-hold.ensures) (refl, refl, refl)

pub returns-else-frame-frames-clause-entry : goal.returns-else-frame-frames-clause-entry
unfolding gref_of mode_of
returns-else-frame-frames-clause-entry g c = (ap gref_of c.goes_on-else-frame-frames.ensures.left, ap mode_of c.goes_on-else-frame-frames.ensures.left)

pub returns-else-frame-frames-clause-stays : goal.returns-else-frame-frames-clause-stays
unfolding dom_of gref_of
returns-else-frame-frames-clause-stays g c =
    let m = c.args.self.now in
    at_entry m.dom.0 m.gref.0 c.goes_on-else-frame-frames.result.access (Some (access.Load (frame_place m.dom.0 m.gref.0) c.load-frame.result)) c.goes_on-else-frame-frames.ensures.access (FrameNo, refl)

pub returns-else-frame-frames-clause-won : goal.returns-else-frame-frames-clause-won
unfolding dom_of gref_of mode_of
returns-else-frame-frames-clause-won g c =
    let m = c.args.self.now in
    λ _. wins_as m.dom.0 m.gref.0 m.mode c.goes_on-else-frame-frames.result.done None c.goes_on-else-frame-frames.ensures.done tt

pub returns-in-Undo-clause-entry : goal.returns-in-Undo-clause-entry
unfolding gref_of mode_of
returns-in-Undo-clause-entry g c = (ap gref_of c.ends-in-Undo.ensures.left, ap mode_of c.ends-in-Undo.ensures.left)

pub returns-in-Undo-clause-stays : goal.returns-in-Undo-clause-stays
unfolding dom_of gref_of
returns-in-Undo-clause-stays g c =
    let m = c.args.self.now in
    at_entry m.dom.0 m.gref.0 c.ends-in-Undo.result.access (Some (access.Clear (flags_place m.dom.0 m.gref.0) c.bits_of-mask.result c.clear-seen.result)) c.ends-in-Undo.ensures.access (Flags, refl)

pub returns-in-Undo-clause-won : goal.returns-in-Undo-clause-won
unfolding dom_of gref_of mode_of
returns-in-Undo-clause-won g c =
    let m = c.args.self.now in
    λ _. wins_as m.dom.0 m.gref.0 m.mode c.ends-in-Undo.result.done (Some (Err (BadFrame c.in-Undo.frame))) c.ends-in-Undo.ensures.done tt

pub returns-in-Over-clause-entry : goal.returns-in-Over-clause-entry
unfolding gref_of mode_of
returns-in-Over-clause-entry g c = (ap gref_of c.ends-in-Over.ensures.left, ap mode_of c.ends-in-Over.ensures.left)

pub returns-in-Over-clause-stays : goal.returns-in-Over-clause-stays
unfolding dom_of gref_of
returns-in-Over-clause-stays g c =
    let m = c.args.self.now in
    at_entry m.dom.0 m.gref.0 c.ends-in-Over.result.access None c.ends-in-Over.ensures.access tt

pub returns-in-Over-clause-won : goal.returns-in-Over-clause-won
unfolding is_over
returns-in-Over-clause-won g c = λ going. absurd (false≢true (sym going ∙ ap is_last c.in-Over.is))
