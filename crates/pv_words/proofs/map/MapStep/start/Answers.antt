use Rattle.std.proofs.Common.{refl, Some, None, Err, is_some, sym, ◌∙◌, ap, arith}
use Rattle.pv_words.specs.declared.access.Access.TheVariants as access
use Rattle.pv_words.specs.declared.place.Half.TheVariants.{Flags}
use Rattle.pv_words.specs.declared.grant.GrantRefusal.TheVariants.{NoEntry}
use Rattle.pv_words.specs.Plan.{Finished}
use Rattle.pv_words.specs.Flags.{flags_place}
use Rattle.pv_words.specs.Mapping.{begin_plan}
use Rattle.pv_words.specs.MapLeft.{map_left, dom_of, gref_of, mode_of, is_over}
use Rattle.pv_words.proofs.Plans.{may_from, advances_as, by_access, at_entry, wins_as}
use Rattle.pv_words.proofs.Maps.{start_head, start_ends, flags_refuse, flags_permit}
use Rattle.pv_words.proofs.map.MapStep.start.Goals as goal

pub returns-then-self-grants-clause-advances : goal.returns-then-self-grants-clause-advances
unfolding map_left dom_of
returns-then-self-grants-clause-advances g c =
    let m = c.args.self.now in
    let frames = g.W.Words.frames_of c.args.words.now m.dom.0 in
    let grants = g.W.Words.grants_of c.args.words.now m.dom.0 in
    advances_as (map_left frames grants m) c.ends.result.access None c.ends.result.done (Some (Err (NoEntry m.gref.0))) (map_left frames grants c.ends.new.self) (Finished (Err (NoEntry m.gref.0))) c.ends.ensures.access c.ends.ensures.done (ap (map_left frames grants) c.ends.ensures.left) (start_ends frames grants m.dom.0 m.gref.0 m.mode m.stage c.requires.start (omega (arith, c.grants.ensures)))

pub returns-then-self-grants-clause-dom : goal.returns-then-self-grants-clause-dom
unfolding dom_of
returns-then-self-grants-clause-dom g c = ap dom_of c.ends.ensures.left

pub returns-then-self-grants-clause-over : goal.returns-then-self-grants-clause-over
unfolding is_over
returns-then-self-grants-clause-over g c = ap is_over c.ends.ensures.left ∙ sym (ap is_some c.ends.ensures.done)

pub returns-then-self-grants-clause-held : goal.returns-then-self-grants-clause-held
returns-then-self-grants-clause-held g c =
    let m = c.args.self.now in
    by_access c.ends.result.access None c.ends.result.done (Some (Err (NoEntry m.gref.0))) c.ends.ensures.access c.ends.ensures.done tt

pub load-word-requires : goal.load-word-requires
unfolding map_left dom_of
load-word-requires g c =
    let m = c.args.self.now in
    let frames = g.W.Words.frames_of c.args.words.now m.dom.0 in
    let grants = g.W.Words.grants_of c.args.words.now m.dom.0 in
    may_from _ _ _ _ _ (start_head frames grants m.dom.0 m.gref.0 m.mode m.stage c.requires.start (omega (arith, c.grants.ensures))) c.requires.may

pub returns-in-Some-clause-advances : goal.returns-in-Some-clause-advances
unfolding map_left dom_of
returns-in-Some-clause-advances g c =
    let m = c.args.self.now in
    let frames = g.W.Words.frames_of c.args.words.now m.dom.0 in
    let grants = g.W.Words.grants_of c.args.words.now m.dom.0 in
    advances_as (map_left frames grants m) c.ends-in-Some.result.access (Some (access.Load (flags_place m.dom.0 m.gref.0) c.load-word.result)) c.ends-in-Some.result.done (Some (Err c.in-Some.refusal)) (map_left frames grants c.ends-in-Some.new.self) (Finished (Err c.in-Some.refusal)) c.ends-in-Some.ensures.access c.ends-in-Some.ensures.done (ap (map_left frames grants) c.ends-in-Some.ensures.left) (flags_refuse frames grants m.dom.0 m.gref.0 m.mode m.stage c.requires.start (omega (arith, c.grants.ensures)) c.load-word.result c.in-Some.refusal (sym c.refusal_of.ensures.exact ∙ c.in-Some.is))

pub returns-in-Some-clause-dom : goal.returns-in-Some-clause-dom
unfolding dom_of
returns-in-Some-clause-dom g c = ap dom_of c.ends-in-Some.ensures.left

pub returns-in-Some-clause-over : goal.returns-in-Some-clause-over
unfolding is_over
returns-in-Some-clause-over g c = ap is_over c.ends-in-Some.ensures.left ∙ sym (ap is_some c.ends-in-Some.ensures.done)

pub returns-in-Some-clause-held : goal.returns-in-Some-clause-held
returns-in-Some-clause-held g c =
    let m = c.args.self.now in
    by_access c.ends-in-Some.result.access (Some (access.Load (flags_place m.dom.0 m.gref.0) c.load-word.result)) c.ends-in-Some.result.done (Some (Err c.in-Some.refusal)) c.ends-in-Some.ensures.access c.ends-in-Some.ensures.done tt

pub returns-in-None-clause-advances : goal.returns-in-None-clause-advances
unfolding map_left dom_of
returns-in-None-clause-advances g c =
    let m = c.args.self.now in
    let frames = g.W.Words.frames_of c.args.words.now m.dom.0 in
    let grants = g.W.Words.grants_of c.args.words.now m.dom.0 in
    advances_as (map_left frames grants m) c.goes_on.result.access (Some (access.Load (flags_place m.dom.0 m.gref.0) c.load-word.result)) c.goes_on.result.done None (map_left frames grants c.goes_on.new.self) (begin_plan frames m.dom.0 m.gref.0 m.mode c.load-word.result) c.goes_on.ensures.access c.goes_on.ensures.done (ap (map_left frames grants) c.goes_on.ensures.left) (flags_permit frames grants m.dom.0 m.gref.0 m.mode m.stage c.requires.start (omega (arith, c.grants.ensures)) c.load-word.result (sym c.refusal_of.ensures.exact ∙ c.in-None.is))

pub returns-in-None-clause-dom : goal.returns-in-None-clause-dom
unfolding dom_of
returns-in-None-clause-dom g c = ap dom_of c.goes_on.ensures.left

pub returns-in-None-clause-over : goal.returns-in-None-clause-over
unfolding is_over
returns-in-None-clause-over g c = ap is_over c.goes_on.ensures.left ∙ sym (ap is_some c.goes_on.ensures.done)

pub returns-in-None-clause-held : goal.returns-in-None-clause-held
returns-in-None-clause-held g c =
    let m = c.args.self.now in
    by_access c.goes_on.result.access (Some (access.Load (flags_place m.dom.0 m.gref.0) c.load-word.result)) c.goes_on.result.done None c.goes_on.ensures.access c.goes_on.ensures.done tt

pub returns-then-self-grants-clause-entry : goal.returns-then-self-grants-clause-entry
unfolding gref_of mode_of
returns-then-self-grants-clause-entry g c = (ap gref_of c.ends.ensures.left, ap mode_of c.ends.ensures.left)

pub returns-then-self-grants-clause-stays : goal.returns-then-self-grants-clause-stays
unfolding dom_of gref_of
returns-then-self-grants-clause-stays g c =
    let m = c.args.self.now in
    at_entry m.dom.0 m.gref.0 c.ends.result.access None c.ends.ensures.access tt

pub returns-then-self-grants-clause-won : goal.returns-then-self-grants-clause-won
unfolding dom_of gref_of mode_of
returns-then-self-grants-clause-won g c =
    let m = c.args.self.now in
    wins_as m.dom.0 m.gref.0 m.mode c.ends.result.done (Some (Err (NoEntry m.gref.0))) c.ends.ensures.done tt

pub returns-in-Some-clause-entry : goal.returns-in-Some-clause-entry
unfolding gref_of mode_of
returns-in-Some-clause-entry g c = (ap gref_of c.ends-in-Some.ensures.left, ap mode_of c.ends-in-Some.ensures.left)

pub returns-in-Some-clause-stays : goal.returns-in-Some-clause-stays
unfolding dom_of gref_of
returns-in-Some-clause-stays g c =
    let m = c.args.self.now in
    at_entry m.dom.0 m.gref.0 c.ends-in-Some.result.access (Some (access.Load (flags_place m.dom.0 m.gref.0) c.load-word.result)) c.ends-in-Some.ensures.access (Flags, refl)

pub returns-in-Some-clause-won : goal.returns-in-Some-clause-won
unfolding dom_of gref_of mode_of
returns-in-Some-clause-won g c =
    let m = c.args.self.now in
    wins_as m.dom.0 m.gref.0 m.mode c.ends-in-Some.result.done (Some (Err c.in-Some.refusal)) c.ends-in-Some.ensures.done tt

pub returns-in-None-clause-entry : goal.returns-in-None-clause-entry
unfolding gref_of mode_of
returns-in-None-clause-entry g c = (ap gref_of c.goes_on.ensures.left, ap mode_of c.goes_on.ensures.left)

pub returns-in-None-clause-stays : goal.returns-in-None-clause-stays
unfolding dom_of gref_of
returns-in-None-clause-stays g c =
    let m = c.args.self.now in
    at_entry m.dom.0 m.gref.0 c.goes_on.result.access (Some (access.Load (flags_place m.dom.0 m.gref.0) c.load-word.result)) c.goes_on.ensures.access (Flags, refl)

pub returns-in-None-clause-won : goal.returns-in-None-clause-won
unfolding dom_of gref_of mode_of
returns-in-None-clause-won g c =
    let m = c.args.self.now in
    wins_as m.dom.0 m.gref.0 m.mode c.goes_on.result.done None c.goes_on.ensures.done tt
