use Rattle.std.proofs.Common.{List, ◌∙◌, ap, inl, refl, subst, sym}
use Rattle.std.specs.List.{AllByRecursion}
use Rattle.pv_words.specs.declared.setup.DeviceSetup.{DeviceSetup}
use Rattle.pv_words.specs.declared.setup.DomainSize.{DomainSize}
use Rattle.pv_words.specs.Sizes.{frames_by, grants_by}
use Rattle.backend_core.specs.History.{AreApart}
use Rattle.pv_world.specs.World.{HasParts}
use Rattle.scenario_run.proofs.Devices.{all_known, apart, have_parts}
use Rattle.scenario_run.proofs.Plays.{nothing_played, nothing_wanting}
use Rattle.scenario_run.proofs.player.play.Goals as goal

pub new-requires-2 : goal.new-requires-2
new-requires-2 c =
    record {
      parts = subst (λ (ds : List DeviceSetup). AllByRecursion HasParts ds) (sym c.setup-setup.ensures.devices) (have_parts c.args.script.now.devices c.setup-setup.ensures.playable.devices);
    }

pub play_all-requires-clause-new : goal.play_all-requires-clause-new
play_all-requires-clause-new c =
    let s = c.args.script.now in
    c.in-Ok-new.ensures.stands (frames_by s.sizes) (grants_by s.sizes) (record {
      frames_are = λ d. c.in-Ok.ensures.frames d ∙ ap (λ (ss : List DomainSize). frames_by ss d) c.setup-setup.ensures.sizes;
      grants_are = λ d. c.in-Ok.ensures.grants d ∙ ap (λ (ss : List DomainSize). grants_by ss d) c.setup-setup.ensures.sizes;
      words_are = λ q. c.in-Ok.ensures.zero q;
      whole = tt;
      domains = λ d h. tt;
      known = all_known c.setup-setup.result.now.devices;
      listed = λ d. inl (refl, λ d. refl);
      apart = subst (λ (ds : List DeviceSetup). AreApart ds) (sym c.setup-setup.ensures.devices) (apart s.devices c.setup-setup.ensures.playable.different);
    })

pub returns-in_default-clause-stopped : goal.returns-in_default-clause-stopped
returns-in_default-clause-stopped c = nothing_played c.args.script.now c.args.journal.now.entries c.requires

pub returns-in-Err-clause-stopped : goal.returns-in-Err-clause-stopped
returns-in-Err-clause-stopped c = nothing_played c.args.script.now c.args.journal.now.entries c.requires

pub returns-in_default-clause-wanting : goal.returns-in_default-clause-wanting
returns-in_default-clause-wanting c = λ wanting. nothing_wanting c.args.script.now c.args.journal.now.entries c.requires

pub returns-in-Err-clause-wanting : goal.returns-in-Err-clause-wanting
returns-in-Err-clause-wanting c = λ wanting. nothing_wanting c.args.script.now c.args.journal.now.entries c.requires
