-- What a text declares and states.
use Rattle.std.specs.Prelude.{List, [], ◌∷◌, ◌++◌, Option, Some, None}
use Rattle.pv_words.specs.declared.setup.DomainSize.{DomainSize}
use Rattle.pv_words.specs.declared.setup.DeviceSetup.{DeviceSetup}
use Rattle.scenario_text.specs.declared.statement.Statement.{Statement}
use Rattle.scenario_text.specs.declared.draft.Item.{Item}
use Rattle.scenario_text.specs.declared.draft.Item.TheVariants.{Domain, Device, Step}
use Rattle.scenario_text.specs.declared.draft.Draft.{Draft}

-- domains with their sizes, devices, and the statements to be played, each in the order of the text
pub record Scenario : Type 0 where
  pub sizes : List DomainSize
  pub devices : List DeviceSetup
  pub statements : List Statement

-- what an empty text says
abbrev pub nothing : Scenario
nothing = record { sizes = []; devices = []; statements = [] }

-- with what one more line holds, if anything
abbrev pub with_item : Option Item → Scenario → Scenario
with_item None so_far = so_far
with_item (Some (Domain size)) so_far = record so_far { sizes = so_far.sizes ++ size ∷ [] }
with_item (Some (Device device)) so_far = record so_far { devices = so_far.devices ++ device ∷ [] }
with_item (Some (Step statement)) so_far = record so_far { statements = so_far.statements ++ statement ∷ [] }

-- what a draft stands for
abbrev pub drafted : Draft → Scenario
drafted d = record { sizes = d.sizes.items; devices = d.devices.items; statements = d.statements.items }
