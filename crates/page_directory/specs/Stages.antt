-- What a walk does next.
use Rattle.std.specs.Prelude.{ℕ, Bool, true, false, Option, Some, None}
use Rattle.pv_words.specs.declared.grant.Hold.{Hold}
use Rattle.page_directory.specs.declared.walk.Stage.{Stage}
use Rattle.page_directory.specs.declared.walk.Stage.TheVariants as stage

-- a map is under way
abbrev pub is_mapping : Stage → Bool
is_mapping stage.Directory = true
is_mapping (stage.Reference d) = false
is_mapping (stage.Page d) = true
is_mapping (stage.Next d) = false
is_mapping (stage.Further d g) = false
is_mapping (stage.Leave d) = false
is_mapping (stage.Undo i r) = false
is_mapping stage.Over = false

-- a further page is needed
abbrev pub is_going : Stage → Bool
is_going stage.Directory = true
is_going (stage.Reference d) = true
is_going (stage.Page d) = true
is_going (stage.Next d) = true
is_going (stage.Further d g) = true
is_going (stage.Leave d) = false
is_going (stage.Undo i r) = false
is_going stage.Over = false

-- a reference of a directory page is loaded
abbrev pub is_reading : Stage → Bool
is_reading stage.Directory = false
is_reading (stage.Reference d) = true
is_reading (stage.Page d) = false
is_reading (stage.Next d) = false
is_reading (stage.Further d g) = false
is_reading (stage.Leave d) = false
is_reading (stage.Undo i r) = false
is_reading stage.Over = false

-- a further directory page is needed
abbrev pub is_turning : Stage → Bool
is_turning stage.Directory = false
is_turning (stage.Reference d) = false
is_turning (stage.Page d) = false
is_turning (stage.Next d) = true
is_turning (stage.Further d g) = true
is_turning (stage.Leave d) = false
is_turning (stage.Undo i r) = false
is_turning stage.Over = false

-- all pages are mapped
abbrev pub is_leaving : Stage → Bool
is_leaving stage.Directory = false
is_leaving (stage.Reference d) = false
is_leaving (stage.Page d) = false
is_leaving (stage.Next d) = false
is_leaving (stage.Further d g) = false
is_leaving (stage.Leave d) = true
is_leaving (stage.Undo i r) = false
is_leaving stage.Over = false

-- pages are unmapped again
abbrev pub is_undoing : Stage → Bool
is_undoing stage.Directory = false
is_undoing (stage.Reference d) = false
is_undoing (stage.Page d) = false
is_undoing (stage.Next d) = false
is_undoing (stage.Further d g) = false
is_undoing (stage.Leave d) = false
is_undoing (stage.Undo i r) = true
is_undoing stage.Over = false

-- how many pages were unmapped again
abbrev pub undone : Stage → ℕ
undone stage.Directory = 0
undone (stage.Reference d) = 0
undone (stage.Page d) = 0
undone (stage.Next d) = 0
undone (stage.Further d g) = 0
undone (stage.Leave d) = 0
undone (stage.Undo i r) = i
undone stage.Over = 0

-- the walk is done
abbrev pub is_last : Stage → Bool
is_last stage.Directory = false
is_last (stage.Reference d) = false
is_last (stage.Page d) = false
is_last (stage.Next d) = false
is_last (stage.Further d g) = false
is_last (stage.Leave d) = false
is_last (stage.Undo i r) = false
is_last stage.Over = true

-- the directory page that is held
abbrev pub directory_in : Stage → Option Hold
directory_in stage.Directory = None
directory_in (stage.Reference d) = Some d
directory_in (stage.Page d) = Some d
directory_in (stage.Next d) = Some d
directory_in (stage.Further d g) = Some d
directory_in (stage.Leave d) = Some d
directory_in (stage.Undo i r) = None
directory_in stage.Over = None
