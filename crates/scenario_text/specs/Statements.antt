-- Statements, behind their first token.
use Rattle.std.specs.Prelude.{ℕ, ◌-◌, ◌*◌, ◌^◌, min, Result, Ok}
use Rattle.pv_words.specs.declared.device.HostEvent.TheVariants.{Blank, Show, Tick}
use Rattle.pv_words.specs.declared.grant.Mode.{Mode}
use Rattle.pv_words.specs.declared.place.DomId.{DomId}
use Rattle.pv_words.specs.declared.place.Place.TheVariants.{Cell, Grant}
use Rattle.pv_words.specs.declared.place.Half.TheVariants.{Flags}
use Rattle.scenario_text.specs.declared.draft.Item.{Item}
use Rattle.scenario_text.specs.declared.draft.Item.TheVariants.{Step}
use Rattle.scenario_text.specs.declared.statement.Filling.{Filling}
use Rattle.scenario_text.specs.declared.statement.Opening.{Opening}
use Rattle.scenario_text.specs.declared.statement.Statement.TheVariants.{Put, Fill, Swap, Open, End, Node, Bus, Wake, Host, Back, Serve}
use Rattle.scenario_text.specs.declared.lookup.Family.TheVariants.{Displays, Sounds}
use Rattle.script_tokens.specs.declared.fault.Flaw.{Flaw}
use Rattle.script_tokens.specs.Flaws.{◌>>=◌}
use Rattle.script_tokens.specs.Cursors.{Cursor}
use Rattle.script_tokens.specs.Next.{between_at, below_at}
use Rattle.scenario_text.specs.Arguments.{half_at, mode_at, key_at, node_value_at, state_at}
use Rattle.scenario_text.specs.Limits.{page_words, tick_limit}
use Rattle.scenario_text.specs.Lookups.{size_at, device_at, part_at, parts_of}
use Rattle.scenario_text.specs.Scenario.{Scenario}

-- put D F W V: value V at word W of frame F of domain D
unfoldable pub put_at : Scenario → Cursor → Result (Item × Cursor) Flaw
put_at so_far c = do
  size ← size_at so_far.sizes c
  frame ← below_at size.0.frames size.1
  word ← below_at page_words frame.1
  value ← below_at (2 ^ 32) word.1
  Ok (Step (Put (Cell size.0.dom (record { 0 = frame.0.value }) word.0.value) value.0.value), value.1)

-- values from one on, by steps, at so many words from one of a frame on
abbrev pub filling : DomId → (frame word count value step : ℕ) → Filling
filling dom frame word count value step =
    record { dom = dom; frame = record { 0 = frame }; word = word; count = count; value = value; step = step }

-- fill D F W N V T: values V, V + T, V + 2T and so on, modulo 2 ^ 32, at N words of domain D from word W of frame F on. N is
-- 1 or more, below 2 ^ 32, and no more than there are words from there on.
unfoldable pub fill_at : Scenario → Cursor → Result (Item × Cursor) Flaw
fill_at so_far c = do
  size ← size_at so_far.sizes c
  frame ← below_at size.0.frames size.1
  word ← below_at page_words frame.1
  count ← between_at 1 (min (page_words * (size.0.frames - frame.0.value) - word.0.value) (2 ^ 32 - 1)) word.1
  value ← below_at (2 ^ 32) count.1
  step ← below_at (2 ^ 32) value.1
  Ok (Step (Fill (filling size.0.dom frame.0.value word.0.value count.0.value value.0.value step.0.value)), step.1)

-- putg D G H V: value V at half H of grant entry G of domain D
unfoldable pub put_grant_at : Scenario → Cursor → Result (Item × Cursor) Flaw
put_grant_at so_far c = do
  size ← size_at so_far.sizes c
  gref ← below_at size.0.grants size.1
  half ← half_at gref.1
  value ← below_at (2 ^ 32) half.1
  Ok (Step (Put (Grant size.0.dom (record { 0 = gref.0.value }) half.0) value.0.value), value.1)

-- swap D G OLD NEW: NEW in place of OLD at the flags of grant entry G of domain D
unfoldable pub swap_at : Scenario → Cursor → Result (Item × Cursor) Flaw
swap_at so_far c = do
  size ← size_at so_far.sizes c
  gref ← below_at size.0.grants size.1
  old ← below_at (2 ^ 32) gref.1
  new ← below_at (2 ^ 32) old.1
  Ok (Step (Swap (Grant size.0.dom (record { 0 = gref.0.value }) Flags) old.0.value new.0.value), new.1)

-- so many grants from one on, for frames from one on
abbrev pub opening : DomId → (gref frame : ℕ) → Mode → (count : ℕ) → Opening
opening dom gref frame mode count =
    record { dom = dom; gref = record { 0 = gref }; frame = record { 0 = frame }; mode = mode; count = count }

-- open D G F M N: N grants of domain D from G on, for its frames from F on, in mode M. N is 1 or more, and no more than
-- there are grants from G on, and frames from F on.
unfoldable pub open_at : Scenario → Cursor → Result (Item × Cursor) Flaw
open_at so_far c = do
  size ← size_at so_far.sizes c
  gref ← below_at size.0.grants size.1
  frame ← below_at size.0.frames gref.1
  mode ← mode_at frame.1
  count ← between_at 1 (min (size.0.grants - gref.0.value) (size.0.frames - frame.0.value)) mode.1
  Ok (Step (Open (opening size.0.dom gref.0.value frame.0.value mode.0 count.0.value)), count.1)

-- end D G N: N grants of domain D from G on. N is 1 or more, and no more than there are grants from G on.
unfoldable pub end_at : Scenario → Cursor → Result (Item × Cursor) Flaw
end_at so_far c = do
  size ← size_at so_far.sizes c
  gref ← below_at size.0.grants size.1
  count ← between_at 1 (size.0.grants - gref.0.value) gref.1
  Ok (Step (End (record { dom = size.0.dom; gref = record { 0 = gref.0.value }; count = count.0.value })), count.1)

-- node N P NAME VALUE: VALUE at the node NAME of part P of device N
unfoldable pub node_at : Scenario → Cursor → Result (Item × Cursor) Flaw
node_at so_far c = do
  dev ← device_at so_far.devices c
  part ← below_at (parts_of dev.0.kind) dev.1
  key ← key_at dev.0.kind part.1
  value ← node_value_at key.1
  Ok (Step (Node dev.0.dev part.0.value key.0 value.0), value.1)

-- bus N S: state S of the frontend of device N
unfoldable pub bus_at : Scenario → Cursor → Result (Item × Cursor) Flaw
bus_at so_far c = do
  dev ← device_at so_far.devices c
  state ← state_at dev.1
  Ok (Step (Bus dev.0.dev state.0), state.1)

-- wake N: device N
unfoldable pub wake_at : Scenario → Cursor → Result (Item × Cursor) Flaw
wake_at so_far c = do
  dev ← device_at so_far.devices c
  Ok (Step (Wake dev.0.dev), dev.1)

-- blank N C: a vertical blank of connector C of device N, a display
unfoldable pub blank_at : Scenario → Cursor → Result (Item × Cursor) Flaw
blank_at so_far c = do
  at ← part_at Displays so_far.devices c
  Ok (Step (Host at.0.0 (Blank at.0.1)), at.1)

-- show N C: connector C of device N, a display, is to show its picture
unfoldable pub show_at : Scenario → Cursor → Result (Item × Cursor) Flaw
show_at so_far c = do
  at ← part_at Displays so_far.devices c
  Ok (Step (Host at.0.0 (Show at.0.1)), at.1)

-- tick N P K: K frames of stream P of device N, a sound device. K is 1 or more, and no more than a tick has at most.
unfoldable pub tick_at : Scenario → Cursor → Result (Item × Cursor) Flaw
tick_at so_far c = do
  at ← part_at Sounds so_far.devices c
  frames ← between_at 1 tick_limit at.1
  Ok (Step (Host at.0.0 (Tick at.0.1 frames.0.value)), frames.1)

-- back N K: device N, and K accesses, of which there is at least 1
unfoldable pub back_at : Scenario → Cursor → Result (Item × Cursor) Flaw
back_at so_far c = do
  dev ← device_at so_far.devices c
  count ← between_at 1 (2 ^ 32 - 1) dev.1
  Ok (Step (Back dev.0.dev count.0.value), count.1)

-- serve N: device N
unfoldable pub serve_at : Scenario → Cursor → Result (Item × Cursor) Flaw
serve_at so_far c = do
  dev ← device_at so_far.devices c
  Ok (Step (Serve dev.0.dev), dev.1)
