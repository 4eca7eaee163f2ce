-- The fields of what a device says, and of its states and nodes.
use Rattle.std.specs.Prelude.{ℕ, Bool, true, false, List, [], ◌∷◌, codes}
use Rattle.std.specs.Fmt.{decimal, signed_decimal}
use Rattle.pv_words.specs.declared.device.NodeFault.{NodeFault}
use Rattle.pv_words.specs.declared.device.NodeFault.TheVariants as fault
use Rattle.pv_words.specs.declared.device.NodeValue.{NodeValue}
use Rattle.pv_words.specs.declared.device.NodeValue.TheVariants as node
use Rattle.pv_words.specs.declared.device.Reason.{Reason}
use Rattle.pv_words.specs.declared.device.Reason.TheVariants as reason
use Rattle.pv_words.specs.declared.device.Said.{Said}
use Rattle.pv_words.specs.declared.device.Said.TheVariants as said
use Rattle.pv_words.specs.declared.device.State.{State}
use Rattle.pv_words.specs.declared.entry.End.{End}
use Rattle.pv_words.specs.declared.entry.End.TheVariants.{Front, Back}
use Rattle.xenbus_states.specs.States.{number_of}
use Rattle.report_text.specs.Grants.{refusal_fields}

-- which end of a device
abbrev pub end_word : End → List ℕ
end_word Front = codes "front"
end_word Back = codes "back"

-- an end of a device took a state
abbrev pub bus_fields : ℕ → End → State → List (List ℕ)
bus_fields dev end taken = codes "bus" ∷ decimal dev ∷ end_word end ∷ decimal (number_of taken) ∷ []

-- what is wrong with a node
abbrev pub fault_word : NodeFault → List ℕ
fault_word fault.Missing = codes "missing"
fault_word fault.Bad = codes "bad"

-- what a node holds
abbrev pub value_word : NodeValue → List ℕ
value_word node.Absent = codes "absent"
value_word node.Bad = codes "bad"
value_word (node.Number value) = decimal value

-- a node of a device was set
abbrev pub node_fields : ℕ → ℕ → ℕ → NodeValue → List (List ℕ)
node_fields dev part key value =
    codes "node" ∷ decimal dev ∷ decimal part ∷ decimal key ∷ value_word value ∷ []

-- why a device closed its connection
abbrev pub reason_fields : Reason → List (List ℕ)
reason_fields (reason.Asked asked) = codes "asked" ∷ decimal (number_of asked) ∷ []
reason_fields (reason.Overrun producer replied) = codes "overrun" ∷ decimal producer ∷ decimal replied ∷ []
reason_fields (reason.BadCons producer consumer) = codes "badcons" ∷ decimal producer ∷ decimal consumer ∷ []
reason_fields (reason.Spent producer) = codes "spent" ∷ decimal producer ∷ []
reason_fields (reason.Refused refusal) = codes "refused" ∷ refusal_fields refusal
reason_fields (reason.Node part key fault) = codes "node" ∷ decimal part ∷ decimal key ∷ fault_word fault ∷ []

-- whether the frontend was notified
abbrev pub notify_fields : Bool → List (List ℕ)
notify_fields true = codes "notify" ∷ []
notify_fields false = []

-- what a device says
abbrev pub said_fields : ℕ → Said → List (List ℕ)
said_fields dev (said.State taken) = bus_fields dev Back taken
said_fields dev (said.Request part id operation) =
    codes "request" ∷ decimal dev ∷ decimal part ∷ decimal id ∷ decimal operation ∷ []
said_fields dev (said.Denied refusal) = codes "denied" ∷ decimal dev ∷ refusal_fields refusal
said_fields dev (said.Replied part id status notified) =
    codes "reply" ∷ decimal dev ∷ decimal part ∷ decimal id ∷ signed_decimal status ∷ notify_fields notified
said_fields dev (said.Raised part cookie) = codes "flip" ∷ decimal dev ∷ decimal part ∷ decimal cookie ∷ []
said_fields dev (said.Pos part position) = codes "pos" ∷ decimal dev ∷ decimal part ∷ decimal position ∷ []
said_fields dev (said.Full part) = codes "full" ∷ decimal dev ∷ decimal part ∷ []
said_fields dev (said.Blank part) = codes "blank" ∷ decimal dev ∷ decimal part ∷ []
said_fields dev (said.Shown part pixels mark) =
    codes "shown" ∷ decimal dev ∷ decimal part ∷ decimal pixels ∷ decimal mark ∷ []
said_fields dev (said.Moved part octets mark) =
    codes "moved" ∷ decimal dev ∷ decimal part ∷ decimal octets ∷ decimal mark ∷ []
said_fields dev (said.Published events) = codes "published" ∷ decimal dev ∷ decimal events ∷ []
said_fields dev (said.Closed why) = codes "closed" ∷ decimal dev ∷ reason_fields why
