-- The nodes that a frontend sets for its device: the values of four keys for each of four parts, which are
-- connectors or streams. Key k of part p stands at index 4 * p + k.
use Rattle.std.specs.Prelude.{◌≡◌, ℕ, ◌+◌, ◌*◌, ◌<◌, ◌==◌, ◌&&◌, List, [], ◌∷◌, Result, Ok, Err, slice_index_or, slice_set, length, if◌then◌else◌}
use Rattle.pv_words.specs.declared.device.NodeFault.{NodeFault}
use Rattle.pv_words.specs.declared.device.NodeFault.TheVariants as fault
use Rattle.pv_words.specs.declared.device.NodeValue.{NodeValue}
use Rattle.pv_words.specs.declared.device.NodeValue.TheVariants as value

-- where the value of a key of a part stands
abbrev pub index_of : ℕ → ℕ → ℕ
index_of part key = 4 * part + key

-- no node is there
abbrev pub no_nodes : List NodeValue
no_nodes =
    value.Absent ∷ value.Absent ∷ value.Absent ∷ value.Absent ∷ value.Absent ∷ value.Absent ∷ value.Absent ∷ value.Absent
    ∷ value.Absent ∷ value.Absent ∷ value.Absent ∷ value.Absent ∷ value.Absent ∷ value.Absent ∷ value.Absent ∷ value.Absent ∷ []

-- the value of a key of a part
abbrev pub node_at : List NodeValue → ℕ → ℕ → NodeValue
node_at nodes part key = slice_index_or nodes (index_of part key) value.Absent

-- with this value of a key of a part
abbrev pub with_node : List NodeValue → ℕ → ℕ → NodeValue → List NodeValue
with_node nodes part key v = slice_set nodes (index_of part key) v

-- the number that a device needs, or what is wrong with the node
abbrev pub needed : NodeValue → Result ℕ NodeFault
needed value.Absent = Err fault.Missing
needed value.Bad = Err fault.Bad
needed (value.Number n) = Ok n

-- the number in a node, 0 where it holds none
abbrev pub number_in : Result ℕ NodeFault → ℕ
number_in (Ok n) = n
number_in (Err fault) = 0

abbrev pub number_at : List NodeValue → ℕ → ℕ → ℕ
number_at nodes part key = number_in (needed (node_at nodes part key))

-- a node has the value that was set last, and setting it leaves all others
abbrev pub NodesStandApart : Type 0
NodesStandApart =
    (nodes : List NodeValue) (part key other_part other_key : ℕ) (v : NodeValue)
    → length nodes ≡ 16 → part < 4 → key < 4 → other_part < 4 → other_key < 4
    → node_at (with_node nodes part key v) other_part other_key
    ≡ (if (other_part == part) && (other_key == key) then v else node_at nodes other_part other_key)
