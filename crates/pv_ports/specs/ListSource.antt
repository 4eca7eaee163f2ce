-- What a source of a list of octets stands for.
use Rattle.std.specs.Prelude.{ℕ, List, drop}
use Rattle.pv_ports.specs.declared.list_source.ListSource.{ListSource}

-- the octets that are still to be read
abbrev pub source_rest : ListSource → List ℕ
source_rest source = drop source.at source.bytes.items

-- the numbers of the calls that fail, the first call being 0
abbrev pub source_fails : ListSource → List ℕ
source_fails source = source.plan.fails.items

-- how many calls there were, which is the number of the next one
abbrev pub source_calls : ListSource → ℕ
source_calls source = source.plan.calls

-- how many calls failed
abbrev pub source_faults : ListSource → ℕ
source_faults source = source.plan.faults
