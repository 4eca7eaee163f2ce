-- What a sink into a list of octets stands for.
use Rattle.std.specs.Prelude.{ℕ, List}
use Rattle.pv_ports.specs.declared.list_sink.ListSink.{ListSink}

-- the octets that it has got
abbrev pub sink_bytes : ListSink → List ℕ
sink_bytes sink = sink.bytes.items

-- how many more octets it takes before room has to be made again
abbrev pub sink_room : ListSink → ℕ
sink_room sink = sink.room

-- the numbers of the calls that fail, the first call being 0
abbrev pub sink_fails : ListSink → List ℕ
sink_fails sink = sink.plan.fails.items

-- how many calls there were, which is the number of the next one
abbrev pub sink_calls : ListSink → ℕ
sink_calls sink = sink.plan.calls

-- how many calls failed
abbrev pub sink_faults : ListSink → ℕ
sink_faults sink = sink.plan.faults
