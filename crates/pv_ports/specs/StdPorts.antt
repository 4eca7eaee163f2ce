-- What the ports over std's readers and writers hold, and what they count.
use Rattle.std.specs.Prelude.{ℕ}
use Rattle.pv_ports.specs.declared.std_ports.StdSource.{StdSource}
use Rattle.pv_ports.specs.declared.std_ports.StdSink.{StdSink}

-- the reader
abbrev pub inner_reader : {R : Type 0} → StdSource R → R
inner_reader source = source.reader

-- how many reads failed
abbrev pub reader_faults : {R : Type 0} → StdSource R → ℕ
reader_faults source = source.faults

-- the writer
abbrev pub inner_writer : {W : Type 0} → StdSink W → W
inner_writer sink = sink.writer

-- how many writes failed
abbrev pub writer_faults : {W : Type 0} → StdSink W → ℕ
writer_faults sink = sink.faults
