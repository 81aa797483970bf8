-- What an event's slot owns: nothing if it is empty, and otherwise the block with what the line asks for.
use Rattle.std.specs.Prelude.{Option, Some, None}
use base.Fml.{Fml, ftrue}
use base.Stored.{Coded}
use denote.RawPtr.{Ptr}
use Rattle.std.specs.Box.Ownership.{box_owns}
use Rattle.std.specs.Global.{Global}
use Rattle.std.specs.contracts.option.Option as option
use Rattle.std_heap.specs.contracts.GlobalAllocator.TheImpl.{ghosts}
use Rattle.gate_c.specs.contracts.reading.Reading.{the_row}

abbrev pub event_owns : Global → Ptr → Option the_row.Denot → Fml
event_owns alloc at None = ftrue
event_owns alloc at (Some reading) = box_owns (ghosts.dealloc_token alloc) the_row at reading

abbrev pub reading_coded : Coded (Option the_row.Denot)
reading_coded = (option.the_row the_row).coded
