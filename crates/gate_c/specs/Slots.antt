-- What a slot owns: nothing if it is empty, and otherwise the block with its session.
use Rattle.std.specs.Prelude.{Option, Some, None}
use base.Fml.{Fml, ftrue}
use base.Stored.{Coded}
use denote.RawPtr.{Ptr}
use Rattle.std.specs.Box.Ownership.{box_owns}
use Rattle.std.specs.Global.{Global}
use Rattle.std.specs.contracts.option.Option as option
use Rattle.std_heap.specs.contracts.GlobalAllocator.TheImpl.{ghosts}
use Rattle.gate_c.specs.contracts.session.GateSession.{the_row}

abbrev pub slot_owns : Global → Ptr → Option the_row.Denot → Fml
slot_owns alloc at None = ftrue
slot_owns alloc at (Some session) = box_owns (ghosts.dealloc_token alloc) the_row at session

abbrev pub session_coded : Coded (Option the_row.Denot)
session_coded = (option.the_row the_row).coded
