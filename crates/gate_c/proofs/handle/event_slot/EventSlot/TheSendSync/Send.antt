-- An event's slot may go to another thread, since what the line asks for may.
use Rattle.std.specs.Prelude.{Option, Some, None}
use base.Shift.{Keyless}
use denote.Memory.{lone}
use denote.Param.Send.{AllSend, IsSend, owning_send, sendable, struct_send}
use denote.RawPtr.{Ptr}
use denote.Struct.Owning.{fields, shape, to}
use denote.Struct.Struct.{exits_of}
use mir.Raw.{raw}
use Rattle.std.proofs.Crossing as heap
use Rattle.std.specs.Global.{Global}
use Rattle.std_alloc.proofs.SendSync.{lies, quiet}
use Rattle.std_heap.proofs.Global.TheSendSync as handle
use Rattle.gate_c.proofs.reading.Reading.TheSendSync as reading
use Rattle.gate_c.specs.EventSlots.{event_owns}
use Rattle.gate_c.specs.contracts.handle.event_slot.EventSlot.{the_row, the_type}
use Rattle.gate_c.specs.contracts.reading.Reading as Reading

owned : (alloc : Global) (at : Ptr) (s : Option Reading.the_row.Denot) → Keyless (event_owns alloc at s)
owned alloc at None = tt
owned alloc at (Some x) = (lies Reading.the_row reading.the_send at x, heap.frees.frees alloc (raw (lone Reading.the_row.mir)) at)

pub send : IsSend the_row
send =
    let all : AllSend (fields the_type) = (search sendable, (handle.the_field_send, tt)) in
    owning_send the_type all (λ d. owned d.alloc d.ptr d.reading)
    (λ k. quiet (to the_type) (exits_of k (fields the_type)) ((struct_send (shape the_type) all).leaving k))
