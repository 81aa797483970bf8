-- A slot may go to another thread, since the session that it owns may.
use Rattle.std.specs.Prelude.{Option, Some, None}
use base.Shift.{Keyless}
use denote.Memory.{lone}
use denote.Param.Send.{AllSend, IsSend, owning_send, sendable, struct_send}
use denote.Param.SendFields.{as_row_send, declared_send}
use denote.RattleType.{RattleType}
use denote.RawPtr.{Ptr}
use denote.Struct.Owning.{fields, shape, to}
use denote.Struct.Struct.{exits_of}
use mir.Raw.{raw}
use Rattle.std.proofs.Crossing as heap
use Rattle.std.proofs.random_state.RandomState.TheSendSync as random
use Rattle.std.specs.Global.{Global}
use Rattle.std_alloc.proofs.SendSync.{lies, quiet}
use Rattle.std_alloc.proofs.string.String.TheSendSync as string
use Rattle.std_heap.proofs.Global.TheSendSync as handle
use Rattle.std_heap.proofs.GlobalAllocator.TheSendSync as allocator
use Rattle.gate_core.proofs.tracked.Tracked.TheSendSync as tracked
use Rattle.gate_c.proofs.answer.Answer.TheSendSync as answer
use Rattle.gate_c.specs.Slots.{slot_owns}
use Rattle.gate_c.specs.contracts.handle.slot.Slot.{the_row, the_type}
use Rattle.gate_c.specs.contracts.remembered.Remembered as Remembered
use Rattle.gate_c.specs.contracts.session.GateSession as GateSession

-- what is remembered owns nothing
remembered : (R : RattleType) → IsSend (Remembered.the_row R)
remembered R = record { owned = λ d vs. ((λ vss. (tt, ((λ uss. (tt, tt)), tt))), tt); leaving = λ k f vs. tt }

session : IsSend GateSession.the_row
session = declared_send GateSession.the_type (search (sendable, as_row_send, remembered, tracked.the_send, random.the_send, answer.the_send, string.the_send, handle.the_send, allocator.the_frees) depth 20)

owned : (alloc : Global) (at : Ptr) (s : Option GateSession.the_row.Denot) → Keyless (slot_owns alloc at s)
owned alloc at None = tt
owned alloc at (Some x) = (lies GateSession.the_row session at x, heap.frees.frees alloc (raw (lone GateSession.the_row.mir)) at)

pub send : IsSend the_row
send =
    let all : AllSend (fields the_type) = (search sendable, (handle.the_field_send, tt)) in
    owning_send the_type all (λ d. owned d.alloc d.ptr d.session)
    (λ k. quiet (to the_type) (exits_of k (fields the_type)) ((struct_send (shape the_type) all).leaving k))
