-- An event's slot with what a line asks for and its parts own what a box at the same types owns.
use mir.Syntax.{impl, tnil, dnil}
use mathlib.Core.List.{List, [], ◌∷◌}
use Rattle.std.proofs.Common.{◌≡◌, refl, sym, true≢false}
use Rattle.std.specs.Prelude.{Option, Some, None, true, false, is_some}
use Rattle.std.specs.Global.{Global}
use seplogic.Ra.Ura.{Ura}
use mir.Val.{Val}
use base.Logic.{ent, id⊢}
use types.Logic.{Logic, sem}
use denote.RawPtr.{Ptr}
use denote.Signature.{Slot, plain}
use Rattle.std_alloc.proofs.BoxSteps.Form.{Bx, X, B}
use Rattle.std_heap.specs.contracts.Global as Heap
use Rattle.std_heap.specs.contracts.GlobalAllocator.TheImpl.{ghosts, dict}
use Rattle.std_heap.proofs.Global.TheLaws as heap
use Rattle.gate_c.specs.contracts.reading.Reading as Reading
use Rattle.gate_c.proofs.reading.Reading.TheLaws as reading
use Rattle.gate_c.specs.contracts.handle.parts.BoxParts as BoxParts
use Rattle.gate_c.specs.contracts.handle.event_slot.EventSlot as Sealed

abbrev pub E : Bx
E = record { row = Reading.the_row; laws = reading.the_row_laws; al = record { row = Heap.the_row; laws = heap.the_row_laws; g = ghosts; d = dict; drops = impl [] tnil dnil } }

abbrev pub FromParts : Slot 0
FromParts = plain (λ _. BoxParts.the_row Reading.the_row Heap.the_row ghosts)

abbrev pub FromSlot : Slot 0
FromSlot = plain (λ _. Sealed.the_row)

never : false ≡ true → ⊥
never e = true≢false (sym e)

-- a slot that isn't empty owns what the box of it does
pub as_box : {M : Type 1} {𝓤 : Ura M} (𝓛 : Logic 𝓤) (p : Ptr) (a : Global) (s : Option (X E)) (vs : List Val) → is_some s ≡ true
    → (x : X E) × (s ≡ Some x) × ent 𝓤 (sem 𝓛 ((Sealed.the_row).own_val (record { ptr = p; alloc = a; reading = s }) vs)) (sem 𝓛 ((B E).own_val (record { ptr = p; alloc = a; value = x }) vs))
as_box {𝓤 = 𝓤} 𝓛 p a (Some x) vs full = (x, refl, id⊢ 𝓤 _)
as_box 𝓛 p a None vs full = absurd (never full)
