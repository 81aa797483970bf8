-- What faults of lower crates are called of a PSBT, and what a call that answers a fault claims of the bytes.
use Rattle.std.specs.Prelude.{◌≡◌, ℕ, List, Result, Ok, Err}
use Rattle.gate_bytes.specs.declared.fault.ByteFault.{ByteFault}
use Rattle.gate_bytes.specs.declared.fault.ByteFault.TheVariants as byte_faults
use Rattle.gate_tx.specs.declared.fault.TxFault.{TxFault}
use Rattle.gate_tx.specs.declared.fault.TxFault.TheVariants as tx_faults
use Rattle.gate_psbt.specs.declared.fault.PartFault.{PartFault}
use Rattle.gate_psbt.specs.declared.fault.PartFault.TheVariants as faults
use Rattle.gate_psbt.specs.declared.fault.Place.{Place}
use Rattle.gate_psbt.specs.declared.fault.PsbtFault.{PsbtFault}
use Rattle.gate_psbt.specs.declared.fault.PsbtFault.TheVariants as whole

abbrev pub byte_part : ByteFault → PartFault
byte_part byte_faults.Short = faults.Short
byte_part byte_faults.NotCanonical = faults.NotCanonical
byte_part byte_faults.TooLarge = faults.TooLarge

abbrev pub tx_part : TxFault → PartFault
tx_part tx_faults.Memory = faults.Memory
tx_part fault = faults.Transaction fault

abbrev pub fault_at : Place → PartFault → PsbtFault
fault_at place faults.Memory = whole.Memory
fault_at place fault = whole.At place fault

infixl 10 ◌>>=◌
abbrev pub ◌>>=◌ : {A B E : Type 0} → Result A E → (A → Result B E) → Result B E
(Ok x) >>= f = f x
(Err e) >>= f = Err e

-- the same with the faults of bytes, of transactions and of a part as those of what they are in
abbrev pub of_bytes : {A : Type 0} → Result A ByteFault → Result A PartFault
of_bytes (Ok x) = Ok x
of_bytes (Err e) = Err (byte_part e)

abbrev pub of_tx : {A : Type 0} → Result A TxFault → Result A PartFault
of_tx (Ok x) = Ok x
of_tx (Err e) = Err (tx_part e)

abbrev pub placed : {A : Type 0} → Place → Result A PartFault → Result A PsbtFault
placed place (Ok x) = Ok x
placed place (Err e) = Err (fault_at place e)

-- nothing is claimed if memory runs out; any other fault is that of the bytes
abbrev pub Fails : {Y : Type 0} → PartFault → Result Y PartFault → Type 0
Fails faults.Memory read = Unit {0}
Fails e read = read ≡ Err e

abbrev pub FailsWhole : {Y : Type 0} → PsbtFault → Result Y PsbtFault → Type 0
FailsWhole whole.Memory read = Unit {0}
FailsWhole e read = read ≡ Err e

-- what a call made of bytes
abbrev pub GivesBy : {X Y : Type 0} → (X → Y) → Result X PartFault → Result Y PartFault → Type 0
GivesBy view (Ok x) read = read ≡ Ok (view x)
GivesBy view (Err e) read = Fails e read

abbrev pub Gives : {X : Type 0} → Result X PartFault → Result X PartFault → Type 0
Gives (Ok x) read = read ≡ Ok x
Gives (Err e) read = Fails e read

abbrev pub GivesWhole : {X : Type 0} → Result X PsbtFault → Result X PsbtFault → Type 0
GivesWhole (Ok x) read = read ≡ Ok x
GivesWhole (Err e) read = FailsWhole e read

-- what a call read from a cursor's bytes, and the bytes that it left there
abbrev pub TakesBy : {X Y : Type 0} → (X → Y) → Result X PartFault → List ℕ → Result (Y × List ℕ) PartFault → Type 0
TakesBy view (Ok x) rest read = read ≡ Ok (view x, rest)
TakesBy view (Err e) rest read = Fails e read

abbrev pub TakesWholeBy : {X Y : Type 0} → (X → Y) → Result X PsbtFault → List ℕ → Result (Y × List ℕ) PsbtFault → Type 0
TakesWholeBy view (Ok x) rest read = read ≡ Ok (view x, rest)
TakesWholeBy view (Err e) rest read = FailsWhole e read
