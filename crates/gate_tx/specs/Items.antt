-- The items of a witness as they are kept: their texts, one behind the other, and how many they are.
use Rattle.std.specs.Prelude.{◌≡◌, ℕ, List, [], length, Result, Ok, Err}
use Rattle.std.specs.List.{flat_map, AllByRecursion}
use Rattle.gate_bytes.specs.Compact.{IsCount}
use Rattle.gate_tx.specs.declared.fault.TxFault.{TxFault}
use Rattle.gate_tx.specs.Text.{var_bytes}
use Rattle.gate_tx.specs.Reading.{var_bytes_at, many_at}

abbrev pub read_items : Result (List (List ℕ) × List ℕ) TxFault → List (List ℕ)
read_items (Ok x) = x.0
read_items (Err e) = []

-- `number` items, read from the left
unfoldable pub items_at : ℕ → List ℕ → List (List ℕ)
items_at number bytes = read_items (many_at var_bytes_at number bytes)

-- `number` items can be read from the left
abbrev pub HasItems : ℕ → List ℕ → Type 0
HasItems number bytes = (behind : List ℕ) × (many_at var_bytes_at number bytes ≡ Ok (items_at number bytes, behind))

-- the bytes are the texts of these `number` items, and each has a count that is read
pub record AreKept (items : List (List ℕ)) (number : ℕ) (bytes : List ℕ) : Type 0 where
  pub count : number ≡ length items
  pub texts : bytes ≡ flat_map var_bytes items
  pub sizes : AllByRecursion (λ item. IsCount (length item)) items
