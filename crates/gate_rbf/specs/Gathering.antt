-- Ids that are gathered, each once.
use Rattle.std.specs.Prelude.{◌≡◌, ◌≢◌, ◌⊎◌, ℕ, Bool, not, ◌&&◌, List, Contains}
use Rattle.std.specs.List.{list_any, AllPairs}
use Rattle.gate_pool.specs.Family.{names, is_among}
use Rattle.gate_pool.specs.Pool.{Admitted}

-- ids after one was put among them, unless it was there before
pub record IsPut (before : List (List ℕ)) (txid : List ℕ) (after : List (List ℕ)) : Type 0 where
  pub once : AllPairs (λ (a : List ℕ) (b : List ℕ). a ≢ b) before → AllPairs (λ (a : List ℕ) (b : List ℕ). a ≢ b) after
  pub has : Contains after txid
  pub keeps : (a : List ℕ) → Contains before a → Contains after a
  pub only : (a : List ℕ) → Contains after a → Contains before a ⊎ (a ≡ txid)

-- no entry with one of these ids spends outputs of the transaction with this id
abbrev pub is_new : List Admitted → List (List ℕ) → List ℕ → Bool
is_new entries ids txid = not (list_any (λ (e : Admitted). names e txid && is_among ids e) entries)
