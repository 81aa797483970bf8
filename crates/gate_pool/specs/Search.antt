-- Ids that a search of entries has found.
use Rattle.std.specs.Prelude.{◌≡◌, ◌≢◌, ℕ, ◌<◌, ◌≤◌, Bool, true, false, List, ◌++◌, map, length, Contains}
use Rattle.std.specs.List.{AllPairs}
use Rattle.gate_tx.specs.declared.TxIn.{TxIn}
use Rattle.gate_tx.specs.Ids.{txid_of}
use Rattle.gate_pool.specs.Pool.{Admitted, listing_of}
use Rattle.gate_pool.specs.Family.{names}

-- the ids of the transactions whose outputs the inputs spend, one for each input
abbrev pub parents_of : List TxIn → List (List ℕ)
parents_of inputs = map (λ (i : TxIn). i.prevout.txid) inputs

-- an entry has this id
abbrev pub IsEntry : List Admitted → List ℕ → Type 0
IsEntry entries txid = (e : Admitted) × Contains entries e × (txid_of e.tx ≡ txid)

-- an id is that of an entry that spends an output of the transaction `parent`
abbrev pub IsChild : List Admitted → List ℕ → List ℕ → Type 0
IsChild entries parent txid = (e : Admitted) × Contains entries e × (names e parent ≡ true) × (txid_of e.tx ≡ txid)

-- the ids are entries', each once
pub record AreEntries (entries : List Admitted) (txids : List (List ℕ)) : Type 0 where
  pub once : AllPairs (λ (a : List ℕ) (b : List ℕ). a ≢ b) txids
  pub only : (txid : List ℕ) → Contains txids txid → IsEntry entries txid

-- ids were added to those found before, each once: of `txids` those of entries, all of them if still no more than `most` are
-- found
pub record IsFound (most : ℕ) (entries : List Admitted) (txids before after : List (List ℕ)) (within : Bool) : Type 0 where
  pub more : List (List ℕ)
  pub is : after ≡ before ++ more
  pub once : AllPairs (λ (a : List ℕ) (b : List ℕ). a ≢ b) before → AllPairs (λ (a : List ℕ) (b : List ℕ). a ≢ b) after
  pub only : (txid : List ℕ) → Contains more txid → Contains txids txid × IsEntry entries txid
  pub all : within ≡ true → (txid : List ℕ) → Contains txids txid → IsEntry entries txid → Contains after txid
  pub few : within ≡ true → length before ≤ most → length after ≤ most
  pub many : within ≡ false → most < length after

-- these entries stand beside the ids that were found
pub record AreLent (entries : List Admitted) (found : List (List ℕ)) (lent : List Admitted) : Type 0 where
  pub listed : found ≡ listing_of lent
  pub only : (e : Admitted) → Contains lent e → Contains entries e
