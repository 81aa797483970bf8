-- What stands at the front of bytes.
use Rattle.std.proofs.Common.{◌≡◌, ℕ, ◌+◌, ◌-◌, ◌≤◌, List, ◌++◌, length, drop, refl, ap, ◌∙◌, arith}
use Rattle.std.proofs.lemmas.Bool.{le-ltb}
use Rattle.std.proofs.lemmas.List.{drop_at, length-append}
use Rattle.gate_bytes.specs.Reading.{IsBytes}
use Rattle.gate_tx.specs.Tx.{Tx}
use Rattle.gate_tx.specs.Text.{text, longest, IsTx, IsTransaction}
use Rattle.gate_tx.specs.Reading.{front_of, taken, tx_at}
use Rattle.gate_tx.proofs.Whole.{tx_takes}
use Rattle.gate_tx.proofs.Again.{tx_again}

pub front_is : (bytes : List ℕ) → length bytes ≤ longest → front_of bytes ≡ tx_at bytes
unfolding front_of
front_is bytes few = rw (le-ltb longest (length bytes) few) refl

pub front_again : (bytes : List ℕ) (t : Tx) (rest : List ℕ) → IsTx t → bytes ≡ text t ++ rest → tx_at bytes ≡ taken t rest
front_again bytes t rest is e = ap tx_at e ∙ tx_again t rest is

-- what was read, of so many bytes
module _ (bytes : List ℕ) (t : Tx) (rest : List ℕ) (fits : IsBytes bytes) (few : length bytes ≤ longest) (read : tx_at bytes ≡ taken t rest) where
  pub parts : bytes ≡ text t ++ rest
  parts = (tx_takes bytes (t, rest) fits read).0.parts

  len : length bytes ≡ length (text t) + length rest
  len = ap length parts ∙ length-append (text t) rest

  pub is_transaction : IsTransaction t
  is_transaction = record { is_tx = (tx_takes bytes (t, rest) fits read).1; size = let n = len in omega arith }

  pub shorter : length rest ≤ length bytes
  shorter = let n = len in omega arith

  pub behind : drop (length bytes - length rest) bytes ≡ rest
  behind = let n = len in ap (drop (length bytes - length rest)) parts ∙ drop_at (text t) rest (length bytes - length rest) (omega arith)
