-- No connected block has a member of a package that enters: where none has a member, or where transactions are told apart by their ids.
use Rattle.std.proofs.Common.{◌≡◌, ℕ, true, false, List, ◌∷◌, Option, Some, None, refl, sym, subst, ⊎_elim}
use Rattle.std.specs.Prelude.{◌+◌, Contains, IsSome, find, is_none, is_some, option_and_then, slice_get}
use Rattle.std.specs.List.{All}
use Rattle.std.specs.Str.{bytes_eq}
use Rattle.std.specs.Cmp.Lexicographic.{bytes_decides}
use Rattle.std.proofs.lemmas.Bool.{true≢false}
use Rattle.std.proofs.lemmas.List.Elements.{All-contains}
use Rattle.gate_tx.specs.declared.OutPoint.{OutPoint}
use Rattle.gate_tx.specs.declared.TxIn.{TxIn}
use Rattle.gate_tx.specs.Ids.{txid_of}
use Rattle.gate_tx.specs.Text.{IsTx}
use Rattle.gate_tx.specs.Tx.{Tx}
use Rattle.gate_chain.specs.Coins.{coin_made, is_known_txid}
use Rattle.gate_chain.specs.History.{History}
use Rattle.gate_chain.specs.Times.{tip_of}
use Rattle.gate_pool.specs.Pool.{Admitted}
use Rattle.gate_pool.proofs.Entries.{find_some}
use Rattle.gate_admit.specs.Coins.{view_coin}
use Rattle.gate_admit.specs.Good.{AreApart, IsSettled, IsUnconnected, connected_transactions}
use Rattle.gate_admit.specs.Standing.{Standing}
use Rattle.gate_admit.proofs.Coining.{some_either}
use Rattle.gate_admit.proofs.Entering.{stays_if_apart, stays_if_unconnected}
use Rattle.gate_admit.proofs.Granted.{some_from_not_none}
use Rattle.gate_admit.proofs.Lists.{none_pass}
use Rattle.gate_admit.proofs.Unconnected.{unconnected_by, unknown_if_gone}
use Rattle.gate_package.specs.Coins.{coin_rules_beside, made_by, view_beside}
use Rattle.gate_package.proofs.Joining.{ComesNew}
use Rattle.gate_package.proofs.Belonging.{Half}
use Rattle.gate_package.proofs.Membership.{StaysNew, among}

-- a member stays out of connected blocks by itself, and behind others where no entry is known to the chain
pub record IsNew (over : Standing) (tx : Tx) : Type 0 where
  pub alone : StaysNew over tx
  pub behind : (entries : List Admitted) → All (λ (e : Admitted). is_known_txid over.chain (txid_of e.tx) ≡ false) entries → ComesNew (among over entries) tx

pub new_if_unconnected : (over : Standing) (tx : Tx) → IsUnconnected over.chain (Some tx) → IsNew over tx
new_if_unconnected over tx h = record {
  alone = λ entries. stays_if_unconnected (among over entries) (Some tx) h;
  behind = λ entries fresh before known p. h;
}

-- the coin of an input is an entry's, or one before it makes it
has_coin : (before : List Tx) (over : Standing) (tx : Tx) (i : TxIn) → Contains tx.inputs i → Half before over tx → IsSome (view_beside over.chain before over.entries i.prevout)
unfolding coin_rules_beside
has_coin before over tx i c p =
    some_from_not_none (view_beside over.chain before over.entries i.prevout)
    (All-contains (λ (j : TxIn). is_none (view_beside over.chain before over.entries j.prevout) ≡ false) tx.inputs i
    (none_pass (λ (j : TxIn). is_none (view_beside over.chain before over.entries j.prevout)) tx.inputs p.coin.1.0) c)

-- the chain doesn't know what made it
unknown_maker : (chain : History) (height : ℕ) (before : List Tx) (p : OutPoint) → ((t : Tx) → Contains before t → is_known_txid chain (txid_of t) ≡ false) → IsSome (made_by height before p) → is_known_txid chain p.txid ≡ false
unknown_maker chain height before p known h = by (find (λ (t : Tx). bytes_eq (txid_of t) p.txid) before) refl h
  where
    by : (found : Option Tx) → find (λ (t : Tx). bytes_eq (txid_of t) p.txid) before ≡ found
        → is_some (option_and_then (λ (t : Tx). option_and_then (coin_made height false) (slice_get t.outputs p.index)) found) ≡ true → is_known_txid chain p.txid ≡ false
    by None is s = absurd (true≢false (sym s))
    by (Some t) is s =
        let w = find_some (λ (x : Tx). bytes_eq (txid_of x) p.txid) before t is in
        subst (λ (z : List ℕ). is_known_txid chain z ≡ false) ((bytes_decides (txid_of t) p.txid).0 w.1) (known t w.0)

pub new_if_apart : (over : Standing) (tx : Tx) → IsSettled over.chain → IsTx tx → AreApart (tx ∷ connected_transactions over.chain) → IsNew over tx
new_if_apart over tx settled is_tx apart = record {
  alone = λ entries. stays_if_apart (among over entries) (Some tx) settled is_tx apart;
  behind = λ entries fresh before known p.
      unconnected_by over.policy.standards over.chain tx settled is_tx apart p.alone
      (λ i c gone. ⊎_elim (unknown_maker over.chain (tip_of over.chain + 1) before i.prevout known)
      (λ (has : is_some (view_coin over.chain entries i.prevout) ≡ true). unknown_if_gone over.chain entries i.prevout fresh has gone)
      (some_either (made_by (tip_of over.chain + 1) before i.prevout) (view_coin over.chain entries i.prevout) (has_coin before (among over entries) tx i c p)));
}
