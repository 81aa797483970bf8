-- What a package is before its members are judged: A1, and J1 to J7 (Bitcoin Core 28.0 to 30.0; a package of one has no parents to
-- ask for).
use Rattle.std.specs.Prelude.{ℕ, ◌==◌, nat_lt, Bool, true, false, not, ◌&&◌, ◌||◌, List, [], ◌∷◌, length, sum_by, is_none, Option}
use Rattle.std.specs.List.{list_any, list_all, flat_map}
use Rattle.std.specs.Option.{option_map_or, option_to_list}
use Rattle.std.specs.Str.{bytes_eq}
use Rattle.gate_bytes.specs.Order.{Rule}
use Rattle.gate_tx.specs.declared.TxIn.{TxIn}
use Rattle.gate_tx.specs.declared.TxOut.{TxOut}
use Rattle.gate_tx.specs.Coins.{is_unspendable, spends}
use Rattle.gate_tx.specs.Ids.{txid_of, wtxid_of}
use Rattle.gate_tx.specs.Money.{amount_or_zero}
use Rattle.gate_tx.specs.Sizes.{weight_of}
use Rattle.gate_tx.specs.Tx.{Tx}
use Rattle.gate_script.specs.Instructions.{Instruction, Push, Truncated, Plain, instructions}
use Rattle.gate_chain.specs.History.{History}
use Rattle.gate_chain.specs.Coins.{coin_of}
use Rattle.gate_rules.specs.declared.PackageDenial.{PackageDenial}
use Rattle.gate_rules.specs.declared.PackageDenial.TheVariants.{BurntAmount, NotChildWithParents, TooLarge, Duplicates, NotSorted, Conflicting, LacksParents}
use Rattle.gate_admit.specs.Policies.{Policy}
use Rattle.gate_package.specs.declared.shape.Unfit.{Unfit}
use Rattle.gate_package.specs.declared.shape.Unfit.TheVariants.{Undecodable, Denied}

-- the transactions of a package
abbrev pub members_of : List (Option Tx) → List Tx
members_of submissions = flat_map option_to_list submissions

-- ---- A1 and J1

-- an instruction that can't be run: a push past the end, one of more than 520 bytes, or an opcode that there is not
abbrev pub is_invalid : Instruction → Bool
is_invalid (Push opcode bytes) = nat_lt 520 (length bytes)
is_invalid (Truncated opcode) = true
is_invalid (Plain opcode) = nat_lt 0xb9 opcode

-- what is paid to this script is burnt: no script can spend it
abbrev pub is_burnt : List ℕ → Bool
is_burnt script = is_unspendable script || list_any is_invalid (instructions script)

-- an output burns more than this, in satoshi
abbrev pub burns : ℕ → TxOut → Bool
burns max_burn o = nat_lt max_burn (amount_or_zero o.value) && is_burnt o.script

abbrev pub burns_in : ℕ → Option Tx → Bool
burns_in max_burn submission = option_map_or (λ (tx : Tx). list_any (burns max_burn) tx.outputs) submission false

-- each text in turn is a transaction, and burns no more than this
unfoldable pub text_rules : ℕ → List (Option Tx) → List (Rule Unfit)
text_rules max_burn [] = []
text_rules max_burn (submission ∷ others) = (Undecodable, is_none submission) ∷ (Denied BurntAmount, burns_in max_burn submission) ∷ text_rules max_burn others

-- ---- J2 to J7

-- the members before the last, and the inputs of the last
abbrev pub parents_of : List Tx → List Tx
parents_of [] = []
parents_of (tx ∷ []) = []
parents_of (tx ∷ next ∷ others) = tx ∷ parents_of (next ∷ others)

abbrev pub child_inputs : List Tx → List TxIn
child_inputs [] = []
child_inputs (tx ∷ []) = tx.inputs
child_inputs (tx ∷ next ∷ others) = child_inputs (next ∷ others)

-- an input spends an output of a transaction
abbrev pub names_one : List TxIn → Tx → Bool
names_one inputs tx = list_any (λ (i : TxIn). bytes_eq i.prevout.txid (txid_of tx)) inputs

-- a member before the last is a parent of the last, and of no other before the last
abbrev pub is_parent : List Tx → List TxIn → Tx → Bool
is_parent parents child tx = names_one child tx && not (list_any (names_one tx.inputs) parents)

abbrev pub is_child_with_parents : List Tx → Bool
is_child_with_parents txs = list_all (is_parent (parents_of txs) (child_inputs txs)) (parents_of txs)

abbrev pub are_several : List Tx → Bool
are_several txs = nat_lt 1 (length txs)

abbrev pub weight_of_all : List Tx → ℕ
weight_of_all txs = sum_by weight_of txs

-- another transaction has the txid of one, or its wtxid, which it has with the txid unless two texts have one hash
abbrev pub has_same_id : Tx → Tx → Bool
has_same_id tx other = bytes_eq (txid_of other) (txid_of tx) || bytes_eq (wtxid_of other) (wtxid_of tx)

abbrev pub has_duplicates : List Tx → Bool
has_duplicates [] = false
has_duplicates (tx ∷ txs) = list_any (has_same_id tx) txs || has_duplicates txs

-- one of these inputs spends what another input spends
abbrev pub is_spent_by : List TxIn → TxIn → Bool
is_spent_by inputs other = spends inputs other.prevout

-- a transaction spends what one of these inputs spends
abbrev pub shares_input : List TxIn → Tx → Bool
shares_input inputs other = list_any (is_spent_by inputs) other.inputs

abbrev pub has_conflict : List Tx → Bool
has_conflict [] = false
has_conflict (tx ∷ txs) = (length tx.inputs == 0) || (list_any (shares_input tx.inputs) txs || has_conflict txs)

-- an input of one names the txid of that one, or of one behind it
abbrev pub is_unsorted : List Tx → Bool
is_unsorted [] = false
is_unsorted (tx ∷ txs) = (names_one tx.inputs tx || list_any (names_one tx.inputs) txs) || is_unsorted txs

-- an input is neither of one of these nor a coin of the chain
abbrev pub lacks_parent : History → List Tx → TxIn → Bool
lacks_parent chain parents input = is_none (coin_of chain input.prevout) && not (list_any (λ (p : Tx). bytes_eq (txid_of p) input.prevout.txid) parents)

abbrev pub lacks_parents : History → List Tx → List TxIn → Bool
lacks_parents chain parents child = list_any (lacks_parent chain parents) child

-- the rules on the members of a package, each of which is a transaction
unfoldable pub shape_rules : History → Policy → List Tx → List (Rule PackageDenial)
shape_rules chain policy txs =
    (NotChildWithParents, not (is_child_with_parents txs))
    ∷ (TooLarge, are_several txs && nat_lt 404_000 (weight_of_all txs))
    ∷ (Duplicates, has_duplicates txs)
    ∷ (Conflicting, has_conflict txs)
    ∷ (LacksParents, policy.all_parents && (are_several txs && lacks_parents chain (parents_of txs) (child_inputs txs)))
    ∷ []

-- J3 to J6 of several transactions that are tested as one package, which needn't be a child with its parents
unfoldable pub list_rules : List Tx → List (Rule PackageDenial)
list_rules txs =
    (TooLarge, are_several txs && nat_lt 404_000 (weight_of_all txs))
    ∷ (Duplicates, has_duplicates txs)
    ∷ (NotSorted, is_unsorted txs)
    ∷ (Conflicting, has_conflict txs)
    ∷ []
