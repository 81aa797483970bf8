-- The definitions on the worked rows: one coin of 100,000 satoshi, and what spends it.
use Rattle.std.proofs.Common.{◌≡◌, ℕ, pos, true, false, List, [], ◌∷◌, Some, None, refl}
use Rattle.std.specs.Prelude.{replicate}
use Rattle.std.specs.Str.{bytes_eq}
use Rattle.gate_tx.specs.declared.Coin.{Coin}
use Rattle.gate_tx.specs.Tx.{Tx}
use Rattle.gate_tx.specs.Ids.{txid_of, wtxid_of}
use Rattle.gate_tx.specs.Sizes.{weight_of}
use Rattle.gate_rules.specs.declared.Denial.TheVariants.{MempoolConflict, MinRelayFee, PrematureSpend, VerdictMissing}
use Rattle.gate_standard.specs.Amounts.{required_fee, rounded_down}
use Rattle.gate_bytes.specs.Order.{first_failing}
use Rattle.gate_chain.specs.History.{History}
use Rattle.gate_chain.specs.Coins.{coin_of}
use Rattle.gate_submission.specs.declared.verdict.Verdict.TheVariants.{Good, Hard}
use Rattle.gate_pool.specs.Pool.{Admitted}
use Rattle.gate_admit.specs.Verdicts.{VerdictTable, verdict_of}
use Rattle.gate_admit.specs.Coins.{coins_of}
use Rattle.gate_admit.specs.Reports.{vsize_of, rules_of_verdict, verdict_rules}
use Rattle.gate_admit.specs.Policies.{usual_policy, with_full_rbf}
use Rattle.gate_admit.specs.Rules.{pool_rules, is_immature, coin_value_rules, fee_rules}

-- a script of version 0 with a key hash
abbrev to_key : List ℕ
to_key = 0 ∷ 20 ∷ replicate 20 0x22

abbrev chain : History
chain = record {
  first = 0;
  coins = record { outpoint = record { txid = replicate 32 0x11; index = 0 }; coin = record { value = pos 100000; script = to_key; height = 1; coinbase = false } } ∷ [];
  times = replicate 101 1000;
  blocks = [];
}

abbrev paying : ℕ → Tx
paying amount = record {
  version = pos 2;
  inputs = record { prevout = record { txid = replicate 32 0x11; index = 0 }; script = []; sequence = 0xffff_fffd; witness = replicate 72 0x30 ∷ replicate 33 2 ∷ [] } ∷ [];
  outputs = record { value = pos amount; script = 0 ∷ 20 ∷ replicate 20 0x22 } ∷ [];
  locktime = 0;
}

-- 110 virtual bytes, which 110 satoshi pay and 109 don't
size_of_one : vsize_of 20 0 (paying 99890) ≡ 110
unfolding weight_of
size_of_one = refl

-- a cost of 81 weighs more than its bytes
size_by_cost : vsize_of 20 81 (paying 99890) ≡ 405
unfolding weight_of
size_by_cost = refl

paid : first_failing (fee_rules usual_policy (paying 99890) 0 110 110) ≡ None
unfolding fee_rules required_fee rounded_down
paid = refl

underpaid : first_failing (fee_rules usual_policy (paying 99890) 0 109 110) ≡ Some MinRelayFee
unfolding fee_rules required_fee rounded_down
underpaid = refl

coin_found : first_failing (coin_value_rules 101 0 (coins_of chain [] (paying 99890).inputs)) ≡ None
unfolding coin_of coin_value_rules
coin_found = refl

abbrev first_entry : Admitted
first_entry = record { tx = paying 99000; fee = 1000; vsize = 110; time = 5000 }

-- a second transaction that spends the coin conflicts with an entry that says that it may be replaced
replaceable : bytes_eq (wtxid_of (paying 99000)) (wtxid_of (paying 98890)) ≡ false → bytes_eq (txid_of (paying 99000)) (txid_of (paying 98890)) ≡ false → first_failing (pool_rules usual_policy (first_entry ∷ []) (paying 98890)) ≡ None
unfolding pool_rules
replaceable h k = rw (h, k) refl

-- a final entry doesn't say so
abbrev final : Tx
final = record {
  version = pos 2;
  inputs = record { prevout = record { txid = replicate 32 0x11; index = 0 }; script = []; sequence = 0xffff_fffe; witness = replicate 72 0x30 ∷ replicate 33 2 ∷ [] } ∷ [];
  outputs = record { value = pos 99000; script = 0 ∷ 20 ∷ replicate 20 0x22 } ∷ [];
  locktime = 0;
}

abbrev firm_entry : Admitted
firm_entry = record { tx = final; fee = 1000; vsize = 110; time = 5000 }

spent_twice : bytes_eq (wtxid_of final) (wtxid_of (paying 98890)) ≡ false → bytes_eq (txid_of final) (txid_of (paying 98890)) ≡ false → first_failing (pool_rules usual_policy (firm_entry ∷ []) (paying 98890)) ≡ Some MempoolConflict
unfolding pool_rules
spent_twice h k = rw (h, k) refl

-- under full replacement it is not asked
taken : bytes_eq (wtxid_of final) (wtxid_of (paying 98890)) ≡ false → bytes_eq (txid_of final) (txid_of (paying 98890)) ≡ false → first_failing (pool_rules (with_full_rbf usual_policy true) (firm_entry ∷ []) (paying 98890)) ≡ None
unfolding pool_rules
taken h k = rw (h, k) refl

-- a coinbase's coin at height 1 is old enough for height 101, and one at height 2 isn't
abbrev coinbase_at : ℕ → Coin
coinbase_at height = record { value = pos 100000; script = to_key; height = height; coinbase = true }

mature : is_immature 101 (coinbase_at 1) ≡ false
mature = refl

immature : first_failing (coin_value_rules 101 0 (coinbase_at 2 ∷ [])) ≡ Some PrematureSpend
unfolding coin_value_rules
immature = refl

-- of two rows on an input the first counts, and an input without one has no verdict
abbrev two_rows : VerdictTable
two_rows = record {
  rows = record { wtxid = 7 ∷ []; input = 0; verdict = Good } ∷ record { wtxid = 7 ∷ []; input = 0; verdict = Hard } ∷ [];
  other = None;
}

first_row_counts : verdict_of two_rows (7 ∷ []) 0 ≡ Some Good
first_row_counts = refl

no_row : first_failing (verdict_rules two_rows (7 ∷ []) 1 (paying 99890).inputs) ≡ Some VerdictMissing
unfolding verdict_rules rules_of_verdict
no_row = refl
