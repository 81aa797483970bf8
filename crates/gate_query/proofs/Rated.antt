-- Which entries pay a rate, and that all pay none.
use Rattle.std.proofs.Common.{◌≡◌, ℕ, ◌+◌, ◌*◌, ◌/◌, ◌==◌, nat_lt, Bool, true, false, if◌then◌else◌, List, refl, ap, ◌∙◌, arith}
use Rattle.std.specs.Prelude.{filter, ◌&&◌}
use Rattle.std.proofs.lemmas.Bool.{le-leb}
use Rattle.std.specs.List.{list_any}
use Rattle.gate_tx.specs.Ids.{txid_of}
use Rattle.gate_graph.proofs.Filters.{filter_all, filter_same_on}
use Rattle.gate_standard.specs.Amounts.{fee_by, required_fee, rounded_down, rounded_up}
use Rattle.gate_standard.specs.declared.Feerate.{Feerate}
use Rattle.gate_standard.specs.declared.Rounding.{Rounding}
use Rattle.gate_standard.specs.declared.Rounding.TheVariants.{Down, Up}
use Rattle.gate_pool.specs.Distinct.{AreDistinct}
use Rattle.gate_pool.specs.Pool.{Admitted, has_txid, listing_of}
use Rattle.gate_pool.proofs.Adding.{found_by_id}
use Rattle.gate_rbf.proofs.Spenders.{held_by}
use Rattle.gate_query.specs.Answers.{listing_at, pays}
use Rattle.gate_query.proofs.Ids.{kept_listing}

-- the ids whose entries pass a test are those of the entries that pass it
pub passing_listed : (test : Admitted → Bool) (entries : List Admitted) → AreDistinct entries
    → filter (λ (id : List ℕ). list_any (λ (e : Admitted). has_txid e id && test e) entries) (listing_of entries) ≡ listing_of (filter test entries)
passing_listed test entries distinct =
    kept_listing (λ (id : List ℕ). list_any (λ (e : Admitted). has_txid e id && test e) entries) entries
    ∙ ap listing_of
    (filter_same_on (λ (e : Admitted). list_any (λ (x : Admitted). has_txid x (txid_of e.tx) && test x) entries) test entries
    (λ e m. held_by entries test distinct (txid_of e.tx) e (found_by_id entries distinct.txids e m)))

unless_both : (a c : Bool) (n : ℕ) → (if a && (false && c) then 1 else n) ≡ n
unless_both true c n = refl
unless_both false c n = refl

no_share : (size : ℕ) → 0 * size / 1000 ≡ 0
no_share size = omega arith

no_part : (size : ℕ) → (0 * size + 999) / 1000 ≡ 0
no_part size = omega arith

no_fee_by : (rounding : Rounding) (size : ℕ) → fee_by rounding 0 size ≡ 0
unfolding rounded_down rounded_up
no_fee_by Down size = unless_both (0 * size / 1000 == 0) (nat_lt 0 size) (0 * size / 1000) ∙ no_share size
no_fee_by Up size = no_part size

no_fee : (rate : Feerate) (size : ℕ) → rate.rate ≡ 0 → required_fee rate size ≡ 0
unfolding required_fee
no_fee rate size free = ap (λ (r : ℕ). fee_by rate.rounding r size) free ∙ no_fee_by rate.rounding size

is_free : (rate : Feerate) → rate.rate ≡ 0 → (e : Admitted) → pays rate e ≡ true
is_free rate free e = le-leb _ _ (omega (arith, no_fee rate e.vsize free))

pub all_pay_nothing : (rate : Feerate) → rate.rate ≡ 0 → (entries : List Admitted) → listing_at rate entries ≡ listing_of entries
all_pay_nothing rate free entries = ap listing_of (filter_all (pays rate) entries (λ e m. is_free rate free e))
