-- What an entry is worth: its feerate or that of its descendants, whichever is greater, as an exact fraction.
use Rattle.std.specs.Prelude.{◌*◌, ◌^◌, ◌<◌, ◌≤◌, List, Option}
use Rattle.std.specs.Option.{option_map}
use Rattle.gate_tx.specs.Ids.{txid_of}
use Rattle.gate_tx.specs.Money.{max_money}
use Rattle.gate_ranking.specs.Lesser.{least_by}
use Rattle.gate_ranking.specs.Rate.{Fraction, rate_cmp}
use Rattle.gate_graph.specs.Ranks.{rate_with}
use Rattle.gate_graph.specs.declared.held.Sums.{Sums}
use Rattle.gate_pool.specs.Pool.{Admitted}
use Rattle.gate_pool.specs.Family.{descendants_of, sums_of}
use Rattle.gate_pool.specs.declared.scores.Score.{Score}

-- what an entry is ranked by: its own fee over its size, or the fees over the sizes of its descendants, itself among them, if
-- that is more; rates compare by cross products
abbrev pub rate_of : List Admitted → Admitted → Fraction
rate_of entries e = rate_with e.fee e.vsize (sums_of (descendants_of entries (txid_of e.tx)))

-- the entry that ranks least, of equal ones the last
abbrev pub least_entry : List Admitted → Option Admitted
least_entry entries = least_by rate_cmp (rate_of entries) entries

-- an entry's score, if its descendants, itself among them, have these sums: what it is ranked by, and the sums
abbrev pub score_from : Admitted → Sums → Score
score_from e family = record {
  txid = txid_of e.tx;
  fees = (rate_with e.fee e.vsize family).fees;
  size = (rate_with e.fee e.vsize family).size;
  family = family;
}

unfoldable pub score_of : List Admitted → Admitted → Score
score_of entries e = score_from e (sums_of (descendants_of entries (txid_of e.tx)))

-- the score of the entry that ranks least
abbrev pub least_of : List Admitted → Option Score
least_of entries = option_map (score_of entries) (least_entry entries)

-- the bounds of the sums of some entries: fees in satoshi, sizes in virtual bytes
pub record AreBounded (sums : Sums) : Type 0 where
  pub least : 1 ≤ sums.size
  pub fees : sums.fees < 2 ^ 115
  pub rate : sums.fees ≤ max_money * sums.size
