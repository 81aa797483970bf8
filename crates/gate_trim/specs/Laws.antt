-- Laws of expiry and trimming.
use Rattle.std.specs.Prelude.{◌≡◌, ℕ, ◌+◌, ◌<◌, ◌≤◌, max, Bool, true, false, List, ◌∷◌, ◌++◌, Contains}
use Rattle.std.specs.Ordering.{is_lt}
use Rattle.gate_tx.specs.Ids.{txid_of}
use Rattle.gate_ranking.specs.Rate.{rate_cmp}
use Rattle.gate_graph.specs.Family.{Leads}
use Rattle.gate_standard.specs.Amounts.{feerate}
use Rattle.gate_pool.specs.Pool.{Admitted, size_of}
use Rattle.gate_pool.specs.Family.{steps, descendants_of, without_family, fees_of}
use Rattle.gate_pool.specs.Scores.{rate_of}
use Rattle.gate_trim.specs.Expiry.{expired}
use Rattle.gate_trim.specs.Trimming.{Trimmed, trim_of}

-- an entry has a lesser score than another: what it is ranked by is less, by cross products
abbrev pub is_below : List Admitted → Admitted → Admitted → Bool
is_below entries a b = is_lt (rate_cmp (rate_of entries a) (rate_of entries b))

-- no entry has a lesser score than this one, and none that was admitted later has the same
pub record IsLeast (entries : List Admitted) (e : Admitted) : Type 0 where
  pub before : List Admitted
  pub after : List Admitted
  pub is : entries ≡ before ++ e ∷ after
  pub earlier : (d : Admitted) → Contains before d → is_below entries d e ≡ false
  pub later : (d : Admitted) → Contains after d → is_below entries e d ≡ true

-- the floor after an entry was taken out with its descendants: at least a step above their feerate
abbrev pub floor_above : ℕ → List Admitted → Admitted → ℕ → ℕ
floor_above step entries e floor =
    let family = descendants_of entries (txid_of e.tx) in
    max floor (feerate (fees_of family) (size_of family) + step)

-- entries that are within the budget stay as they are; else the one of least score is taken out, with its descendants and
-- nothing else, and so on with the rest
pub data Trims (step budget : ℕ) : List Admitted → ℕ → Trimmed → Type 0 where
  within : {entries : List Admitted} {floor : ℕ} → size_of entries ≤ budget → Trims step budget entries floor (record { entries = entries; floor = floor })
  goes : {entries : List Admitted} {floor : ℕ} {rest : Trimmed} (e : Admitted) → budget < size_of entries → IsLeast entries e
      → Trims step budget (without_family entries (txid_of e.tx)) (floor_above step entries e floor) rest → Trims step budget entries floor rest

-- trimming takes out the entry of least score each time
abbrev pub TrimsTheLeast : Type 0
TrimsTheLeast = (step budget : ℕ) (entries : List Admitted) (floor : ℕ) → Trims step budget entries floor (trim_of step budget entries floor)

-- trimming leaves no more than the budget
abbrev pub KeepsTheBudget : Type 0
KeepsTheBudget = (step budget : ℕ) (entries : List Admitted) (floor : ℕ) → size_of (trim_of step budget entries floor).entries ≤ budget

-- trimming never lowers the floor
abbrev pub RaisesTheFloor : Type 0
RaisesTheFloor = (step budget : ℕ) (entries : List Admitted) (floor : ℕ) → floor ≤ (trim_of step budget entries floor).floor

-- an entry was admitted no longer ago than it may stay
abbrev pub IsYoung : ℕ → ℕ → Admitted → Type 0
IsYoung stay now e = now ≤ e.time + stay

-- after expiry each entry is young, and so are all from which a chain of steps leads to it; each entry of which this holds
-- stays
pub record LeavesTheYoung : Type 0 where
  pub left : (stay now : ℕ) (entries : List Admitted) (e : Admitted) → Contains (expired stay now entries) e → IsYoung stay now e
  pub above : (stay now : ℕ) (entries : List Admitted) (e : Admitted) → Contains (expired stay now entries) e
      → (a : Admitted) → Contains entries a → Leads (steps entries) (txid_of a.tx) (txid_of e.tx) → IsYoung stay now a
  pub stays : (stay now : ℕ) (entries : List Admitted) (e : Admitted) → Contains entries e
      → ((a : Admitted) → Contains entries a → Leads (steps entries) (txid_of a.tx) (txid_of e.tx) → IsYoung stay now a) → Contains (expired stay now entries) e
