-- What a pool keeps beside its entries.
use Rattle.std.specs.Prelude.{◌≡◌, ℕ, ◌+◌, ◌≤◌, None, List, Option, length, map, Contains, IfSome}
use Rattle.std.specs.Option.{option_map}
use Rattle.gate_tx.specs.declared.TxIn.{TxIn}
use Rattle.gate_tx.specs.declared.OutPoint.{OutPoint}
use Rattle.gate_tx.specs.Ids.{txid_of, wtxid_of}
use Rattle.gate_graph.specs.Family.{Node}
use Rattle.gate_pool.specs.Pool.{Admitted, IsBounded, entry_by_txid, entry_by_wtxid, spender_of}
use Rattle.gate_pool.specs.Family.{node_of}
use Rattle.gate_pool.specs.Distinct.{AreDistinct}
use Rattle.gate_pool.specs.Arrivals.{Arrived, HaveArrived}
use Rattle.gate_pool.specs.Scores.{AreBounded, least_of}
use Rattle.gate_pool.specs.declared.scores.Score.{Score}

-- what the nodes carry, in order of admission
abbrev pub entries_in : List (Node × Admitted) → List Admitted
entries_in nodes = map (λ p. p.1) nodes

-- entries, each with its node
abbrev pub carried : List Admitted → List (Node × Admitted)
carried entries = map (λ e. (node_of e, e)) entries

-- each node is its entry's
pub record IsCarried (nodes : List (Node × Admitted)) : Type 0 where
  pub is : nodes ≡ carried (entries_in nodes)
  pub bounded : (e : Admitted) → Contains (entries_in nodes) e → IsBounded e

-- a look-up finds the id of the entry that a search finds
pub record IsIndexed (entries : List Admitted) (by_wtxid : List ℕ → Option (List ℕ)) (by_point : OutPoint → Option (List ℕ)) : Type 0 where
  pub wtxids : (id : List ℕ) → by_wtxid id ≡ option_map (λ e. txid_of e.tx) (entry_by_wtxid entries id)
  pub points : (point : OutPoint) → by_point point ≡ option_map (λ e. txid_of e.tx) (spender_of entries point)
  pub distinct : AreDistinct entries

-- `room` entries more, of `inputs` inputs together, have places among the nodes, which have room for `names` parents, and in
-- each index
pub record HasPlaces (room inputs nodes names wtxid_spare point_spare : ℕ) : Type 0 where
  pub nodes_room : room ≤ nodes
  pub names_room : inputs ≤ names
  pub wtxids : room ≤ wtxid_spare
  pub points : inputs ≤ point_spare

-- there is room for all `count` entries, and for `room` more, in the log of `left` ones that have left
abbrev pub HasLogRoom : ℕ → ℕ → ℕ → ℕ → Type 0
HasLogRoom room count left log = count + left + room ≤ log

-- there is room to list all entries, and `room` more, whose arrivals have places too; the arrivals of all are there, and the
-- least score is kept
pub record IsReady (entries : List Admitted) (room chosen : ℕ) (arrivals : Arrived) (least : Option Score) : Type 0 where
  pub chosen_room : length entries + room ≤ chosen
  pub arrived : HaveArrived entries arrivals.list
  pub arrivals_room : room ≤ arrivals.room
  pub score : least ≡ least_of entries
  pub bounded : IfSome least (λ score. AreBounded score.family)

-- an entry is new: no other has its ids, or spends what it spends
pub record IsNew (entries : List Admitted) (e : Admitted) : Type 0 where
  pub txid : entry_by_txid entries (txid_of e.tx) ≡ None
  pub wtxid : entry_by_wtxid entries (wtxid_of e.tx) ≡ None
  pub points : (i : TxIn) → Contains e.tx.inputs i → spender_of entries i.prevout ≡ None
