-- The node that ranks least is the entry that does.
use Rattle.std.proofs.Common.{◌≡◌, ◌<◌, ◌^◌, ℕ, List, map, length, Option, Some, None, refl, sym, ap, ◌∙◌, subst}
use Rattle.std.specs.Prelude.{Contains}
use Rattle.std.specs.Option.{option_map}
use Rattle.std.proofs.lemmas.List.{length-map}
use Rattle.std.proofs.lemmas.Option.{none-some, same_Some}
use Rattle.gate_tx.specs.Ids.{txid_of}
use Rattle.gate_ranking.specs.Rate.{rate_cmp}
use Rattle.gate_graph.specs.Family.{Node}
use Rattle.gate_graph.specs.declared.held.Held.{Held}
use Rattle.gate_graph.specs.declared.held.Sums.{Sums}
use Rattle.gate_graph.specs.declared.held.Totals.{Totals}
use Rattle.gate_graph.specs.Families.{descendants_of as nodes_below}
use Rattle.gate_graph.specs.Holding.{nodes_in, node_of as held_node}
use Rattle.gate_graph.specs.Ranks.{rate_in, rate_with, least_of as least_node}
use Rattle.gate_graph.specs.Weighing.{sums_of as node_sums, totals_of}
use Rattle.gate_graph.proofs.Least.{least_in, least_map}
use Rattle.gate_pool.specs.Pool.{Admitted, IsBounded}
use Rattle.gate_pool.specs.Family.{node_of, descendants_of, sums_of}
use Rattle.gate_pool.specs.Keeping.{carried}
use Rattle.gate_pool.specs.Scores.{AreBounded, rate_of, score_from, score_of, least_entry, least_of}
use Rattle.gate_pool.proofs.Bounding.{family_bounded}
use Rattle.gate_pool.proofs.Carrying.{nodes_in_carried, below_are, sizes_of, fees_in}

-- what nodes of entries come to
pub sums_are : (es : List Admitted) → node_sums (map node_of es) ≡ sums_of es
sums_are es = λ i. record { count = length-map es node_of i; size = sizes_of es i; fees = fees_in es i }

pub family_is : (es : List Admitted) (x : List ℕ) → node_sums (nodes_below (map node_of es) x) ≡ sums_of (descendants_of es x)
family_is es x = ap node_sums (below_are es x) ∙ sums_are (descendants_of es x)

-- what a least node is of
pub record IsLeastHeld (es : List Admitted) (h : Held Admitted) : Type 0 where
  pub entry : least_entry es ≡ Some h.load
  pub id : h.id ≡ txid_of h.load.tx

module _ (es : List Admitted) where
  -- an entry and its node rank alike
  rank_is : (e : Admitted) → rate_in (nodes_in (carried es)) (node_of e) ≡ rate_of es e
  rank_is e = ap (λ l. rate_in l (node_of e)) (nodes_in_carried es) ∙ ap (rate_with e.fee e.vsize) (family_is es (txid_of e.tx))

  least_carried : option_map (λ (e : Admitted). (node_of e, e)) (least_entry es) ≡ least_node (carried es)
  least_carried = least_map rate_cmp (rate_of es) (λ (e : Admitted). (node_of e, e)) (λ (p : Node × Admitted). rate_in (nodes_in (carried es)) p.0) es (λ e c. rank_is e)

  pub least_held : (h : Held Admitted) → Some (held_node h, h.load) ≡ least_node (carried es) → IsLeastHeld es h
  least_held h is = by (least_entry es) refl (least_carried ∙ sym is)
    where
      by : (o : Option Admitted) → least_entry es ≡ o → option_map {U = Node × Admitted} (λ (e : Admitted). (node_of e, e)) o ≡ Some (held_node h, h.load) → IsLeastHeld es h
      by None e s = absurd (none-some (held_node h, h.load) s)
      by (Some d) e s =
          let pair : (node_of d, d) ≡ (held_node h, h.load) = same_Some (node_of d, d) (held_node h, h.load) s in
          record {
            entry = e ∙ ap (λ (p : Node × Admitted). Some p.1) pair;
            id = ap (λ (p : Node × Admitted). p.0.id) (sym pair) ∙ ap (λ (p : Node × Admitted). txid_of p.1.tx) pair;
          }

  -- its totals are those of its entry
  below_is : (h : Held Admitted) → IsLeastHeld es h → h.totals ≡ totals_of (map node_of es) h.id → h.totals.below ≡ sums_of (descendants_of es (txid_of h.load.tx))
  below_is h least totals = ap (λ (t : Totals). t.below) totals ∙ family_is es h.id ∙ ap (λ x. sums_of (descendants_of es x)) least.id

  pub least_found : (h : Held Admitted) → Some (held_node h, h.load) ≡ least_node (carried es) → h.totals ≡ totals_of (map node_of es) h.id → Some (score_from h.load h.totals.below) ≡ least_of es
  unfolding score_of
  least_found h is totals =
      let least = least_held h is in
      ap (λ s. Some (score_from h.load s)) (below_is h least totals) ∙ ap (option_map (score_of es)) (sym least.entry)

  pub least_bounded : ((e : Admitted) → Contains es e → IsBounded e) → length es < 2 ^ 64 → (h : Held Admitted) → Some (held_node h, h.load) ≡ least_node (carried es) → h.totals ≡ totals_of (map node_of es) h.id
      → AreBounded (score_from h.load h.totals.below).family
  least_bounded all few h is totals =
      let least = least_held h is in
      subst (λ (s : Sums). AreBounded (score_from h.load s).family) (sym (below_is h least totals)) (family_bounded es all few h.load (least_in rate_cmp (rate_of es) es h.load least.entry))

  pub no_least : None ≡ least_node (carried es) → None ≡ least_of es
  no_least is = by (least_entry es) (least_carried ∙ sym is)
    where
      by : (o : Option Admitted) → option_map {U = Node × Admitted} (λ (e : Admitted). (node_of e, e)) o ≡ None → None ≡ option_map (score_of es) o
      by None s = refl
      by (Some d) s = absurd (none-some (node_of d, d) (sym s))
