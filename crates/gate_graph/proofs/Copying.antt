-- Nodes that are seen alike.
use Rattle.std.proofs.Common.{◌≡◌, ◌<◌, ◌≤◌, ◌+◌, ℕ, zero, suc, Bool, false, List, [], ◌∷◌, ◌++◌, map, length, get_or, take, Option, Some, None, refl, sym, ap, subst, ◌∙◌, arith, length-append, append-nil}
use Rattle.std.specs.Prelude.{Contains}
use Rattle.std.specs.Global.{Vec}
use Rattle.std.proofs.lemmas.List.{map-append, take_more}
use Rattle.std.proofs.lemmas.List.Sums.{sum_by-cons}
use Rattle.std.proofs.lemmas.Option.{none-some, same_Some}
use Rattle.gate_graph.specs.Family.{Node}
use Rattle.gate_graph.specs.declared.held.Held.{Held}
use Rattle.gate_graph.specs.declared.held.Totals.{Totals}
use Rattle.gate_graph.specs.Holding.{node_of, nodes_of, loaded, seen, seen_of}
use Rattle.gate_graph.specs.Walking.{AreClear}
use Rattle.gate_graph.specs.Weighing.{IsWeighed, totals_of}
use Rattle.gate_graph.specs.Slots.{entries_of}
use Rattle.gate_graph.proofs.Filters.{Contains-map, Contains-from_map}
use Rattle.gate_graph.proofs.Indexing.{entries_of-push}
use Rattle.gate_graph.proofs.Ranks.{total}

module _ {T : Type 0} where
  nodes_seen : (hs : List (Held T)) → map (λ (s : Node × Totals × T). s.0) (seen_of hs) ≡ nodes_of hs
  nodes_seen [] = refl
  nodes_seen (h ∷ hs) = ap (λ l. node_of h ∷ l) (nodes_seen hs)

  loaded_seen : (hs : List (Held T)) → map (λ (s : Node × Totals × T). (s.0, s.2)) (seen_of hs) ≡ loaded hs
  loaded_seen [] = refl
  loaded_seen (h ∷ hs) = ap (λ l. (node_of h, h.load) ∷ l) (loaded_seen hs)

  pub same_nodes : (hs hs' : List (Held T)) → seen_of hs' ≡ seen_of hs → nodes_of hs' ≡ nodes_of hs
  same_nodes hs hs' e = sym (nodes_seen hs') ∙ ap (map (λ (s : Node × Totals × T). s.0)) e ∙ nodes_seen hs

  pub same_loaded : (hs hs' : List (Held T)) → seen_of hs' ≡ seen_of hs → loaded hs' ≡ loaded hs
  same_loaded hs hs' e = sym (loaded_seen hs') ∙ ap (map (λ (s : Node × Totals × T). (s.0, s.2))) e ∙ loaded_seen hs

  pub same_weighed : (hs hs' : List (Held T)) → seen_of hs' ≡ seen_of hs → IsWeighed hs → IsWeighed hs'
  same_weighed hs hs' e w = record {
    totals = λ h c.
        let there : Contains (seen_of hs) (seen h) = subst (λ l. Contains l (seen h)) e (Contains-map seen hs' h c) in
        let v = Contains-from_map seen hs (seen h) there in
        ap (λ (s : Node × Totals × T). s.1) (sym v.2)
        ∙ w.totals v.0 v.1
        ∙ ap (λ (s : Node × Totals × T). totals_of (nodes_of hs) s.0.id) v.2
        ∙ ap (λ l. totals_of l h.id) (sym (same_nodes hs hs' e));
  }

-- a copy of a node is seen as it is
pub seen_same : {T : Type 0} (h : Held T) (parents : Vec (List ℕ)) (load : T) → parents.items ≡ h.parents.items → load ≡ h.load → seen (record h { parents = parents; load = load }) ≡ seen h
seen_same h parents load e f = λ i. (record { id = h.id; size = h.size; fee = h.fee; parents = e i }, h.totals, f i)

-- one mark more
pub clear_more : (n : ℕ) (marks : List Bool) → AreClear n marks → AreClear (n + 1) (marks ++ false ∷ [])
clear_more n marks h = record { len = omega (arith, length-append marks (false ∷ []), h.len); clear = by marks h.clear }
  where
    by : (ms : List Bool) → ((p : ℕ) → get_or ms p false ≡ false) → (p : ℕ) → get_or (ms ++ false ∷ []) p false ≡ false
    by [] k zero = refl
    by [] k (suc p) = refl
    by (m ∷ ms) k zero = k zero
    by (m ∷ ms) k (suc p) = by ms (λ q. k (suc q)) p

module _ {T : Type 0} where
  -- one slot more
  pub seen_more : (slots : List (Option (Held T))) (i : ℕ) (x : Option (Held T)) → i < length slots → x ≡ get_or slots i x → seen_of (entries_of (take i slots)) ++ seen_of (entries_of (x ∷ [])) ≡ seen_of (entries_of (take (i + 1) slots))
  seen_more slots i x lt is =
      sym (ap (λ l. seen_of (entries_of l)) (take_more slots i x lt ∙ ap (λ o. take i slots ++ o ∷ []) (sym is)) ∙ by x)
    where
      hole : (l : List (Option (Held T))) → entries_of (l ++ None ∷ []) ≡ entries_of l
      hole [] = refl
      hole (None ∷ l) = hole l
      hole (Some k ∷ l) = ap (λ m. k ∷ m) (hole l)

      by : (o : Option (Held T)) → seen_of (entries_of (take i slots ++ o ∷ [])) ≡ seen_of (entries_of (take i slots)) ++ seen_of (entries_of (o ∷ []))
      by None = ap seen_of (hole (take i slots)) ∙ sym (append-nil (seen_of (entries_of (take i slots))))
      by (Some h) = ap seen_of (entries_of-push (take i slots) h) ∙ map-append seen (entries_of (take i slots)) (h ∷ [])

  -- what stands before a node, and the node, are no more than all
  pub prefix_fits : (slots : List (Option (Held T))) (i : ℕ) (d : Option (Held T)) (h : Held T) → i < length slots → get_or slots i d ≡ Some h → total (take i slots) + h.size ≤ total slots
  prefix_fits [] i d h lt e = absurd (omega (arith, lt))
  prefix_fits (None ∷ slots) zero d h lt e = absurd (none-some h e)
  prefix_fits (Some x ∷ slots) zero d h lt e = let same : x ≡ h = same_Some x h e in omega (arith, sum_by-cons (λ n. n.size) (node_of x) (nodes_of (entries_of slots)), ap (λ (k : Held T). k.size) same)
  prefix_fits (None ∷ slots) (suc i) d h lt e = prefix_fits slots i d h (omega arith) e
  prefix_fits (Some x ∷ slots) (suc i) d h lt e =
      omega (arith, sum_by-cons (λ n. n.size) (node_of x) (nodes_of (entries_of slots)), sum_by-cons (λ n. n.size) (node_of x) (nodes_of (entries_of (take i slots))), prefix_fits slots i d h (omega arith) e)
