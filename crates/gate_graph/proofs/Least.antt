-- The node that ranks least, by what is kept and by what families come to.
use Rattle.std.proofs.Common.{◌≡◌, Bool, true, false, List, [], ◌∷◌, map, Option, Some, None, refl, sym, ap, subst, ◌∙◌, if◌then◌else◌, Bor}
use Rattle.std.specs.Prelude.{Contains, IfSome}
use Rattle.std.specs.Option.{option_copied, option_map}
use Rattle.std.specs.Ordering.{is_lt}
use Rattle.std.specs.declared.cmp.Ordering.{Ordering}
use Rattle.std.proofs.lemmas.Option.{none-some, same_Some}
use Rattle.gate_ranking.specs.Rate.{rate_cmp}
use Rattle.gate_ranking.specs.Lesser.{lesser, least_by}
use Rattle.gate_graph.specs.declared.held.Held.{Held}
use Rattle.gate_graph.specs.declared.held.Totals.{Totals}
use Rattle.gate_graph.specs.Holding.{node_of, nodes_of, nodes_in, loaded}
use Rattle.gate_graph.specs.Ranks.{rate_of, rate_in, rate_with, least_of}
use Rattle.gate_graph.specs.Weighing.{totals_of, IsWeighed}
use Rattle.gate_bytes.proofs.Members.{Contains-head, Contains-rest}
use Rattle.gate_graph.proofs.Loading.{nodes_loaded}

module _ {E K : Type 0} (R : K → K → Ordering) (key : E → K) where
  choice : (b : Bool) (x z y : E) (xs : List E) → (if b then x else z) ≡ y → Contains xs z → Contains (x ∷ xs) y
  choice true x z y xs e c = subst (Contains (x ∷ xs)) e (Contains-head x xs)
  choice false x z y xs e c = subst (Contains (x ∷ xs)) e (Contains-rest x xs z c)

  -- the least is one of them
  pub least_in : (xs : List E) (y : E) → least_by R key xs ≡ Some y → Contains xs y
  least_in [] y e = absurd (none-some y e)
  least_in (x ∷ xs) y e = by (least_by R key xs) (λ z s. least_in xs z s) e
    where
      by : (o : Option E) → ((z : E) → o ≡ Some z → Contains xs z) → Some (lesser R key x o) ≡ Some y → Contains (x ∷ xs) y
      by None rest s = subst (Contains (x ∷ xs)) (same_Some x y s) (Contains-head x xs)
      by (Some z) rest s = choice (is_lt (R (key x) (key z))) x z y xs (same_Some _ y s) (rest z refl)

  -- the same, where they are seen as other things
  module _ {F : Type 0} (f : E → F) (key' : F → K) where
    pub least_map : (xs : List E) → ((x : E) → Contains xs x → key' (f x) ≡ key x) → option_map f (least_by R key xs) ≡ least_by R key' (map f xs)
    least_map [] same = refl
    least_map (x ∷ xs) same = by (least_by R key xs) (λ z s. least_in xs z s) ∙ ap (λ o. Some (lesser R key' (f x) o)) (least_map xs (λ y c. same y (Contains-rest x xs y c)))
      where
        chosen : (b : Bool) (z : E) → f (if b then x else z) ≡ (if b then f x else f z)
        chosen true z = refl
        chosen false z = refl

        by : (o : Option E) → ((z : E) → o ≡ Some z → Contains xs z) → Some (f (lesser R key x o)) ≡ Some (lesser R key' (f x) (option_map f o))
        by None rest = refl
        by (Some z) rest =
            ap Some (chosen (is_lt (R (key x) (key z))) z
            ∙ (λ i. if is_lt (R (sym (same x (Contains-head x xs)) i) (sym (same z (Contains-rest x xs z (rest z refl))) i)) then f x else f z))

module _ {T : Type 0} (hs : List (Held T)) (w : IsWeighed hs) where
  rate_is : (h : Held T) → Contains hs h → rate_in (nodes_of hs) (node_of h) ≡ rate_of h
  rate_is h c = ap (λ (t : Totals). rate_with h.fee h.size t.below) (sym (w.totals h c))

  pub least_loaded : option_map (λ (h : Held T). (node_of h, h.load)) (least_by rate_cmp rate_of hs) ≡ least_of (loaded hs)
  least_loaded = least_map rate_cmp rate_of (λ (h : Held T). (node_of h, h.load)) (λ p. rate_in (nodes_in (loaded hs)) p.0) hs
      (λ h c. ap (λ l. rate_in l (node_of h)) (nodes_loaded hs) ∙ rate_is h c)

  pub least_totals : (r : Option (Bor (Held T))) → option_copied r ≡ least_by rate_cmp rate_of hs → IfSome r (λ h. h.now.totals ≡ totals_of (nodes_in (loaded hs)) h.now.id)
  least_totals None e = tt
  least_totals (Some h) e = w.totals h.now (least_in rate_cmp rate_of hs h.now (sym e)) ∙ ap (λ l. totals_of l h.now.id) (sym (nodes_loaded hs))
