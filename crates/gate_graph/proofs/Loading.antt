-- Nodes with what they carry.
use Rattle.std.proofs.Common.{◌≡◌, ◌≤◌, ◌<◌, ℕ, zero, suc, Bool, true, false, cond, List, [], ◌∷◌, ◌++◌, length, take, get_or, refl, sym, ap, ◌∙◌, subst, not, arith, Option, Some, None}
use Rattle.std.specs.Prelude.{Contains, filter, find}
use Rattle.std.specs.Option.{option_map}
use Rattle.std.specs.Str.{bytes_eq}
use Rattle.std.proofs.lemmas.List.{length-map, map-append}
use Rattle.gate_graph.specs.Family.{Node, steps_of, reaches}
use Rattle.gate_graph.specs.Families.{has, are_apart}
use Rattle.gate_graph.specs.declared.held.Held.{Held}
use Rattle.gate_graph.specs.Holding.{has_id, node_of, nodes_of, nodes_in, loaded, load_of, load_in, names_of, names_in, without_below, without_one}
use Rattle.gate_graph.specs.Slots.{entries_of}
use Rattle.gate_graph.specs.Weighing.{totals_of, AreSmall, IsWeighed}
use Rattle.gate_graph.proofs.Apart.{apart_before}
use Rattle.gate_graph.proofs.Filters.{Contains-map, Contains-from_map, Contains-from_filter}
use Rattle.gate_graph.proofs.Holdings.{find_is}
use Rattle.gate_graph.proofs.Finding.{shorter}

abbrev Id : Type 0
Id = List ℕ

module _ {T : Type 0} where
  pub nodes_loaded : (hs : List (Held T)) → nodes_in (loaded hs) ≡ nodes_of hs
  nodes_loaded [] = refl
  nodes_loaded (h ∷ hs) = ap (λ l. node_of h ∷ l) (nodes_loaded hs)

  pub length_loaded : (hs : List (Held T)) → length (loaded hs) ≡ length hs
  length_loaded hs = length-map hs (λ (h : Held T). (node_of h, h.load))

  -- no more are left
  pub fewer_left : (hs hs' : List (Held T)) (x : Id) → loaded hs' ≡ without_below (loaded hs) x → length hs' ≤ length hs
  fewer_left hs hs' x e = omega (arith, length_loaded hs, length_loaded hs', ap length e, shorter (λ (p : Node × T). not (reaches (steps_of (nodes_in (loaded hs))) x p.0.id)) (loaded hs))

  pub fewer_alone : (hs hs' : List (Held T)) (x : Id) → loaded hs' ≡ without_one (loaded hs) x → length hs' ≤ length hs
  fewer_alone hs hs' x e = omega (arith, length_loaded hs, length_loaded hs', ap length e, shorter (λ (p : Node × T). not (bytes_eq p.0.id x)) (loaded hs))

  -- the totals of what is found
  pub totals_found : (hs : List (Held T)) (x : Id) (h : Held T) → IsWeighed hs → find (λ h. has_id h x) hs ≡ Some h → h.totals ≡ totals_of (nodes_in (loaded hs)) x
  totals_found hs x h w e =
      let v = find_is hs x h e in
      w.totals h v.0 ∙ ap (totals_of (nodes_of hs)) v.1 ∙ ap (λ l. totals_of l x) (sym (nodes_loaded hs))

  nodes_without : (g : List (Node × T)) (test : Node × T → Bool) (n : Node) → Contains (nodes_in (filter test g)) n → Contains (nodes_in g) n
  nodes_without g test n c =
      let w = Contains-from_map (λ (p : Node × T). p.0) (filter test g) n c in
      subst (Contains (nodes_in g)) w.2 (Contains-map (λ (p : Node × T). p.0) g w.0 (Contains-from_filter test g w.0 w.1).0)

  pub small_left : (hs hs' : List (Held T)) (x : Id) → loaded hs' ≡ without_below (loaded hs) x → AreSmall (nodes_of hs) → AreSmall (nodes_of hs')
  small_left hs hs' x e s =
      let test : Node × T → Bool = λ p. not (reaches (steps_of (nodes_in (loaded hs))) x p.0.id) in
      let was : (n : Node) → Contains (nodes_of hs') n → Contains (nodes_of hs) n = λ n c.
      subst (λ l. Contains l n) (nodes_loaded hs) (nodes_without (loaded hs) test n (subst (λ l. Contains l n) (sym (nodes_loaded hs') ∙ ap nodes_in e) c)) in
      record {
        size = λ n c. s.size n (was n c);
        fee = λ n c. s.fee n (was n c);
      }

  -- what is found of a node is what it carries
  pub load_loaded : (hs : List (Held T)) (x : Id) → load_of hs x ≡ load_in (loaded hs) x
  load_loaded [] x = refl
  load_loaded (h ∷ hs) x = by (bytes_eq h.id x) (load_loaded hs x)
    where
      by : (b : Bool) → load_of hs x ≡ load_in (loaded hs) x
          → option_map (λ (k : Held T). k.load) (cond b (Some h) (find (λ k. has_id k x) hs)) ≡ option_map (λ (p : Node × T). p.1) (cond b (Some (node_of h, h.load)) (find (λ p. bytes_eq p.0.id x) (loaded hs)))
      by true ih = refl
      by false ih = ih

  -- and the ids that it names
  pub names_loaded : (hs : List (Held T)) (x : Id) → names_of hs x ≡ names_in (loaded hs) x
  names_loaded [] x = refl
  names_loaded (h ∷ hs) x = by (bytes_eq h.id x) (names_loaded hs x)
    where
      by : (b : Bool) → names_of hs x ≡ names_in (loaded hs) x
          → option_map (λ (k : Held T). k.parents.items) (cond b (Some h) (find (λ k. has_id k x) hs)) ≡ option_map (λ (p : Node × T). p.0.parents) (cond b (Some (node_of h, h.load)) (find (λ p. bytes_eq p.0.id x) (loaded hs)))
      by true ih = refl
      by false ih = ih

-- what stands before a slot that holds a node
pub slots_before : {T : Type 0} (slots : List (Option (Held T))) (i : ℕ) (d : Option (Held T)) (h : Held T) → i < length slots → get_or slots i d ≡ Some h → (rest : List (Held T)) × (entries_of slots ≡ entries_of (take i slots) ++ h ∷ rest)
slots_before [] i d h lt e = absurd (omega (arith, lt))
slots_before (s ∷ slots) zero d h lt e = (entries_of slots, ap (λ o. entries_of (o ∷ slots)) e)
slots_before (None ∷ slots) (suc i) d h lt e = slots_before slots i d h (omega (arith, lt)) e
slots_before (Some k ∷ slots) (suc i) d h lt e = let w = slots_before slots i d h (omega (arith, lt)) e in (w.0, ap (λ l. k ∷ l) w.1)

pub new_before : {T : Type 0} (slots : List (Option (Held T))) (i : ℕ) (d : Option (Held T)) (h : Held T) → i < length slots → get_or slots i d ≡ Some h → are_apart (nodes_of (entries_of slots)) ≡ true → has (nodes_of (entries_of (take i slots))) h.id ≡ false
new_before slots i d h lt e apart =
    let w = slots_before slots i d h lt e in
    apart_before (nodes_of (entries_of (take i slots))) (nodes_of w.0) (node_of h) (sym (ap are_apart (ap nodes_of w.1 ∙ map-append node_of (entries_of (take i slots)) (h ∷ w.0))) ∙ apart)
