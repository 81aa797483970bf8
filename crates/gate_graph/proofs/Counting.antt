-- Sums over nodes with one more or one less.
use Rattle.std.proofs.Common.{◌≡◌, ℕ, ◌+◌, ◌-◌, Bool, true, false, not, ◌&&◌, cond, List, [], ◌∷◌, length, refl, sym, ap, ◌∙◌, subst, inl, inr, arith, true≢false}
use Rattle.std.specs.Prelude.{Contains, filter, sum_by}
use Rattle.std.specs.Str.{bytes_eq}
use Rattle.std.specs.Cmp.Lexicographic.{bytes_decides}
use Rattle.std.proofs.lemmas.Bool.{and_parts, not-true, false_from_ne_true}
use Rattle.std.proofs.lemmas.List.Sums.{sum_by-cons}
use Rattle.gate_graph.specs.Family.{Node}
use Rattle.gate_graph.specs.Families.{are_apart}
use Rattle.gate_bytes.proofs.Members.{Contains-cons_cases, list_any_of, not_in_none}
use Rattle.gate_graph.proofs.Apart.{same_id}
use Rattle.gate_graph.proofs.Filters.{filter_same_on}
use Rattle.gate_graph.specs.Weighing.{sums_of, less}

pub length_sum : (g : List Node) → length g ≡ sum_by (λ n. 1) g
length_sum [] = refl
length_sum (n ∷ g) = omega (arith, length_sum g, sum_by-cons (λ (n : Node). 1) n g)

pub and_true : (b : Bool) → (b && true) ≡ b
and_true true = refl
and_true false = refl

pub and_false : (b : Bool) → (b && false) ≡ false
and_false true = refl
and_false false = refl

-- no other node has the id of the first
pub other_id : (n : Node) (g : List Node) (m : Node) → are_apart (n ∷ g) ≡ true → Contains g m → bytes_eq m.id n.id ≡ false
other_id n g m a c = false_from_ne_true _ (λ t. true≢false (sym (list_any_of (λ k. bytes_eq k.id n.id) g m c t) ∙ not-true _ (and_parts _ _ a).0))

module _ (f : Node → ℕ) (test : Node → Bool) where
  sum_here : (n : Node) (g : List Node) → are_apart (n ∷ g) ≡ true → test n ≡ true
      → sum_by f (filter test (n ∷ g)) ≡ sum_by f (filter (λ m. test m && not (bytes_eq m.id n.id)) (n ∷ g)) + f n
  sum_here n g a t =
      let rest : filter (λ m. test m && not (bytes_eq m.id n.id)) g ≡ filter test g =
      filter_same_on (λ m. test m && not (bytes_eq m.id n.id)) test g (λ m c. ap (λ b. test m && not b) (other_id n g m a c) ∙ and_true (test m)) in
      let gone : (test n && not (bytes_eq n.id n.id)) ≡ false = ap (λ b. test n && not b) (same_id n.id) ∙ and_false (test n) in
      ap (λ b. sum_by f (cond b (n ∷ filter test g) (filter test g))) t
      ∙ (let e : sum_by f (n ∷ filter test g) ≡ sum_by f (filter test g) + f n = omega (arith, sum_by-cons f n (filter test g)) in e)
      ∙ ap (λ l. sum_by f l + f n) (sym rest)
      ∙ ap (λ b. sum_by f (cond b (n ∷ filter (λ m. test m && not (bytes_eq m.id n.id)) g) (filter (λ m. test m && not (bytes_eq m.id n.id)) g)) + f n) (sym gone)

  -- a sum without one of its nodes
  pub sum_less : (g : List Node) (n : Node) → are_apart g ≡ true → Contains g n → test n ≡ true
      → sum_by f (filter test g) ≡ sum_by f (filter (λ m. test m && not (bytes_eq m.id n.id)) g) + f n
  sum_less [] n a c t = not_in_none n c
  sum_less (m ∷ g) n a c t =
      elim (Contains-cons_cases m g n c) [
        | inl e ↦ subst (λ k. sum_by f (filter test (m ∷ g)) ≡ sum_by f (filter (λ l. test l && not (bytes_eq l.id k.id)) (m ∷ g)) + f k) e (sum_here m g a (ap test e ∙ t))
        | inr k ↦ go (test m) (bytes_eq m.id n.id) refl (differs k) (sum_less g n (and_parts _ _ a).1 k t)
      ]
    where
      differs : Contains g n → bytes_eq m.id n.id ≡ false
      differs k = false_from_ne_true _ (λ s. true≢false (sym ((bytes_decides n.id m.id).1 (sym ((bytes_decides m.id n.id).0 s))) ∙ other_id m g n a k))

      go : (b c : Bool) → test m ≡ b → c ≡ false → sum_by f (filter test g) ≡ sum_by f (filter (λ l. test l && not (bytes_eq l.id n.id)) g) + f n
          → sum_by f (cond b (m ∷ filter test g) (filter test g)) ≡ sum_by f (cond (b && not c) (m ∷ filter (λ l. test l && not (bytes_eq l.id n.id)) g) (filter (λ l. test l && not (bytes_eq l.id n.id)) g)) + f n
      go true true e d ih = absurd (true≢false d)
      go true false e d ih = omega (arith, ih, sum_by-cons f m (filter test g), sum_by-cons f m (filter (λ l. test l && not (bytes_eq l.id n.id)) g))
      go false c e d ih = ih

-- three sums at once
pub record AreMore (test : Node → Bool) (g : List Node) (n : Node) : Type 0 where
  pub count : length (filter test g) ≡ length (filter (λ m. test m && not (bytes_eq m.id n.id)) g) + 1
  pub size : sum_by (λ n. n.size) (filter test g) ≡ sum_by (λ n. n.size) (filter (λ m. test m && not (bytes_eq m.id n.id)) g) + n.size
  pub fees : sum_by (λ n. n.fee) (filter test g) ≡ sum_by (λ n. n.fee) (filter (λ m. test m && not (bytes_eq m.id n.id)) g) + n.fee

pub are_more : (test : Node → Bool) (g : List Node) (n : Node) → are_apart g ≡ true → Contains g n → test n ≡ true → AreMore test g n
are_more test g n a c t = record {
  count = length_sum (filter test g) ∙ sum_less (λ n. 1) test g n a c t ∙ ap (λ l. l + 1) (sym (length_sum (filter (λ m. test m && not (bytes_eq m.id n.id)) g)));
  size = sum_less (λ n. n.size) test g n a c t;
  fees = sum_less (λ n. n.fee) test g n a c t;
}

minus_one : (a b c : ℕ) → a ≡ b + c → b ≡ a - c
minus_one a b c e = omega (arith, e)

-- what is left is less by the node
pub sums_less : (test : Node → Bool) (g : List Node) (n : Node) → are_apart g ≡ true → Contains g n → test n ≡ true
    → sums_of (filter (λ m. test m && not (bytes_eq m.id n.id)) g) ≡ less n.size n.fee (sums_of (filter test g))
sums_less test g n a c t =
    let w = are_more test g n a c t in
    λ i. record {
      count = minus_one (length (filter test g)) (length (filter (λ m. test m && not (bytes_eq m.id n.id)) g)) 1 w.count i;
      size = minus_one (sum_by (λ n. n.size) (filter test g)) (sum_by (λ n. n.size) (filter (λ m. test m && not (bytes_eq m.id n.id)) g)) n.size w.size i;
      fees = minus_one (sum_by (λ n. n.fee) (filter test g)) (sum_by (λ n. n.fee) (filter (λ m. test m && not (bytes_eq m.id n.id)) g)) n.fee w.fees i;
    }
