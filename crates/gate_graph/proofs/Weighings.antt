-- Sums over nodes that were found one after another.
use Rattle.std.proofs.Common.{◌≡◌, ℕ, ◌*◌, ◌^◌, ◌<◌, ◌≤◌, Bool, true, false, not, ◌&&◌, ◌||◌, cond, List, [], ◌∷◌, ◌++◌, length, refl, sym, ap, ◌∙◌, arith, true≢false}
use Rattle.std.specs.Prelude.{Contains, filter, sum_by}
use Rattle.std.specs.Str.{bytes_eq}
use Rattle.std.specs.Cmp.Lexicographic.{bytes_decides}
use Rattle.std.proofs.lemmas.List.Sums.{sum_by-cons}
use Rattle.gate_graph.specs.Family.{Node}
use Rattle.gate_graph.specs.Families.{among, are_apart}
use Rattle.gate_bytes.proofs.Members.{Contains-head, Contains-rest}
use Rattle.gate_graph.proofs.Apart.{same_id, among-push}
use Rattle.gate_graph.proofs.Filters.{filter_same_on}
use Rattle.gate_graph.specs.Weighing.{sums_of, more, Fits, AreSmall}
use Rattle.gate_graph.proofs.Counting.{are_more, AreMore}
use Rattle.gate_graph.proofs.Finding.{shorter}

abbrev Id : Type 0
Id = List ℕ

-- a sum of numbers of 64 bits
pub sum_small : (f : Node → ℕ) (test : Node → Bool) (g : List Node) → ((n : Node) → Contains g n → f n < 2 ^ 64) → sum_by f (filter test g) ≤ 18446744073709551615 * length g
sum_small f test [] h = omega arith
sum_small f test (n ∷ g) h = go (test n) (sum_small f test g (λ m c. h m (Contains-rest n g m c)))
  where
    go : (b : Bool) → sum_by f (filter test g) ≤ 18446744073709551615 * length g → sum_by f (cond b (n ∷ filter test g) (filter test g)) ≤ 18446744073709551615 * length (n ∷ g)
    go true l = omega (arith, l, sum_by-cons f n (filter test g), h n (Contains-head n g))
    go false l = omega (arith, l)

module _ (g : List Node) (ids : List Id) (x : Id) (apart : are_apart g ≡ true) (new : among ids x ≡ false) where
  before : (n : Node) → n.id ≡ x → filter (λ m. among (ids ++ x ∷ []) m.id && not (bytes_eq m.id n.id)) g ≡ filter (λ m. among ids m.id) g
  before n e = filter_same_on (λ m. among (ids ++ x ∷ []) m.id && not (bytes_eq m.id n.id)) (λ m. among ids m.id) g
      (λ m c. ap (λ b. b && not (bytes_eq m.id n.id)) (among-push ids x m.id) ∙ ap (λ z. (among ids m.id || bytes_eq m.id x) && not (bytes_eq m.id z)) e ∙ go (among ids m.id) (bytes_eq m.id x) (λ s t. true≢false (sym s ∙ ap (among ids) ((bytes_decides m.id x).0 t) ∙ new)))
    where
      go : (a b : Bool) → (a ≡ true → b ≡ true → ⊥) → ((a || b) && not b) ≡ a
      go true true k = absurd (k refl refl)
      go true false k = refl
      go false true k = refl
      go false false k = refl

  all_more : (n : Node) → Contains g n → n.id ≡ x → AreMore (λ m. among (ids ++ x ∷ []) m.id) g n
  all_more n c e = are_more (λ m. among (ids ++ x ∷ []) m.id) g n apart c (among-push ids x n.id ∙ ap (λ z. among ids n.id || bytes_eq n.id z) (sym e) ∙ ap (λ b. among ids n.id || b) (same_id n.id) ∙ or_true (among ids n.id))
    where
      or_true : (b : Bool) → (b || true) ≡ true
      or_true true = refl
      or_true false = refl

  -- the sums with one node more
  pub weighed_more : (n : Node) → Contains g n → n.id ≡ x → more n.size n.fee (sums_of (filter (λ m. among ids m.id) g)) ≡ sums_of (filter (λ m. among (ids ++ x ∷ []) m.id) g)
  weighed_more n c e =
      let w = all_more n c e in
      ap (λ l. more n.size n.fee (sums_of l)) (sym (before n e))
      ∙ (λ i. record { count = sym w.count i; size = sym w.size i; fees = sym w.fees i })

  -- they fit
  pub weighed_fits : (n : Node) → Contains g n → n.id ≡ x → AreSmall g → length g < 2 ^ 64 → Fits n.size n.fee (sums_of (filter (λ m. among ids m.id) g))
  weighed_fits n c e small len =
      let w = all_more n c e in
      let all = λ (m : Node). among (ids ++ x ∷ []) m.id in
      let rest = before n e in
      record {
        count = omega (arith, w.count, ap length rest, shorter all g, len);
        size_fits = omega (arith, w.size, ap (sum_by (λ n. n.size)) rest, sum_small (λ n. n.size) all g small.size, len);
        fee_fits = omega (arith, w.fees, ap (sum_by (λ n. n.fee)) rest, sum_small (λ n. n.fee) all g small.fee, len);
      }

pub weighed_start : (g : List Node) → filter (λ (m : Node). among [] m.id) g ≡ []
weighed_start [] = refl
weighed_start (n ∷ g) = weighed_start g
