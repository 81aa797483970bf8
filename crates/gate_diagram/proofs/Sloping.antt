-- One line is nowhere below another if it is nowhere below at its own corners: so better lines are an order.
use Rattle.std.proofs.Common.{◌≡◌, ◌≤◌, ◌<◌, ◌+◌, ◌-◌, ◌*◌, ℕ, Bool, true, false, not, ◌&&◌, ◌||◌, List, [], ◌∷◌, ◌++◌, refl, sym, ap, ◌∙◌, subst, arith, ◌⊎◌, inl, inr, ⊎_elim}
use Rattle.std.specs.Prelude.{All, Contains, IsPermutation, nat_lt}
use Rattle.std.specs.List.{list_any}
use Rattle.std.proofs.Math.Nat.{mul-le-mul_left}
use Rattle.std.proofs.lemmas.Bool.{and_parts, and_from, cases_Bool, false_from_ne_true, ltb-false, true≢false}
use Rattle.std.proofs.lemmas.Bool.Decides.{Decides-ltb}
use Rattle.std.proofs.lemmas.List.Elements.{All-contains, All-head, All-tail, Contains-append_left, Contains-append_right}
use Rattle.std.proofs.lemmas.List.Folds.{list_any-append}
use Rattle.std.proofs.lemmas.List.Sums.{sum_by-cons}
use Rattle.std.proofs.lemmas.List.Sorted.{list_any-IsPermutation, sum_by-IsPermutation}
use Rattle.gate_bytes.proofs.Members.{Contains-cons_cases, Contains-head, Contains-rest, any_is, list_any_of, not_in_none}
use Rattle.gate_diagram.specs.declared.price.Price.{Price}
use Rattle.gate_diagram.specs.Diagram.{beyond, corners_of, improves, is_below, surplus, zero_rate}
use Rattle.gate_diagram.specs.Laws.{DiagramIsAnOrder, IsSized}

-- ---- feerates by cross products

-- a feerate is at most another
pub record AtMost (a b : Price) : Type 0 where
  pub is : a.fee * b.vsize ≤ b.fee * a.vsize

-- it is below another
pub record Below (a b : Price) : Type 0 where
  pub is : a.fee * b.vsize < b.fee * a.vsize

either : (a b : Price) → AtMost a b ⊎ Below b a
either a b = ⊎_elim (λ (h : a.fee * b.vsize ≤ b.fee * a.vsize). inl (record { is = h })) (λ (h : b.fee * a.vsize < a.fee * b.vsize). inr (record { is = h })) (split (a.fee * b.vsize) (b.fee * a.vsize))
  where
    split : (m n : ℕ) → (m ≤ n) ⊎ (n < m)
    split m n = ⊎_elim (λ (t : nat_lt n m ≡ true). inr ((Decides-ltb n m).0 t)) (λ (f : nat_lt n m ≡ false). inl (ltb-false n m f)) (cases_Bool (nat_lt n m))

cancel : (x y n : ℕ) → 1 ≤ n → n * x ≤ n * y → x ≤ y
cancel x y n some h = ⊎_elim (λ (t : nat_lt y x ≡ true). absurd (more ((Decides-ltb y x).0 t))) (λ (f : nat_lt y x ≡ false). ltb-false y x f) (cases_Bool (nat_lt y x))
  where
    more : y < x → ⊥
    more k = let next : y + 1 ≤ x = omega arith in omega (arith, mul-le-mul_left n next)

chained : (af av bf bv cf cv : ℕ) → 1 ≤ bv → af * bv ≤ bf * av → bf * cv ≤ cf * bv → af * cv ≤ cf * av
chained af av bf bv cf cv some h k = cancel (af * cv) (cf * av) bv some (omega (arith, mul-le-mul_left cv h, mul-le-mul_left av k))

below_most : (a b : Price) → Below a b → AtMost a b
below_most a b h = record { is = omega (arith, h.is) }

most_most : (a b c : Price) → IsSized b → AtMost a b → AtMost b c → AtMost a c
most_most a b c some h k = record { is = chained a.fee a.vsize b.fee b.vsize c.fee c.vsize some.least h.is k.is }

itself : (a : Price) → AtMost a a
itself a = record { is = omega arith }

apart : {X : Type 0} (a b : Price) → AtMost a b → Below b a → X
apart a b h k = absurd (omega (arith, h.is, k.is))

-- ---- the corners next to a feerate

pub record Floor (r : Price) (chunks : List Price) : Type 0 where
  pub at : Price
  pub corner : Contains (zero_rate ∷ chunks) at
  pub sized : IsSized at
  pub below : AtMost at r
  pub greatest : (c : Price) → Contains chunks c → AtMost c r → AtMost c at

floor_of : (r : Price) (chunks : List Price) → All IsSized chunks → Floor r chunks
floor_of r [] sized = record {
  at = zero_rate;
  corner = Contains-head zero_rate [];
  sized = record { least = omega arith };
  below = record { is = omega arith };
  greatest = λ c m h. not_in_none c m;
}
floor_of r (x ∷ chunks) sized =
    let w = floor_of r chunks (All-tail IsSized x chunks sized) in
    let own = All-head IsSized x chunks sized in
    let kept : Contains (zero_rate ∷ (x ∷ chunks)) w.at =
    ⊎_elim (λ (same : zero_rate ≡ w.at). subst (Contains (zero_rate ∷ (x ∷ chunks))) same (Contains-head zero_rate (x ∷ chunks)))
    (λ (k : Contains chunks w.at). Contains-rest zero_rate (x ∷ chunks) w.at (Contains-rest x chunks w.at k)) (Contains-cons_cases zero_rate chunks w.at w.corner) in
    ⊎_elim
    (λ (low : AtMost x r).
    ⊎_elim
    (λ (less : AtMost x w.at).
    let made : Floor r (x ∷ chunks) = record {
      at = w.at;
      corner = kept;
      sized = w.sized;
      below = w.below;
      greatest = λ c m h. ⊎_elim (λ (same : x ≡ c). subst (λ (p : Price). AtMost p w.at) same less) (λ (k : Contains chunks c). w.greatest c k h) (Contains-cons_cases x chunks c m);
    } in made)
    (λ (more : Below w.at x).
    let made : Floor r (x ∷ chunks) = record {
      at = x;
      corner = Contains-rest zero_rate (x ∷ chunks) x (Contains-head x chunks);
      sized = own;
      below = low;
      greatest = λ c m h. ⊎_elim (λ (same : x ≡ c). subst (λ (p : Price). AtMost p x) same (itself x)) (λ (k : Contains chunks c). most_most c w.at x w.sized (w.greatest c k h) (below_most w.at x more)) (Contains-cons_cases x chunks c m);
    } in made)
    (either x w.at))
    (λ (high : Below r x).
    let made : Floor r (x ∷ chunks) = record {
      at = w.at;
      corner = kept;
      sized = w.sized;
      below = w.below;
      greatest = λ c m h. ⊎_elim (λ (same : x ≡ c). apart c r h (subst (λ (p : Price). Below r p) same high)) (λ (k : Contains chunks c). w.greatest c k h) (Contains-cons_cases x chunks c m);
    } in made)
    (either x r)

pub record Ceiling (r : Price) (chunks : List Price) : Type 0 where
  pub at : Price
  pub corner : Contains chunks at
  pub above : Below r at
  pub least : (c : Price) → Contains chunks c → Below r c → AtMost at c

abbrev AllLow : Price → List Price → Type 0
AllLow r chunks = (c : Price) → Contains chunks c → AtMost c r

ceiling_of : (r : Price) (chunks : List Price) → All IsSized chunks → AllLow r chunks ⊎ Ceiling r chunks
ceiling_of r [] sized = inl (λ c m. not_in_none c m)
ceiling_of r (x ∷ chunks) sized =
    ⊎_elim
    (λ (low : AtMost x r).
    ⊎_elim
    (λ (all : AllLow r chunks). let made : AllLow r (x ∷ chunks) ⊎ Ceiling r (x ∷ chunks) = inl (λ c m. ⊎_elim (λ (same : x ≡ c). subst (λ (p : Price). AtMost p r) same low) (all c) (Contains-cons_cases x chunks c m)) in made)
    (λ (w : Ceiling r chunks).
    let made : AllLow r (x ∷ chunks) ⊎ Ceiling r (x ∷ chunks) =
    inr (record {
      at = w.at;
      corner = Contains-rest x chunks w.at w.corner;
      above = w.above;
      least = λ c m h. ⊎_elim (λ (same : x ≡ c). apart x r low (subst (λ (p : Price). Below r p) (sym same) h)) (λ (k : Contains chunks c). w.least c k h) (Contains-cons_cases x chunks c m);
    }) in made)
    (ceiling_of r chunks (All-tail IsSized x chunks sized)))
    (λ (high : Below r x).
    ⊎_elim
    (λ (all : AllLow r chunks).
    let made : AllLow r (x ∷ chunks) ⊎ Ceiling r (x ∷ chunks) =
    inr (record {
      at = x;
      corner = Contains-head x chunks;
      above = high;
      least = λ c m h. ⊎_elim (λ (same : x ≡ c). subst (AtMost x) same (itself x)) (λ (k : Contains chunks c). apart c r (all c k) h) (Contains-cons_cases x chunks c m);
    }) in made)
    (λ (w : Ceiling r chunks).
    ⊎_elim
    (λ (less : AtMost x w.at).
    let made : AllLow r (x ∷ chunks) ⊎ Ceiling r (x ∷ chunks) =
    inr (record {
      at = x;
      corner = Contains-head x chunks;
      above = high;
      least = λ c m h.
          ⊎_elim (λ (same : x ≡ c). subst (AtMost x) same (itself x))
          (λ (k : Contains chunks c). most_most x w.at c (All-contains IsSized chunks w.at (All-tail IsSized x chunks sized) w.corner) less (w.least c k h)) (Contains-cons_cases x chunks c m);
    }) in made)
    (λ (more : Below w.at x).
    let made : AllLow r (x ∷ chunks) ⊎ Ceiling r (x ∷ chunks) =
    inr (record {
      at = w.at;
      corner = Contains-rest x chunks w.at w.corner;
      above = w.above;
      least = λ c m h. ⊎_elim (λ (same : x ≡ c). subst (AtMost w.at) same (below_most w.at x more)) (λ (k : Contains chunks c). w.least c k h) (Contains-cons_cases x chunks c m);
    }) in made)
    (either x w.at))
    (ceiling_of r chunks (All-tail IsSized x chunks sized)))
    (either x r)

-- ---- between two corners

-- what is left of a difference
left_over : (x y : ℕ) → x ≤ (x - y) + y
left_over x y = omega arith

-- of three feerates in their order, with what parts them
pub record Between (low r high : Price) : Type 0 where
  pub whole : ℕ
  pub to_low : ℕ
  pub to_high : ℕ
  pub some : 1 ≤ whole
  pub sizes : to_low * low.vsize + to_high * high.vsize ≡ whole * r.vsize
  pub fees : to_low * low.fee + to_high * high.fee ≡ whole * r.fee

parted : (p0 q0 p q p1 q1 : ℕ) → 1 ≤ q0 → p0 * q ≤ p * q0 → p * q1 < p1 * q → p0 * q1 ≤ p1 * q0
    → (w : ℕ) × (w0 : ℕ) × (w1 : ℕ) × (1 ≤ w0) × (w0 * q0 + w1 * q1 ≡ w * q) × (w0 * p0 + w1 * p1 ≡ w * p)
parted p0 q0 p q p1 q1 some h k l =
    let w = p1 * q0 - p0 * q1 in
    let w0 = p1 * q - p * q1 in
    let w1 = p * q0 - p0 * q in
    let e : w + p0 * q1 ≡ p1 * q0 = omega (arith, l) in
    let e0 : w0 + p * q1 ≡ p1 * q = omega (arith, k) in
    let e1 : w1 + p0 * q ≡ p * q0 = omega (arith, h) in
    (w, w0, w1, omega (arith, k, e0), sums q0 q1 q p0 p1 p w w0 w1 e e0 e1, fees q0 q1 q p0 p1 p w w0 w1 e e0 e1)
  where
    sums : (q0 q1 q p0 p1 p w w0 w1 : ℕ) → w + p0 * q1 ≡ p1 * q0 → w0 + p * q1 ≡ p1 * q → w1 + p0 * q ≡ p * q0 → w0 * q0 + w1 * q1 ≡ w * q
    sums q0 q1 q p0 p1 p w w0 w1 e e0 e1 = omega (arith, ap (λ n. n * q) e, ap (λ n. n * q0) e0, ap (λ n. n * q1) e1)

    fees : (q0 q1 q p0 p1 p w w0 w1 : ℕ) → w + p0 * q1 ≡ p1 * q0 → w0 + p * q1 ≡ p1 * q → w1 + p0 * q ≡ p * q0 → w0 * p0 + w1 * p1 ≡ w * p
    fees q0 q1 q p0 p1 p w w0 w1 e e0 e1 = omega (arith, ap (λ n. n * p) e, ap (λ n. n * p0) e0, ap (λ n. n * p1) e1)

positive : (w w0 w1 q q0 q1 : ℕ) → 1 ≤ w0 → 1 ≤ q0 → w0 * q0 + w1 * q1 ≡ w * q → 1 ≤ w
positive w w0 w1 q q0 q1 some least e = ⊎_elim (λ (t : nat_lt 0 w ≡ true). (Decides-ltb 0 w).0 t) (λ (f : nat_lt 0 w ≡ false). absurd (none (ltb-false 0 w f))) (cases_Bool (nat_lt 0 w))
  where
    none : w ≤ 0 → ⊥
    none z = omega (arith, e, mul-le-mul_left q z, mul-le-mul_left q0 some, least)

between : (low r high : Price) → IsSized low → AtMost low r → Below r high → Between low r high
between low r high sized below above =
    let some : 1 ≤ r.vsize = real r.vsize (high.fee) (r.fee * high.vsize) above.is in
    let over : AtMost low high = most_most low r high (record { least = some }) below (below_most r high above) in
    let w = parted low.fee low.vsize r.fee r.vsize high.fee high.vsize sized.least below.is above.is over.is in
    record { whole = w.0; to_low = w.1; to_high = w.2; some = positive w.0 w.1 w.2 r.vsize low.vsize high.vsize w.3 sized.least w.4; sizes = w.4; fees = w.5 }
  where
    real : (q f n : ℕ) → n < f * q → 1 ≤ q
    real q f n h = ⊎_elim (λ (t : nat_lt 0 q ≡ true). (Decides-ltb 0 q).0 t) (λ (g : nat_lt 0 q ≡ false). absurd (let z : q ≤ 0 = ltb-false 0 q g in omega (arith, h, mul-le-mul_left f z))) (cases_Bool (nat_lt 0 q))

module _ (low r high : Price) (b : Between low r high) where
  -- what a chunk pays beyond a feerate lies at most where the line through the two corners does
  bent_one : (f v x x0 x1 : ℕ) → x ≡ f * r.vsize - r.fee * v → f * low.vsize ≤ x0 + low.fee * v → f * high.vsize ≤ x1 + high.fee * v → b.whole * x ≤ b.to_low * x0 + b.to_high * x1
  bent_one f v x x0 x1 is h0 h1 =
      ⊎_elim (λ (t : nat_lt (r.fee * v) (f * r.vsize) ≡ true). by_more ((Decides-ltb (r.fee * v) (f * r.vsize)).0 t))
      (λ (g : nat_lt (r.fee * v) (f * r.vsize) ≡ false). let z : x ≤ 0 = let l = ltb-false (r.fee * v) (f * r.vsize) g in omega (arith, is, l) in omega (arith, mul-le-mul_left b.whole z))
      (cases_Bool (nat_lt (r.fee * v) (f * r.vsize)))
    where
      by_more : r.fee * v < f * r.vsize → b.whole * x ≤ b.to_low * x0 + b.to_high * x1
      by_more m =
          let e : x + r.fee * v ≡ f * r.vsize = omega (arith, is, m) in
          omega (arith, ap (λ n. b.whole * n) e, mul-le-mul_left b.to_low h0, mul-le-mul_left b.to_high h1, ap (λ n. f * n) b.sizes, ap (λ n. v * n) b.fees)

  bent : (chunks : List Price) → b.whole * surplus r chunks ≤ b.to_low * surplus low chunks + b.to_high * surplus high chunks
  bent [] = omega arith
  bent (c ∷ chunks) =
      let one = bent_one c.fee c.vsize (beyond r c) (beyond low c) (beyond high c) refl (left_over (c.fee * low.vsize) (low.fee * c.vsize)) (left_over (c.fee * high.vsize) (high.fee * c.vsize)) in
      omega (arith, one, bent chunks, ap (λ n. b.whole * n) (sum_by-cons (beyond r) c chunks), ap (λ n. b.to_low * n) (sum_by-cons (beyond low) c chunks), ap (λ n. b.to_high * n) (sum_by-cons (beyond high) c chunks))

  -- a chunk whose own feerate is not between them lies there
  straight_high : (f v x x0 x1 : ℕ) → x + r.fee * v ≡ f * r.vsize → x0 + low.fee * v ≡ f * low.vsize → x1 + high.fee * v ≡ f * high.vsize → b.to_low * x0 + b.to_high * x1 ≤ b.whole * x
  straight_high f v x x0 x1 e e0 e1 =
      omega (arith, ap (λ n. b.whole * n) e, ap (λ n. b.to_low * n) e0, ap (λ n. b.to_high * n) e1, ap (λ n. f * n) b.sizes, ap (λ n. v * n) b.fees)

  exact : (a c : Price) → AtMost a c → beyond a c + a.fee * c.vsize ≡ c.fee * a.vsize
  exact a c h = omega (arith, h.is)

  nothing_beyond : (a c : Price) → AtMost c a → beyond a c ≡ 0
  nothing_beyond a c h = omega (arith, h.is)

  straight_one : (c : Price) → (AtMost c low × AtMost c high) ⊎ (AtMost low c × AtMost r c × AtMost high c) → b.to_low * beyond low c + b.to_high * beyond high c ≤ b.whole * beyond r c
  straight_one c (inl h) = omega (arith, ap (λ n. b.to_low * n) (nothing_beyond low c h.0), ap (λ n. b.to_high * n) (nothing_beyond high c h.1))
  straight_one c (inr h) = straight_high c.fee c.vsize (beyond r c) (beyond low c) (beyond high c) (exact r c h.1) (exact low c h.0) (exact high c h.2)

  straight : (chunks : List Price) → ((c : Price) → Contains chunks c → (AtMost c low × AtMost c high) ⊎ (AtMost low c × AtMost r c × AtMost high c))
      → b.to_low * surplus low chunks + b.to_high * surplus high chunks ≤ b.whole * surplus r chunks
  straight [] h = omega arith
  straight (c ∷ chunks) h =
      omega (
        arith,
        straight_one c (h c (Contains-head c chunks)),
        straight chunks (λ d m. h d (Contains-rest c chunks d m)),
        ap (λ n. b.whole * n) (sum_by-cons (beyond r) c chunks),
        ap (λ n. b.to_low * n) (sum_by-cons (beyond low) c chunks),
        ap (λ n. b.to_high * n) (sum_by-cons (beyond high) c chunks),
      )

-- ---- above all corners

falling_one : (f v p q p0 q0 : ℕ) → p0 * q ≤ p * q0 → q0 * (f * q - p * v) ≤ q * (f * q0 - p0 * v)
falling_one f v p q p0 q0 h =
    ⊎_elim (λ (t : nat_lt (p * v) (f * q) ≡ true). by_more ((Decides-ltb (p * v) (f * q)).0 t))
    (λ (g : nat_lt (p * v) (f * q) ≡ false). let z : f * q - p * v ≤ 0 = let l = ltb-false (p * v) (f * q) g in omega (arith, l) in omega (arith, mul-le-mul_left q0 z))
    (cases_Bool (nat_lt (p * v) (f * q)))
  where
    by_more : p * v < f * q → q0 * (f * q - p * v) ≤ q * (f * q0 - p0 * v)
    by_more m =
        let x = f * q - p * v in
        let x0 = f * q0 - p0 * v in
        let e : x + p * v ≡ f * q = omega (arith, m) in
        omega (arith, ap (λ n. q0 * n) e, mul-le-mul_left q (left_over (f * q0) (p0 * v)), mul-le-mul_left v h)

falling : (low r : Price) → AtMost low r → (chunks : List Price) → low.vsize * surplus r chunks ≤ r.vsize * surplus low chunks
falling low r h [] = omega arith
falling low r h (c ∷ chunks) =
    omega (arith, falling_one c.fee c.vsize r.fee r.vsize low.fee low.vsize h.is, falling low r h chunks, ap (λ n. low.vsize * n) (sum_by-cons (beyond r) c chunks), ap (λ n. r.vsize * n) (sum_by-cons (beyond low) c chunks))

none_beyond : (low : Price) (chunks : List Price) → ((c : Price) → Contains chunks c → AtMost c low) → surplus low chunks ≡ 0
none_beyond low [] h = refl
none_beyond low (c ∷ chunks) h =
    let one : beyond low c ≡ 0 = let m = (h c (Contains-head c chunks)).is in omega (arith, m) in
    omega (arith, sum_by-cons (beyond low) c chunks, one, none_beyond low chunks (λ d k. h d (Contains-rest c chunks d k)))

-- a feerate below another has a size
real : (q f n : ℕ) → n < f * q → 1 ≤ q
real q f n h = ⊎_elim (λ (t : nat_lt 0 q ≡ true). (Decides-ltb 0 q).0 t) (λ (g : nat_lt 0 q ≡ false). absurd (let z : q ≤ 0 = ltb-false 0 q g in omega (arith, h, mul-le-mul_left f z))) (cases_Bool (nat_lt 0 q))

over : (x y z : Price) → AtMost x y → Below y z → AtMost x z
over x y z h k = most_most x y z (record { least = real y.vsize z.fee (y.fee * z.vsize) k.is }) h (below_most y z k)

-- a line that is nowhere below another at its own corners is nowhere below it
module _ (a b : List Price) (sized : All IsSized a) (corners : (r : Price) → Contains (zero_rate ∷ a) r → surplus r b ≤ surplus r a) where
  pub nowhere : (r : Price) → surplus r b ≤ surplus r a
  nowhere r = ⊎_elim behind among (ceiling_of r a sized)
    where
      low : Floor r a
      low = floor_of r a sized

      behind : AllLow r a → surplus r b ≤ surplus r a
      behind all =
          let at = low.at in
          let none : surplus at a ≡ 0 = none_beyond at a (λ c m. low.greatest c m (all c m)) in
          let under : surplus at b ≤ surplus at a = corners at low.corner in
          let nil : surplus r b ≤ 0 = cancel (surplus r b) 0 at.vsize low.sized.least (omega (arith, falling at r low.below b, mul-le-mul_left r.vsize under, ap (λ n. r.vsize * n) none)) in
          omega (arith, nil)

      among : Ceiling r a → surplus r b ≤ surplus r a
      among high =
          let at = low.at in
          let top = high.at in
          let w : Between at r top = between at r top low.sized low.below high.above in
          let own : (c : Price) → Contains a c → (AtMost c at × AtMost c top) ⊎ (AtMost at c × AtMost r c × AtMost top c) = λ c m.
          ⊎_elim
          (λ (under : AtMost c r). let first = low.greatest c m under in let made : (AtMost c at × AtMost c top) ⊎ (AtMost at c × AtMost r c × AtMost top c) = inl (first, most_most c at top low.sized first (over at r top low.below high.above)) in made)
          (λ (above : Below r c).
          let last = high.least c m above in
          let made : (AtMost c at × AtMost c top) ⊎ (AtMost at c × AtMost r c × AtMost top c) = inr (over at r c low.below above, below_most r c above, last) in made)
          (either c r) in
          cancel (surplus r b) (surplus r a) w.whole w.some
          (omega (arith, bent at r top w b, straight at r top w a own, mul-le-mul_left w.to_low (corners at low.corner), mul-le-mul_left w.to_high (corners top (Contains-rest zero_rate a top high.corner))))

-- ---- better lines

not_true : (b : Bool) → not b ≡ true → b ≡ false
not_true true h = sym h
not_true false h = refl

not_false : (b : Bool) → b ≡ false → not b ≡ true
not_false b h = ap not h

passed : (a b : List Price) (corners : List Price) → list_any (is_below a b) corners ≡ false → (r : Price) → Contains corners r → surplus r b ≤ surplus r a
passed a b corners none r m = ltb-false (surplus r a) (surplus r b) (false_from_ne_true _ (λ t. true≢false (sym (list_any_of (is_below a b) corners r m t) ∙ none)))

widened : (a b : List Price) (r : Price) → Contains (zero_rate ∷ a) r → Contains (corners_of a b) r
widened a b r m =
    ⊎_elim (λ (same : zero_rate ≡ r). subst (Contains (corners_of a b)) same (Contains-head zero_rate (a ++ b))) (λ (k : Contains a r). Contains-rest zero_rate (a ++ b) r (Contains-append_left a b r k)) (Contains-cons_cases zero_rate a r m)

widened_behind : (a b : List Price) (r : Price) → Contains (zero_rate ∷ b) r → Contains (corners_of a b) r
widened_behind a b r m =
    ⊎_elim (λ (same : zero_rate ≡ r). subst (Contains (corners_of a b)) same (Contains-head zero_rate (a ++ b))) (λ (k : Contains b r). Contains-rest zero_rate (a ++ b) r (Contains-append_right a b r k)) (Contains-cons_cases zero_rate b r m)

pub record IsAbove (a b : List Price) : Type 0 where
  pub nowhere_below : (r : Price) → surplus r b ≤ surplus r a
  pub somewhere : (r : Price) × (surplus r b < surplus r a)

pub above_if_improves : (a b : List Price) → All IsSized a → improves a b ≡ true → IsAbove a b
above_if_improves a b sized h =
    let parts = and_parts (not (list_any (is_below a b) (corners_of a b))) (list_any (is_below b a) (corners_of a b)) h in
    let some = any_is (is_below b a) (corners_of a b) parts.1 in
    record {
      nowhere_below = nowhere a b sized (λ r m. passed a b (corners_of a b) (not_true (list_any (is_below a b) (corners_of a b)) parts.0) r (widened a b r m));
      somewhere = (some.0, (Decides-ltb (surplus some.0 b) (surplus some.0 a)).0 some.2);
    }

pub improves_if_above : (a b : List Price) → All IsSized b → IsAbove a b → improves a b ≡ true
improves_if_above a b sized h =
    and_from (not (list_any (is_below a b) (corners_of a b))) (list_any (is_below b a) (corners_of a b))
    (not_false (list_any (is_below a b) (corners_of a b)) (false_from_ne_true _ (λ t.
    let w = any_is (is_below a b) (corners_of a b) t in
    let less = (Decides-ltb (surplus w.0 a) (surplus w.0 b)).0 w.2 in
    let most = h.nowhere_below w.0 in
    absurd (omega (arith, less, most)))))
    (⊎_elim (λ (t : list_any (is_below b a) (corners_of a b) ≡ true). t)
    (λ (f : list_any (is_below b a) (corners_of a b) ≡ false).
    let under = nowhere b a sized (λ r m. passed b a (corners_of a b) f r (widened_behind a b r m)) h.somewhere.0 in
    let over = h.somewhere.1 in
    absurd (omega (arith, under, over)))
    (cases_Bool (list_any (is_below b a) (corners_of a b))))

never : (b : Bool) → (not b && b) ≡ false
never true = refl
never false = refl

same_surplus : (r : Price) (a c : List Price) → IsPermutation a c → surplus r a ≡ surplus r c
same_surplus r a c h = sym (sum_by-IsPermutation (beyond r) a c h)

same_any : (p q : Price → Bool) (a b c d : List Price) → ((r : Price) → p r ≡ q r) → IsPermutation a c → IsPermutation b d → list_any p (corners_of a b) ≡ list_any q (corners_of c d)
same_any p q a b c d same h k =
    ap (λ (t : Bool). p zero_rate || t) (list_any-append p a b)
    ∙ ((λ z. p zero_rate || (list_any-IsPermutation p a c h z || list_any-IsPermutation p b d k z))
    ∙ (sym (ap (λ (t : Bool). p zero_rate || t) (list_any-append p c d)) ∙ (λ z. list_any (λ r. same r z) (corners_of c d))))

pub diagram_order : DiagramIsAnOrder
diagram_order = record {
  irreflexive = λ a. never (list_any (is_below a a) (corners_of a a));
  transitive = λ a b c sa sb sc h k.
      let first = above_if_improves a b sa h in
      let second = above_if_improves b c sb k in
      improves_if_above a c sc
      (record {
        nowhere_below = λ r. let x = first.nowhere_below r in let y = second.nowhere_below r in omega (arith, x, y);
        somewhere = (first.somewhere.0, let x = first.somewhere.1 in let y = second.nowhere_below first.somewhere.0 in omega (arith, x, y));
      });
  unordered = λ a b c d h k.
      (λ z.
      not (same_any (is_below a b) (is_below c d) a b c d (λ r w. nat_lt (same_surplus r a c h w) (same_surplus r b d k w)) h k z)
      && same_any (is_below b a) (is_below d c) a b c d (λ r w. nat_lt (same_surplus r b d k w) (same_surplus r a c h w)) h k z);
}
