-- Trimming, one entry after another.
use Rattle.std.proofs.Common.{◌≡◌, ℕ, zero, suc, ◌<◌, ◌≤◌, Bool, true, false, cond, List, [], ◌∷◌, length, refl, sym, ap, ◌∙◌, subst, arith, Option, Some, None}
use Rattle.std.specs.Prelude.{nat_le}
use Rattle.std.specs.Option.{option_map}
use Rattle.std.proofs.lemmas.Bool.{cond-true, cond-false}
use Rattle.std.proofs.lemmas.Bool.Decides.{nat_tests}
use Rattle.std.proofs.lemmas.Option.{none-some, same_Some}
use Rattle.gate_tx.specs.Ids.{txid_of}
use Rattle.gate_ranking.specs.Lesser.{lesser, least_by}
use Rattle.gate_ranking.specs.Rate.{rate_cmp}
use Rattle.gate_graph.proofs.Least.{least_in}
use Rattle.gate_pool.specs.Pool.{Admitted, size_of}
use Rattle.gate_pool.specs.Family.{without_family}
use Rattle.gate_pool.specs.Scores.{rate_of, score_of, least_entry, least_of}
use Rattle.gate_pool.specs.declared.Score.{Score}
use Rattle.gate_pool.proofs.Removals.{family_falls}
use Rattle.gate_trim.specs.Trimming.{Trimmed, raised, on_least, trim_steps, trim_of}

-- the least score is an entry's
pub record IsScored (entries : List Admitted) (s : Score) : Type 0 where
  pub entry : Admitted
  pub least : least_entry entries ≡ Some entry
  pub is : s ≡ score_of entries entry

pub least_is : (entries : List Admitted) (s : Score) → least_of entries ≡ Some s → IsScored entries s
least_is entries s h = by (least_entry entries) refl h
  where
    by : (o : Option Admitted) → least_entry entries ≡ o → option_map (score_of entries) o ≡ Some s → IsScored entries s
    by None e k = absurd (none-some s k)
    by (Some d) e k = record { entry = d; least = e; is = sym (same_Some (score_of entries d) s k) }

-- by its id
pub score_txid : (entries : List Admitted) (e : Admitted) → (score_of entries e).txid ≡ txid_of e.tx
unfolding score_of
score_txid entries e = refl

pub least_falls : (entries : List Admitted) (s : Score) → least_of entries ≡ Some s → length (without_family entries s.txid) < length entries
least_falls entries s h =
    let w = least_is entries s h in
    subst (λ x. length (without_family entries x) < length entries) (sym (ap (λ (t : Score). t.txid) w.is ∙ score_txid entries w.entry))
    (family_falls entries w.entry (least_in rate_cmp (rate_of entries) entries w.entry w.least))

abbrev stop : List Admitted → ℕ → Trimmed
stop entries floor = record { entries = entries; floor = floor }

none_left : (entries : List Admitted) → length entries ≤ 0 → entries ≡ []
none_left [] h = refl
none_left (e ∷ entries) h = absurd (omega (arith, h))

empty_steps : (step n budget floor : ℕ) → trim_steps step n budget [] floor ≡ stop [] floor
unfolding trim_steps
empty_steps step zero budget floor = refl
empty_steps step (suc n) budget floor = by (nat_le (size_of []) budget)
  where
    by : (b : Bool) → cond b (stop [] floor) (stop [] floor) ≡ stop [] floor
    by true = refl
    by false = refl

-- any number of steps that is enough gives the same
pub enough : (step n m budget : ℕ) (entries : List Admitted) (floor : ℕ) → length entries ≤ n → length entries ≤ m → trim_steps step n budget entries floor ≡ trim_steps step m budget entries floor
unfolding trim_steps
enough step zero m budget entries floor h k =
    let e = none_left entries h in
    ap (λ l. trim_steps step zero budget l floor) e ∙ empty_steps step zero budget floor ∙ sym (empty_steps step m budget floor) ∙ ap (λ l. trim_steps step m budget l floor) (sym e)
enough step (suc n) zero budget entries floor h k =
    let e = none_left entries k in
    ap (λ l. trim_steps step (suc n) budget l floor) e ∙ empty_steps step (suc n) budget floor ∙ sym (empty_steps step zero budget floor) ∙ ap (λ l. trim_steps step zero budget l floor) (sym e)
enough step (suc n) (suc m) budget entries floor h k =
    ap (λ t. cond (nat_le (size_of entries) budget) (stop entries floor) t) (go (λ l f p q. enough step n m budget l f p q) (least_of entries) refl)
  where
    go : ((l : List Admitted) (f : ℕ) → length l ≤ n → length l ≤ m → trim_steps step n budget l f ≡ trim_steps step m budget l f) → (o : Option Score) → least_of entries ≡ o
        → on_least o (stop entries floor) (λ s. trim_steps step n budget (without_family entries s.txid) (raised step floor s.family)) ≡ on_least o (stop entries floor) (λ s. trim_steps step m budget (without_family entries s.txid) (raised step floor s.family))
    go ih None e = refl
    go ih (Some s) e = let l = least_falls entries s e in ih (without_family entries s.txid) (raised step floor s.family) (omega (arith, l, h)) (omega (arith, l, k))

-- one step, where any are left
one_step : (step n budget : ℕ) (entries : List Admitted) (floor : ℕ) (s : Score) → nat_le (size_of entries) budget ≡ false → least_of entries ≡ Some s
    → trim_steps step (suc n) budget entries floor ≡ trim_steps step n budget (without_family entries s.txid) (raised step floor s.family)
unfolding trim_steps
one_step step n budget entries floor s h e =
    cond-false (nat_le (size_of entries) budget) (stop entries floor) (on_least (least_of entries) (stop entries floor) (λ s. trim_steps step n budget (without_family entries s.txid) (raised step floor s.family))) h
    ∙ ap (λ o. on_least o (stop entries floor) (λ s. trim_steps step n budget (without_family entries s.txid) (raised step floor s.family))) e

ends_step : (step n budget : ℕ) (entries : List Admitted) (floor : ℕ) → nat_le (size_of entries) budget ≡ true → trim_steps step n budget entries floor ≡ stop entries floor
unfolding trim_steps
ends_step step zero budget entries floor h = refl
ends_step step (suc n) budget entries floor h = cond-true (nat_le (size_of entries) budget) (stop entries floor) (on_least (least_of entries) (stop entries floor) (λ s. trim_steps step n budget (without_family entries s.txid) (raised step floor s.family))) h

-- within the budget nothing goes
pub trim_ends : (step budget : ℕ) (entries : List Admitted) (floor : ℕ) → nat_le (size_of entries) budget ≡ true → trim_of step budget entries floor ≡ record { entries = entries; floor = floor }
unfolding trim_of
trim_ends step budget entries floor h = ends_step step (length entries) budget entries floor h

-- above it the entry of least score goes first
pub trim_goes : (step budget : ℕ) (entries : List Admitted) (floor : ℕ) (s : Score) → nat_le (size_of entries) budget ≡ false → least_of entries ≡ Some s
    → trim_of step budget entries floor ≡ trim_of step budget (without_family entries s.txid) (raised step floor s.family)
unfolding trim_of
trim_goes step budget entries floor s h e =
    let l = least_falls entries s e in
    enough step (length entries) (suc (length entries)) budget entries floor (omega arith) (omega arith)
    ∙ one_step step (length entries) budget entries floor s h e
    ∙ enough step (length entries) (length (without_family entries s.txid)) budget (without_family entries s.txid) (raised step floor s.family) (omega (arith, l)) (omega arith)

-- some entry ranks least
abbrev first : Admitted → List Admitted → Admitted
first e entries = lesser rate_cmp (rate_of (e ∷ entries)) e (least_by rate_cmp (rate_of (e ∷ entries)) entries)

-- and where there is none, nothing does
pub trim_stops : (step budget : ℕ) (entries : List Admitted) (floor : ℕ) → least_of entries ≡ None → trim_of step budget entries floor ≡ record { entries = entries; floor = floor }
unfolding trim_of
trim_stops step budget [] floor h = empty_steps step 0 budget floor
trim_stops step budget (e ∷ entries) floor h = absurd (none-some (score_of (e ∷ entries) (first e entries)) (sym h))

pub above : (n b : ℕ) → b < n → nat_le n b ≡ false
above n b h = grind (arith, nat_tests)

pub within : (n b : ℕ) → n ≤ b → nat_le n b ≡ true
within n b h = grind (arith, nat_tests)

in_budget : (n b : ℕ) → nat_le n b ≡ true → n ≤ b
in_budget n b h = grind (arith, nat_tests)

past_budget : (n b : ℕ) → nat_le n b ≡ false → b < n
past_budget n b h = grind (arith, nat_tests)

pub empty_fits : (entries : List Admitted) → least_of entries ≡ None → size_of entries ≤ 0
empty_fits [] h = omega arith
empty_fits (e ∷ entries) h = absurd (none-some (score_of (e ∷ entries) (first e entries)) (sym h))

-- what holds of entries and the floor where trimming stops, and before a step where it holds after it, holds of what it makes of them
module _ (step budget : ℕ) (P : List Admitted → ℕ → Trimmed → Type 0)
    (stops : (entries : List Admitted) (floor : ℕ) → size_of entries ≤ budget → P entries floor (record { entries = entries; floor = floor }))
    (steps : (entries : List Admitted) (floor : ℕ) (s : Score) (t : Trimmed) → budget < size_of entries → least_of entries ≡ Some s → P (without_family entries s.txid) (raised step floor s.family) t → P entries floor t) where
  trims_once : (entries : List Admitted) (floor : ℕ) → ((s : Score) → least_of entries ≡ Some s → P (without_family entries s.txid) (raised step floor s.family) (trim_of step budget (without_family entries s.txid) (raised step floor s.family))) → P entries floor (trim_of step budget entries floor)
  trims_once entries floor rest = go (nat_le (size_of entries) budget) refl (least_of entries) refl
    where
      end : trim_of step budget entries floor ≡ stop entries floor → size_of entries ≤ budget → P entries floor (trim_of step budget entries floor)
      end is fits = subst (P entries floor) (sym is) (stops entries floor fits)

      go : (b : Bool) → nat_le (size_of entries) budget ≡ b → (o : Option Score) → least_of entries ≡ o → P entries floor (trim_of step budget entries floor)
      go true e o r = end (trim_ends step budget entries floor e) (in_budget (size_of entries) budget e)
      go false e None r = end (trim_stops step budget entries floor r) (omega (arith, empty_fits entries r))
      go false e (Some s) r = subst (P entries floor) (sym (trim_goes step budget entries floor s e r))
          (steps entries floor s (trim_of step budget (without_family entries s.txid) (raised step floor s.family)) (past_budget (size_of entries) budget e) r (rest s r))

  trims_by : (n : ℕ) (entries : List Admitted) (floor : ℕ) → length entries ≤ n → P entries floor (trim_of step budget entries floor)
  trims_by zero entries floor h = trims_once entries floor (λ s r. absurd (omega (arith, h, least_falls entries s r)))
  trims_by (suc n) entries floor h = trims_once entries floor (λ s r. trims_by n (without_family entries s.txid) (raised step floor s.family) (omega (arith, h, least_falls entries s r)))

  pub trims : (entries : List Admitted) (floor : ℕ) → P entries floor (trim_of step budget entries floor)
  trims entries floor = trims_by (length entries) entries floor (omega arith)

-- what each removal of a family keeps, trimming keeps
pub trim_keeps : (P : List Admitted → Type 0) → ((entries : List Admitted) (txid : List ℕ) → P entries → P (without_family entries txid)) → (step budget : ℕ) (entries : List Admitted) (floor : ℕ) → P entries → P (trim_of step budget entries floor).entries
trim_keeps P keeps step budget entries floor h = trims step budget (λ l f t. P l → P t.entries) (λ l f fits p. p) (λ l f s t over r k p. k (keeps l s.txid p)) entries floor h

-- what is left is within the budget
pub trim_within : (step budget : ℕ) (entries : List Admitted) (floor : ℕ) → size_of (trim_of step budget entries floor).entries ≤ budget
trim_within step budget entries floor = trims step budget (λ l f t. size_of t.entries ≤ budget) (λ l f fits. fits) (λ l f s t over r k. k) entries floor

-- the floor doesn't fall
pub trim_rises : (step budget : ℕ) (entries : List Admitted) (floor : ℕ) → floor ≤ (trim_of step budget entries floor).floor
trim_rises step budget entries floor = trims step budget (λ l f t. f ≤ t.floor) (λ l f fits. omega arith) (λ l f s t over r k. omega (arith, k)) entries floor
