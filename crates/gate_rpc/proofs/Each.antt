-- What each value of a list stands for, one after another.
use Rattle.std.proofs.Common.{◌≡◌, ◌≢◌, ℕ, suc, ◌<◌, ◌≤◌, ◌+◌, ◌==◌, ◌&&◌, ◌⊎◌, Bool, true, false, if◌then◌else◌, List, [], ◌∷◌, ◌++◌, length, drop, get_or, Option, Some, None, refl, sym, ap, ◌∙◌, append_assoc, arith}
use Rattle.std.specs.Prelude.{String, nat_le}
use Rattle.std.specs.Option.{option_map}
use Rattle.std.proofs.lemmas.Bool.Decides.{nat_tests}
use Rattle.std.specs.declared.alloc.Global.{Global}
use Rattle.std.proofs.lemmas.List.{at_drop_more, at_drop_all}
use Rattle.serde_json.specs.Data.{Data}
use Rattle.serde_json.specs.Find.{as_str}
use Rattle.serde_json.specs.View.{view, items_view, members_view}
use Rattle.serde_json.specs.declared.value.Value.{Value}
use Rattle.gate_tx.specs.Tx.{Tx}
use Rattle.gate_rpc.specs.declared.request.Command.TheVariants.{TestMempoolAccept, TestList}
use Rattle.gate_rpc.specs.Calls.{count_of, each_of, joined, members_count, submission_of, submissions_in, test_of, txid_first}

-- these, and then what the rest stands for
abbrev pub behind : {A : Type 0} → List A → Option (List A) → Option (List A)
behind done None = None
behind done (Some rest) = Some (done ++ rest)

behind_none : {A : Type 0} (o : Option (List A)) → o ≡ behind [] o
behind_none None = refl
behind_none (Some rest) = refl

behind_one : {A : Type 0} (done : List A) (a : A) (o : Option (List A)) → behind done (joined (Some a) o) ≡ behind (done ++ a ∷ []) o
behind_one done a None = refl
behind_one done a (Some rest) = ap Some (sym (append_assoc done (a ∷ []) rest))

behind_nil : {A : Type 0} (done : List A) → done ++ [] ≡ done
behind_nil [] = refl
behind_nil (a ∷ done) = ap (λ l. a ∷ l) (behind_nil done)

module _ {A : Type 0} (f : Data → Option A) where
  abbrev pub rest_of : List Value → Option (List A)
  rest_of vs = each_of f (items_view vs)

  pub begun : (vs : List Value) → each_of f (items_view vs) ≡ behind [] (rest_of (drop 0 vs))
  begun vs = behind_none (rest_of vs)

  pub went_on : (vs : List Value) (i : ℕ) (done : List A) (v : Value) (a : A) → i < length vs → get_or vs i v ≡ v → f (view v) ≡ Some a
      → each_of f (items_view vs) ≡ behind done (rest_of (drop i vs)) → each_of f (items_view vs) ≡ behind (done ++ a ∷ []) (rest_of (drop (i + 1) vs))
  went_on vs i done v a lt at is so =
      so
      ∙ ap (behind done) (at_drop_more rest_of vs i v lt ∙ ap (λ (w : Value). joined (f (view w)) (rest_of (drop (i + 1) vs))) at ∙ ap (λ o. joined o (rest_of (drop (i + 1) vs))) is)
      ∙ behind_one done a (rest_of (drop (i + 1) vs))

  pub stopped : (vs : List Value) (i : ℕ) (done : List A) (v : Value) → i < length vs → get_or vs i v ≡ v → f (view v) ≡ None
      → each_of f (items_view vs) ≡ behind done (rest_of (drop i vs)) → None ≡ each_of f (items_view vs)
  stopped vs i done v lt at is so =
      sym (so
      ∙ ap (behind done) (at_drop_more rest_of vs i v lt ∙ ap (λ (w : Value). joined (f (view w)) (rest_of (drop (i + 1) vs))) at ∙ ap (λ o. joined o (rest_of (drop (i + 1) vs))) is))

  pub ended : (vs : List Value) (i : ℕ) (done : List A) → length vs ≤ i → each_of f (items_view vs) ≡ behind done (rest_of (drop i vs)) → Some done ≡ each_of f (items_view vs)
  ended vs i done end so = sym (so ∙ ap (behind done) (at_drop_all rest_of vs i end) ∙ ap Some (behind_nil done))

-- lists of none or of more than two name no txid
pub not_first : (vs : List Value) → length vs ≢ 1 → length vs ≢ 2 → None ≡ txid_first (items_view vs)
not_first [] one two = refl
not_first (v ∷ []) one two = absurd (one refl)
not_first (v ∷ w ∷ []) one two = absurd (two refl)
not_first (v ∷ w ∷ x ∷ vs) one two = refl

pub keys_counted : (ms : List (String Global × Value)) → members_count (members_view ms) ≡ length ms
keys_counted [] = refl
keys_counted (m ∷ ms) = ap suc (keys_counted ms)

pub counted : (vs : List Value) → count_of (items_view vs) ≡ length vs
counted [] = refl
counted (v ∷ vs) = ap suc (counted vs)

-- a choice by whether a number is from 1 to 25
outside : {A : Type 0} (n m : ℕ) (o : Option A) → n ≡ m → (m ≡ 0) ⊎ (25 < m) → None ≡ (if nat_le 1 n && nat_le n 25 then o else None)
outside n m o same h = grind (arith, nat_tests)

inside : {A : Type 0} (n m : ℕ) (o : Option A) → n ≡ m → m ≢ 0 → m ≤ 25 → o ≡ (if nat_le 1 n && nat_le n 25 then o else None)
inside n m o same some few = grind (arith, nat_tests)

-- an empty list has no submissions, and neither has one of too many
pub few_or_many : (vs : List Value) → (length vs ≡ 0) ⊎ (25 < length vs) → None ≡ submissions_in (items_view vs)
few_or_many vs h = outside (count_of (items_view vs)) (length vs) (each_of (λ d. option_map submission_of (as_str d)) (items_view vs)) (counted vs) h

-- any other has those of its texts
pub in_between : (vs : List Value) → length vs ≢ 0 → length vs ≤ 25 → each_of (λ d. option_map submission_of (as_str d)) (items_view vs) ≡ submissions_in (items_view vs)
in_between vs some few = inside (count_of (items_view vs)) (length vs) (each_of (λ d. option_map submission_of (as_str d)) (items_view vs)) (counted vs) some few

-- what the test of a length says
pub is_nothing : (n : ℕ) (b : Bool) → b ≡ (n == 0) → b ≡ true → n ≡ 0
is_nothing n b is h = grind (arith, nat_tests)

pub is_something : (n : ℕ) (b : Bool) → b ≡ (n == 0) → b ≡ false → n ≢ 0
is_something n b is h = grind (arith, nat_tests)

-- several, or none, are tested as a list
pub several : (xs : List (Option Tx)) → length xs ≢ 1 → TestList xs ≡ test_of xs
several [] other = refl
several (x ∷ []) other = absurd (other refl)
several (x ∷ y ∷ xs) other = refl

-- one is tested by itself
pub alone : (xs rest : List (Option Tx)) (x : Option Tx) → length xs ≡ 1 → xs ≡ rest ++ x ∷ [] → TestMempoolAccept x ≡ test_of xs
alone xs [] x one is = ap test_of (sym is)
alone xs (r ∷ []) x one is = absurd (omega (arith, ap length is, one))
alone xs (r ∷ s ∷ rest) x one is = absurd (omega (arith, ap length is, one))
