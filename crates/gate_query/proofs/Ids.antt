-- Lists of ids, and the ids of families.
use Rattle.std.proofs.Common.{◌≡◌, ℕ, Bool, true, false, cond, List, [], ◌∷◌, Option, Some, None, refl, ap}
use Rattle.std.specs.Prelude.{IsSome, filter}
use Rattle.gate_tx.specs.Ids.{txid_of}
use Rattle.gate_pool.specs.Pool.{Admitted, listing_of}

pub some_unless_none : {X : Type 0} (o : Option X) → (o ≡ None → ⊥) → IsSome o
some_unless_none None h = absurd (h refl)
some_unless_none (Some x) h = refl

-- ids of entries that pass a test are those of the entries whose ids pass it
pub kept_listing : (p : List ℕ → Bool) (es : List Admitted) → filter p (listing_of es) ≡ listing_of (filter (λ (e : Admitted). p (txid_of e.tx)) es)
kept_listing p [] = refl
kept_listing p (e ∷ es) = by (p (txid_of e.tx)) (kept_listing p es)
  where
    by : (b : Bool) → filter p (listing_of es) ≡ listing_of (filter (λ (x : Admitted). p (txid_of x.tx)) es)
        → cond b (txid_of e.tx ∷ filter p (listing_of es)) (filter p (listing_of es))
        ≡ listing_of (cond b (e ∷ filter (λ (x : Admitted). p (txid_of x.tx)) es) (filter (λ (x : Admitted). p (txid_of x.tx)) es))
    by true rest = ap (λ l. txid_of e.tx ∷ l) rest
    by false rest = rest
