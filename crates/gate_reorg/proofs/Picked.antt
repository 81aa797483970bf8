-- Entries that are picked by their ids are those that pass the test.
use Rattle.std.proofs.Common.{◌≡◌, ℕ, Bool, not, ◌&&◌, ◌||◌, List, [], ◌∷◌, refl, sym, ap, ◌∙◌}
use Rattle.std.specs.Prelude.{Contains}
use Rattle.std.specs.List.{list_any}
use Rattle.std.specs.Str.{bytes_eq}
use Rattle.std.specs.Cmp.Lexicographic.{bytes_decides}
use Rattle.std.proofs.lemmas.Bool.{and_parts, and_from}
use Rattle.gate_tx.specs.Ids.{txid_of}
use Rattle.gate_graph.specs.Family.{reaches}
use Rattle.gate_bytes.proofs.Members.{any_is, list_any_of, Contains-head, Contains-rest}
use Rattle.gate_graph.proofs.Steps.{same_bool}
use Rattle.gate_chain.specs.History.{History}
use Rattle.gate_pool.specs.Pool.{Admitted, listing_of}
use Rattle.gate_pool.specs.Family.{steps, without_below}
use Rattle.gate_pool.specs.Distinct.{AreDistinct}
use Rattle.gate_pool.proofs.Adding.{found_by_id, same_kept}
use Rattle.gate_pool.proofs.Entries.{Contains-map}
use Rattle.gate_pool.proofs.Walking.{same_id}
use Rattle.gate_reorg.specs.Picking.{passes, is_premature_id}
use Rattle.gate_reorg.specs.Reorganisation.{is_premature, without_premature}

-- tests that agree on what a list has find something in it alike
any_same : {X : Type 0} (p q : X → Bool) (xs : List X) → ((x : X) → Contains xs x → p x ≡ q x) → list_any p xs ≡ list_any q xs
any_same p q [] h = refl
any_same p q (x ∷ xs) h = ap (λ b. b || list_any p xs) (h x (Contains-head x xs)) ∙ ap (λ b. q x || b) (any_same p q xs (λ y m. h y (Contains-rest x xs y m)))

-- and leave the same
pub without_below-same : (p q : Admitted → Bool) (entries : List Admitted) → ((e : Admitted) → Contains entries e → p e ≡ q e) → without_below p entries ≡ without_below q entries
without_below-same p q entries h =
    same_kept _ _ entries (λ e m. ap not (any_same _ _ entries (λ a n. ap (λ b. b && reaches (steps entries) (txid_of a.tx) (txid_of e.tx)) (h a n))))

module _ (chain : History) (entries : List Admitted) (distinct : AreDistinct entries) where
  is_premature_at : (e : Admitted) → Contains entries e → is_premature_id chain entries (txid_of e.tx) ≡ is_premature chain entries e.tx
  is_premature_at e m = ap (passes (λ (d : Admitted). is_premature chain entries d.tx)) (found_by_id entries distinct.txids e m)

  listed : (e : Admitted) → Contains entries e → list_any (λ (x : List ℕ). bytes_eq x (txid_of e.tx) && is_premature_id chain entries x) (listing_of entries) ≡ is_premature chain entries e.tx
  listed e m = same_bool _ _
      (λ h.
      let w = any_is (λ (x : List ℕ). bytes_eq x (txid_of e.tx) && is_premature_id chain entries x) (listing_of entries) h in
      let p = and_parts (bytes_eq w.0 (txid_of e.tx)) (is_premature_id chain entries w.0) w.2 in
      sym (is_premature_at e m) ∙ ap (is_premature_id chain entries) (sym ((bytes_decides w.0 (txid_of e.tx)).0 p.0)) ∙ p.1)
      (λ t.
      list_any_of (λ (x : List ℕ). bytes_eq x (txid_of e.tx) && is_premature_id chain entries x) (listing_of entries) (txid_of e.tx)
      (Contains-map (λ (d : Admitted). txid_of d.tx) entries e m)
      (and_from (bytes_eq (txid_of e.tx) (txid_of e.tx)) (is_premature_id chain entries (txid_of e.tx)) (same_id (txid_of e.tx)) (is_premature_at e m ∙ t)))

  pub without_listed : (has : List ℕ → Bool) → ((id : List ℕ) → has id ≡ list_any (λ (x : List ℕ). bytes_eq x id && is_premature_id chain entries x) (listing_of entries))
      → without_below (λ e. has (txid_of e.tx)) entries ≡ without_premature chain entries
  without_listed has are = without_below-same _ _ entries (λ e m. are (txid_of e.tx) ∙ listed e m)
