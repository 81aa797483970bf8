-- What is held at the place of the least key is the least by recursion.
use Rattle.std.proofs.Common.{◌≡◌, ℕ, zero, suc, Bool, true, false, List, [], ◌∷◌, ◌++◌, map, set, Option, Some, None, refl, sym, ap, subst, ◌∙◌, arith, if◌then◌else◌, is_some}
use Rattle.std.specs.Prelude.{filter}
use Rattle.std.specs.Option.{option_map}
use Rattle.std.specs.declared.cmp.Ordering.{Ordering}
use Rattle.std.specs.declared.cmp.Ordering.TheVariants.{Less, Equal, Greater}
use Rattle.std.specs.Ordering.{is_lt, is_gt, ordering_reverse}
use Rattle.std.specs.Cmp.{IsTotalOrder}
use Rattle.std.proofs.lemmas.Bool.{true≢false}
use Rattle.std.proofs.lemmas.List.{map-append, map-set}
use Rattle.gate_ranking.specs.Ranking.{at, IsLeast, IsBare}
use Rattle.gate_ranking.specs.Lesser.{held_in, lesser, least_by}

not_back : (o p : Ordering) → p ≡ ordering_reverse o → is_gt o ≡ false → is_lt p ≡ false
not_back Less p e h = ap is_lt e
not_back Equal p e h = ap is_lt e
not_back Greater p e h = absurd (true≢false h)

module _ {E K : Type 0} (key : E → K) where
  -- the keys of what stands in slots
  abbrev pub keys_of : List (Option E) → List (Option K)
  keys_of slots = map (option_map key) slots

  pub keys_of-push : (slots : List (Option E)) (e : Option E) → keys_of (slots ++ e ∷ []) ≡ keys_of slots ++ option_map key e ∷ []
  keys_of-push slots e = map-append (option_map key) slots (e ∷ [])

  pub keys_of-set : (slots : List (Option E)) (place : ℕ) (e : Option E) → keys_of (set slots place e) ≡ set (keys_of slots) place (option_map key e)
  keys_of-set slots place e = map-set (option_map key) slots place e

  pub keys_of-close : (slots : List (Option E)) → keys_of (filter is_some slots) ≡ filter is_some (keys_of slots)
  keys_of-close [] = refl
  keys_of-close (None ∷ slots) = keys_of-close slots
  keys_of-close (Some e ∷ slots) = ap (λ l. Some (key e) ∷ l) (keys_of-close slots)

  module _ (R : K → K → Ordering) where
    -- something is held at a place
    record IsHeld (slots : List (Option E)) (e : E) : Type 0 where
      pub place : ℕ
      pub held : at slots place ≡ Some e

    held_more : (x : Option E) (slots : List (Option E)) (e : E) → IsHeld slots e → IsHeld (x ∷ slots) e
    held_more x slots e h = record { place = suc h.place; held = h.held }

    chosen : (x : E) (slots : List (Option E)) (t : Option E) (e : E) → ((k : E) → t ≡ Some k → IsHeld slots k) → Some (lesser R key x t) ≡ Some e → IsHeld (Some x ∷ slots) e
    chosen x slots None e h s = record { place = zero; held = s }
    chosen x slots (Some k) e h s = go (is_lt (R (key x) (key k))) refl
      where
        go : (t : Bool) → is_lt (R (key x) (key k)) ≡ t → IsHeld (Some x ∷ slots) e
        go true l = record { place = zero; held = subst (λ b. Some (if b then x else k) ≡ Some e) l s }
        go false l = held_more (Some x) slots e (h e (subst (λ b. Some (if b then x else k) ≡ Some e) l s))

    -- the least by recursion is one of those held
    least_held : (slots : List (Option E)) (e : E) → least_by R key (held_in slots) ≡ Some e → IsHeld slots e
    least_held [] e s = absurd (let f : None ≡ Some e = s in cc)
    least_held (None ∷ slots) e s = held_more None slots e (least_held slots e s)
    least_held (Some x ∷ slots) e s = chosen x slots (least_by R key (held_in slots)) e (λ k s. least_held slots k s) s

    stays : (x : E) (t : Option E) → ((k : E) → t ≡ Some k → is_lt (R (key x) (key k)) ≡ true) → lesser R key x t ≡ x
    stays x None h = refl
    stays x (Some k) h = rw (h k refl) refl

    key_at : (slots : List (Option E)) (q : ℕ) (e : E) → at slots q ≡ Some e → at (keys_of slots) q ≡ Some (key e)
    key_at [] q e s = absurd (let f : None ≡ Some e = s in cc)
    key_at (x ∷ slots) zero e s = ap (option_map key) s
    key_at (x ∷ slots) (suc q) e s = key_at slots q e s

    pub least_is : IsTotalOrder R → (slots : List (Option E)) (place : ℕ) (e : E) → at slots place ≡ Some e → IsLeast R (keys_of slots) place (key e) → least_by R key (held_in slots) ≡ Some e
    least_is o [] place e s h = absurd (let f : None ≡ Some e = s in cc)
    least_is o (None ∷ slots) zero e s h = absurd (let f : None ≡ Some e = s in cc)
    least_is o (Some x ∷ slots) zero e s h =
        let same : x ≡ e = (let f : Some x ≡ Some e = s in cc) in
        ap (λ k. Some k) (stays x (least_by R key (held_in slots)) (λ k s. let i = least_held slots k s in subst (λ y. is_lt (R (key y) (key k)) ≡ true) (sym same) (h.last (suc i.place) (key k) (key_at slots i.place k i.held) (omega arith))) ∙ same)
    least_is o (None ∷ slots) (suc place) e s h = least_is o slots place e s (record { held = h.held; least = λ q k s. h.least (suc q) k s; last = λ q k s l. h.last (suc q) k s (omega arith) })
    least_is o (Some x ∷ slots) (suc place) e s h =
        let rest = least_is o slots place e s (record { held = h.held; least = λ q k s. h.least (suc q) k s; last = λ q k s l. h.last (suc q) k s (omega arith) }) in
        let less : is_lt (R (key x) (key e)) ≡ false = not_back (R (key e) (key x)) (R (key x) (key e)) (o.antisymm (key x) (key e)) (h.least zero (key x) refl) in
        ap (λ t. Some (lesser R key x t)) rest ∙ ap (λ (b : Bool). Some (if b then x else e)) less

    pub none_is : (slots : List (Option E)) → IsBare (keys_of slots) → least_by R key (held_in slots) ≡ None
    none_is [] h = refl
    none_is (None ∷ slots) h = none_is slots (λ q. h (suc q))
    none_is (Some x ∷ slots) h = absurd (let f : Some (key x) ≡ None = h zero in cc)

module _ {K : Type 0} where
  own : (x : Option K) → option_map (λ (k : K). k) x ≡ x
  own None = refl
  own (Some k) = refl

  -- keys are their own keys
  pub keys_of-own : (keys : List (Option K)) → keys_of (λ (k : K). k) keys ≡ keys
  keys_of-own [] = refl
  keys_of-own (x ∷ keys) = λ i. own x i ∷ keys_of-own keys i
