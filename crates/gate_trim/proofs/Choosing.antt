-- The entry of least score stands between those whose scores are no less and those whose scores are more.
use Rattle.std.proofs.Common.{◌≡◌, Bool, true, false, List, [], ◌∷◌, ◌++◌, refl, sym, ap, ◌∙◌, subst, inl, inr, Option, Some, None, if◌then◌else◌}
use Rattle.std.specs.Prelude.{Contains}
use Rattle.std.specs.Cmp.{IsTotalOrder}
use Rattle.std.specs.Ordering.{is_lt, ordering_reverse}
use Rattle.std.specs.declared.cmp.Ordering.{Ordering}
use Rattle.std.specs.declared.cmp.Ordering.TheVariants.{Less, Equal, Greater}
use Rattle.std.proofs.lemmas.Bool.{true≢false, false≢true}
use Rattle.std.proofs.lemmas.List.Elements.{Contains-append_cases}
use Rattle.std.proofs.lemmas.Option.{none-some, same_Some}
use Rattle.gate_bytes.proofs.Members.{Contains-cons_cases, Contains-head, Contains-rest, not_in_none}
use Rattle.gate_ranking.specs.Lesser.{lesser, least_by}
use Rattle.gate_ranking.specs.Rate.{rate_cmp, rate_cmp_total}
use Rattle.gate_pool.specs.Pool.{Admitted}
use Rattle.gate_pool.specs.Scores.{rate_of, least_entry}
use Rattle.gate_trim.specs.Laws.{IsLeast}

less_is : (o : Ordering) → is_lt o ≡ true → o ≡ Less
less_is Less h = refl
less_is Equal h = absurd (false≢true h)
less_is Greater h = absurd (false≢true h)

module _ {E K : Type 0} (R : K → K → Ordering) (o : IsTotalOrder R) (key : E → K) where
  abbrev under : E → E → Bool
  under a b = is_lt (R (key a) (key b))

  -- below one that is below a third
  under_both : (a b c : E) → under a b ≡ true → under b c ≡ true → under a c ≡ true
  under_both a b c h k = ap is_lt (o.trans (key a) (key b) (key c) (less_is _ h) (less_is _ k))

  -- below one that no third is below
  under_most : (a b c : E) → under a b ≡ true → under c b ≡ false → under a c ≡ true
  under_most a b c h k = by (R (key c) (key b)) refl
    where
      by : (p : Ordering) → R (key c) (key b) ≡ p → under a c ≡ true
      by Less e = absurd (true≢false (ap is_lt (sym e) ∙ k))
      by Equal e = ap is_lt (o.antisymm (key a) (key c) ∙ ap ordering_reverse (o.congr (key c) (key b) (key a) e) ∙ sym (o.antisymm (key a) (key b))) ∙ h
      by Greater e = under_both a b c h (ap is_lt (o.antisymm (key b) (key c) ∙ ap ordering_reverse e))

  -- one stands between those that are not below it and those that it is below
  pub record IsBetween (es : List E) (e : E) : Type 0 where
    pub before : List E
    pub after : List E
    pub is : es ≡ before ++ e ∷ after
    pub earlier : (d : E) → Contains before d → under d e ≡ false
    pub later : (d : E) → Contains after d → under e d ≡ true

  first_between : (x : E) (xs : List E) → ((d : E) → Contains xs d → under x d ≡ true) → IsBetween (x ∷ xs) x
  first_between x xs later = record { before = []; after = xs; is = refl; earlier = λ d m. not_in_none d m; later = later }

  none_there : (xs : List E) → least_by R key xs ≡ None → (d : E) → Contains xs d → ⊥
  none_there [] h d m = not_in_none d m
  none_there (x ∷ xs) h d m = none-some _ (sym h)

  pub between : (es : List E) (e : E) → least_by R key es ≡ Some e → IsBetween es e
  between [] e h = absurd (none-some e h)
  between (x ∷ xs) e h = by (least_by R key xs) refl (λ z s. between xs z s) h
    where
      pick : (z : E) → IsBetween xs z → (b : Bool) → under x z ≡ b → (if b then x else z) ≡ e → IsBetween (x ∷ xs) e
      pick z w true c s =
          subst (IsBetween (x ∷ xs)) s (first_between x xs (λ d m.
          elim (Contains-append_cases w.before (z ∷ w.after) d (subst (λ l. Contains l d) w.is m)) [
            | inl p ↦ under_most x z d c (w.earlier d p)
            | inr p ↦
                elim (Contains-cons_cases z w.after d p) [
                  | inl same ↦ ap (under x) (sym same) ∙ c
                  | inr q ↦ under_both x z d c (w.later d q)
                ]
          ]))
      pick z w false c s =
          subst (IsBetween (x ∷ xs)) s (record {
            before = x ∷ w.before;
            after = w.after;
            is = ap (λ l. x ∷ l) w.is;
            earlier = λ d m. elim (Contains-cons_cases x w.before d m) [ inl same ↦ ap (λ y. under y z) (sym same) ∙ c | inr p ↦ w.earlier d p ];
            later = w.later;
          })

      by : (t : Option E) → least_by R key xs ≡ t → ((z : E) → t ≡ Some z → IsBetween xs z) → Some (lesser R key x t) ≡ Some e → IsBetween (x ∷ xs) e
      by None n rest s = subst (IsBetween (x ∷ xs)) (same_Some x e s) (first_between x xs (λ d m. absurd (none_there xs n d m)))
      by (Some z) n rest s = pick z (rest z refl) (under x z) refl (same_Some _ e s)

pub least_stands : (entries : List Admitted) (e : Admitted) → least_entry entries ≡ Some e → IsLeast entries e
least_stands entries e h =
    let w = between rate_cmp rate_cmp_total (rate_of entries) entries e h in
    record { before = w.before; after = w.after; is = w.is; earlier = w.earlier; later = w.later }
