-- The test `reaches` decides the relation `Leads`.
use Rattle.std.proofs.Common.{◌≡◌, ℕ, true, List, [], ◌∷◌, refl, sym, ap, ◌∙◌, subst, ◌⊎◌, inl, inr, ⊎_elim, arith}
use Rattle.std.specs.Prelude.{Contains}
use Rattle.std.specs.Cmp.Lexicographic.{bytes_decides}
use Rattle.std.proofs.lemmas.Bool.{or_cases, or_left, or_right, and_from, and_parts}
use Rattle.gate_graph.specs.Family.{reaches, Leads, here, down}
use Rattle.gate_bytes.proofs.Members.{Contains-cons_cases, Contains-head, Contains-rest}

abbrev Id : Type 0
Id = List ℕ

-- the two ways through one more step
cases : (s : Id × Id) (ss : List (Id × Id)) (a b : Id) → reaches (s ∷ ss) a b ≡ true → (reaches ss a b ≡ true) ⊎ ((reaches ss a s.0 ≡ true) × (reaches ss s.1 b ≡ true))
unfolding reaches
cases s ss a b h = ⊎_elim inl (λ k. inr (and_parts _ _ k)) (or_cases _ _ h)

round : (s : Id × Id) (ss : List (Id × Id)) (a b : Id) → reaches ss a b ≡ true → reaches (s ∷ ss) a b ≡ true
unfolding reaches
round s ss a b h = or_left _ _ h

through : (s : Id × Id) (ss : List (Id × Id)) (a b : Id) → reaches ss a s.0 ≡ true → reaches ss s.1 b ≡ true → reaches (s ∷ ss) a b ≡ true
unfolding reaches
through s ss a b h k = or_right _ _ (and_from _ _ h k)

same_reaches : (a b : Id) → a ≡ b → reaches [] a b ≡ true
unfolding reaches
same_reaches a b e = (bytes_decides a b).1 e

none_reaches : (a b : Id) → reaches [] a b ≡ true → a ≡ b
unfolding reaches
none_reaches a b h = (bytes_decides a b).0 h

pub reaches-same : (ss : List (Id × Id)) (a : Id) → reaches ss a a ≡ true
reaches-same [] a = same_reaches a a refl
reaches-same (s ∷ ss) a = round s ss a a (reaches-same ss a)

pub reaches_trans : (ss : List (Id × Id)) (a b c : Id) → reaches ss a b ≡ true → reaches ss b c ≡ true → reaches ss a c ≡ true
reaches_trans [] a b c h k = same_reaches a c (none_reaches a b h ∙ none_reaches b c k)
reaches_trans (s ∷ ss) a b c h k =
    ⊎_elim
    (λ h. ⊎_elim
    (λ k. round s ss a c (reaches_trans ss a b c h k))
    (λ k. through s ss a c (reaches_trans ss a b s.0 h k.0) k.1)
    (cases s ss b c k))
    (λ h. ⊎_elim
    (λ k. through s ss a c h.0 (reaches_trans ss s.1 b c h.1 k))
    (λ k. through s ss a c h.0 k.1)
    (cases s ss b c k))
    (cases s ss a b h)

pub reaches_step : (ss : List (Id × Id)) (a b : Id) → Contains ss (a, b) → reaches ss a b ≡ true
reaches_step [] a b c = absurd (omega arith)
reaches_step (s ∷ ss) a b c =
    ⊎_elim
    (λ e. through s ss a b
    (subst (λ x. reaches ss a x ≡ true) (sym (ap (λ (p : Id × Id). p.0) e)) (reaches-same ss a))
    (subst (λ x. reaches ss x b ≡ true) (sym (ap (λ (p : Id × Id). p.1) e)) (reaches-same ss b)))
    (λ c. round s ss a b (reaches_step ss a b c))
    (Contains-cons_cases s ss (a, b) c)

pub reaches_from_Leads : {ss : List (Id × Id)} {a b : Id} → Leads ss a b → reaches ss a b ≡ true
reaches_from_Leads {ss} (here {a = a}) = reaches-same ss a
reaches_from_Leads {ss} (down {a = a} {b = b} {c = c} s l) = reaches_trans ss a b c (reaches_step ss a b s) (reaches_from_Leads l)

pub Leads_trans : {ss : List (Id × Id)} {a b c : Id} → Leads ss a b → Leads ss b c → Leads ss a c
Leads_trans here k = k
Leads_trans (down s l) k = down s (Leads_trans l k)

-- more steps lead at least as far
pub Leads_more : {ss ts : List (Id × Id)} → ((a b : Id) → Contains ss (a, b) → Contains ts (a, b)) → {a b : Id} → Leads ss a b → Leads ts a b
Leads_more f here = here
Leads_more f (down s l) = down (f _ _ s) (Leads_more f l)

pub Leads_from_reaches : (ss : List (Id × Id)) (a b : Id) → reaches ss a b ≡ true → Leads ss a b
Leads_from_reaches [] a b h = subst (Leads [] a) (none_reaches a b h) here
Leads_from_reaches (s ∷ ss) a b h =
    let more = λ (x y : Id) (l : Leads ss x y). Leads_more {ts = s ∷ ss} (λ p q c. Contains-rest s ss (p, q) c) l in
    ⊎_elim
    (λ h. more a b (Leads_from_reaches ss a b h))
    (λ h. Leads_trans (more a s.0 (Leads_from_reaches ss a s.0 h.0)) (down (Contains-head s ss) (more s.1 b (Leads_from_reaches ss s.1 b h.1))))
    (cases s ss a b h)
