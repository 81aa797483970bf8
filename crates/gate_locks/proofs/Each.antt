-- What a loop over inputs and the heights of their coins keeps.
use Rattle.std.proofs.Common.{◌≡◌, ℕ, ◌≤◌, Bool, true, false, ◌&&◌, ◌||◌, ◌⊎◌, inl, inr, List, [], ◌∷◌, All, zip, refl, sym, ap, subst, ◌∙◌, not, true≢false}
use Rattle.std.proofs.lemmas.List.Elements.{All-head, All-tail}
use Rattle.std.specs.List.{list_all, list_any}
use Rattle.gate_tx.specs.declared.TxIn.{TxIn}
use Rattle.gate_chain.specs.History.{History}
use Rattle.gate_locks.specs.Locks.{is_disabled, is_lock_met_by}

-- whether each lock is met, of inputs and heights side by side
abbrev pub all_met : History → List TxIn → List ℕ → Bool
all_met chain inputs heights = list_all (λ (p : TxIn × ℕ). is_lock_met_by chain p.0.sequence p.1) (zip inputs heights)

-- the locks left decide for all, and the heights left fit
pub record IsLeft (chain : History) (most : ℕ) (inputs : List TxIn) (heights : List ℕ) (left : List TxIn) (left_heights : List ℕ) : Type 0 where
  pub decides : all_met chain inputs heights ≡ all_met chain left left_heights
  pub fit : All (λ h. h ≤ most) left_heights

pub left_after : (chain : History) (most : ℕ) (inputs : List TxIn) (heights : List ℕ) (before after : List TxIn) (before_heights after_heights : List ℕ) (i : TxIn) (h : ℕ)
    → before ≡ i ∷ after → before_heights ≡ h ∷ after_heights → is_lock_met_by chain i.sequence h ≡ true
    → IsLeft chain most inputs heights before before_heights → IsLeft chain most inputs heights after after_heights
left_after chain most inputs heights before after before_heights after_heights i h first second met left = record {
  decides = left.decides
      ∙ ap (λ (xs : List TxIn). all_met chain xs before_heights) first
      ∙ ap (λ (hs : List ℕ). all_met chain (i ∷ after) hs) second
      ∙ ap (λ b. b && all_met chain after after_heights) met;
  fit = let P : ℕ → Type 0 = λ h. h ≤ most in All-tail P h after_heights (subst (All P) second left.fit);
}

pub height_fits : (most : ℕ) (before_heights after_heights : List ℕ) (h : ℕ) → before_heights ≡ h ∷ after_heights → All (λ h. h ≤ most) before_heights → h ≤ most
height_fits most before_heights after_heights h second fit = let P : ℕ → Type 0 = λ h. h ≤ most in All-head P h after_heights (subst (All P) second fit)

none_paired : (chain : History) (inputs : List TxIn) → all_met chain inputs [] ≡ true
none_paired chain [] = refl
none_paired chain (i ∷ inputs) = refl

-- where one list has ended, each lock is met
pub none_left : (chain : History) (most : ℕ) (inputs : List TxIn) (heights : List ℕ) (left : List TxIn) (left_heights : List ℕ)
    → (left ≡ []) ⊎ (left_heights ≡ []) → IsLeft chain most inputs heights left left_heights → all_met chain inputs heights ≡ true
none_left chain most inputs heights left left_heights (inl e) is = is.decides ∙ ap (λ (xs : List TxIn). all_met chain xs left_heights) e
none_left chain most inputs heights left left_heights (inr e) is = is.decides ∙ (ap (all_met chain left) e ∙ none_paired chain left)

disabled_met : (chain : History) (sequence height : ℕ) → is_disabled sequence ≡ true → is_lock_met_by chain sequence height ≡ true
unfolding is_lock_met_by
disabled_met chain sequence height e = rw e refl

-- no sequence says that there is a lock
pub none_enabled : (chain : History) (inputs : List TxIn) (heights : List ℕ) → list_any (λ (i : TxIn). not (is_disabled i.sequence)) inputs ≡ false → all_met chain inputs heights ≡ true
none_enabled chain [] heights e = refl
none_enabled chain (i ∷ inputs) [] e = refl
none_enabled chain (i ∷ inputs) (h ∷ heights) e = go (is_disabled i.sequence) refl e (none_enabled chain inputs heights)
  where
    go : (b : Bool) → is_disabled i.sequence ≡ b → (not b || list_any (λ (j : TxIn). not (is_disabled j.sequence)) inputs) ≡ false → (list_any (λ (j : TxIn). not (is_disabled j.sequence)) inputs ≡ false → all_met chain inputs heights ≡ true) → (is_lock_met_by chain i.sequence h && all_met chain inputs heights) ≡ true
    go true d f rest = ap (λ b. b && all_met chain inputs heights) (disabled_met chain i.sequence h d) ∙ rest f
    go false d f rest = absurd (true≢false f)

pub or_true : (b c : Bool) → c ≡ true → true ≡ (b || c)
or_true true c e = refl
or_true false c e = sym e
