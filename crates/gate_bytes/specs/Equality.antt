-- A derived `==` says whether two values are equal, if the `==` of their fields do so.
use Rattle.std.proofs.Common.{◌≡◌, Bool, true, false, ◌&&◌, List, [], ◌∷◌, refl, sym, ap, ◌⊎◌, inl, inr}
use Rattle.std.specs.Bool.{Decides}
use Rattle.std.proofs.lemmas.Bool.{false≢true}
use Rattle.std.proofs.lemmas.Bool.Decides.{Decides-and, Decides-like}
use denote.Struct.Cover.{Cover-one}
use denote.Struct.Declared as structs
use denote.Struct.Field.{Field}
use denote.Struct.Values.{Values}
use denote.Enum.Bare.{Bare, sameb, same_true, true_same}
use denote.Enum.Compared.{Each, by}
use denote.Enum.Declared.{Record, Choice, declared, values_one, left_or, right_or}

infixr 30 ◌&◌
infixr 20 ◌or◌
-- ---- the fields of a struct or of a variant: none, the last, and one before others (`&`)

pub none_decides : (x y : Unit {0}) → Decides true (x ≡ y)
none_decides x y = (λ e. refl, λ e. refl)

pub last_decides : {A : Type 0} {E : A → A → Bool} → ((a b : A) → Decides (E a b) (a ≡ b)) → (x y : A × Unit {0}) → Decides (E x.0 y.0) (x ≡ y)
last_decides {A} {E} last x y = Decides-like _ (λ p i. (p i, tt)) (λ q. ap (λ (z : A × Unit {0}). z.0) q) (last x.0 y.0)

pub ◌&◌ : {A B : Type 0} {E : A → A → Bool} {F : B → B → Bool} → ((a b : A) → Decides (E a b) (a ≡ b)) → ((a b : B) → Decides (F a b) (a ≡ b))
    → (x y : A × B) → Decides (E x.0 y.0 && F x.1 y.1) (x ≡ y)
◌&◌ {A} {B} {E} {F} first others x y =
    Decides-like _ (λ p i. (p.0 i, p.1 i)) (λ q. (ap (λ (z : A × B). z.0) q, ap (λ (z : A × B). z.1) q)) (Decides-and _ _ (first x.0 y.0) (others x.1 y.1))

-- ---- structs

pub struct_decides : (T : structs.Declared) {E : Values T.parts → Values T.parts → Bool} → ((x y : Values T.parts) → Decides (E x y) (x ≡ y))
    → (a b : T.D) → Decides (E (T.as_values a) (T.as_values b)) (a ≡ b)
struct_decides T fields a b = Decides-like _ (λ p. Cover-one T.cover T.propositions a b p) (λ q. ap T.as_values q) (fields (T.as_values a) (T.as_values b))

-- ---- enums

-- in each variant, the equality of the fields decides
abbrev pub EachDecides : (Fss : List (List Field)) → Each Bool Fss → Type 0
EachDecides [] es = Unit {0}
EachDecides (Fs ∷ Fss) es = ((x y : Values Fs) → Decides (es.0 x y) (x ≡ y)) × EachDecides Fss es.1

-- the first variant, and those after it
pub ◌or◌ : {A B : Type 0} → A → B → A × B
first or others = (first, others)

-- whether the variant is not the first
abbrev is_later : {A B : Type 0} → A ⊎ B → Bool
is_later (inl x) = false
is_later (inr y) = true

choices_decide : (Fss : List (List Field)) (es : Each Bool Fss) → EachDecides Fss es → (c d : Choice Fss) → Decides (by false false Fss es c d) (c ≡ d)
choices_decide [] es variants c d = absurd c
choices_decide (Fs ∷ Fss) es variants (inl x) (inl y) = Decides-like _ (λ p. ap inl p) (λ q. ap (left_or x) q) (variants.0 x y)
choices_decide (Fs ∷ Fss) es variants (inl x) (inr d) = (λ e. absurd (false≢true e), λ e. ap is_later e)
choices_decide (Fs ∷ Fss) es variants (inr c) (inl y) = (λ e. absurd (false≢true e), λ e. ap is_later (sym e))
choices_decide (Fs ∷ Fss) es variants (inr c) (inr d) = Decides-like _ (λ p. ap inr p) (λ q. ap (right_or c) q) (choices_decide Fss es.1 variants.1 c d)

pub enum_decides : (N : Record) (es : Each Bool N.parts) → EachDecides N.parts es
    → (a b : N.D) → Decides (by false false N.parts es (N.as_values a) (N.as_values b)) (a ≡ b)
enum_decides N es variants a b =
    Decides-like _ (λ p. values_one N a b p) (λ q. ap N.as_values q) (choices_decide N.parts es variants (N.as_values a) (N.as_values b))

-- the equality of an enum whose variants have no fields decides
pub bare_decides : (N : Record) → Bare N.parts → (a b : N.D) → Decides (sameb (declared N) a b) (a ≡ b)
bare_decides N bare a b = (same_true (declared N) bare a b, true_same (declared N) a b)
