-- Each step of a token keeps the rule.
use Rattle.std.proofs.Common.{◌≡◌, ◌≢◌, ◌⊎◌, ℕ, zero, suc, ◌+◌, ◌-◌, ◌≤◌, List, [], ◌∷◌, ◌++◌, length, take, drop, set, Some, true, false, true≢false, refl, sym, ap, ◌∙◌, subst, ⊎_elim, arith}
use Rattle.std.specs.Prelude.{slice_get}
use mathlib.Core.Option.{some, some-injective, some-ne-none}
use lib.ListN.{get_elem?}
use Rattle.atomic_table.specs.Table.{State, Me, Step, Splits, Joins, Allows, keeps, step}
use Rattle.atomic_table.proofs.Lists.{at_set, at_snoc}
use Rattle.gate_journal.specs.Legal.{entry_limit}
use Rattle.gate_journal.specs.declared.entry.Entry.{Entry}
use Rattle.gate_shared.specs.declared.receipt.Made.{Made}
use Rattle.gate_shared.specs.declared.tokens.Known.{Known}
use Rattle.gate_shared.specs.Calls.{Stands}
use Rattle.gate_shared.specs.Tokens.{PassCall, EachStands, weigh, weigh_to, entry_of, holder, gathered, kept_call, entered, first_part, last_part, CanPart, IsIdleEmpty, IsTold, emptied, yielded, marked, marker, unmarked, opener, total, Fits, AreKept, seat_limit}
use Rattle.gate_shared.proofs.Totals.{weigh-append, total-set, total-snoc, le-total, total-one}

abbrev Rule : State Unit Known → Type 0
Rule s = AreKept s.views

-- ---- calls in a journal

get_front : (xs ys : List Entry) (k : ℕ) (x : Entry) → slice_get xs k ≡ Some x → slice_get (xs ++ ys) k ≡ Some x
get_front [] ys k x e = absurd (cc)
get_front (y ∷ xs) ys zero x e = e
get_front (y ∷ xs) ys (suc k) x e = get_front xs ys k x e

get_end : (xs : List Entry) (x : Entry) → slice_get (xs ++ x ∷ []) (length xs) ≡ Some x
get_end [] x = refl
get_end (y ∷ xs) x = get_end xs x

stand_more : (journal more : List Entry) (cs : List PassCall) → EachStands journal cs → EachStands (journal ++ more) cs
stand_more journal more [] h = tt
stand_more journal more (c ∷ cs) h = ((h.0.0, get_front journal more _ _ h.0.1), stand_more journal more cs h.1)

stand_join : (journal : List Entry) (xs ys : List PassCall) → EachStands journal xs → EachStands journal ys → EachStands journal (xs ++ ys)
stand_join journal [] ys h k = k
stand_join journal (x ∷ xs) ys h k = (h.0, stand_join journal xs ys h.1 k)

stand_front : (journal : List Entry) (k : ℕ) (cs : List PassCall) → EachStands journal cs → EachStands journal (take k cs)
stand_front journal zero cs h = tt
stand_front journal (suc k) [] h = tt
stand_front journal (suc k) (c ∷ cs) h = (h.0, stand_front journal k cs h.1)

stand_rest : (journal : List Entry) (k : ℕ) (cs : List PassCall) → EachStands journal cs → EachStands journal (drop k cs)
stand_rest journal zero cs h = h
stand_rest journal (suc k) [] h = tt
stand_rest journal (suc k) (c ∷ cs) h = stand_rest journal k cs h.1

drop_all : (cs : List PassCall) → drop (length cs) cs ≡ []
drop_all [] = refl
drop_all (c ∷ cs) = drop_all cs

weigh_parts : (h : ℕ → ℕ) (k : ℕ) (cs : List PassCall) → weigh h (take k cs) + weigh h (drop k cs) ≡ weigh h cs
weigh_parts h zero cs = omega arith
weigh_parts h (suc k) [] = refl
weigh_parts h (suc k) (c ∷ cs) = omega (arith, weigh_parts h k cs)

length_more : (xs : List Entry) (x : Entry) → length (xs ++ x ∷ []) ≡ suc (length xs)
length_more [] x = refl
length_more (y ∷ xs) x = ap suc (length_more xs x)

-- a full journal stays full
still : (xs : List Entry) (x : Entry) → entry_limit ≤ length xs → entry_limit ≤ length (xs ++ x ∷ [])
still xs x limit = omega (arith, limit, length_more xs x)

weigh_to-more : (h : ℕ → ℕ) (n number : ℕ) → number ≡ n + 1 → weigh_to h (suc n) ≡ weigh_to h n + h number
weigh_to-more h n number is = let same : suc n ≡ number = omega arith in ap (λ k. weigh_to h n + h k) same

-- ---- the rule, token by token

fits_set : (keeper : ℕ) (journal : List Entry) (views : List Known) (by : ℕ) (w : Known) → ((j : ℕ) (u : Known) → j ≢ by → get_elem? views j ≡ some u → Fits keeper journal j u) → Fits keeper journal by w
    → (j : ℕ) (u : Known) → get_elem? (set views by w) j ≡ some u → Fits keeper journal j u
fits_set keeper journal views by w others mine j u e =
    ⊎_elim
    (λ (x : (j ≡ by) × (w ≡ u)). subst (λ (y : ℕ × Known). Fits keeper journal y.0 y.1) (λ i. (sym x.0 i, x.1 i)) mine)
    (λ (x : (j ≢ by) × (get_elem? views j ≡ some u)). others j u x.0 x.1)
    (at_set views by j w u e)

-- the token of this number, and one behind all
fits_split : (keeper : ℕ) (journal : List Entry) (views : List Known) (by : ℕ) (left right : Known) → ((j : ℕ) (u : Known) → j ≢ by → get_elem? views j ≡ some u → Fits keeper journal j u)
    → Fits keeper journal by left → ((j : ℕ) → Fits keeper journal j right) → (j : ℕ) (u : Known) → get_elem? (set views by left ++ right ∷ []) j ≡ some u → Fits keeper journal j u
fits_split keeper journal views by left right others mine new j u is =
    ⊎_elim
    (λ (was : get_elem? (set views by left) j ≡ some u). fits_set keeper journal views by left others mine j u was)
    (λ (same : right ≡ u). subst (Fits keeper journal j) same (new j))
    (at_snoc (set views by left) right u j is)

off : false ≡ true → ⊥
off e = true≢false (sym e)

total-split : (f : Known → ℕ) (views : List Known) (by : ℕ) (v left right : Known) → get_elem? views by ≡ some v → f left + f right ≡ f v → total f (set views by left ++ right ∷ []) ≡ total f views
total-split f views by v left right at parts = omega (arith, total-snoc f (set views by left) right, total-set f views by v left at)

total-join : (f : Known → ℕ) (views : List Known) (by : ℕ) (v : Known) (other : ℕ) (u both spent : Known) → get_elem? views by ≡ some v → get_elem? (set views by both) other ≡ some u
    → f both + f spent ≡ f v + f u → total f (set (set views by both) other spent) ≡ total f views
total-join f views by v other u both spent at there parts =
    omega (arith, total-set f (set views by both) other u spent there, total-set f views by v both at)

-- ---- the steps

pub gathers : (by : ℕ) (v : Known) (other : ℕ) (u : Known) → Joins Rule by v other u (gathered v u) (holder 0 [])
gathers by v other u s h at apart there =
    let w = gathered v u in
    let mine = h.each by v at in
    let theirs = ⊎_elim (λ (t : (other ≡ by) × (w ≡ u)). absurd (apart t.0)) (λ (t : (other ≢ by) × (get_elem? s.views other ≡ some u)). h.each other u t.1) (at_set s.views by other w u there) in
    record {
      keeper = h.keeper;
      journal = h.journal;
      each = fits_set h.keeper h.journal (set s.views by w) other (holder 0 [])
          (λ j y _ e. fits_set h.keeper h.journal s.views by w (λ i z _ e'. h.each i z e')
          (mine.0, stand_join h.journal v.calls u.calls mine.1 theirs.1, λ none. ap (λ cs. cs ++ u.calls) (mine.2 (omega arith)) ∙ theirs.2 (omega arith), mine.3) j y e)
          ((λ its. absurd (off its)), tt, (λ _. refl), λ its. absurd (off its));
      seats = total-join (λ x. x.seats) s.views by v other u w (holder 0 []) at there (omega arith) ∙ h.seats;
      calls = λ weight. total-join (λ x. weigh weight x.calls) s.views by v other u w (holder 0 []) at there (omega (arith, weigh-append weight v.calls u.calls)) ∙ h.calls weight;
    }

pub leaves : (by : ℕ) (v : Known) → v.keeps ≡ false → Splits Rule by v (holder 0 []) v
leaves by v free s h at =
    let mine = h.each by v at in
    record {
      keeper = h.keeper;
      journal = h.journal;
      each = fits_split h.keeper h.journal s.views by (holder 0 []) v (λ i z _ e. h.each i z e) ((λ its. absurd (off its)), tt, (λ _. refl), λ its. absurd (off its)) (λ j. ((λ its. absurd (off (sym free ∙ its))), mine.1, mine.2, mine.3));
      seats = total-split (λ x. x.seats) s.views by v (holder 0 []) v at (omega arith) ∙ h.seats;
      calls = λ weight. total-split (λ x. weigh weight x.calls) s.views by v (holder 0 []) v at (omega arith) ∙ h.calls weight;
    }

pub yields : (by : ℕ) (v : Known) → Splits Rule by v (emptied v) (yielded v)
yields by v s h at =
    let mine = h.each by v at in
    record {
      keeper = h.keeper;
      journal = h.journal;
      each = fits_split h.keeper h.journal s.views by (emptied v) (yielded v) (λ i z _ e. h.each i z e) (mine.0, tt, (λ _. refl), mine.3) (λ j. ((λ its. absurd (off its)), mine.1, mine.2, λ its. absurd (off its)));
      seats = total-split (λ x. x.seats) s.views by v (emptied v) (yielded v) at (omega arith) ∙ h.seats;
      calls = λ weight. total-split (λ x. weigh weight x.calls) s.views by v (emptied v) (yielded v) at (omega arith) ∙ h.calls weight;
    }

pub parts : (by : ℕ) (v : Known) (seats calls : ℕ) → CanPart seats calls v → Splits Rule by v (first_part seats calls v) (last_part seats calls v)
parts by v seats calls can s h at =
    let mine = h.each by v at in
    let k = length v.calls - calls in
    let enough : seats ≤ v.seats = can.0 in
    let all : v.seats ≡ seats → calls ≡ length v.calls = can.2 in
    let none : seats ≡ 0 → calls ≡ 0 = can.3 in
    record {
      keeper = h.keeper;
      journal = h.journal;
      each = fits_split h.keeper h.journal s.views by (first_part seats calls v) (last_part seats calls v) (λ i z _ e. h.each i z e)
          (mine.0, stand_front h.journal k v.calls mine.1, (λ e. let whole : k ≡ 0 = omega (arith, all (omega arith)) in ap (λ n. take n v.calls) whole), mine.3)
          (λ j. ((λ its. absurd (off its)), stand_rest h.journal k v.calls mine.1, (λ e. let whole : k ≡ length v.calls = omega (arith, none e) in ap (λ n. drop n v.calls) whole ∙ drop_all v.calls), λ its. absurd (off its)));
      seats = total-split (λ x. x.seats) s.views by v (first_part seats calls v) (last_part seats calls v) at (omega arith) ∙ h.seats;
      calls = λ weight. total-split (λ x. weigh weight x.calls) s.views by v (first_part seats calls v) (last_part seats calls v) at (weigh_parts weight k v.calls) ∙ h.calls weight;
    }

pub enters : (by : ℕ) (v : Known) (c : PassCall) → v.keeps ≡ true → ¬ (v.seats ≡ 0) → c.1.receipt.number ≡ length v.all + 1 → Splits Rule by v (kept_call c v) (entered c v)
enters by v c its_keeper seated next s h at =
    let mine = h.each by v at in
    let known : (by ≡ h.keeper) × (v.all ≡ h.journal) = mine.0 its_keeper in
    let now = h.journal ++ entry_of c ∷ [] in
    let number : c.1.receipt.number ≡ length h.journal + 1 = next ∙ ap (λ (es : List Entry). length es + 1) known.1 in
    let place : length h.journal ≡ c.1.receipt.number - 1 = omega arith in
    let new : Stands now c.0 c.1 = (omega arith, subst (λ k. slice_get now k ≡ Some (entry_of c)) place (get_end h.journal (entry_of c))) in
    record {
      keeper = h.keeper;
      journal = now;
      each = fits_split h.keeper now s.views by (kept_call c v) (entered c v)
          (λ j u apart e. let theirs = h.each j u e in ((λ its. absurd (apart ((theirs.0 its).0 ∙ sym known.0))), stand_more h.journal (entry_of c ∷ []) u.calls theirs.1, theirs.2, λ its. still h.journal (entry_of c) (theirs.3 its)))
          ((λ _. (known.0, ap (λ (es : List Entry). es ++ entry_of c ∷ []) known.1)), tt, (λ _. refl), λ its. absurd (off its))
          (λ j. ((λ its. absurd (off its)), stand_join now v.calls (c ∷ []) (stand_more h.journal (entry_of c ∷ []) v.calls mine.1) (new, tt), (λ none. absurd (seated none)), λ its. absurd (off its)));
      seats = total-split (λ x. x.seats) s.views by v (kept_call c v) (entered c v) at (omega arith) ∙ h.seats;
      calls = λ weight.
          let before : total (λ x. weigh weight x.calls) s.views ≡ weigh_to weight (length h.journal) = h.calls weight in
          let after : weigh_to weight (length now) ≡ weigh_to weight (length h.journal) + weight c.1.receipt.number =
          ap (weigh_to weight) (length_more h.journal (entry_of c)) ∙ weigh_to-more weight (length h.journal) c.1.receipt.number number in
          omega (arith, total-snoc (λ x. weigh weight x.calls) (set s.views by (kept_call c v)) (entered c v), total-set (λ x. weigh weight x.calls) s.views by v (kept_call c v) at, weigh-append weight v.calls (c ∷ []));
    }

pub looks : (by slots : ℕ) (m : Me Unit Known) → m.0.keeps ≡ true → Allows Rule slots by m 0 (λ n. n) (λ _ n. (n ≡ m) × IsTold m.0)
looks by slots m its_keeper s h wide at fits =
    let v = m.0 in
    let mine = h.each by v at in
    let known : (by ≡ h.keeper) × (v.all ≡ h.journal) = mine.0 its_keeper in
    let every : v.seats ≡ seat_limit → (weight : ℕ → ℕ) → weigh weight v.calls ≡ weigh_to weight (length v.all) = λ all weight.
    sym (total-one (λ x. x.seats) (λ x. weigh weight x.calls) s.views by v at (λ j u is none. ap (weigh weight) ((h.each j u is).2 none)) (h.seats ∙ sym all))
    ∙ (h.calls weight ∙ ap (λ (es : List Entry). weigh_to weight (length es)) (sym known.1)) in (
      v,
      keeps,
      tt,
      record {
        keeper = h.keeper;
        journal = h.journal;
        each = fits_set h.keeper h.journal s.views by v (λ j u _ e. h.each j u e) mine;
        seats = omega (arith, total-set (λ x. x.seats) s.views by v v at, h.seats);
        calls = λ weight. omega (arith, total-set (λ x. weigh weight x.calls) s.views by v v at, h.calls weight);
      },
      (
        refl,
        record {
          stand = subst (λ (es : List Entry). EachStands es v.calls) (sym known.1) mine.1;
          once = λ weight. let most = le-total (λ x. weigh weight x.calls) s.views by v at in
              let is = h.calls weight in
              let same = ap (λ (es : List Entry). weigh_to weight (length es)) known.1 in
              omega arith;
          all = every;
          full = λ its. subst (λ (es : List Entry). entry_limit ≤ length es) (sym known.1) (mine.3 its);
        },
      ),
    )

-- ---- marks

pub blanks : (by : ℕ) (v : Known) → Splits Rule by v v (marker false)
blanks by v s h at =
    let mine = h.each by v at in
    record {
      keeper = h.keeper;
      journal = h.journal;
      each = fits_split h.keeper h.journal s.views by v (marker false) (λ i z _ e. h.each i z e) mine (λ j. ((λ its. absurd (off its)), tt, (λ _. refl), λ its. absurd (off its)));
      seats = total-split (λ x. x.seats) s.views by v v (marker false) at (omega arith) ∙ h.seats;
      calls = λ weight. total-split (λ x. weigh weight x.calls) s.views by v v (marker false) at (omega arith) ∙ h.calls weight;
    }

pub fills : (by : ℕ) (v : Known) → v.keeps ≡ true → entry_limit ≤ length v.all → Splits Rule by v v (marker true)
fills by v its_keeper limit s h at =
    let mine = h.each by v at in
    let known : (by ≡ h.keeper) × (v.all ≡ h.journal) = mine.0 its_keeper in
    let now : entry_limit ≤ length h.journal = subst (λ (es : List Entry). entry_limit ≤ length es) known.1 limit in
    record {
      keeper = h.keeper;
      journal = h.journal;
      each = fits_split h.keeper h.journal s.views by v (marker true) (λ i z _ e. h.each i z e) mine (λ j. ((λ its. absurd (off its)), tt, (λ _. refl), λ _. now));
      seats = total-split (λ x. x.seats) s.views by v v (marker true) at (omega arith) ∙ h.seats;
      calls = λ weight. total-split (λ x. weigh weight x.calls) s.views by v v (marker true) at (omega arith) ∙ h.calls weight;
    }

pub unmarks : (by : ℕ) (v : Known) → Splits Rule by v (unmarked v) (marker v.full)
unmarks by v s h at =
    let mine = h.each by v at in
    record {
      keeper = h.keeper;
      journal = h.journal;
      each = fits_split h.keeper h.journal s.views by (unmarked v) (marker v.full) (λ i z _ e. h.each i z e) (mine.0, mine.1, mine.2, λ its. absurd (off its))
          (λ j. ((λ its. absurd (off its)), tt, (λ _. refl), mine.3));
      seats = total-split (λ x. x.seats) s.views by v (unmarked v) (marker v.full) at (omega arith) ∙ h.seats;
      calls = λ weight. total-split (λ x. weigh weight x.calls) s.views by v (unmarked v) (marker v.full) at (omega arith) ∙ h.calls weight;
    }

pub marks : (by : ℕ) (v : Known) (other : ℕ) (u : Known) → u.seats ≡ 0 → u.calls ≡ [] → Joins Rule by v other u (marked v u) (holder 0 [])
marks by v other u seatless callless s h at apart there =
    let w = marked v u in
    let mine = h.each by v at in
    let theirs = ⊎_elim (λ (t : (other ≡ by) × (w ≡ u)). absurd (apart t.0)) (λ (t : (other ≢ by) × (get_elem? s.views other ≡ some u)). h.each other u t.1) (at_set s.views by other w u there) in
    record {
      keeper = h.keeper;
      journal = h.journal;
      each = fits_set h.keeper h.journal (set s.views by w) other (holder 0 [])
          (λ j y _ e. fits_set h.keeper h.journal s.views by w (λ i z _ e'. h.each i z e') (mine.0, mine.1, mine.2, theirs.3) j y e)
          ((λ its. absurd (off its)), tt, (λ _. refl), λ its. absurd (off its));
      seats = total-join (λ x. x.seats) s.views by v other u w (holder 0 []) at there (omega (arith, seatless)) ∙ h.seats;
      calls = λ weight. total-join (λ x. weigh weight x.calls) s.views by v other u w (holder 0 []) at there (omega (arith, ap (weigh weight) callless)) ∙ h.calls weight;
    }

-- the rule at the start
pub opens : AreKept (opener ∷ [])
opens = record {
  keeper = 0;
  journal = [];
  each = first;
  seats = refl;
  calls = λ weight. refl;
}
  where
    first : (by : ℕ) (v : Known) → get_elem? (opener ∷ []) by ≡ some v → Fits 0 [] by v
    first zero v is = subst (Fits 0 [] 0) (some-injective opener v is) ((λ _. (refl, refl)), tt, (λ none. refl), λ its. absurd (off its))
    first (suc by) v is = absurd (some-ne-none v (sym is))
