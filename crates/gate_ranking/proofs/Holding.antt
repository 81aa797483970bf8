-- The least of what is held, and the edits of it.
use Rattle.std.proofs.Common.{◌≡◌, ◌≢◌, ℕ, ◌+◌, ◌*◌, ◌<◌, ◌≤◌, true, false, List, [], ◌∷◌, ◌++◌, length, set, Option, Some, None, refl, sym, subst, ◌∙◌, ⊎_elim, arith}
use Rattle.std.specs.declared.cmp.Ordering.{Ordering}
use Rattle.std.specs.declared.cmp.Ordering.TheVariants.{Less, Equal, Greater}
use Rattle.std.specs.Ordering.{nat_cmp, is_lt, is_gt, ordering_then}
use Rattle.std.specs.Cmp.{IsTotalOrder}
use Rattle.std.proofs.lemmas.Bool.Decides.{nat_tests}
use Rattle.std.proofs.lemmas.Bool.{cases_lt, cases_eq, true≢false}
use Rattle.std.proofs.lemmas.List.{get_or_append_left, get_or_past, length_push, get_or-set_other, get_or-set_same}
use Rattle.gate_ranking.specs.Ranking.{at, IsLeast, IsBare}
use Rattle.gate_ranking.specs.Tournament.{place_of, held_cmp, rank, IsPlayed, DifferAt}
use Rattle.std.proofs.lemmas.Cmp.{tied_itself}
use Rattle.gate_ranking.proofs.Ranks.{held_total, first_alike}
use Rattle.gate_ranking.proofs.Playing.{beats}

not_after : (o : Ordering) (a b : ℕ) → is_gt (ordering_then o (nat_cmp b a)) ≡ false → is_gt o ≡ false
not_after Less a b h = refl
not_after Equal a b h = refl
not_after Greater a b h = h

before : (o : Ordering) (a b : ℕ) → a < b → is_gt (ordering_then o (nat_cmp b a)) ≡ false → is_lt o ≡ true
before Less a b l h = refl
before Equal a b l h = absurd (true≢false (sym (later a b l) ∙ h))
  where
    later : (a b : ℕ) → a < b → is_gt (nat_cmp b a) ≡ true
    later a b l = grind (arith, nat_tests)
before Greater a b l h = absurd (true≢false h)

module _ {K : Type 0} where
  pub differ_push : (keys : List (Option K)) (key : Option K) → DifferAt (length keys) keys (keys ++ key ∷ [])
  differ_push keys key = record {
    same = λ q ne. ⊎_elim
        (λ (l : q < length keys). get_or_append_left keys (key ∷ []) None q l)
        (λ (l : length keys ≤ q). get_or_past (keys ++ key ∷ []) q None (let e = length_push keys key in omega arith) ∙ sym (get_or_past keys q None l))
        (cases_lt q (length keys));
  }

  pub differ_set : (keys : List (Option K)) (place : ℕ) (key : Option K) → DifferAt place keys (set keys place key)
  differ_set keys place key = record { same = λ q ne. get_or-set_other keys place q key None ne }

  -- a key written over its equal changes no match
  pub played_alike : (R : K → K → Ordering) → IsTotalOrder R → (keys : List (Option K)) (place : ℕ) (key : K) (tree : List ℕ) → place < length keys → held_cmp R (at keys place) (Some key) ≡ Equal → IsPlayed R keys tree → IsPlayed R (set keys place (Some key)) tree
  played_alike R o keys place key tree h e played = record {
    won = λ node lo hi. played.won node lo hi ∙ sym (first_alike R o keys (set keys place (Some key)) alike (place_of tree (2 * node)) (place_of tree (2 * node + 1)));
  }
    where
      alike : (q : ℕ) → held_cmp R (at keys q) (at (set keys place (Some key)) q) ≡ Equal
      alike q = ⊎_elim
          (λ (s : q ≡ place). subst (λ p. held_cmp R (at keys p) (at (set keys place (Some key)) p) ≡ Equal) (sym s) (subst (λ x. held_cmp R (at keys place) x ≡ Equal) (sym (get_or-set_same keys place (Some key) None h)) e))
          (λ (ne : q ≢ place). subst (λ x. held_cmp R (at keys q) x ≡ Equal) (sym (get_or-set_other keys place q (Some key) None ne)) (tied_itself (held_total R o) (at keys q)))
          (cases_eq q place)

  module _ (R : K → K → Ordering) (o : IsTotalOrder R) (keys : List (Option K)) (tree : List ℕ) (played : IsPlayed R keys tree) (long : length keys ≤ length tree) where
    within : (q : ℕ) (k : K) → at keys q ≡ Some k → q < length tree
    within q k e = ⊎_elim (λ (l : q < length keys). omega arith) (λ (l : length keys ≤ q). let n = get_or_past keys q None l in absurd (let e : None ≡ Some k = sym n ∙ e in cc)) (cases_lt q (length keys))

    -- the place at the root holds the least
    pub least_held : (place : ℕ) (key : K) → place ≡ place_of tree 1 → Some key ≡ at keys place → IsLeast R keys place key
    least_held place key e h =
        let beaten : (q : ℕ) → q < length tree → is_gt (rank R keys place q) ≡ false = λ q l. subst (λ p. is_gt (rank R keys p q) ≡ false) (sym e) (beats R keys tree played o q l) in
        let against : (q : ℕ) (k : K) → at keys q ≡ Some k → is_gt (ordering_then (R key k) (nat_cmp q place)) ≡ false = λ q k s.
        subst (λ x. is_gt (ordering_then (held_cmp R (Some key) x) (nat_cmp q place)) ≡ false) s (subst (λ x. is_gt (ordering_then (held_cmp R x (at keys q)) (nat_cmp q place)) ≡ false) (sym h) (beaten q (within q k s))) in
        record {
          held = sym h;
          least = λ q k s. not_after (R key k) place q (against q k s);
          last = λ q k s l. before (R key k) place q l (against q k s);
        }

    pub bare_held : (place : ℕ) → place ≡ place_of tree 1 → None ≡ at keys place → IsBare keys
    bare_held place e h = λ q. go q (at keys q) refl
      where
        go : (q : ℕ) (x : Option K) → at keys q ≡ x → x ≡ None
        go q None s = refl
        go q (Some k) s =
            let beaten = subst (λ p. is_gt (rank R keys p q) ≡ false) (sym e) (beats R keys tree played o q (within q k s)) in
            let worse : is_gt (ordering_then (held_cmp R None (Some k)) (nat_cmp q place)) ≡ false =
            subst (λ x. is_gt (ordering_then (held_cmp R None x) (nat_cmp q place)) ≡ false) s (subst (λ x. is_gt (ordering_then (held_cmp R x (at keys q)) (nat_cmp q place)) ≡ false) (sym h) beaten) in
            absurd (true≢false worse)
