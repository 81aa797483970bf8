-- What a search finds once some entries have gone, or one has come.
use Rattle.std.proofs.Common.{◌≡◌, ◌≢◌, ℕ, Bool, true, false, cond, List, [], ◌∷◌, ◌++◌, Option, Some, None, refl, sym, ap, ◌∙◌, subst, inl, inr, true≢false, arith, get_or}
use Rattle.std.specs.Prelude.{Contains, filter, find}
use Rattle.std.specs.List.{AllPairs, list_any}
use Rattle.std.specs.Option.{option_map}
use Rattle.std.specs.Cmp.Lexicographic.{bytes_decides}
use Rattle.std.proofs.lemmas.Bool.{cases_Bool, false_from_ne_true}
use Rattle.std.proofs.lemmas.Option.{none-some}
use Rattle.std.proofs.lemmas.List.Elements.{Contains-append_cases, Contains-get_or}
use Rattle.std.proofs.lemmas.List.Kept.{AllPairs-cons, AllPairs-filter}
use Rattle.gate_tx.specs.declared.OutPoint.{OutPoint}
use Rattle.gate_tx.specs.declared.TxIn.{TxIn}
use Rattle.gate_tx.specs.Coins.{point_eq, spends}
use Rattle.gate_tx.specs.Equality.{out_point_decides}
use Rattle.gate_tx.specs.Ids.{txid_of, wtxid_of}
use Rattle.gate_graph.proofs.Filters.{Contains-from_filter}
use Rattle.gate_bytes.proofs.Members.{Contains-cons_cases, Contains-head, Contains-rest, any_is, list_any_of, not_in_none}
use Rattle.gate_pool.specs.Pool.{Admitted, has_txid, has_wtxid, has_point, entry_by_txid, entry_by_wtxid, spender_of}
use Rattle.gate_pool.specs.Distinct.{AreDistinct}
use Rattle.gate_pool.specs.Keeping.{IsIndexed, IsNew}
use Rattle.gate_pool.proofs.Adding.{pairs_head, pairs_tail, found_by_id}
use Rattle.gate_pool.proofs.Conflicts.{find_absent}
use Rattle.gate_pool.proofs.Entries.{find_some, find_none}
use Rattle.gate_pool.proofs.Ids.{pairs_same, same_spender}

abbrev Id : Type 0
Id = List ℕ

-- a search of what stays, where all that is found stays
find_kept : {X : Type 0} (t keep : X → Bool) (xs : List X) → ((x : X) → Contains xs x → t x ≡ true → keep x ≡ true) → find t (filter keep xs) ≡ find t xs
find_kept t keep [] h = refl
find_kept {X} t keep (x ∷ xs) h = by (keep x) (t x) (h x (Contains-head x xs)) refl (find_kept t keep xs (λ y c. h y (Contains-rest x xs y c)))
  where
    by : (b d : Bool) → (d ≡ true → b ≡ true) → t x ≡ d → find t (filter keep xs) ≡ find t xs → find t (cond b (x ∷ filter keep xs) (filter keep xs)) ≡ cond d (Some x) (find t xs)
    by true d k e ih = (λ i. cond (e i) (Some x) (find t (filter keep xs))) ∙ ap (λ o. cond d (Some x) o) ih
    by false true k e ih = absurd (true≢false (sym (k refl)))
    by false false k e ih = ih

-- those that go: all of the list that do not stay, and no others
pub record AreLeaving {X : Type 0} (keep : X → Bool) (xs gone : List X) : Type 0 where
  pub all : (x : X) → Contains xs x → keep x ≡ false → Contains gone x
  pub only : (x : X) → Contains gone x → Contains xs x × (keep x ≡ false)

-- a search that finds one at most
find_left : {X : Type 0} (t keep : X → Bool) (xs gone : List X) → AreLeaving keep xs gone → ((a b : X) → Contains xs a → Contains xs b → t a ≡ true → t b ≡ true → a ≡ b)
    → find t (filter keep xs) ≡ cond (list_any t gone) None (find t xs)
find_left {X} t keep xs gone l one = by (list_any t gone) refl
  where
    went : list_any t gone ≡ true → find t (filter keep xs) ≡ None
    went e =
        let w = any_is t gone e in
        let v = l.only w.0 w.1 in
        find_absent t (filter keep xs) (λ x c. false_from_ne_true _ (λ p.
        let s = Contains-from_filter keep xs x c in
        true≢false (sym s.1 ∙ ap keep (one x w.0 s.0 v.0 p w.2) ∙ v.1)))

    stayed : list_any t gone ≡ false → find t (filter keep xs) ≡ find t xs
    stayed e = find_kept t keep xs (λ x c p.
        elim (cases_Bool (keep x)) [
          | inl k ↦ k
          | inr k ↦ absurd (true≢false (sym (list_any_of t gone x (l.all x c k) p) ∙ e))
        ])

    by : (b : Bool) → list_any t gone ≡ b → find t (filter keep xs) ≡ cond b None (find t xs)
    by true e = went e
    by false e = stayed e

-- a search of one more
pub find_push : {X : Type 0} (t : X → Bool) (xs : List X) (x : X) → (t x ≡ true → find t xs ≡ None) → find t (xs ++ x ∷ []) ≡ cond (t x) (Some x) (find t xs)
find_push t [] x h = refl
find_push {X} t (y ∷ xs) x h = by (λ k. find_push t xs x k) (t y) refl
  where
    before : t y ≡ false → t x ≡ true → find t xs ≡ None
    before e p = (λ i. cond (sym e i) (Some y) (find t xs)) ∙ h p

    first : (b : Bool) → (b ≡ true → Some y ≡ None) → Some y ≡ cond b (Some x) (Some y)
    first true k = absurd (none-some y (sym (k refl)))
    first false k = refl

    by : ((t x ≡ true → find t xs ≡ None) → find t (xs ++ x ∷ []) ≡ cond (t x) (Some x) (find t xs)) → (d : Bool) → t y ≡ d → cond d (Some y) (find t (xs ++ x ∷ [])) ≡ cond (t x) (Some x) (cond d (Some y) (find t xs))
    by ih true e = first (t x) (λ p. (λ i. cond (sym e i) (Some y) (find t xs)) ∙ h p)
    by ih false e = ih (before e)

-- one more at the end, told apart from each before it
AllPairs-push : {X : Type 0} (R : X → X → Type 0) (xs : List X) (x : X) → AllPairs R xs → ((y : X) → Contains xs y → R y x) → AllPairs R (xs ++ x ∷ [])
AllPairs-push R [] x pairs h = λ i j d lt within. absurd (omega (arith, lt, within))
AllPairs-push R (y ∷ xs) x pairs h =
    AllPairs-cons R y (xs ++ x ∷ [])
    (λ j d within.
    elim (Contains-append_cases xs (x ∷ []) (get_or (xs ++ x ∷ []) j d) (Contains-get_or (xs ++ x ∷ []) j d within)) [
      | inl old ↦ pairs_head R y xs pairs (get_or (xs ++ x ∷ []) j d) old
      | inr new ↦ elim (Contains-cons_cases x [] (get_or (xs ++ x ∷ []) j d) new) [ inl e ↦ subst (R y) e (h y (Contains-head y xs)) | inr n ↦ not_in_none (get_or (xs ++ x ∷ []) j d) n ]
    ])
    (AllPairs-push R xs x (pairs_tail R y xs pairs) (λ z c. h z (Contains-rest y xs z c)))

-- an outpoint that a new entry spends has no spender
new_point : (es : List Admitted) (e : Admitted) → IsNew es e → (k : OutPoint) → has_point e k ≡ true → spender_of es k ≡ None
new_point es e new k t =
    let w = any_is (λ (i : TxIn). point_eq i.prevout k) e.tx.inputs t in
    ap (spender_of es) (sym ((out_point_decides w.0.prevout k).0 w.2)) ∙ new.points w.0 w.1

new_wtxid : (es : List Admitted) (e : Admitted) → IsNew es e → (k : Id) → has_wtxid e k ≡ true → entry_by_wtxid es k ≡ None
new_wtxid es e new k t = ap (entry_by_wtxid es) (sym ((bytes_decides (wtxid_of e.tx) k).0 t)) ∙ new.wtxid

abbrev Look : Type 0
Look = Id → Option Id

module _ (es : List Admitted) (distinct : AreDistinct es) where
  -- an entry is found by its id
  pub found_again : (o : Option Admitted) (t : Admitted → Bool) → o ≡ find t es → (x : Id) → Some x ≡ option_map (λ (e : Admitted). txid_of e.tx) o → entry_by_txid es x ≡ o
  found_again None t is x e = absurd (none-some x (sym e))
  found_again (Some a) t is x e =
      let w = find_some t es a (sym is) in
      let same : txid_of a.tx ≡ x = (cc) in
      subst (λ y. entry_by_txid es y ≡ Some a) same (found_by_id es distinct.txids a w.0)

  pub none_again : (o : Option Admitted) → None ≡ option_map (λ (e : Admitted). txid_of e.tx) o → None ≡ o
  none_again None e = refl
  none_again (Some a) e = absurd (none-some (txid_of a.tx) e)

  AreDistinct-filter : (keep : Admitted → Bool) → AreDistinct (filter keep es)
  AreDistinct-filter keep = record {
    txids = AllPairs-filter (λ (a : Admitted) (b : Admitted). txid_of a.tx ≢ txid_of b.tx) keep es distinct.txids;
    wtxids = AllPairs-filter (λ (a : Admitted) (b : Admitted). wtxid_of a.tx ≢ wtxid_of b.tx) keep es distinct.wtxids;
    points = AllPairs-filter (λ (a : Admitted) (b : Admitted). (point : OutPoint) → spends a.tx.inputs point ≡ true → spends b.tx.inputs point ≡ false) keep es distinct.points;
  }

  same_wtxid : (k : Id) (a b : Admitted) → Contains es a → Contains es b → has_wtxid a k ≡ true → has_wtxid b k ≡ true → a ≡ b
  same_wtxid k a b m n s t =
      let same : wtxid_of a.tx ≡ wtxid_of b.tx = (bytes_decides (wtxid_of a.tx) k).0 s ∙ sym ((bytes_decides (wtxid_of b.tx) k).0 t) in
      pairs_same (λ (a : Admitted) (b : Admitted). wtxid_of a.tx ≢ wtxid_of b.tx) es distinct.wtxids a b m n (λ differ. differ same) (λ differ. differ (sym same))

  AreDistinct-push : (e : Admitted) → IsNew es e → AreDistinct (es ++ e ∷ [])
  AreDistinct-push e new = record {
    txids = AllPairs-push (λ (a : Admitted) (b : Admitted). txid_of a.tx ≢ txid_of b.tx) es e distinct.txids
        (λ y c same. true≢false (sym ((bytes_decides (txid_of y.tx) (txid_of e.tx)).1 same) ∙ find_none (λ x. has_txid x (txid_of e.tx)) es new.txid y c));
    wtxids = AllPairs-push (λ (a : Admitted) (b : Admitted). wtxid_of a.tx ≢ wtxid_of b.tx) es e distinct.wtxids
        (λ y c same. true≢false (sym ((bytes_decides (wtxid_of y.tx) (wtxid_of e.tx)).1 same) ∙ find_none (λ x. has_wtxid x (wtxid_of e.tx)) es new.wtxid y c));
    points = AllPairs-push (λ (a : Admitted) (b : Admitted). (point : OutPoint) → spends a.tx.inputs point ≡ true → spends b.tx.inputs point ≡ false) es e distinct.points
        (λ y c k t. false_from_ne_true _ (λ s. true≢false (sym t ∙ find_none (λ x. has_point x k) es (new_point es e new k s) y c)));
  }

map_cond : (b : Bool) (o : Option Admitted) → cond b None (option_map (λ (e : Admitted). txid_of e.tx) o) ≡ option_map (λ (e : Admitted). txid_of e.tx) (cond b None o)
map_cond true o = refl
map_cond false o = refl

map_put : (b : Bool) (e : Admitted) (o : Option Admitted) → cond b (Some (txid_of e.tx)) (option_map (λ (e : Admitted). txid_of e.tx) o) ≡ option_map (λ (e : Admitted). txid_of e.tx) (cond b (Some e) o)
map_put true e o = refl
map_put false e o = refl

module _ {es : List Admitted} {wtxids wtxids' : Look} {points points' : OutPoint → Option Id} where
  -- some entries go
  pub IsIndexed-left : (keep : Admitted → Bool) (gone : List Admitted) → IsIndexed es wtxids points → AreLeaving keep es gone
      → ((k : Id) → wtxids' k ≡ cond (list_any (λ e. has_wtxid e k) gone) None (wtxids k))
      → ((k : OutPoint) → points' k ≡ cond (list_any (λ e. has_point e k) gone) None (points k))
      → IsIndexed (filter keep es) wtxids' points'
  IsIndexed-left keep gone h l at_wtxid at_point = record {
    wtxids = λ k.
        at_wtxid k
        ∙ ap (cond (list_any (λ e. has_wtxid e k) gone) None) (h.wtxids k)
        ∙ map_cond (list_any (λ e. has_wtxid e k) gone) (entry_by_wtxid es k)
        ∙ ap (option_map (λ (e : Admitted). txid_of e.tx)) (sym (find_left (λ e. has_wtxid e k) keep es gone l (same_wtxid es h.distinct k)));
    points = λ k.
        at_point k
        ∙ ap (cond (list_any (λ e. has_point e k) gone) None) (h.points k)
        ∙ map_cond (list_any (λ e. has_point e k) gone) (spender_of es k)
        ∙ ap (option_map (λ (e : Admitted). txid_of e.tx)) (sym (find_left (λ e. has_point e k) keep es gone l (same_spender es h.distinct k)));
    distinct = AreDistinct-filter es h.distinct keep;
  }

  -- an entry comes
  pub IsIndexed-push : (e : Admitted) → IsIndexed es wtxids points → IsNew es e
      → ((k : Id) → wtxids' k ≡ cond (has_wtxid e k) (Some (txid_of e.tx)) (wtxids k))
      → ((k : OutPoint) → points' k ≡ cond (has_point e k) (Some (txid_of e.tx)) (points k))
      → IsIndexed (es ++ e ∷ []) wtxids' points'
  IsIndexed-push e h new at_wtxid at_point = record {
    wtxids = λ k.
        at_wtxid k
        ∙ ap (cond (has_wtxid e k) (Some (txid_of e.tx))) (h.wtxids k)
        ∙ map_put (has_wtxid e k) e (entry_by_wtxid es k)
        ∙ ap (option_map (λ (e : Admitted). txid_of e.tx)) (sym (find_push (λ x. has_wtxid x k) es e (new_wtxid es e new k)));
    points = λ k.
        at_point k
        ∙ ap (cond (has_point e k) (Some (txid_of e.tx))) (h.points k)
        ∙ map_put (has_point e k) e (spender_of es k)
        ∙ ap (option_map (λ (e : Admitted). txid_of e.tx)) (sym (find_push (λ x. has_point x k) es e (new_point es e new k)));
    distinct = AreDistinct-push es h.distinct e new;
  }

-- no entries, and nothing found
pub IsIndexed-none : (wtxids : Look) (points : OutPoint → Option Id) → ((k : Id) → wtxids k ≡ None) → ((k : OutPoint) → points k ≡ None) → IsIndexed [] wtxids points
IsIndexed-none wtxids points no_wtxids no_points = record {
  wtxids = no_wtxids;
  points = no_points;
  distinct = record {
    txids = λ i j d lt within. absurd (omega (arith, within));
    wtxids = λ i j d lt within. absurd (omega (arith, within));
    points = λ i j d lt within. absurd (omega (arith, within));
  };
}

-- the same entries and the same look-ups
pub IsIndexed-same : {es es' : List Admitted} {wtxids wtxids' : Look} {points points' : OutPoint → Option Id} → IsIndexed es wtxids points → es' ≡ es → ((k : Id) → wtxids' k ≡ wtxids k) → ((k : OutPoint) → points' k ≡ points k) → IsIndexed es' wtxids' points'
IsIndexed-same h is w p = record {
  wtxids = λ k. w k ∙ h.wtxids k ∙ ap (λ l. option_map (λ (e : Admitted). txid_of e.tx) (entry_by_wtxid l k)) (sym is);
  points = λ k. p k ∙ h.points k ∙ ap (λ l. option_map (λ (e : Admitted). txid_of e.tx) (spender_of l k)) (sym is);
  distinct = subst AreDistinct (sym is) h.distinct;
}
