-- Ids that a search of entries has found, each once, and what is left to open.
use Rattle.std.proofs.Common.{◌≡◌, ℕ, ◌+◌, ◌<◌, ◌≤◌, Bool, true, false, List, [], ◌∷◌, ◌++◌, length, take, drop, get_or, refl, leb, sym, ap, ◌∙◌, subst, inl, inr, arith, append_assoc, true≢false, Option, Some, None, is_some, Bor}
use Rattle.std.specs.Prelude.{◌≢◌, Contains, filter}
use Rattle.std.specs.List.{AllPairs, list_any}
use Rattle.std.proofs.lemmas.List.{take_more, take-append-le, take-append-drop, append-nil, length-map, get_or-map}
use Rattle.std.proofs.lemmas.List.Elements.{Contains-append_cases, Contains-append_left, Contains-append_right, Contains-get_or}
use Rattle.std.proofs.lemmas.List.Quantifiers.{all_pairs_push}
use Rattle.std.proofs.lemmas.Bool.{leb-false, leb-true}
use Rattle.std.specs.Str.{bytes_eq}
use Rattle.std.specs.Option.{option_copied}
use Rattle.std.specs.Cmp.Lexicographic.{bytes_decides}
use Rattle.gate_tx.specs.declared.TxIn.{TxIn}
use Rattle.gate_tx.specs.Ids.{txid_of}
use Rattle.gate_bytes.proofs.Members.{Contains-cons_cases, not_in_none, list_any_of, any_is}
use Rattle.gate_pool.specs.Pool.{Admitted, has_txid, entry_by_txid}
use Rattle.gate_pool.specs.Search.{IsEntry, IsFound, parents_of}
use Rattle.gate_pool.proofs.Entries.{Id, find_some, find_none}
use Rattle.gate_pool.proofs.Walking.{Contains-filter}
use Rattle.gate_pool.proofs.Ids.{no_more}

pub copied_some : {X : Type 0} (o : Option (Bor X)) → is_some (option_copied o) ≡ is_some o
copied_some None = refl
copied_some (Some x) = refl

pub among_ids : (ids : List Id) (x : Id) → list_any (λ y. bytes_eq y x) ids ≡ true → Contains ids x
among_ids ids x h = let w = any_is (λ y. bytes_eq y x) ids h in subst (Contains ids) ((bytes_decides w.0 x).0 w.2) w.1

-- one id more is told apart from all before it
pub push_once : (ids : List Id) (x : Id) → list_any (λ y. bytes_eq y x) ids ≡ false → AllPairs (λ (a : Id) (b : Id). a ≢ b) ids → AllPairs (λ (a : Id) (b : Id). a ≢ b) (ids ++ x ∷ [])
push_once ids x new h = all_pairs_push (λ (a : Id) (b : Id). a ≢ b) ids x h
    (λ k d l same. true≢false (sym (list_any_of (λ y. bytes_eq y x) ids (get_or ids k d) (Contains-get_or ids k d l) ((bytes_decides (get_or ids k d) x).1 same)) ∙ new))

-- an entry that is found by its id, and one that is not
pub entry_there : (g : List Admitted) (x : Id) → is_some (entry_by_txid g x) ≡ true → IsEntry g x
entry_there g x h = by (entry_by_txid g x) refl h
  where
    by : (o : Option Admitted) → entry_by_txid g x ≡ o → is_some o ≡ true → IsEntry g x
    by None e h = absurd (true≢false (sym h))
    by (Some d) e h = let w = find_some (λ d. has_txid d x) g d e in (d, w.0, (bytes_decides (txid_of d.tx) x).0 w.1)

pub entry_absent : (g : List Admitted) (x : Id) → is_some (entry_by_txid g x) ≡ false → IsEntry g x → ⊥
entry_absent g x h has = by (entry_by_txid g x) refl h
  where
    by : (o : Option Admitted) → entry_by_txid g x ≡ o → is_some o ≡ false → ⊥
    by None e h = true≢false (sym ((bytes_decides (txid_of has.0.tx) x).1 has.2) ∙ find_none (λ d. has_txid d x) g e has.0 has.1)
    by (Some d) e h = true≢false h

module _ {most : ℕ} {g : List Admitted} where
  -- nothing was asked for
  pub IsFound-none : (before : List Id) → IsFound most g [] before before true
  IsFound-none before = record {
    more = [];
    is = sym (append-nil before);
    once = λ h. h;
    only = λ id m. not_in_none id m;
    all = λ e id m. not_in_none id m;
    few = λ e h. h;
    many = λ e. absurd (true≢false e);
  }

  -- one id more is found
  pub IsFound-pushed : {before after : List Id} (x : Id) → list_any (λ y. bytes_eq y x) before ≡ false → IsEntry g x → after ≡ before ++ x ∷ [] → IsFound most g (x ∷ []) before after (leb (length after) most)
  IsFound-pushed {before} {after} x new entry is = record {
    more = x ∷ [];
    is = is;
    once = λ h. subst (AllPairs (λ (a : Id) (b : Id). a ≢ b)) (sym is) (push_once before x new h);
    only = λ id m. (m, elim (Contains-cons_cases x [] id m) [ inl same ↦ subst (IsEntry g) same entry | inr none ↦ not_in_none id none ]);
    all = λ e id m has. subst (λ l. Contains l id) (sym is) (Contains-append_right before (x ∷ []) id m);
    few = λ e l. leb-true (length after) most e;
    many = leb-false (length after) most;
  }

  -- one that is found already, or is not that of an entry
  pub IsFound-kept : {before after : List Id} (x : Id) → (IsEntry g x → Contains before x) → after ≡ before → IsFound most g (x ∷ []) before after (leb (length after) most)
  IsFound-kept {before} {after} x there is = record {
    more = [];
    is = is ∙ sym (append-nil before);
    once = λ h. subst (AllPairs (λ (a : Id) (b : Id). a ≢ b)) (sym is) h;
    only = λ id m. not_in_none id m;
    all = λ e id m has.
        elim (Contains-cons_cases x [] id m) [
          | inl same ↦ subst (λ l. Contains l id) (sym is) (subst (Contains before) same (there (subst (IsEntry g) (sym same) has)))
          | inr none ↦ not_in_none id none
        ];
    few = λ e l. leb-true (length after) most e;
    many = leb-false (length after) most;
  }

  -- what was found before is found still
  pub IsFound-still : {xs a b : List Id} {w : Bool} → IsFound most g xs a b w → (id : Id) → Contains a id → Contains b id
  IsFound-still {a = a} h id m = subst (λ l. Contains l id) (sym h.is) (Contains-append_left a h.more id m)

  -- one search after another
  pub IsFound-then : {xs ys a b c : List Id} {w : Bool} → IsFound most g xs a b true → IsFound most g ys b c w → IsFound most g (xs ++ ys) a c w
  IsFound-then {xs} {ys} {a} {b} {c} h k = record {
    more = h.more ++ k.more;
    is = k.is ∙ ap (λ l. l ++ k.more) h.is ∙ append_assoc a h.more k.more;
    once = λ o. k.once (h.once o);
    only = λ id m.
        elim (Contains-append_cases h.more k.more id m) [
          | inl p ↦ let v = h.only id p in (Contains-append_left xs ys id v.0, v.1)
          | inr p ↦ let v = k.only id p in (Contains-append_right xs ys id v.0, v.1)
        ];
    all = λ e id m has.
        elim (Contains-append_cases xs ys id m) [
          | inl p ↦ IsFound-still k id (h.all refl id p has)
          | inr p ↦ k.all e id p has
        ];
    few = λ e l. k.few e (h.few refl l);
    many = k.many;
  }

  -- a search that stopped had no need of the rest
  pub IsFound-stopped : {xs ys a b : List Id} → ((id : Id) → Contains xs id → Contains ys id) → IsFound most g xs a b false → IsFound most g ys a b false
  IsFound-stopped f h = record {
    more = h.more;
    is = h.is;
    once = h.once;
    only = λ id m. let v = h.only id m in (f id v.0, v.1);
    all = λ e. absurd (true≢false (sym e));
    few = λ e. absurd (true≢false (sym e));
    many = h.many;
  }

module _ (ids : List Id) (i : ℕ) (x : Id) (lt : i < length ids) (is : x ≡ get_or ids i x) where
  one_more : take (i + 1) ids ≡ take i ids ++ x ∷ []
  one_more = take_more ids i x lt ∙ ap (λ z. take i ids ++ z ∷ []) (sym is)

  -- the ids up to the next
  pub IsFound-next : {most : ℕ} {g : List Admitted} {a b c : List Id} {w : Bool} → IsFound most g (take i ids) a b true → IsFound most g (x ∷ []) b c w → w ≡ true → IsFound most g (take (i + 1) ids) a c true
  IsFound-next {most} {g} {a} {b} {c} h k e = subst (λ l. IsFound most g l a c true) (sym one_more) (IsFound-then h (subst (IsFound most g (x ∷ []) b c) e k))

  -- the search stops there
  pub IsFound-end : {most : ℕ} {g : List Admitted} {a b c : List Id} {w : Bool} → IsFound most g (take i ids) a b true → IsFound most g (x ∷ []) b c w → w ≡ false → IsFound most g ids a c false
  IsFound-end {most} {g} {a} {b} {c} h k e =
      IsFound-stopped
      (λ id m. subst (λ l. Contains l id) (take-append-drop (i + 1) ids) (Contains-append_left (take (i + 1) ids) (drop (i + 1) ids) id (subst (λ l. Contains l id) (sym one_more) m)))
      (IsFound-then h (subst (IsFound most g (x ∷ []) b c) e k))

-- what was found has the ids of entries that are aimed at, each once
pub record IsSound (g : List Admitted) (aim : Id → Bool) (found : List Id) : Type 0 where
  pub once : AllPairs (λ (a : Id) (b : Id). a ≢ b) found
  pub entry : (id : Id) → Contains found id → IsEntry g id
  pub aimed : (id : Id) → Contains found id → aim id ≡ true

module _ {g : List Admitted} {aim : Id → Bool} where
  pub IsSound-none : (found : List Id) → found ≡ [] → IsSound g aim found
  IsSound-none found is = subst (IsSound g aim) (sym is) (record {
    once = λ i j d lt within. absurd (omega (arith, within));
    entry = λ id m. not_in_none id m;
    aimed = λ id m. not_in_none id m;
  })

  pub IsSound-more : {most : ℕ} {ids a b : List Id} {w : Bool} → IsSound g aim a → IsFound most g ids a b w → ((id : Id) → Contains ids id → IsEntry g id → aim id ≡ true) → IsSound g aim b
  IsSound-more {a = a} {b = b} s h f = record {
    once = h.once s.once;
    entry = λ id m.
        elim (Contains-append_cases a h.more id (subst (λ l. Contains l id) h.is m)) [
          | inl p ↦ s.entry id p
          | inr p ↦ (h.only id p).1
        ];
    aimed = λ id m.
        elim (Contains-append_cases a h.more id (subst (λ l. Contains l id) h.is m)) [
          | inl p ↦ s.aimed id p
          | inr p ↦ let v = h.only id p in f id v.0 v.1
        ];
  }

  -- they are no more than the entries that are aimed at
  pub IsSound-few : {found : List Id} → IsSound g aim found → (test : Admitted → Bool) → ((e : Admitted) → Contains g e → aim (txid_of e.tx) ≡ true → test e ≡ true) → length found ≤ length (filter test g)
  IsSound-few {found} s test f =
      no_more (λ (id : Id). id) (λ (e : Admitted). txid_of e.tx) found (filter test g) s.once (λ id m.
      let w = s.entry id m in
      (w.0, Contains-filter test g w.0 w.1 (f w.0 w.1 (ap aim w.2 ∙ s.aimed id m)), w.2))

  -- nor than all entries
  pub IsSound-le : {found : List Id} → IsSound g aim found → length found ≤ length g
  IsSound-le {found} s = no_more (λ (id : Id). id) (λ (e : Admitted). txid_of e.tx) found g s.once s.entry

-- a walk from ids along steps, of which the first ids that were found are opened
pub record IsWalk (g : List Admitted) (aim : Id → Bool) (step : Id → Id → Type 0) (starts : List Id) (opened : ℕ) (found : List Id) : Type 0 where
  pub sound : IsSound g aim found
  pub started : (id : Id) → Contains starts id → IsEntry g id → Contains found id
  pub followed : (a b : Id) → Contains (take opened found) a → step a b → Contains found b

module _ {most : ℕ} {g : List Admitted} {aim : Id → Bool} {step : Id → Id → Type 0} {starts : List Id} where
  pub IsWalk-start : {before found : List Id} {w : Bool} → before ≡ [] → IsFound most g starts before found w → w ≡ true → ((id : Id) → Contains starts id → IsEntry g id → aim id ≡ true) → IsWalk g aim step starts 0 found
  IsWalk-start {before} is h e f = record {
    sound = IsSound-more (IsSound-none before is) h f;
    started = λ id m has. h.all e id m has;
    followed = λ a b m s. not_in_none a m;
  }

  -- the next is opened
  pub IsWalk-open : {opened : ℕ} {ids found after : List Id} {w : Bool} → IsWalk g aim step starts opened found → (x : Id) → opened < length found → x ≡ get_or found opened x → IsFound most g ids found after w → w ≡ true
      → ((id : Id) → Contains ids id → IsEntry g id → aim id ≡ true) → ((b : Id) → step x b → Contains ids b × IsEntry g b) → IsWalk g aim step starts (opened + 1) after
  IsWalk-open {opened} {ids} {found} {after} w x lt is h e f next = record {
    sound = IsSound-more w.sound h f;
    started = λ id m has. IsFound-still h id (w.started id m has);
    followed = λ a b m s.
        elim (Contains-append_cases (take opened found) (x ∷ []) a (subst (λ l. Contains l a) first m)) [
          | inl p ↦ IsFound-still h b (w.followed a b p s)
          | inr p ↦
              elim (Contains-cons_cases x [] a p) [
                | inl same ↦ let v = next b (subst (λ z. step z b) (sym same) s) in h.all e b v.0 v.1
                | inr none ↦ not_in_none a none
              ]
        ];
  }
    where
      first : take (opened + 1) after ≡ take opened found ++ x ∷ []
      first = ap (take (opened + 1)) h.is ∙ take-append-le (opened + 1) found h.more (omega (arith, lt)) ∙ take_more found opened x lt ∙ ap (λ z. take opened found ++ z ∷ []) (sym is)

-- the ids that inputs name, one for each input
pub parents_lt : (inputs : List TxIn) (i : ℕ) → i < length inputs → i < length (parents_of inputs)
parents_lt inputs i lt = omega (arith, lt, length-map inputs (λ (x : TxIn). x.prevout.txid))

pub parents_is : (inputs : List TxIn) (i : ℕ) (x : TxIn) → i < length inputs → x ≡ get_or inputs i x → x.prevout.txid ≡ get_or (parents_of inputs) i x.prevout.txid
parents_is inputs i x lt is = ap (λ (y : TxIn). y.prevout.txid) is ∙ sym (get_or-map (λ (y : TxIn). y.prevout.txid) inputs i x x.prevout.txid lt)
