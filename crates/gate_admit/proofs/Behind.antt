-- Entries with one more behind them.
use Rattle.std.proofs.Common.{◌≡◌, Bool, true, false, cond, List, [], ◌∷◌, ◌++◌, get_or, Option, Some, None, refl, sym, ap, subst, ◌∙◌, inl, inr, true≢false}
use Rattle.std.specs.Prelude.{◌≢◌, Contains, filter}
use Rattle.std.specs.List.{AllPairs, list_any}
use Rattle.std.specs.Option.{option_or}
use Rattle.std.specs.Str.{bytes_eq}
use Rattle.std.specs.Cmp.Lexicographic.{bytes_decides}
use Rattle.std.proofs.lemmas.Bool.{false_from_ne_true}
use Rattle.std.proofs.lemmas.List.Elements.{filter-append, Contains-append_cases, Contains-append_left, Contains-append_right, Contains-get_or}
use Rattle.std.proofs.lemmas.List.Folds.{find-append}
use Rattle.std.proofs.lemmas.List.{append-nil}
use Rattle.std.proofs.lemmas.List.Quantifiers.{all_pairs_push}
use Rattle.gate_tx.specs.Ids.{txid_of}
use Rattle.gate_bytes.proofs.Members.{Contains-cons_cases, Contains-head, not_in_none}
use Rattle.gate_pool.specs.Pool.{Admitted, has_txid, entry_by_txid}
use Rattle.gate_pool.specs.Family.{AreIdsOf}
use Rattle.gate_pool.proofs.Adding.{DifferById}
use Rattle.gate_pool.proofs.Entries.{Id, find_none}
use Rattle.gate_pool.proofs.Searching.{among_ids, push_once}
use Rattle.gate_pool.proofs.Walking.{Contains-from_filter}

module _ (entries : List Admitted) (e : Admitted) (new : entry_by_txid entries (txid_of e.tx) ≡ None) where
  -- no entry has the other's id
  pub differs : (a : Admitted) → Contains entries a → txid_of a.tx ≢ txid_of e.tx
  differs a m same = true≢false (sym ((bytes_decides (txid_of a.tx) (txid_of e.tx)).1 same) ∙ find_none (λ (d : Admitted). has_txid d (txid_of e.tx)) entries new a m)

  -- a search by its id finds it, and by another what it found before
  pub found_behind : (x : Id) → txid_of e.tx ≡ x → Some e ≡ entry_by_txid (entries ++ e ∷ []) x
  found_behind x is =
      sym (find-append (λ (d : Admitted). has_txid d x) entries (e ∷ [])
      ∙ ap (λ o. option_or o (cond (has_txid e x) (Some e) None)) (ap (entry_by_txid entries) (sym is) ∙ new)
      ∙ ap (λ b. cond b (Some e) None) ((bytes_decides (txid_of e.tx) x).1 is))

  pub found_before : (x : Id) → has_txid e x ≡ false → entry_by_txid entries x ≡ entry_by_txid (entries ++ e ∷ []) x
  found_before x other =
      sym (find-append (λ (d : Admitted). has_txid d x) entries (e ∷ [])
      ∙ ap (λ b. option_or (entry_by_txid entries x) (cond b (Some e) None)) other
      ∙ or_none (entry_by_txid entries x))
    where
      or_none : (o : Option Admitted) → option_or o None ≡ o
      or_none None = refl
      or_none (Some a) = refl

  pub apart_behind : AllPairs DifferById entries → AllPairs DifferById (entries ++ e ∷ [])
  apart_behind apart = all_pairs_push DifferById entries e apart (λ k d l. differs (get_or entries k d) (Contains-get_or entries k d l))

  -- its id is added to the ids of entries that pass a test, where it passes
  module _ (test : Admitted → Bool) (ids : List Id) (are : AreIdsOf ids (filter test entries)) where
    absent : list_any (λ y. bytes_eq y (txid_of e.tx)) ids ≡ false
    absent = false_from_ne_true _ (λ t.
        let v = are.only (txid_of e.tx) (among_ids ids (txid_of e.tx) t) in
        differs v.0 (Contains-from_filter test entries v.0 v.1) v.2)

    one_more : AreIdsOf (ids ++ txid_of e.tx ∷ []) (filter test entries ++ e ∷ [])
    one_more = record {
      once = push_once ids (txid_of e.tx) absent are.once;
      all = λ a m.
          elim (Contains-append_cases (filter test entries) (e ∷ []) a m) [
            | inl old ↦ Contains-append_left ids (txid_of e.tx ∷ []) (txid_of a.tx) (are.all a old)
            | inr last ↦
                elim (Contains-cons_cases e [] a last) [
                  | inl same ↦ Contains-append_right ids (txid_of e.tx ∷ []) (txid_of a.tx) (subst (λ (z : Admitted). Contains (txid_of e.tx ∷ []) (txid_of z.tx)) same (Contains-head (txid_of e.tx) []))
                  | inr none ↦ not_in_none a none
                ]
          ];
      only = λ id m.
          elim (Contains-append_cases ids (txid_of e.tx ∷ []) id m) [
            | inl old ↦ let v = are.only id old in (v.0, Contains-append_left (filter test entries) (e ∷ []) v.0 v.1, v.2)
            | inr last ↦
                elim (Contains-cons_cases (txid_of e.tx) [] id last) [
                  | inl same ↦ (e, Contains-append_right (filter test entries) (e ∷ []) e (Contains-head e []), same)
                  | inr none ↦ not_in_none id none
                ]
          ];
    }

    pub AreIdsOf-behind : test e ≡ true → AreIdsOf (ids ++ txid_of e.tx ∷ []) (filter test (entries ++ e ∷ []))
    AreIdsOf-behind passes = subst (AreIdsOf (ids ++ txid_of e.tx ∷ [])) (sym (filter-append test entries (e ∷ []) ∙ ap (λ b. filter test entries ++ cond b (e ∷ []) []) passes)) one_more

    pub AreIdsOf-before : test e ≡ false → AreIdsOf ids (filter test (entries ++ e ∷ []))
    AreIdsOf-before fails = subst (AreIdsOf ids) (sym (filter-append test entries (e ∷ []) ∙ ap (λ b. filter test entries ++ cond b (e ∷ []) []) fails ∙ append-nil (filter test entries))) are
