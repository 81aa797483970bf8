-- What comes back is asked of its family, which is as good as of every entry.
use Rattle.std.proofs.Common.{◌≡◌, Bool, true, false, not, ◌&&◌, List, [], ◌∷◌, ◌++◌, refl, sym, ap}
use Rattle.std.specs.List.{list_all}
use Rattle.std.proofs.lemmas.Bool.{and_parts, and_from, le-leb}
use Rattle.gate_tx.specs.Ids.{txid_of}
use Rattle.gate_graph.specs.Family.{reaches}
use Rattle.gate_pool.specs.Pool.{Admitted}
use Rattle.gate_pool.specs.Family.{steps, ancestors_of, descendants_of}
use Rattle.gate_pool.proofs.Entries.{Id}
use Rattle.gate_pool.proofs.Walking.{Contains-from_filter}
use Rattle.gate_rbf.specs.declared.ParentsOf.TheVariants.{Conflicts}
use Rattle.gate_admit.specs.Good.{IsLimited}
use Rattle.gate_admit.specs.Laws.{ReadmissionsAskOfAll}
use Rattle.gate_admit.specs.Limits.{is_below_itself, is_limited}
use Rattle.gate_admit.specs.Policies.{Policy}
use Rattle.gate_admit.proofs.Families.{list_all_of as all_from}
use Rattle.gate_admit.proofs.Filtering.{list_all_of}
use Rattle.gate_admit.proofs.Readmitted.{all_limited, told_limited}

-- a policy under which the sizes of all families are limited; whose parents a replacement may have is not asked of what comes back
abbrev narrowed : Policy → Policy
narrowed policy = record policy { parents = Conflicts }

-- what is limited passes the test
passes_limited : (policy : Policy) (entries : List Admitted) (b : Id) → IsLimited (narrowed policy) entries b → is_limited policy entries b ≡ true
passes_limited policy entries b h =
    and_from _ _ (le-leb _ _ h.ancestors) (and_from _ _ (le-leb _ _ h.ancestors_size) (and_from _ _ (le-leb _ _ h.descendants) (le-leb _ _ (h.descendants_size refl))))

same_behind : (a b c : Bool) → (b ≡ true → c ≡ true) → (c ≡ true → b ≡ true) → (a && b) ≡ (a && c)
same_behind a true c h k = ap (λ x. a && x) (sym (h refl))
same_behind a false true h k = ap (λ x. a && x) (k refl)
same_behind a false false h k = refl

pub readmissions_ask_of_all : ReadmissionsAskOfAll
readmissions_ask_of_all policy entries tx vsize limited =
    let n : Admitted = record { tx = tx; fee = 0; vsize = vsize; time = 0 } in
    let all = entries ++ n ∷ [] in
    let test : Admitted → Bool = λ a. is_limited policy all (txid_of a.tx) in
    let above : Admitted → Bool = λ a. reaches (steps all) (txid_of a.tx) (txid_of tx) in
    let below : Admitted → Bool = λ a. reaches (steps all) (txid_of tx) (txid_of a.tx) in
    same_behind (not (is_below_itself all tx)) (list_all test (ancestors_of all (txid_of tx)) && list_all test (descendants_of all (txid_of tx))) (list_all test all)
    (λ h.
    let parts = and_parts (list_all test (ancestors_of all (txid_of tx))) (list_all test (descendants_of all (txid_of tx))) h in
    all_from test all (λ a m.
    passes_limited policy all (txid_of a.tx)
    (all_limited (narrowed policy) entries n (λ b k. told_limited (narrowed policy) entries (txid_of b.tx) (list_all_of (λ e. is_limited policy entries (txid_of e.tx)) entries b limited k)) parts.0 parts.1 a m)))
    (λ h. and_from _ _
    (all_from test (ancestors_of all (txid_of tx)) (λ a m. list_all_of test all a h (Contains-from_filter above all a m)))
    (all_from test (descendants_of all (txid_of tx)) (λ a m. list_all_of test all a h (Contains-from_filter below all a m))))
