-- Limits of families (A36, with the growth that a replacement is given, and those of a transaction that is tried again; and A47), and
-- what a transaction may not be above (A37).
use Rattle.std.specs.Prelude.{◌≡◌, ℕ, ◌+◌, ◌==◌, nat_le, Bool, ◌&&◌, ◌||◌, not, List, [], ◌∷◌, ◌++◌, length, is_some}
use Rattle.std.specs.List.{list_any, list_all}
use Rattle.gate_bytes.specs.Order.{Rule}
use Rattle.gate_tx.specs.declared.TxIn.{TxIn}
use Rattle.gate_tx.specs.Ids.{txid_of}
use Rattle.gate_tx.specs.Tx.{Tx}
use Rattle.gate_graph.specs.Family.{reaches}
use Rattle.gate_standard.specs.Rules.{is_truc}
use Rattle.gate_rules.specs.declared.Denial.{Denial}
use Rattle.gate_rules.specs.declared.Denial.TheVariants.{TooLongChain, SpendsConflicting, TrucViolation}
use Rattle.gate_pool.specs.Pool.{Admitted, entry_by_txid, size_of}
use Rattle.gate_admit.specs.declared.attempt.Attempt.{Attempt}
use Rattle.gate_admit.specs.declared.attempt.Attempt.TheVariants.{First, Again}
use Rattle.gate_admit.specs.declared.limits.FamilyLimits.{FamilyLimits}
use Rattle.gate_admit.specs.Policies.{Policy, carve_out_size, most_ancestors, most_descendants, most_descendants_size}
use Rattle.gate_admit.specs.Truc.{breaks_truc}
use Rattle.gate_pool.specs.Family.{steps, ancestors_of, descendants_of, ancestors_above, is_conflict, conflicts_of}

-- beside exactly one direct conflict there may be one descendant more, and as many bytes as that has with its descendants
abbrev pub grown : List Admitted → List Admitted → FamilyLimits → FamilyLimits
grown entries [] limits = limits
grown entries (c ∷ []) limits = record limits { descendants = limits.descendants + 1; descendants_size = limits.descendants_size + size_of (descendants_of entries (txid_of c.tx)) }
grown entries (c ∷ d ∷ rest) limits = limits

-- the limits of the first try, which are the operator's
abbrev pub usual_limits : Policy → FamilyLimits
usual_limits policy =
    record { ancestors = policy.ancestors; ancestors_size = policy.ancestors_size; descendants = policy.descendants; descendants_size = policy.descendants_size }

-- the limits of the second try, for a small transaction with at most one parent, so that each of two parties can raise the
-- fee of what both can spend (Bitcoin Core's carve-out)
abbrev pub carved_out : FamilyLimits → FamilyLimits
carved_out limits = record limits { ancestors = 2; descendants = limits.descendants + 1; descendants_size = limits.descendants_size + carve_out_size }

-- a transaction of this size can join these descendants of an entry
abbrev pub has_room : FamilyLimits → ℕ → List Admitted → Bool
has_room limits vsize family = nat_le (length family + 1) limits.descendants && nat_le (size_of family + vsize) limits.descendants_size

-- a transaction of this size can join the descendants of this entry
abbrev pub has_room_below : FamilyLimits → List Admitted → ℕ → Admitted → Bool
has_room_below limits entries vsize a = has_room limits vsize (descendants_of entries (txid_of a.tx))

-- with a transaction of this size its ancestors are few and small enough, and so are the descendants of each of them
abbrev pub is_within : FamilyLimits → List Admitted → List Admitted → ℕ → Bool
is_within limits entries above vsize =
    nat_le (length above + 1) limits.ancestors
    && ((length above == 0 || nat_le (size_of above + vsize) limits.ancestors_size)
    && list_all (has_room_below limits entries vsize) above)

-- a transaction of this size has a second try: a small one, unless it is of version 3
abbrev pub has_second_try : Tx → ℕ → Bool
has_second_try tx vsize = nat_le vsize carve_out_size && not (is_truc tx)

-- one of the two tries of A36 succeeds; not every transaction has a second one
abbrev pub fits_families : Policy → List Admitted → Tx → ℕ → Bool
fits_families policy entries tx vsize =
    let above = ancestors_above entries tx.inputs in
    let limits = grown entries (conflicts_of entries tx) (usual_limits policy) in
    is_within limits entries above vsize || (has_second_try tx vsize && is_within (carved_out limits) entries above vsize)

-- ---- a transaction that is tried again

-- the ancestors and the descendants of an id, its own entry among each, are within the limits of the policy
abbrev pub is_limited : Policy → List Admitted → List ℕ → Bool
is_limited policy entries txid =
    nat_le (length (ancestors_of entries txid)) (most_ancestors policy)
    && (nat_le (size_of (ancestors_of entries txid)) policy.ancestors_size
    && (nat_le (length (descendants_of entries txid)) (most_descendants policy)
    && nat_le (size_of (descendants_of entries txid)) (most_descendants_size policy)))

abbrev pub are_limited : Policy → List Admitted → List Admitted → Bool
are_limited policy entries these = list_all (λ e. is_limited policy entries (txid_of e.tx)) these

-- the ancestors and the descendants of an id, its own entry among each, are within these limits
abbrev pub fits_within : FamilyLimits → List Admitted → List ℕ → Bool
fits_within limits entries txid =
    nat_le (length (ancestors_of entries txid)) limits.ancestors
    && (nat_le (size_of (ancestors_of entries txid)) limits.ancestors_size
    && (nat_le (length (descendants_of entries txid)) limits.descendants
    && nat_le (size_of (descendants_of entries txid)) limits.descendants_size))

abbrev pub all_fit_within : FamilyLimits → List Admitted → List Admitted → Bool
all_fit_within limits entries these = list_all (λ e. fits_within limits entries (txid_of e.tx)) these

-- the entries with a transaction of this size behind them; the entries that it would replace are still there
abbrev pub joined : List Admitted → Tx → ℕ → List Admitted
joined entries tx vsize = entries ++ record { tx = tx; fee = 0; vsize = vsize; time = 0 } ∷ []

-- the transaction descends from itself: steps lead from it to a transaction of which it spends an output
abbrev pub is_below_itself : List Admitted → Tx → Bool
is_below_itself entries tx = list_any (λ (i : TxIn). reaches (steps entries) (txid_of tx) i.prevout.txid) tx.inputs

-- the transaction spends an output of an entry
abbrev pub has_parent : List Admitted → Tx → Bool
has_parent entries tx = list_any (λ (i : TxIn). is_some (entry_by_txid entries i.prevout.txid)) tx.inputs

-- the limits of a transaction's ancestors without it: each has it as one descendant more, of this size
pub record LeavesRoomBelow (policy : Policy) (vsize : ℕ) (limits : FamilyLimits) : Type 0 where
  pub ancestors : limits.ancestors ≡ most_ancestors policy
  pub ancestors_size : limits.ancestors_size ≡ policy.ancestors_size
  pub descendants : limits.descendants + 1 ≡ most_descendants policy
  pub descendants_size : limits.descendants_size + vsize ≡ most_descendants_size policy

-- the limits of a transaction's descendants without it: each has it as one ancestor more, of this size
pub record LeavesRoomAbove (policy : Policy) (vsize : ℕ) (limits : FamilyLimits) : Type 0 where
  pub ancestors : limits.ancestors + 1 ≡ most_ancestors policy
  pub ancestors_size : limits.ancestors_size + vsize ≡ policy.ancestors_size
  pub descendants : limits.descendants ≡ most_descendants policy
  pub descendants_size : limits.descendants_size ≡ most_descendants_size policy

-- beside the entries the transaction doesn't descend from itself, and each of its ancestors and descendants, itself among them,
-- is within the limits
abbrev pub fits_again : Policy → List Admitted → Tx → ℕ → Bool
fits_again policy entries tx vsize =
    let all = joined entries tx vsize in
    not (is_below_itself all tx)
    && (are_limited policy all (ancestors_of all (txid_of tx)) && are_limited policy all (descendants_of all (txid_of tx)))

-- as a node's operator would say it: beside the entries the transaction doesn't descend from itself, and with it no entry passes
-- the limits. The entries aren't asked whether they descend from themselves: with the transaction one does that didn't before
-- only if the transaction does too.
abbrev pub fits_among : Policy → List Admitted → Tx → ℕ → Bool
fits_among policy entries tx vsize =
    let all = joined entries tx vsize in
    not (is_below_itself all tx) && are_limited policy all all

-- ---- the rules

-- whether the limits of an attempt are kept
abbrev pub fits : Attempt → Policy → List Admitted → Tx → ℕ → Bool
fits First policy entries tx vsize = fits_families policy entries tx vsize
fits Again policy entries tx vsize = fits_again policy entries tx vsize

unfoldable pub limit_rules : Attempt → Policy → List Admitted → Tx → ℕ → List (Rule Denial)
limit_rules attempt policy entries tx vsize =
    (TooLongChain, not (fits attempt policy entries tx vsize))
    ∷ (TrucViolation, breaks_truc attempt policy entries tx vsize)
    ∷ (SpendsConflicting, list_any (is_conflict tx) (ancestors_above entries tx.inputs))
    ∷ []
