-- What a change of the chain leaves of a pool.
use Rattle.std.specs.Prelude.{ℕ, List}
use Rattle.gate_tx.specs.Tx.{Tx}
use Rattle.gate_pool.specs.Pool.{Admitted}
use Rattle.gate_trim.specs.Trimming.{Trimmed}
use Rattle.gate_admit.specs.declared.Conditions.{Conditions}
use Rattle.gate_reorg.specs.declared.event.PoolDraft.{PoolDraft}
use Rattle.gate_reorg.specs.declared.change.ChainChange.{ChainChange}
use Rattle.gate_reorg.specs.Reorganisation.{Terms, unconfirmed, all_tried_again, returned}
use Rattle.gate_submission.specs.Blocks.{present, transactions_of}

-- the terms that are lent
abbrev pub terms_of : {S H : Type 0} → Conditions S H → Terms
terms_of under = record {
  chain = under.chain.now;
  verdicts = under.verdicts.now;
  policy = under.policy.now;
  second = under.second;
  budget = under.budget;
}

-- these entries after some transactions were tried again, without those that new blocks have
abbrev pub returns_of : {S H : Type 0} → Conditions S H → List Admitted → List Tx → List Tx → List Admitted
returns_of under entries landed txs = all_tried_again (terms_of under) entries (unconfirmed landed txs)

abbrev pub left_by : {S H : Type 0} → Conditions S H → ChainChange → List Admitted → ℕ → Trimmed
left_by under change entries floor =
    returned (terms_of under) entries floor (transactions_of (present change.new.now)) (transactions_of change.gone.now)

-- the entries and the floor of a draft
abbrev pub drafted : {S H : Type 0} → PoolDraft S H → Trimmed
drafted d = record { entries = d.pool.entries; floor = d.floor }
