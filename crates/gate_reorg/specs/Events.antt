-- One chain event: when it is denied, and what chain, pool and floor are after it.
use Rattle.std.specs.Prelude.{ℕ, is_none, filter, length, List, ◌∷◌, Option}
use Rattle.std.specs.List.{list_any}
use Rattle.gate_bytes.specs.Order.{Rule}
use Rattle.gate_tx.specs.Ids.{txid_of}
use Rattle.gate_chain.specs.Blocks.{Block}
use Rattle.gate_rules.specs.declared.ChainDenial.{ChainDenial}
use Rattle.gate_rules.specs.declared.ChainDenial.TheVariants.{BlockDecode}
use Rattle.gate_chain.specs.History.{History}
use Rattle.gate_chain.specs.Times.{tip_of}
use Rattle.gate_block.specs.Switching.{last_blocks, switched, switch_rules}
use Rattle.gate_pool.specs.Pool.{Admitted, entry_by_txid}
use Rattle.gate_trim.specs.Trimming.{Trimmed}
use Rattle.gate_admit.specs.Standing.{Standing}
use Rattle.gate_submission.specs.declared.moved.Moved.{Moved}
use Rattle.gate_reorg.specs.Reorganisation.{Terms, pool_after}
use Rattle.gate_submission.specs.Blocks.{present, transactions_of}

-- the rules of an event: each block could be read, and then the rules of the switch
unfoldable pub event_rules : History → ℕ → List (Option Block) → List (Rule ChainDenial)
event_rules chain depth blocks = (BlockDecode, list_any is_none blocks) ∷ switch_rules chain depth (present blocks)

-- how many entries of one list have a txid that no entry of another has
abbrev pub count_beyond : List Admitted → List Admitted → ℕ
count_beyond entries others = length (filter (λ e. is_none (entry_by_txid others (txid_of e.tx))) entries)

-- the outcome of an event
pub record Happened : Type 0 where
  pub chain : History
  pub entries : List Admitted
  pub floor : ℕ
  pub moved : Moved

-- how many entries left and entered by a change from entries to others, with the height of the tip
abbrev pub moved_from : ℕ → List Admitted → List Admitted → Moved
moved_from tip before after =
    record { tip = tip; removed = count_beyond before after; entered = count_beyond after before }

-- an event that leaves this chain, these entries and this floor
abbrev pub happening : History → List Admitted → ℕ → Moved → Happened
happening chain entries floor moved = record { chain = chain; entries = entries; floor = floor; moved = moved }

-- the outcome of an event before which these entries stood
abbrev pub happened : List Admitted → History → Trimmed → Happened
happened before chain after =
    happening chain after.entries after.floor (moved_from (tip_of chain) before after.entries)

-- the terms after the last `depth` blocks are disconnected and these connected in their place
abbrev pub terms_after : Standing → ℕ → List Block → ℕ → ℕ → Terms
terms_after over depth blocks now budget = record {
  chain = switched over.chain depth blocks;
  verdicts = over.verdicts;
  policy = over.policy;
  second = now;
  budget = budget;
}

-- the outcome if the last `depth` blocks are disconnected and these connected in their place, at the second `now`; the budget
-- is in virtual bytes
unfoldable pub event_of : Standing → ℕ → List Block → ℕ → ℕ → Happened
event_of over depth blocks now budget =
    let under = terms_after over depth blocks now budget in
    let old = transactions_of (last_blocks over.chain depth) in
    happened over.entries under.chain (pool_after depth under over.entries over.floor (transactions_of blocks) old)
