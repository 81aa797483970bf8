-- What a submission is judged over.
use Rattle.std.specs.Prelude.{ℕ, List}
use Rattle.gate_chain.specs.History.{History}
use Rattle.gate_pool.specs.Pool.{Admitted}
use Rattle.gate_admit.specs.Policies.{Policy}
use Rattle.gate_admit.specs.Verdicts.{VerdictTable}

-- the chain, the entries of the pool in order of admission, the pool's floor in satoshi per 1,000 virtual bytes, the verdicts on
-- scripts, and what the operator asks of families and of replacements
pub record Standing : Type 0 where
  pub chain : History
  pub entries : List Admitted
  pub floor : ℕ
  pub verdicts : VerdictTable
  pub policy : Policy

abbrev pub standing : History → List Admitted → ℕ → VerdictTable → Policy → Standing
standing chain entries floor verdicts policy =
    record { chain = chain; entries = entries; floor = floor; verdicts = verdicts; policy = policy }
