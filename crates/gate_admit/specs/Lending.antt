-- The standing of a chain, a pool, its floor, verdicts and a policy that are lent together.
use Rattle.std.specs.Prelude.{List}
use Rattle.gate_pool.specs.Pool.{Admitted}
use Rattle.gate_admit.specs.declared.standing.Conditions.{Conditions}
use Rattle.gate_admit.specs.declared.standing.Standing.{Standing as Lent}
use Rattle.gate_admit.specs.Standing.{Standing, standing}

abbrev pub lent : {S H : Type 0} → Lent S H → Standing
lent over = standing over.chain.now over.pool.now.entries over.floor.now over.verdicts.now over.policy.now

-- the standing of these conditions and these entries
abbrev pub lent_with : {S H : Type 0} → Conditions S H → List Admitted → Standing
lent_with under entries = standing under.chain.now entries under.floor.now under.verdicts.now under.policy.now
