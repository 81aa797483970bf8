-- What a gate is opened with.
use Rattle.std.specs.Prelude.{ℕ, Bool, List}
use Rattle.gate_chain.specs.declared.OpeningCoin.{OpeningCoin}
use Rattle.gate_admit.specs.Policies.{Policy}
use Rattle.gate_admit.specs.Verdicts.{VerdictTable}
use Rattle.gate_net.specs.declared.whitelist.Whitelist.{Whitelist}
use Rattle.gate_rpc.specs.Lists.{Lists}

-- the pool's budget in virtual bytes, the limits of families and the rule on replacements, the height of the first block time,
-- the coins and block times of the chain, the verdicts on scripts, what peers are permitted by their addresses, which methods users may call, whether the node
-- takes blocks only, and whether bloom filters are on
pub record Start : Type 0 where
  pub budget : ℕ
  pub policy : Policy
  pub first : ℕ
  pub coins : List OpeningCoin
  pub times : List ℕ
  pub verdicts : VerdictTable
  pub whitelist : Whitelist
  pub rpcwhitelist : Lists
  pub blocksonly : Bool
  pub bloom : Bool
