-- What a state is: the chain, the pool over it with its floor, the sessions of peers, and the settings.
use Rattle.std.specs.Prelude.{ℕ, Bool, List, []}
use Rattle.gate_chain.specs.History.{History, opened_from}
use Rattle.gate_admit.specs.Policies.{Policy}
use Rattle.gate_admit.specs.Standing.{Standing, standing}
use Rattle.gate_admit.specs.Verdicts.{VerdictTable}
use Rattle.gate_pool.specs.Pool.{Admitted}
use Rattle.gate_net.specs.declared.whitelist.Whitelist.{Whitelist}
use Rattle.gate_net.specs.Addresses.{Address}
use Rattle.gate_net.specs.Permissions.{Permissions}
use Rattle.gate_net.specs.Whitelists.{flags_of}
use Rattle.gate_rpc.specs.Lists.{Lists}
use Rattle.gate_core.specs.declared.switches.Switches.{Switches}
use Rattle.gate_core.specs.Sessions.{Session}
use Rattle.gate_core.specs.Switching.{unswitched}
use Rattle.gate_core.specs.Opening.{Start}

pub record World : Type 0 where
  pub chain : History
  pub pool : List Admitted
  pub floor : ℕ
  pub sessions : List Session
  pub budget : ℕ
  pub policy : Policy
  pub verdicts : VerdictTable
  pub whitelist : Whitelist
  pub rpcwhitelist : Lists
  pub blocksonly : Bool
  pub switches : Switches

-- what submissions are judged over
abbrev pub standing_of : World → Standing
standing_of w = standing w.chain w.pool w.floor w.verdicts w.policy

-- the flags of a peer that enters from this address
abbrev pub flags_at : World → Address → Permissions
flags_at w address = flags_of w.whitelist address

-- the state of an opening: no entries, a floor of 0, no peers
abbrev pub opened_world : Start → World
opened_world o = record {
  chain = opened_from o.first o.coins o.times;
  pool = [];
  floor = 0;
  sessions = [];
  budget = o.budget;
  policy = o.policy;
  verdicts = o.verdicts;
  whitelist = o.whitelist;
  rpcwhitelist = o.rpcwhitelist;
  blocksonly = o.blocksonly;
  switches = unswitched o.bloom;
}
