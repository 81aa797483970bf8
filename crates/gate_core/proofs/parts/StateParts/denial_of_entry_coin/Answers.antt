use Rattle.std.proofs.Common.{sym}
use Rattle.gate_core.specs.Planning.{world_of}
use Rattle.gate_core.proofs.Learning.{coin_of_entry, coin_refused}
use Rattle.gate_core.proofs.parts.StateParts.denial_of_entry_coin.Goals as goal

pub returns-in-Some : goal.returns-in-Some
returns-in-Some g c = coin_refused (world_of c.args.self.now) c.args.coin.now c.in-Some.denial (sym c.in-Some.ensures)

pub returns-in-None : goal.returns-in-None
returns-in-None g c = coin_of_entry (world_of c.args.self.now) c.args.coin.now (sym c.in-None.ensures) c.requires
