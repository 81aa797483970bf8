use Rattle.std.proofs.Common.{◌≡◌, true, ◌∙◌}
use Rattle.gate_net.specs.Subnets.{is_in}
use Rattle.gate_net.proofs.Given.{found_flags}
use Rattle.gate_net.proofs.whitelist.Found.with.Goals as goal

pub returns-clause-flags : goal.returns-clause-flags
returns-clause-flags c =
    let here : is_in c.args.address.now c.args.entry.now.subnet ≡ true = cc in
    c.union.ensures ∙ found_flags c.args.self.now.flags c.args.address.now c.args.entry.now here
