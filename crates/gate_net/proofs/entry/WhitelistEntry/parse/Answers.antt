use Rattle.std.proofs.Common.{None, Some, false, true, ap, ◌∙◌}
use Rattle.gate_net.specs.Permissions.{Permissions}
use Rattle.gate_net.specs.Subnets.{subnet_of}
use Rattle.gate_net.specs.Whitelists.{granting}
use Rattle.gate_net.proofs.Parted.{entry_parted, entry_whole}
use Rattle.gate_net.proofs.entry.WhitelistEntry.parse.Goals as goal

pub returns-in-Some-parse : goal.returns-in-Some-parse
returns-in-Some-parse c = c.of.ensures ∙ entry_parted c.args.text.now c.in-Some.words.now c.in-Some.rest.now (Some c.in-Some-parse.permissions) c.in-Some.ensures c.in-Some-parse.ensures

pub returns-in-None-parse : goal.returns-in-None-parse
returns-in-None-parse c = entry_parted c.args.text.now c.in-Some.words.now c.in-Some.rest.now None c.in-Some.ensures c.in-None-parse.ensures

pub returns-in-None : goal.returns-in-None
returns-in-None c =
    c.of-in-None.ensures
    ∙ (ap (λ (p : Permissions). granting p true (subnet_of c.args.text.now)) c.none.ensures ∙ entry_whole c.args.text.now c.in-None.ensures)
