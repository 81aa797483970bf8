-- What follows from a denial for the session of a peer.
use Rattle.std.specs.Prelude.{ℕ, if◌then◌else◌, List, codes}
use Rattle.gate_net.specs.Permissions.{Permissions}
use Rattle.gate_rules.specs.Peers as rules
use Rattle.gate_rules.specs.declared.Consequence.{Consequence}
use Rattle.gate_rules.specs.declared.Consequence.TheVariants as row
use Rattle.gate_rules.specs.declared.PeerDenial.{PeerDenial}
use Rattle.gate_message.specs.declared.denial.Then.{Then}
use Rattle.gate_message.specs.declared.denial.Then.TheVariants.{Keep, Close, Relay}

-- what follows for a peer with these flags by the row of a rule: noban keeps a session, unless the rule closes every one
abbrev pub then_by : Permissions → Consequence → Then
then_by flags row.Close = if flags.noban then Keep else Close
then_by flags row.CloseAlways = Close
then_by flags row.Relay = if flags.forcerelay then Relay else Keep
then_by flags consequence = Keep

abbrev pub then_of : Permissions → PeerDenial → Then
then_of flags denial = then_by flags (rules.then_of denial)

abbrev pub then_text : Then → List ℕ
then_text Keep = codes "keep"
then_text Close = codes "close"
then_text Relay = codes "relay"
