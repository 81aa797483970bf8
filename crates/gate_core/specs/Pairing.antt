-- Packages that peers submit, each a parent with its child: the reply, and the state after it.
use Rattle.std.specs.Prelude.{ℕ, Bool, true, false, if◌then◌else◌, List, [], ◌∷◌, Option, Some, None}
use Rattle.std.specs.List.{list_any}
use Rattle.gate_bytes.specs.Order.{first_failing}
use Rattle.gate_tx.specs.Tx.{Tx}
use Rattle.gate_rules.specs.declared.Denial.TheVariants.{Decode}
use Rattle.gate_rules.specs.declared.PackageDenial.{PackageDenial}
use Rattle.gate_rules.specs.declared.PeerDenial.TheVariants.{Admission, Package}
use Rattle.gate_submission.specs.declared.Fate.{Fate}
use Rattle.gate_submission.specs.declared.Fate.TheVariants as fates
use Rattle.gate_submission.specs.declared.Member.{Member}
use Rattle.gate_package.specs.Packages.{Packaged, packaged_of}
use Rattle.gate_package.specs.Shapes.{shape_rules}
use Rattle.gate_message.specs.declared.denial.Then.{Then}
use Rattle.gate_message.specs.declared.denial.Then.TheVariants.{Keep, Close, Relay}
use Rattle.gate_message.specs.declared.reply.Reply.{Reply}
use Rattle.gate_message.specs.declared.reply.Reply.TheVariants.{Denied}
use Rattle.gate_message.specs.Replies.{packaged_as}
use Rattle.gate_core.specs.Access.{package_rules}
use Rattle.gate_core.specs.PeerSteps.{denied, peer_step, sessions_after, then_for}
use Rattle.gate_core.specs.World.{World, standing_of}

abbrev pub is_close : Then → Bool
is_close Keep = false
is_close Close = true
is_close Relay = false

-- what became of a member closes the session of the peer that submitted it: it is denied by a rule that does, as by a transaction alone
abbrev pub closes_by : World → ℕ → Fate → Bool
closes_by w peer (fates.Taken fee vsize together replaced) = false
closes_by w peer (fates.Known fee vsize) = false
closes_by w peer (fates.OtherWitness wtxid) = false
closes_by w peer (fates.Denied denial) = is_close (then_for w peer (Admission denial))

abbrev pub closes : World → ℕ → Member → Bool
closes w peer m = closes_by w peer m.fate

-- what follows for the session of a peer from what became of the members of its package
abbrev pub then_after : World → ℕ → List Member → Then
then_after w peer members = if list_any (closes w peer) members then Close else Keep

abbrev pub left_by_then : World → ℕ → Packaged → Then → Reply × World
left_by_then w peer p follows = (packaged_as follows p.outcome, record w { pool = p.entries; floor = p.floor; sessions = sessions_after follows w.sessions peer })

-- what is told of a package that leaves this, and the state after it
abbrev pub left_by_pair : World → ℕ → Packaged → Reply × World
left_by_pair w peer p = left_by_then w peer p (then_after w peer p.outcome.members)

-- a package that is denied before its members are judged changes nothing
abbrev pub unfit_pair : World → PackageDenial → Reply × World
unfit_pair w denial = (Denied (Package denial) Keep, w)

abbrev pub unless_unfit_pair : World → Option PackageDenial → Reply × World → Reply × World
unless_unfit_pair w (Some denial) fit = unfit_pair w denial
unless_unfit_pair w None fit = fit

-- a parent and its child that are submitted at this second: J2 to J7, and then the members, under no greatest feerate
abbrev pub paired : World → ℕ → ℕ → List Tx → Reply × World
paired w peer now txs =
    unless_unfit_pair w (first_failing (shape_rules w.chain w.policy txs)) (left_by_pair w peer (packaged_of 0 (standing_of w) txs now w.budget))

-- the texts of a package, if both are transactions
abbrev pub both_of : Option Tx → Option Tx → Option (List Tx)
both_of None child = None
both_of (Some parent) None = None
both_of (Some parent) (Some child) = Some (parent ∷ child ∷ [])

abbrev pub paired_if_read : World → ℕ → ℕ → Option (List Tx) → Reply × World
paired_if_read w peer now None = denied w peer (Admission Decode)
paired_if_read w peer now (Some txs) = paired w peer now txs

-- a peer submits a parent and its child
abbrev pub package_step : World → ℕ → ℕ → Option Tx → Option Tx → Reply × World
package_step w peer now parent child = peer_step w peer (package_rules w peer parent child) (paired_if_read w peer now (both_of parent child))
