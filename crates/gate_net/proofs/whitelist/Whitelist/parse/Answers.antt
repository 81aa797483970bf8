use Rattle.std.proofs.Common.{rules, ◌≡◌, sym}
use Rattle.gate_net.proofs.Entries.{read_more, read_wrong, read_all}
use Rattle.gate_net.proofs.whitelist.Whitelist.parse.Goals as goal

pub returns-in_err-entry-clause-fault : goal.returns-in_err-entry-clause-fault
returns-in_err-entry-clause-fault c =
    let wrong = read_wrong _ _ _ _ c.in_err-entry.field-0.0 c.args.relay c.args.forcerelay c.loop-text-test.true c.text-item.is (search rules) c.loop-text.invariant in
    search (rules, wrong)

pub loop-text-preserved : goal.loop-text-preserved
loop-text-preserved c = read_more _ _ _ _ _ c.in_ok-entry.entry c.loop-text-test.true c.text-item.is (search rules) c.in_ok-push.ensures.items c.loop-text.invariant

pub returns-clause-read : goal.returns-clause-read
returns-clause-read c = search (rules, read_all _ _ _ c.args.relay c.args.forcerelay c.loop-text-test.false c.loop-text.invariant)
