use Rattle.std.proofs.Common.{◌≡◌, ◌++◌, take, string_bytes}
use Rattle.gate_try.specs.Trials.{sent_lines}
use Rattle.gate_try.proofs.text.push_sent.Given as goal

abbrev pub invariant-loop-transaction : goal.invariant-loop-transaction
invariant-loop-transaction l = string_bytes l.text ≡ string_bytes l.fn.text ++ sent_lines l.time (take l.transaction-index l.transactions)
