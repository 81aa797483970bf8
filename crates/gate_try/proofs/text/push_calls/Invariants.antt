use Rattle.std.proofs.Common.{◌≡◌, ◌++◌, ℕ, List, take, string_bytes}
use Rattle.std.specs.Borrow.{Bor}
use Rattle.std.specs.List.{flat_map}
use Rattle.gate_try.specs.Trials.{call_line}
use Rattle.gate_try.proofs.text.push_calls.Given as goal

abbrev pub invariant-loop-transaction : goal.invariant-loop-transaction
invariant-loop-transaction l =
    string_bytes l.text ≡ string_bytes l.fn.text ++ flat_map (λ (tx : Bor (List ℕ)). call_line l.time tx.now l.asks) (take l.transaction-index l.transactions)
