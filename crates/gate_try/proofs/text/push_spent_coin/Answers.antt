use Rattle.gate_try.proofs.text.push_spent_coin.Goals as goal

pub returns : goal.returns
returns c = rw (← c.in_ok-point.ensures, ← c.in_ok-value.ensures, ← c.in_ok-script.ensures) c.in_ok-write.ensures.bytes
