use Rattle.gate_shared.proofs.tokens.enter_named.Given as goal

abbrev pub ghosts-enter_by : goal.ghosts-enter_by
ghosts-enter_by a = record { call = (a.pass, a.call.now) }
