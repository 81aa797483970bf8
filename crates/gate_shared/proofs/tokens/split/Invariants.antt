use Rattle.gate_shared.proofs.tokens.split.Given as goal

abbrev pub ghosts-split_by : goal.ghosts-split_by
ghosts-split_by a = record { seats = a.seats; calls = a.calls }
