use Rattle.gate_growth.proofs.make.Given as goal

abbrev pub ghosts-call_last : goal.ghosts-call_last
ghosts-call_last g a = record { base = a.state; registry = a.register }

abbrev pub ghosts-settle_all : goal.ghosts-settle_all
ghosts-settle_all g a = record { base = a.state; registry = a.register }

abbrev pub ghosts-finish_all : goal.ghosts-finish_all
ghosts-finish_all g a = record { base = a.state; registry = a.register }
