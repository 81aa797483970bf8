use Rattle.gate_shared_tests.proofs.passes.a_gate_goes_on.Given as goal

abbrev pub ghosts-calls_again : goal.ghosts-calls_again
ghosts-calls_again g a = record { base = a.state; registry = a.register }
