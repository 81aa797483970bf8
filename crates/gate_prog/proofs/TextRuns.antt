-- A run over a text that stopped: some of the text may be left.
use Rattle.std.proofs.Common.{◌≡◌, ℕ, List, Option, Result, Ok, Err, IfErr, subst}
use Rattle.gate_lines.specs.declared.fault.LaneFault.{LaneFault}
use Rattle.gate_run.specs.GateJobs.{GateStopped}

pub some_left : {T : Type 0} (r : Result T LaneFault) (input other left before after : Option (List ℕ)) → input ≡ other
    → IfErr r (λ fault. GateStopped input left before after fault) → IfErr r (λ fault. (rest : Option (List ℕ)) × GateStopped other rest before after fault)
some_left (Ok x) input other left before after is stopped = tt
some_left (Err fault) input other left before after is stopped = (left, subst (λ (i : Option (List ℕ)). GateStopped i left before after fault) is stopped)
