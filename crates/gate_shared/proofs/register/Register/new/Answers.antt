use Rattle.gate_shared.proofs.Moves.{opens}
use Rattle.gate_shared.proofs.register.Register.new.Goals as goal

pub of_words-requires : goal.of_words-requires
of_words-requires c = opens
