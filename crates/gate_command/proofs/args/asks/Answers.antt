use Rattle.std.proofs.Common.{◌∙◌}
use Rattle.clap.specs.Words.{found_of}
use Rattle.clap.proofs.WalkLemmas.{one_text-rows}
use Rattle.gate_command.proofs.CommandLemmas.{flag_told}
use Rattle.gate_command.proofs.args.asks.Goals as goal

pub returns : goal.returns
returns c =
    let is = one_text-rows (found_of c.args.matches.now) c.args.switch.now in
    flag_told _ _ (λ e. c.get_flag.ensures.none (is ∙ e)) (λ e. c.get_flag.ensures.value (is ∙ e)) (λ e. c.get_flag.ensures.other (is ∙ e))
