use Rattle.std.proofs.lemmas.Str.Pattern.{split_once_first}
use Rattle.gate_net.proofs.Parted.{parted}
use Rattle.gate_net.proofs.subnet.part.Goals as goal

pub returns : goal.returns
returns c = parted c.args.at c.args.text.now _ (split_once_first c.args.at c.args.text.now _ c.split_once.ensures.cases c.requires)
