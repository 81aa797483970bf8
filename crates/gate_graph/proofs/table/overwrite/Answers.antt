use Rattle.std.proofs.Common.{◌∙◌, ap}
use Rattle.std.specs.Str.{bytes_eq}
use Rattle.std.specs.Map.{lookup}
use Rattle.std.specs.Cmp.Lexicographic.{bytes_decides}
use Rattle.gate_graph.proofs.Apart.{same_id}
use Rattle.gate_graph.proofs.Writes.{lookup_set}
use Rattle.gate_graph.proofs.table.overwrite.Goals as goal

pub returns-in-Some-clause-look : goal.returns-in-Some-clause-look
returns-in-Some-clause-look g c k = ap (lookup (bytes_eq k)) (c.get_mut.follows.holds _).0 ∙ lookup_set bytes_eq (λ a b t. (bytes_decides a b).0 t) same_id c.args.id.now k c.args.value c.args.table.now.entries c.requires
