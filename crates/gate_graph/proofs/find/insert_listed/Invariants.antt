use Rattle.std.proofs.Common.{◌≡◌, drop}
use Rattle.std.specs.Str.{bytes_eq}
use Rattle.indexmap.specs.IndexSet.{insert_all}
use Rattle.gate_graph.specs.Linking.{listing}
use Rattle.gate_graph.proofs.find.insert_listed.Given as goal

-- what is left is still to be added
abbrev pub invariant-loop-number : goal.invariant-loop-number
invariant-loop-number g l = insert_all bytes_eq l.found.keys (drop l.number (listing l.links l.id)) ≡ insert_all bytes_eq l.initial.found.keys (listing l.links l.id)
