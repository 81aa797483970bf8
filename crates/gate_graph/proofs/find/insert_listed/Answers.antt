use Rattle.std.proofs.Common.{◌∙◌, ◌+◌, ◌<◌, ap, sym, drop, length, rules}
use Rattle.std.specs.Str.{bytes_eq}
use Rattle.indexmap.specs.IndexSet.{insert_key, insert_all}
use Rattle.gate_graph.specs.Linking.{listing}
use Rattle.gate_graph.proofs.Searching.{insert_more}
use Rattle.gate_graph.proofs.find.insert_listed.Goals as goal

pub loop-number-preserved : goal.loop-number-preserved
loop-number-preserved g c =
    let ids = listing c.args.links.now c.args.id.now in
    let i = c.loop-number.number in
    let found = c.loop-number.found.keys in
    let rest = drop (i + 1) ids in
    let lt : i < length ids = search rules in
    ap (λ l. insert_all bytes_eq l rest) c.in_ok-insert.ensures.keys
    ∙ ap (λ x. insert_all bytes_eq (insert_key bytes_eq found x) rest) c.at-child.ensures
    ∙ sym (insert_more found ids i c.at-child.result.now lt)
    ∙ c.loop-number.invariant
