use Rattle.std.proofs.Common.{sym, ◌∙◌, Some, None}
use Rattle.gate_chain.specs.Marking.{all_in}
use Rattle.gate_chain.proofs.TwoTables.{lookup_first, lookup_second}
use Rattle.gate_chain.proofs.Marks.{unspent_none, unspent_some}
use Rattle.gate_chain.proofs.marked.unspent.Goals as goal

pub returns-in-Some : goal.returns-in-Some
returns-in-Some g c =
    let m = c.in-Some.marked.now in
    c.if_unspent.ensures ∙ sym (unspent_some (all_in c.args.coins.now) c.args.outpoint.now m (lookup_first _ _ c.args.outpoint.now m (sym c.in-Some.ensures.value)))

pub returns-in-Some-get : goal.returns-in-Some-get
returns-in-Some-get g c =
    let m = c.in-Some-get.marked.now in
    c.if_unspent-in-Some-get.ensures ∙ sym (unspent_some (all_in c.args.coins.now) c.args.outpoint.now m
    (lookup_second c.args.coins.now.opening.entries c.args.coins.now.made.entries c.args.outpoint.now (Some m) (sym c.in-None.ensures.value) (sym c.in-Some-get.ensures.value)))

pub returns-in-None-get : goal.returns-in-None-get
returns-in-None-get g c =
    sym (unspent_none (all_in c.args.coins.now) c.args.outpoint.now
    (lookup_second c.args.coins.now.opening.entries c.args.coins.now.made.entries c.args.outpoint.now None (sym c.in-None.ensures.value) (sym c.in-None-get.ensures.value)))
