use Rattle.gate_ranking.proofs.Ranks.{first_less, first_equal, first_greater, first_held, first_other, first_neither}
use Rattle.std.proofs.Common.{◌∙◌}
use Rattle.gate_ranking.proofs.tournament.first_of.Goals as goal

pub returns-in-Less : goal.returns-in-Less
returns-in-Less g c = first_less g.K.Ord.cmp c.args.keys.now c.args.a c.args.b _ _ c.in-Some.ensures c.in-Some-key_at.ensures c.in-Less.ensures

pub returns-in-Equal : goal.returns-in-Equal
returns-in-Equal g c = c.max.ensures ∙ first_equal g.K.Ord.cmp c.args.keys.now c.args.a c.args.b _ _ c.in-Some.ensures c.in-Some-key_at.ensures c.in-Equal.ensures

pub returns-in-Greater : goal.returns-in-Greater
returns-in-Greater g c = first_greater g.K.Ord.cmp c.args.keys.now c.args.a c.args.b _ _ c.in-Some.ensures c.in-Some-key_at.ensures c.in-Greater.ensures

pub returns-in-None-key_at : goal.returns-in-None-key_at
returns-in-None-key_at g c = first_held g.K.Ord.cmp c.args.keys.now c.args.a c.args.b _ c.in-Some.ensures c.in-None-key_at.ensures

pub returns-in-Some-key_at-2 : goal.returns-in-Some-key_at-2
returns-in-Some-key_at-2 g c = first_other g.K.Ord.cmp c.args.keys.now c.args.a c.args.b _ c.in-None.ensures c.in-Some-key_at-2.ensures

pub returns-in-None-key_at-2 : goal.returns-in-None-key_at-2
returns-in-None-key_at-2 g c = c.max-in-None-key_at-2.ensures ∙ first_neither g.K.Ord.cmp c.args.keys.now c.args.a c.args.b c.in-None.ensures c.in-None-key_at-2.ensures
