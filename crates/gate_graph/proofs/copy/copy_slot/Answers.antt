use Rattle.std.proofs.Common.{◌∙◌, ◌++◌, ◌∷◌, [], sym, ap, append-nil}
use Rattle.std.proofs.lemmas.Result.{on_ok_weaker}
use Rattle.gate_graph.specs.Holding.{seen_of}
use Rattle.gate_graph.specs.Slots.{entries_of}
use Rattle.gate_graph.proofs.copy.copy_slot.Goals as goal

pub put_copy-requires-clause-new : goal.put_copy-requires-clause-new
put_copy-requires-clause-new g c = c.requires.new c.in-Some.held c.in-Some.is

pub put_copy-requires-clause-fits : goal.put_copy-requires-clause-fits
put_copy-requires-clause-fits g c = c.requires.fits c.in-Some.held c.in-Some.is

pub returns-in-Some-clause-copied : goal.returns-in-Some-clause-copied
returns-in-Some-clause-copied g c = on_ok_weaker c.put_copy.result (λ e. e ∙ ap (λ o. seen_of c.args.slots.now.held ++ seen_of (entries_of (o ∷ []))) (sym c.in-Some.is)) c.put_copy.ensures.copied

pub returns-in-None-clause-copied : goal.returns-in-None-clause-copied
returns-in-None-clause-copied g c = sym (append-nil (seen_of c.args.slots.now.held)) ∙ ap (λ o. seen_of c.args.slots.now.held ++ seen_of (entries_of (o ∷ []))) (sym c.in-None.is)
