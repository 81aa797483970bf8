use Rattle.std.proofs.Common.{Some, sym, ap, ◌∙◌, rules, tests}
use Rattle.std.proofs.lemmas.Iterator.Consumers.{YieldsList-end}
use Rattle.std.proofs.lemmas.Iterator.Splits.{YieldsList-from_slice_split}
use Rattle.gate_events.specs.ChainLines.{has_gap, words_of}
use Rattle.gate_events.proofs.ChainWords.{all_read, gap_read}
use Rattle.gate_events.proofs.chain_line.blocks_in.Goals as goal

pub returns : goal.returns
returns c =
    let into = c.into_iter-word-iterator.ensures.into_iter_gives in
    let rest = ap (λ s. s.rest.now) into ∙ c.split-word-items.ensures.rest ∙ c.as_bytes-text.ensures.value in
    let done = ap (λ s. s.done) into ∙ c.split-word-items.ensures.done in
    let closure = ap (λ s. s.pred) into ∙ c.split-word-items.ensures.closure in
    let each = YieldsList-from_slice_split _ _ c.args.text.now rest done closure (λ x r q k. search (rules, tests)) in
    let end = YieldsList-end each c.loop-word.yielded _ c.loop-word.yielded_by _ _ c.in-None.is c.next.ensures.steps in
    let filled = ap (λ text. has_gap (words_of text)) (sym c.as_bytes-text.ensures.value) ∙ sym c.has_gap.ensures ∙ c.if-has_gap.false in
    ap (λ b. Some b) c.from_vec.ensures ∙ all_read c.loop-word.yielded c.loop-word.blocks.items c.args.text.now end.0 filled c.loop-word.invariant

pub returns-then-has_gap : goal.returns-then-has_gap
returns-then-has_gap c =
    gap_read c.args.text.now (ap (λ text. has_gap (words_of text)) (sym c.as_bytes-text.ensures.value) ∙ sym c.has_gap.ensures ∙ c.if-has_gap.true)
