use Rattle.std.proofs.Common.{◌≡◌, ◌∙◌, ◌<◌, ◌+◌, ◌-◌, ◌||◌, ℕ, Bool, false, List, ap, sym, drop, take, length, length-drop, arith}
use Rattle.std.proofs.lemmas.List.{at_drop_more, take_all}
use Rattle.gate_run.specs.ReplyOutcomes.{begins, has_part}
use Rattle.gate_run.proofs.outcome.has_part.Goals as goal

-- a part that doesn't stand here stands behind
behind : (part text : List ℕ) (k : ℕ) → k < length text → begins (drop k text) part ≡ false → has_part part (drop k text) ≡ has_part part (drop (k + 1) text)
behind part text k within absent =
    at_drop_more (has_part part) text k 0 within
    ∙ ap (λ (b : Bool). b || has_part part (drop (k + 1) text)) (sym (at_drop_more (λ (t : List ℕ). begins t part) text k 0 within) ∙ absent)

pub loop-place-preserved : goal.loop-place-preserved
loop-place-preserved c =
    let text = c.args.text.now in
    let part = c.args.part.now in
    let place = c.loop-place.place in
    let rest : take (length text - place) (drop place text) ≡ drop place text = take_all (length text - place) (drop place text) (let l = length-drop place text in omega (arith, l)) in
    c.loop-place.invariant
    ∙ behind part text place (omega (arith, c.loop-place-test.true, c.loop-place.auto.place-end)) (ap (λ (t : List ℕ). begins t part) (sym rest) ∙ (sym c.starts_with.ensures.value ∙ c.if-starts_with.false))
