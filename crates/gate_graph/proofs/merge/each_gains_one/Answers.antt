use Rattle.std.proofs.Common.{◌≡◌, ◌∙◌, take, refl, sym, subst, inl, inr, arith}
use Rattle.std.specs.Prelude.{Contains}
use Rattle.std.proofs.lemmas.List.{take_all}
use Rattle.gate_bytes.proofs.Members.{not_in_none}
use Rattle.gate_graph.specs.Merging.{GainsOne}
use Rattle.gate_graph.proofs.Merging.{Contains-take_more}
use Rattle.gate_graph.proofs.merge.each_gains_one.Goals as goal

pub loop-id-init : goal.loop-id-init
loop-id-init g c = record { gain = λ id m. not_in_none id m; clear = c.requires.clear; marks = refl; capacity = refl }

pub gains_one-requires-clause-room : goal.gains_one-requires-clause-room
gains_one-requires-clause-room g c = omega (arith, c.requires.room, c.loop-id.invariant.capacity)

pub loop-id-preserved : goal.loop-id-preserved
loop-id-preserved g c = record {
  gain = λ id m.
      elim (Contains-take_more c.args.ids.now c.loop-id.id-index c.id-item.result id c.loop-id-test.true c.id-item.is m) [
        | inl before ↦ c.loop-id.invariant.gain id before
        | inr now ↦ subst (GainsOne c.args.slots.now.held) now (c.gains_one.ensures.gains c.if-not-gains_one.false)
      ];
  clear = c.gains_one.ensures.clear;
  marks = c.gains_one.ensures.marks ∙ c.loop-id.invariant.marks;
  capacity = c.gains_one.ensures.capacity ∙ c.loop-id.invariant.capacity;
}

pub returns-clause-gain : goal.returns-clause-gain
returns-clause-gain g c t id m =
    let all : take c.loop-id.id-index c.args.ids.now ≡ c.args.ids.now = take_all c.loop-id.id-index c.args.ids.now (omega (arith, c.loop-id-test.false)) in
    c.loop-id.invariant.gain id (subst (λ l. Contains l id) (sym all) m)
