use Rattle.std.proofs.Common.{◌≡◌, ◌<◌, ◌≤◌, ℕ, Bool, List, take, inl, inr, sym, subst, ◌∙◌, true≢false, arith}
use Rattle.std.specs.Prelude.{Contains, filter, nat_le}
use Rattle.std.proofs.lemmas.Bool.{cases_lt, false_from_ne_true, le-ltb, lt-ltb}
use Rattle.std.proofs.lemmas.List.{take_all}
use Rattle.gate_bytes.proofs.Members.{any_is, list_any_of}
use Rattle.gate_tx.specs.Ids.{txid_of}
use Rattle.gate_standard.specs.Amounts.{feerate}
use Rattle.gate_pool.specs.Pool.{Admitted}
use Rattle.gate_pool.proofs.Points.{Contains-take_more}
use Rattle.gate_pool.proofs.Walking.{Contains-from_filter}
use Rattle.gate_figures.proofs.Thresholds.{below_number}
use Rattle.gate_figures.proofs.least.fee_over_all.Goals as goal

pub loop-id-init : goal.loop-id-init
loop-id-init g c = record { all = λ a m at. absurd (omega (arith, at.1)); some = λ fee h. absurd (omega arith) }

pub loop-id-preserved : goal.loop-id-preserved
loop-id-preserved g c = record {
  all = λ a m at fee h.
      elim (Contains-take_more c.args.ids.now c.loop-id.id-index c.id-item.result (txid_of a.tx) c.loop-id-test.true c.id-item.is at) [
        | inl before ↦ (let less : c.loop-id.least ≤ fee = omega arith in c.loop-id.invariant.all a m before fee less)
        | inr now ↦ (let less : c.fee_over_id.result ≤ fee = omega arith in c.fee_over_id.ensures a m (sym now) fee ∙ le-ltb fee c.fee_over_id.result less)
      ];
  some = λ fee h.
      elim (cases_lt fee c.fee_over_id.result) [
        | inl l ↦ (c.id-item.result, (c.loop-id.id-index, c.loop-id-test.true, sym c.id-item.is), λ a m is. c.fee_over_id.ensures a m is fee ∙ lt-ltb fee c.fee_over_id.result l)
        | inr k ↦ (let less : fee < c.loop-id.least = omega arith in c.loop-id.invariant.some fee less)
      ];
}

pub returns : goal.returns
returns g c = λ test ids fee.
    let entries = c.args.pool.now.entries in
    let beats : Admitted → Bool = λ e. nat_le (feerate fee c.args.vsize) (feerate e.fee e.vsize) in
    let all : take c.loop-id.id-index c.args.ids.now ≡ c.args.ids.now = take_all c.loop-id.id-index c.args.ids.now (omega (arith, c.loop-id-test.false)) in
    below_number c.loop-id.least fee _
    (λ less.
    let w = c.loop-id.invariant.some fee less in
    let e = ids.only w.0 w.1 in
    list_any_of beats (filter test entries) e.0 e.1 (w.2 e.0 (Contains-from_filter test entries e.0 e.1) e.2))
    (λ reached. false_from_ne_true _ (λ t.
    let w = any_is beats (filter test entries) t in
    let at = subst (λ (l : List (List ℕ)). Contains l (txid_of w.0.tx)) (sym all) (ids.all w.0 w.1) in
    true≢false (sym w.2 ∙ c.loop-id.invariant.all w.0 (Contains-from_filter test entries w.0 w.1) at fee reached)))
