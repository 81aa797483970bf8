use Rattle.std.proofs.Common.{◌∙◌, ◌&&◌, ℕ, List, sym, ap}
use Rattle.std.specs.Prelude.{filter}
use Rattle.std.specs.List.{list_any}
use Rattle.gate_pool.specs.Pool.{Admitted, has_txid}
use Rattle.gate_query.specs.Answers.{listing_at, pays}
use Rattle.gate_query.proofs.Rated.{all_pay_nothing, passing_listed}
use Rattle.gate_query.proofs.paying.listing_at.Goals as goal

pub returns-then-rate-eq0 : goal.returns-then-rate-eq0
returns-then-rate-eq0 g c =
    let entries = c.args.pool.now.entries in
    c.in_ok-txids.ensures ∙ sym (all_pay_nothing c.args.rate c.if-rate-eq0.true entries)

pub returns : goal.returns
returns g c =
    let entries = c.args.pool.now.entries in
    let rate = c.args.rate in
    c.paying_among.ensures
    ∙ ap (filter (λ (id : List ℕ). list_any (λ (e : Admitted). has_txid e id && pays rate e) entries)) (c.into_vec.ensures ∙ c.in_ok-txids.ensures)
    ∙ passing_listed (pays rate) entries c.recall_distinct.ensures
