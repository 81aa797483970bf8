use Rattle.std.proofs.Common.{not, ◌∙◌, ap, List, ℕ}
use Rattle.std.specs.Prelude.{filter}
use Rattle.std.specs.Str.{bytes_eq}
use Rattle.gate_pool.specs.Family.{ancestors_of}
use Rattle.gate_query.proofs.Ids.{kept_listing}
use Rattle.gate_query.proofs.listing.above.Goals as goal

pub returns : goal.returns
returns g c =
    c.without.ensures ∙ ap (filter (λ (id : List ℕ). not (bytes_eq id c.args.txid.now))) c.in_ok-txids.ensures
    ∙ kept_listing (λ id. not (bytes_eq id c.args.txid.now)) (ancestors_of c.args.pool.now.entries c.args.txid.now)
