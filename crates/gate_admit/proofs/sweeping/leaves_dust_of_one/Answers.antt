use Rattle.std.proofs.Common.{rules, tests}
use Rattle.std.proofs.lemmas.Iterator.{YieldsList-from_slice}
use Rattle.std.proofs.lemmas.Iterator.Search.{any_from_yields_List}
use Rattle.gate_admit.specs.Sweeping.{leaves_dust_at}
use Rattle.gate_admit.proofs.sweeping.leaves_dust_of_one.Goals as goal

pub returns : goal.returns
returns g c =
    any_from_yields_List (leaves_dust_at c.args.rate c.args.pool.now.entries c.args.inputs.now) _ _ c.any.result c.any.ensures.ran (YieldsList-from_slice c.args.txids.now cc) (λ x b q k. search (rules, tests))
