use Rattle.std.proofs.Common.{rules, ℕ, List, ap, ◌∙◌}
use Rattle.std.specs.Prelude.{is_none}
use Rattle.std.proofs.lemmas.Fn.{filter_same}
use Rattle.gate_pool.specs.Pool.{entry_by_txid}
use Rattle.gate_package.specs.Packages.{gone_from}
use Rattle.gate_package.specs.Staging.{Staged}
use Rattle.gate_package.proofs.staging.Stage.land.Goals as goal

pub returns-clause-gone : goal.returns-clause-gone
returns-clause-gone g c =
    filter_same _ (λ (txid : List ℕ). is_none (entry_by_txid c.trim.new.pool.entries txid)) _ (λ x b f' k. search rules) _ _ c.retain.ensures.filtered
    ∙ ap (λ (s : Staged). gone_from c.trim.new.pool.entries s.held) c.self.view_is
