use Rattle.std.proofs.Common.{◌≡◌, ℕ, false, List, Option, sym, subst, refl}
use Rattle.gate_pool.specs.Family.{without_below}
use Rattle.gate_pool.specs.Counting.{is_sibling}
use Rattle.gate_pool.proofs.Conflicts.{find_absent}
use Rattle.gate_pool.proofs.Removals.{without_below-none}
use Rattle.gate_pool.proofs.store.Store.take_sibling.Goals as goal

pub returns-in-Some-clause-rest : goal.returns-in-Some-clause-rest
returns-in-Some-clause-rest g c =
    subst (λ (s : Option (List ℕ)). c.take_entry.new.self.entries ≡ without_below (is_sibling s) c.args.self.now.entries) (sym c.in-Some.is) c.take_entry.ensures.rest

pub returns-in-None-clause-rest : goal.returns-in-None-clause-rest
returns-in-None-clause-rest g c =
    let es = c.args.self.now.entries in
    subst (λ (s : Option (List ℕ)). es ≡ without_below (is_sibling s) es) (sym c.in-None.is) (sym (without_below-none (λ e. false) es (find_absent (λ e. false) es (λ e m. refl))))
