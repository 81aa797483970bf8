use Rattle.std.proofs.Common.{◌≤◌, ◌+◌, ℕ, sym, subst, ◌∙◌}
use Rattle.std.specs.Prelude.{All}
use Rattle.std.proofs.lemmas.List.Elements.{All-map}
use Rattle.gate_tx.specs.declared.Coin.{Coin}
use Rattle.gate_chain.specs.Times.{tip_of}
use Rattle.gate_admit.proofs.locking.check_locks.Goals as goal

pub sequence_locks_met-requires-clause-within : goal.sequence_locks_met-requires-clause-within
sequence_locks_met-requires-clause-within g c =
    subst (All (λ (h : ℕ). h ≤ tip_of c.args.chain.now + 1)) (sym (c.deref.ensures.value ∙ c.in_ok-heights.ensures))
    (All-map (λ (h : ℕ). h ≤ tip_of c.args.chain.now + 1) (λ (coin : Coin). coin.height) c.args.coins.now c.requires.within)
