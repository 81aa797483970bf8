use Rattle.std.proofs.Common.{◌≡◌, false, sym, ap, ◌∙◌}
use Rattle.std.specs.Str.{bytes_eq}
use Rattle.std.specs.Cmp.Lexicographic.{bytes_decides}
use Rattle.gate_pool.specs.Pool.{has_txid, entry_by_txid}
use Rattle.gate_admit.proofs.Behind.{found_behind, found_before}
use Rattle.gate_admit.proofs.joining.JoinedFamilyView.entry_near.Goals as goal

pub returns-then-eq : goal.returns-then-eq
returns-then-eq g c =
    let e = c.self.inside.newcomer.now in
    let x = c.args.txid.now in
    let is = sym c.txid.ensures ∙ (bytes_decides c.txid.result x).0 (sym c.eq.ensures ∙ c.if-eq.true) in
    found_behind (g.V.FamilyView.entries c.self.inside.pool.now) e c.self.invariant x is ∙ ap (λ l. entry_by_txid l x) c.self.view_is

pub returns-else-eq : goal.returns-else-eq
returns-else-eq g c =
    let e = c.self.inside.newcomer.now in
    let x = c.args.txid.now in
    let other : has_txid e x ≡ false = ap (λ t. bytes_eq t x) (sym c.txid.ensures) ∙ sym c.eq.ensures ∙ c.if-eq.false in
    c.entry_near.ensures ∙ found_before (g.V.FamilyView.entries c.self.inside.pool.now) e c.self.invariant x other ∙ ap (λ l. entry_by_txid l x) c.self.view_is
