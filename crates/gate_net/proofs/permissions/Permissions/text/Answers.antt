use Rattle.std.proofs.Common.{ℕ, ◌==◌, length, sym, ap, ◌∙◌}
use Rattle.gate_net.specs.Permissions.{joined}
use Rattle.gate_net.proofs.Names.{joined_by}
use Rattle.gate_net.proofs.permissions.Permissions.text.Goals as goal

pub returns : goal.returns
returns c =
    let long = sym (ap length c.deref.ensures.value) ∙ c.deref.ensures.len in
    let some = ap (λ (n : ℕ). n == 0) long ∙ (sym c.is_empty.ensures ∙ c.if-is_empty.false) in
    rw (c.in_ok-join.ensures.ok, c.deref.ensures.value)
    (joined_by (λ name. name.now) c.in_ok-names.names.items some ∙ ap joined c.in_ok-names.ensures)
