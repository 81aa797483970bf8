use Rattle.std.proofs.Common.{◌≡◌, ℕ, List, length, sym, ap, ◌∙◌, append_assoc, rules}
use Rattle.gate_net.specs.Addresses.{V6, seen, address_text}
use Rattle.gate_net.proofs.Shown.{rewritten, eight_text}
use Rattle.gate_net.proofs.address.AddressDisplay.fmt.Goals as goal

pub returns-in-V6-clause-writes : goal.returns-in-V6-clause-writes
returns-in-V6-clause-writes g c = λ plain ok.
    let len : length c.segments.result ≡ 8 = search rules in
    let shown = eight_text c.segments.result len
    ∙ (ap (λ (groups : List ℕ). address_text (V6 groups)) c.segments.ensures
    ∙ (sym (ap (λ ip. address_text (seen ip)) c.in-V6.is) ∙ ap address_text c.self.view_is)) in
    rewritten (c.write-in-V6.ensures.writes plain ok) (simp append_assoc shown)
