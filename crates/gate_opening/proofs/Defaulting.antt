-- What is said once a release's numbers hold where no line says another.
use Rattle.std.proofs.Common.{◌≡◌, ◌∙◌, ℕ, Bool, false, List, Some, Ok, sym, ap}
use Rattle.std.specs.Prelude.{is_some}
use Rattle.gate_release.specs.Releases.{choices, policy_beside}
use Rattle.gate_release.specs.declared.Release.{Release}
use Rattle.gate_opening.specs.declared.opening_fault.OpeningToken.TheVariants as tokens
use Rattle.gate_opening.specs.declared.opening_line.OpeningLine.TheVariants as says
use Rattle.gate_opening.specs.Said.{Said, fault_if, unless, with_line}

pub defaults_said : (said held : Said) (number : ℕ) (release : Release) (policy : List ℕ) → said ≡ held → is_some held.release ≡ false → policy ≡ policy_beside release held.said held.policy choices
    → with_line said number (says.Defaults release) ≡ Ok (record held { release = Some release; policy = policy })
defaults_said said held number release policy same fresh p =
    ap (λ (s : Said). with_line s number (says.Defaults release)) same
    ∙ ap (λ (b : Bool). unless (fault_if b tokens.BadLine) number (record held { release = Some release; policy = policy_beside release held.said held.policy choices })) fresh
    ∙ (λ i. Ok (record held { release = Some release; policy = sym p i }))
