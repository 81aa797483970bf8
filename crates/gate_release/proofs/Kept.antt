-- A release's numbers are within the bounds of their settings.
use Rattle.std.proofs.Common.{◌≡◌, refl, ℕ, Bool, true, false, not, ◌&&◌, if◌then◌else◌, List, [], ◌∷◌, slice_set, Some, None}
use Rattle.std.specs.Option.{unwrap_or}
use Rattle.gate_register.specs.declared.Setting.{Setting}
use Rattle.gate_register.specs.Settings.{allows, place_of as place_of_setting}
use Rattle.gate_register.specs.Policies.{IsPolicy}
use Rattle.gate_register.proofs.Policies.{is_policy}
use Rattle.gate_release.specs.declared.release.Choice.{Choice}
use Rattle.gate_release.specs.declared.release.Release.{Release}
use Rattle.gate_release.specs.Releases.{is_of, policy_beside, was_said, with_choice}

set_or_kept : (policy : List ℕ) (setting : Setting) (number : ℕ) (b : Bool) → allows setting number ≡ b → IsPolicy policy
    → IsPolicy (unwrap_or (if b then Some (slice_set policy (place_of_setting setting) number) else None) policy)
set_or_kept policy setting number true allowed h = is_policy policy setting number h allowed
set_or_kept policy setting number false refused h = h

chosen_or_kept : (policy : List ℕ) (c : Choice) (b : Bool) → IsPolicy policy → IsPolicy (if b then with_choice policy c else policy)
chosen_or_kept policy c true h = set_or_kept policy c.setting c.number (allows c.setting c.number) refl h
chosen_or_kept policy c false h = h

pub beside_is_policy : (release : Release) (said : List Bool) (policy : List ℕ) (cs : List Choice) → IsPolicy policy → IsPolicy (policy_beside release said policy cs)
beside_is_policy release said policy [] h = h
beside_is_policy release said policy (c ∷ cs) h =
    beside_is_policy release said (if is_of release c && not (was_said said c.setting) then with_choice policy c else policy) cs
    (chosen_or_kept policy c (is_of release c && not (was_said said c.setting)) h)
