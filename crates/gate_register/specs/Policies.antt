-- What an operator asks: a number for each setting, in their order.
use Rattle.std.specs.Prelude.{◌≡◌, ℕ, ◌≤◌, ◌==◌, nat_le, Bool, if◌then◌else◌, List, map, length, slice_index, slice_set, Option, Some, None}
use Rattle.gate_register.specs.declared.setting.Setting.{Setting}
use Rattle.gate_register.specs.Settings.{allows, count, greatest_of, least_of, most_of, place_of, settings, usual_of}

-- the number of a setting
abbrev pub number_of : List ℕ → Setting → ℕ
number_of policy setting = slice_index policy (place_of setting)

-- a switch is on
abbrev pub is_on : List ℕ → Setting → Bool
is_on policy setting = number_of policy setting == 1

-- the number of a setting as a limit, if there is one
abbrev pub limit_of : List ℕ → Setting → Option ℕ
limit_of policy setting = if nat_le (number_of policy setting) (most_of setting) then Some (number_of policy setting) else None

-- there is a number for each setting, and it is within its bounds
pub record IsPolicy (policy : List ℕ) : Type 0 where
  pub counted : length policy ≡ count
  pub least : (setting : Setting) → least_of setting ≤ number_of policy setting
  pub most : (setting : Setting) → number_of policy setting ≤ greatest_of setting

-- the policy of an operator who sets nothing
abbrev pub usual_policy : List ℕ
usual_policy = map usual_of settings

-- the policy with one number set
abbrev pub with_number : List ℕ → Setting → ℕ → List ℕ
with_number policy setting number = slice_set policy (place_of setting) number

-- the policy with a number set, if an operator may set it
abbrev pub policy_with : List ℕ → Setting → ℕ → Option (List ℕ)
policy_with policy setting number = if allows setting number then Some (with_number policy setting number) else None
