-- A policy with one number set.
use Rattle.std.proofs.Common.{◌≡◌, ◌≢◌, rules, arith, ℕ, Bool, true, false, if◌then◌else◌, subst, refl, List, slice_set, Some, None}
use Rattle.std.proofs.lemmas.List.{get_or-set_same, get_or-set_other}
use Rattle.gate_register.specs.declared.setting.Setting.{Setting}
use Rattle.gate_register.specs.Settings.{allows, place_of}
use Rattle.gate_register.specs.Policies.{IsPolicy, number_of, policy_with}
use Rattle.gate_register.specs.Laws.{IsSet}
use Rattle.gate_register.proofs.Table.{place_below, places_differ}

pub number_said : (old : List ℕ) (setting : Setting) (number : ℕ) → IsPolicy old → number_of (slice_set old (place_of setting) number) setting ≡ number
number_said old setting number is = get_or-set_same old (place_of setting) number 0 (rw is.counted (place_below setting))

pub others_kept : (old : List ℕ) (setting other : Setting) (number : ℕ) → other ≢ setting
    → number_of (slice_set old (place_of setting) number) other ≡ number_of old other
others_kept old setting other number differ = get_or-set_other old (place_of setting) (place_of other) number 0 (places_differ other setting differ)

pub is_policy : (old : List ℕ) (setting : Setting) (number : ℕ) → IsPolicy old → allows setting number ≡ true → IsPolicy (slice_set old (place_of setting) number)
is_policy old setting number is allowed = search (rules, arith)

set_if : (old new : List ℕ) (setting : Setting) (number : ℕ) (b : Bool) → allows setting number ≡ b → IsPolicy old
    → (if b then Some (slice_set old (place_of setting) number) else None) ≡ Some new → IsSet old new setting number
set_if old new setting number true allowed is set =
    let this : slice_set old (place_of setting) number ≡ new = grind arith in
    subst (λ (p : List ℕ). IsSet old p setting number) this (record {
      policy = is_policy old setting number is allowed;
      said = number_said old setting number is;
      others = λ other. others_kept old setting other number;
    })
set_if old new setting number false refused is set = search rules

pub is_set : (old new : List ℕ) (setting : Setting) (number : ℕ) → IsPolicy old → policy_with old setting number ≡ Some new → IsSet old new setting number
is_set old new setting number is set = set_if old new setting number (allows setting number) refl is set
