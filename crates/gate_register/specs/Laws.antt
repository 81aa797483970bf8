-- What the table and the policies keep.
use Rattle.std.specs.Prelude.{◌≡◌, ◌≢◌, ◌↔◌, ℕ, List, get_or, Some}
use Rattle.gate_register.specs.declared.setting.Setting.{Setting}
use Rattle.gate_register.specs.Settings.{setting_named, place_of, settings, word_of}
use Rattle.gate_register.specs.Policies.{IsPolicy, number_of, policy_with}

-- each setting stands at its place, whatever stands past the end
abbrev pub SettingsStandInOrder : Type 0
SettingsStandInOrder = (setting end : Setting) → get_or settings (place_of setting) end ≡ setting

abbrev pub NamesAreExact : Type 0
NamesAreExact = (word : List ℕ) (setting : Setting) → (setting_named word ≡ Some setting) ↔ (word ≡ word_of setting)

-- after a number is set
pub record IsSet (old new : List ℕ) (setting : Setting) (number : ℕ) : Type 0 where
  pub policy : IsPolicy new
  pub said : number_of new setting ≡ number
  pub others : (other : Setting) → other ≢ setting → number_of new other ≡ number_of old other

abbrev pub OthersAreKept : Type 0
OthersAreKept =
    (old new : List ℕ) (setting : Setting) (number : ℕ) → IsPolicy old → policy_with old setting number ≡ Some new → IsSet old new setting number
