-- Facts of the table that each setting shows by computing, and what follows from them.
use Rattle.std.proofs.Common.{◌≡◌, ◌≢◌, ◌∙◌, ap, sym, refl, rules, arith, ◌<◌, Bool, true, false, cond, List, [], ◌∷◌, get_or, Option, Some}
use Rattle.std.specs.List.{find}
use Rattle.gate_register.specs.declared.setting.Setting.{Setting}
use Rattle.gate_register.specs.declared.setting.Setting.TheVariants.{AncestorCount}
use Rattle.gate_register.specs.Settings.{count, setting_named, place_of, settings, word_of}

pub at_place : (setting end : Setting) → get_or settings (place_of setting) end ≡ setting
at_place setting end = search rules

pub place_below : (setting : Setting) → place_of setting < count
place_below setting = search (rules, arith)

pub named_by_word : (setting : Setting) → setting_named (word_of setting) ≡ Some setting
named_by_word setting = search rules

-- two settings stand at two places
pub places_differ : (a b : Setting) → a ≢ b → place_of a ≢ place_of b
places_differ a b differ same =
    differ (sym (at_place a AncestorCount) ∙ (ap (λ place. get_or settings place AncestorCount) same ∙ at_place b AncestorCount))

found_here : {X : Type 0} (test : X → Bool) (x y : X) (b : Bool) (rest : Option X)
    → test x ≡ b → (rest ≡ Some y → test y ≡ true) → cond b (Some x) rest ≡ Some y → test y ≡ true
found_here test x y true rest is later found = grind arith
found_here test x y false rest is later found = later found

-- what is found passes
pub find_passes : {X : Type 0} (test : X → Bool) (xs : List X) (y : X) → find test xs ≡ Some y → test y ≡ true
find_passes test [] y found = search rules
find_passes test (x ∷ xs) y found = found_here test x y (test x) (find test xs) refl (find_passes test xs y) found
