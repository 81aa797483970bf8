-- The lines that are printed of settings.
use Rattle.std.specs.Prelude.{ℕ, nat_lt, if◌then◌else◌, List, [], ◌∷◌, ◌++◌, map, codes}
use Rattle.std.specs.Fmt.{decimal}
use Rattle.std.specs.List.{flat_map}
use Rattle.gate_register.specs.declared.setting.Row.{Row}
use Rattle.gate_register.specs.declared.setting.Setting.{Setting}
use Rattle.gate_register.specs.Settings.{least_of, most_of, settings, usual_of, word_of}

-- a setting's word, the least and the greatest number, and the usual one
abbrev pub Key : Type 0
Key = List ℕ × ℕ × ℕ × ℕ

abbrev pub key_of : Row → Key
key_of row = (row.word.now, row.least, row.most, row.usual)

abbrev pub key_of_setting : Setting → Key
key_of_setting setting = (word_of setting, least_of setting, most_of setting, usual_of setting)

-- of all settings, in their order
abbrev pub keys : List Key
keys = map key_of_setting settings

-- the usual number, or `none` past the greatest
abbrev pub usual_text : Row → List ℕ
usual_text row = if nat_lt row.most row.usual then codes "none" else decimal row.usual

-- `WORD LEAST MOST USUAL UNIT`
abbrev pub row_text : Row → List ℕ
row_text row =
    row.word.now ++ (codes " " ++ (decimal row.least ++ (codes " " ++ (decimal row.most ++ (codes " " ++ (usual_text row ++ (codes " " ++ row.unit.now)))))))

-- the text of these rows, a line each
abbrev pub rows_text : List Row → List ℕ
rows_text rows = flat_map (λ (row : Row). row_text row ++ 10 ∷ []) rows
