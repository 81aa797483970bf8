use Rattle.std.proofs.Common.{sym, ap, ◌∙◌}
use Rattle.std.specs.Str.{bytes_eq}
use Rattle.std.proofs.lemmas.Slice.Eq.{bytes_eq-Decides}
use Rattle.gate_register.specs.Settings.{setting_named, settings, word_of}
use Rattle.gate_register.proofs.Table.{find_passes, named_by_word}
use Rattle.gate_register.proofs.law.names_are_exact.Goals as goal

pub returns : goal.returns
returns c = λ word setting. (
  λ found. let same = find_passes (λ s. bytes_eq (word_of s) word) settings setting found in sym ((bytes_eq-Decides (word_of setting) word).0 same),
  λ is. ap setting_named is ∙ named_by_word setting,
)
