use Rattle.std.proofs.Common.{sym, ap, ◌∙◌}
use Rattle.std.specs.Str.{bytes_eq}
use Rattle.std.proofs.lemmas.Slice.Eq.{bytes_eq-Decides}
use Rattle.gate_register.proofs.Table.{find_passes}
use Rattle.gate_release.specs.Releases.{release_named, releases, word_of}
use Rattle.gate_release.proofs.Table.{named_by_word}
use Rattle.gate_release.proofs.law.releases_are_named.Goals as goal

pub returns : goal.returns
returns c = λ word release. (
  λ found. let same = find_passes (λ r. bytes_eq (word_of r) word) releases release found in sym ((bytes_eq-Decides (word_of release) word).0 same),
  λ is. ap release_named is ∙ named_by_word release,
)
