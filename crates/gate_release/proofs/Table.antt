-- Facts of the table of releases that each shows by computing.
use Rattle.std.proofs.Common.{◌≡◌, rules, Some}
use Rattle.gate_release.specs.declared.release.Release.{Release}
use Rattle.gate_release.specs.Releases.{release_named, word_of}

pub named_by_word : (release : Release) → release_named (word_of release) ≡ Some release
named_by_word release = search rules
