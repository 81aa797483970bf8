-- What the table of releases keeps.
use Rattle.std.specs.Prelude.{◌≡◌, ◌↔◌, ℕ, List, true, Some}
use Rattle.std.specs.List.{All}
use Rattle.gate_register.specs.Settings.{allows}
use Rattle.gate_release.specs.Releases.{choices, release_named, word_of}
use Rattle.gate_release.specs.declared.release.Choice.{Choice}
use Rattle.gate_release.specs.declared.release.Release.{Release}

abbrev pub ReleasesAreNamed : Type 0
ReleasesAreNamed = (word : List ℕ) (release : Release) → (release_named word ≡ Some release) ↔ (word ≡ word_of release)

-- an operator may set each number that a release has
abbrev pub ChoicesAreAllowed : Type 0
ChoicesAreAllowed = All (λ (c : Choice). allows c.setting c.number ≡ true) choices
