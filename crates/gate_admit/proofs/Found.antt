-- Whether a search found something, asked of what it lends.
use Rattle.gate_rbf.proofs.Conflicting.{is_some-option_copied}

pub ruleset found_lemmas = (is_some-option_copied)
