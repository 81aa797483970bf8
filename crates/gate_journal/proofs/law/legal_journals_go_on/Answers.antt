use Rattle.gate_journal.proofs.Replaying.{legal-append, legal-first, legal-rest, state_after-append}
use Rattle.gate_journal.proofs.law.legal_journals_go_on.Goals as goal

pub returns : goal.returns
returns c =
    λ w entries more.
    ((λ h. (legal-first w entries more h, legal-rest w entries more h), λ h. legal-append w entries more h.0 h.1), state_after-append w entries more)
