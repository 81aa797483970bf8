use Rattle.gate_admit.proofs.Kin.{expired_truc, none_truc, trimmed_truc}
use Rattle.gate_admit.proofs.Submissions.{submission_truc}
use Rattle.gate_admit.proofs.law.truc_is_kept.Goals as goal

pub returns : goal.returns
returns c = record { empty = none_truc; expired = expired_truc; trimmed = trimmed_truc; submitted = submission_truc }
