use Rattle.std.proofs.Common.{refl}
use Rattle.gate_chain.specs.Learning.{learn_rules}
use Rattle.gate_core.specs.ChainSteps.{coin_rules}
use Rattle.gate_core.specs.Steps.{step_of}
use Rattle.gate_net.specs.Whitelists.{flags_of}
use Rattle.gate_admit.specs.Submission.{submit_of}
use Rattle.gate_admit.specs.Rules.{decision_of}
use Rattle.gate_admit.specs.Verdicts.{row_rules}
use Rattle.gate_core.proofs.examples.small_steps.Goals as goal

pub returns-clause-small : goal.returns-clause-small
unfolding step_of flags_of
returns-clause-small c = record {
  enters = refl;
  enters_again = refl;
  leaves = refl;
  unknown = refl;
  closed = refl;
  lists = refl;
  no_bloom = refl;
  filters = refl;
  filters_no_more = refl;
  closed_filters_nothing = refl;
  sets_the_floor = refl;
  undecodable = refl;
}

pub returns-clause-permitted : goal.returns-clause-permitted
unfolding step_of flags_of
returns-clause-permitted c = record {
  noban_stays = refl;
  noban_leaves = refl;
  noban_empty = refl;
  empty = refl;
  relayed = refl;
  not_relayed = refl;
  without_session = refl;
  noban_text = refl;
  forcerelay_text = refl;
  no_text = refl;
}

pub returns-clause-guarded : goal.returns-clause-guarded
unfolding step_of
returns-clause-guarded c = record {
  blocks_only_closes = refl;
  relay_is_read = refl;
  upload = refl;
  upload_noban = refl;
  upload_mempool = refl;
  mempool_without_bloom = refl;
  downloads = refl;
  above_the_tip = refl;
  at_the_tip = refl;
  below_the_tip = refl;
  old = refl;
  a_week_old = refl;
  old_by_download = refl;
  unknown_first = refl;
  turns = refl;
}

pub returns-clause-offers : goal.returns-clause-offers
unfolding step_of
returns-clause-offers c = record {
  not_taken = refl;
  undecodable = refl;
  blocks_only_closes = refl;
  closed = refl;
  member_closes = refl;
  noban_is_kept = refl;
  full_keeps = refl;
}

pub returns-clause-calls : goal.returns-clause-calls
unfolding submit_of decision_of
returns-clause-calls c = record {
  unread = refl;
  barred = refl;
  barred_by_default = refl;
  unknown = refl;
  lists = refl;
  informs = refl;
  no_entry = refl;
  sends_nothing = refl;
  tests_nothing = refl;
  tests_none_of_several = refl;
  knows_no_entry = refl;
  no_transaction = refl;
  unspent = refl;
}

pub returns-clause-learning : goal.returns-clause-learning
unfolding step_of coin_rules learn_rules row_rules
returns-clause-learning c = record {
  learns = refl;
  worthless = refl;
  unspendable = refl;
  too_high = refl;
  as_high = refl;
  known = refl;
  verdict = refl;
  verdict_again = refl;
  forgets = refl;
  too_few = refl;
  below_the_first = refl;
  the_first = refl;
  headers_below = refl;
}
