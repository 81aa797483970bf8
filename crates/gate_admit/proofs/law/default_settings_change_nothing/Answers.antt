use Rattle.std.proofs.Common.{◌≡◌, ℕ, Bool, true, false, not, ◌||◌, [], ◌∷◌, None, pos, refl, ap}
use Rattle.std.specs.Ordering.{int_eq}
use Rattle.gate_script.specs.declared.Template.{Template}
use Rattle.gate_script.specs.declared.Template.TheVariants.{ScriptHash, WitnessV0Key, WitnessV0Script, Taproot, WitnessUnknown, NullData, Key, KeyHash, Multisig, Nonstandard}
use Rattle.gate_standard.specs.Outputs.{is_standard_template, dust_threshold_of}
use Rattle.gate_standard.specs.Rules.{left_behind, version_rules}
use Rattle.gate_rules.specs.declared.Denial.TheVariants.{Version}
use Rattle.gate_rbf.specs.Replacing.{signals}
use Rattle.gate_admit.specs.Defaults.{standard_by_default}
use Rattle.gate_admit.specs.Policies.{usual_policy}
use Rattle.gate_admit.specs.Reports.{report_rules}
use Rattle.gate_admit.specs.Rules.{fee_rules}
use Rattle.gate_admit.specs.Sweeping.{sweep_rules}
use Rattle.gate_admit.proofs.law.default_settings_change_nothing.Goals as goal

same_template : (template : Template) (size : ℕ) → is_standard_template usual_policy.standards template size ≡ standard_by_default template size
same_template ScriptHash size = refl
same_template WitnessV0Key size = refl
same_template WitnessV0Script size = refl
same_template Taproot size = refl
same_template WitnessUnknown size = refl
same_template NullData size = refl
same_template Key size = refl
same_template KeyHash size = refl
same_template (Multisig required keys) size = refl
same_template Nonstandard size = refl

nothing_left : (carries : Bool) (size : ℕ) → left_behind usual_policy.standards.data_total carries size ≡ None
nothing_left false size = refl
nothing_left true size = refl

or_false : (b : Bool) → (b || false) ≡ b
or_false true = refl
or_false false = refl

pub returns : goal.returns
unfolding dust_threshold_of fee_rules report_rules version_rules sweep_rules
returns c = record {
  template = same_template;
  dust = λ o. refl;
  whole = λ tx. refl;
  carriers = λ o. refl;
  unbounded = nothing_left;
  version = λ tx. ap (λ b. (Version, not (int_eq tx.version (pos 1) || b)) ∷ []) (or_false (int_eq tx.version (pos 2)));
  signal = λ tx. or_false (signals tx);
  kin = λ entries tx vsize. refl;
  sibling = λ entries tx. refl;
  reports = λ answers fee tx. refl;
  sweeping = λ entries tx. refl;
  size = λ cost tx. refl;
  relay = λ tx floor fee vsize. refl;
  parents = λ entries tx. refl;
  replacement = λ paid fee vsize. refl;
  first = refl;
  second = refl;
  again = λ entries txid. refl;
  stale = λ now e. refl;
  floor = λ floor family. refl;
}
