use Rattle.std.proofs.Common.{◌∙◌, ap, ℕ, Bool, List, true, sym, length}
use Rattle.gate_inputs.specs.Reports.{is_standard_script_path, from_last}
use Rattle.gate_inputs.proofs.Ends.{from_last-append, from_last-none}
use Rattle.gate_inputs.proofs.witness.allows_taproot.Goals as goal

abbrev before_script : List ℕ → List (List ℕ) → Bool
before_script control before = from_last true (λ script items. is_standard_script_path control items) before

pub returns-in_default : goal.returns-in_default
returns-in_default c = sym (from_last-none true before_script c.args.witness.now (ap (λ (items : List (List ℕ)). length items) c.in_default.ensures))

pub returns-in_default-split_last : goal.returns-in_default-split_last
returns-in_default-split_last c =
    sym (from_last-append true before_script c.args.witness.now c.in-Some.items c.in-Some.control.now c.in-Some.ensures
    ∙ from_last-none true (λ script items. is_standard_script_path c.in-Some.control.now items) c.in-Some.items (ap (λ (items : List (List ℕ)). length items) c.in_default-split_last.ensures))

pub returns : goal.returns
returns c =
    c.is_standard_script_path.ensures
    ∙ sym (from_last-append true before_script c.args.witness.now c.in-Some.items c.in-Some.control.now c.in-Some.ensures
    ∙ from_last-append true (λ script items. is_standard_script_path c.in-Some.control.now items) c.in-Some.items c.in-Some-split_last.items c.in-Some-split_last._script.now c.in-Some-split_last.ensures)
