use Rattle.std.proofs.Common.{◌∙◌, ◌||◌, ap, sym}
use Rattle.std.specs.Prelude.{filter}
use Rattle.std.specs.List.{list_any}
use Rattle.std.proofs.lemmas.Bool.{or_left}
use Rattle.gate_standard.specs.Rules.{is_truc}
use Rattle.gate_package.specs.Kinship.{is_truc_entry}
use Rattle.gate_package.proofs.truc.is_below_truc.Goals as goal

pub returns-then-has_truc_entry : goal.returns-then-has_truc_entry
returns-then-has_truc_entry g c = λ test ids.
    c.if-has_truc_entry.true
    ∙ sym (or_left (list_any is_truc_entry (filter test c.args.pool.now.entries)) (list_any is_truc c.args.parents.now) (sym (c.has_truc_entry.ensures test ids) ∙ c.if-has_truc_entry.true))

pub returns-else-has_truc_entry : goal.returns-else-has_truc_entry
returns-else-has_truc_entry g c = λ test ids.
    c.has_truc.ensures ∙ sym (ap (λ b. b || list_any is_truc c.args.parents.now) (sym (c.has_truc_entry.ensures test ids) ∙ c.if-has_truc_entry.false))
