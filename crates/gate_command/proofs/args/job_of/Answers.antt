use Rattle.std.proofs.Common.{◌∙◌, ℕ, List, codes, refl, subst, sym, Option, IfSome, option_map, Err}
use Rattle.std.specs.Borrow.{Bor}
use Rattle.clap.specs.Words.{Text, found_of, one_of, rows_of}
use Rattle.clap.proofs.WalkLemmas.{first_value-rows}
use Rattle.gate_command.specs.Commands.{AnswersTo, Words, named_job, words}
use Rattle.gate_command.proofs.CommandLemmas.{by_switches, met_named, none_named}
use Rattle.gate_command.proofs.args.job_of.Goals as goal

abbrev texts : Option (Bor (List ℕ)) → Option Text
texts word = option_map (λ (text : Bor (List ℕ)). text.now) word

pub returns-in-Some : goal.returns-in-Some
returns-in-Some c =
    let found = rows_of (found_of c.in-Some.rest.now) in
    let word = texts c.get_str-word.result in
    let workers = texts c.get_str-workers.result in
    let file = texts c.get_str-file.result in
    subst (λ (o : Option (Text × Words)). IfSome (named_job o) (λ job. AnswersTo job c.named_job.result))
    (sym (met_named _ _ _ _ word workers file c.in-Some.ensures.name found c.in-Some.ensures.rows (c.get_str-word.ensures ∙ first_value-rows (found_of c.in-Some.rest.now) (codes "WORD"))
    (c.get_str-workers.ensures ∙ first_value-rows (found_of c.in-Some.rest.now) (codes "workers"))
    (c.get_str-file.ensures ∙ first_value-rows (found_of c.in-Some.rest.now) (codes "FILE"))))
    (by_switches c.in-Some.name.now (words word workers file (one_of (codes "journal") found) (one_of (codes "explain") found) (one_of (codes "explain-json") found) (one_of (codes "strict") found))
    c.asks.result c.asks-in-Some.result c.asks-in-Some-2.result c.asks-in-Some-3.result (λ job. AnswersTo job c.named_job.result)
    c.asks.ensures c.asks-in-Some.ensures c.asks-in-Some-2.ensures c.asks-in-Some-3.ensures c.named_job.ensures)

pub returns-in-None : goal.returns-in-None
returns-in-None c = subst (λ (o : Option (Text × Words)). IfSome (named_job o) (λ job. AnswersTo job (Err c.no_job.result))) (sym (none_named _ _ _ c.in-None.ensures.name)) c.no_job.ensures
