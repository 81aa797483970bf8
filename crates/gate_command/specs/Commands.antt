-- The commands of the program as `clap` reads them, and what the words of the command line ask for.
use Rattle.std.specs.Prelude.{◌≡◌, ◌≢◌, ℕ, Bool, true, false, if◌then◌else◌, List, [], ◌∷◌, map, codes, Option, Some, None, option_map, option_and_then, IfSome, Result, Ok, Err, ◌⊎◌, ◌++◌}
use Rattle.std.specs.Borrow.{Bor}
use Rattle.std.specs.Str.{bytes_eq}
use Rattle.clap.specs.Simple.{on_top}
use Rattle.clap.specs.Words.{App, Row, Rule, Shape, Text, app_of, first_of, new_app, new_rule, one_of, rule_of, with_rule, with_subcommand}
use Rattle.clap.specs.declared.builder.action.ArgAction.TheVariants.{SetTrue}
use Rattle.clap.specs.declared.builder.arg.Arg.{Arg}
use Rattle.clap.specs.declared.builder.command.Command.{Command}
use Rattle.clap.specs.declared.builder.command.Command.TheViews.{out-Command}
use Rattle.gate_lines.specs.Numbers.{number_of}
use Rattle.gate_verify.specs.Counts.{workers_of}
use Rattle.gate_command.specs.declared.args.ArgsFault.{ArgsFault}
use Rattle.gate_command.specs.declared.args.ArgsFault.TheVariants as faults
use Rattle.gate_command.specs.declared.job.Explain.{Explain}
use Rattle.gate_command.specs.declared.job.Explain.TheVariants as explains
use Rattle.gate_command.specs.declared.job.Job.{Job}
use Rattle.gate_command.specs.declared.job.Job.TheVariants as jobs

-- one word, which has to be given
abbrev pub word_rule : Rule
word_rule = record (new_rule (codes "WORD")) { required = true }

-- the same with a name of its own in the help
abbrev pub hex_rule : Rule
hex_rule = record word_rule { value_names = 1 }

-- `check HEX`
abbrev pub check_app : App
check_app = with_rule (new_app (codes "check")) hex_rule

-- the option or word is read by this rule, in its command alone
abbrev pub IsOption : Rule → Arg → Type 0
IsOption rule arg = (rule_of arg ≡ rule) × (arg.global ≡ false)

-- an option without a value
abbrev pub switch_rule : Text → Rule
switch_rule name = record (new_rule name) { long = Some name; action = Some SetTrue }

-- an option with a value
abbrev pub option_rule : Text → Rule
option_rule name = record (new_rule name) { long = Some name; value_names = 1 }

-- `--workers N`
abbrev pub workers_rule : Rule
workers_rule = record (new_rule (codes "workers")) { long = Some (codes "workers"); value_names = 1 }

-- `FILE`, which may be left out
abbrev pub file_rule : Rule
file_rule = new_rule (codes "FILE")

-- `run`, with or without a file, `--explain`, `--explain-json` and `--strict`; `--workers N` is gone, and read so that a fault says so
abbrev pub run_app : App
run_app =
    with_rule (with_rule (with_rule (with_rule (with_rule (new_app (codes "run")) file_rule) workers_rule)
    (switch_rule (codes "explain"))) (switch_rule (codes "explain-json"))) (switch_rule (codes "strict"))

-- `try`, whose words are read elsewhere
abbrev pub try_app : App
try_app =
    with_rule (with_rule (with_rule (with_rule (with_rule (with_rule (with_rule (with_rule (with_rule (with_rule (new_app (codes "try")) (new_rule (codes "HEX")))
    (option_rule (codes "coin"))) (option_rule (codes "psbt"))) (option_rule (codes "height"))) (option_rule (codes "policy"))) (option_rule (codes "set"))) (option_rule (codes "tip"))) (option_rule (codes "time")))
    (option_rule (codes "verdict"))) (switch_rule (codes "json"))

-- `lanes`, with or without `--workers N`, `--journal` and `--explain`
abbrev pub lanes_app : App
lanes_app = with_rule (with_rule (with_rule (new_app (codes "lanes")) workers_rule) (switch_rule (codes "journal"))) (switch_rule (codes "explain"))

-- `audit`, with or without `--explain` and `--explain-json`
abbrev pub audit_app : App
audit_app = with_rule (with_rule (new_app (codes "audit")) (switch_rule (codes "explain"))) (switch_rule (codes "explain-json"))

-- `rules`
abbrev pub rules_app : App
rules_app = new_app (codes "rules")

-- `settings`
abbrev pub settings_app : App
settings_app = new_app (codes "settings")

-- `explain WORD`
abbrev pub explain_app : App
explain_app = with_rule (new_app (codes "explain")) word_rule

-- one of the commands has to be named, and the words begin behind the program's name
abbrev pub with_commands : Shape → Shape
with_commands s = record s { has_version = true; no_binary_name = true; subcommand_required = true }

abbrev pub bare_app : App
bare_app = on_top with_commands (new_app (codes "gate"))

abbrev pub gate_app : App
gate_app = with_subcommand (with_subcommand (with_subcommand (with_subcommand (with_subcommand (with_subcommand (with_subcommand (with_subcommand
    bare_app try_app.top) check_app.top) run_app.top) lanes_app.top) audit_app.top) rules_app.top) settings_app.top) explain_app.top

-- the command reads words as this app says, and has no global options
abbrev pub IsCommandOf : App → Command → Type 0
IsCommandOf app command = (app_of command ≡ app) × ((out-Command command).has_globals ≡ false)

-- no hyphen begins the word, which would make it an option
abbrev pub IsPlainWord : List ℕ → Type 0
IsPlainWord [] = Unit {0}
IsPlainWord (x ∷ xs) = x ≢ 45

-- the words ask for this, and it is the answer unless memory ran out
abbrev pub AsksFor : {X : Type 0} → X → Result X ArgsFault → Type 0
AsksFor asked result = (result ≡ Ok asked) ⊎ (result ≡ Err faults.Memory)

-- a fault of usage, unless memory ran out: no help
abbrev pub IsMisuse : ArgsFault → Type 0
IsMisuse (faults.Help text) = ⊥
IsMisuse (faults.Usage text) = Unit {0}
IsMisuse faults.Memory = Unit {0}

-- the words ask for this, or for nothing, which is a fault of usage
abbrev pub AnswersTo : {X : Type 0} → Option X → Result X ArgsFault → Type 0
AnswersTo (Some asked) result = AsksFor asked result
AnswersTo None (Ok asked) = ⊥
AnswersTo None (Err fault) = IsMisuse fault

-- ---- the words of commands

-- the words of a switch, if it is given
abbrev pub switch_words : Text → Bool → List Text
switch_words word true = word ∷ []
switch_words word false = []

-- the words of a number of workers, if it is given
abbrev pub workers_words : Option Text → List Text
workers_words None = []
workers_words (Some text) = codes "--workers" ∷ text ∷ []

-- a word that is given is a plain one
abbrev pub IsPlainIfGiven : Option Text → Type 0
IsPlainIfGiven word = IfSome word IsPlainWord

-- borrowed words, by their texts
abbrev pub words_now : List (Bor (List ℕ)) → List (List ℕ)
words_now words = map (λ (word : Bor (List ℕ)). word.now) words

-- the text of a borrowed word, where there is one
abbrev pub word_now : Option (Bor (List ℕ)) → Option (List ℕ)
word_now word = option_map (λ (text : Bor (List ℕ)). text.now) word

-- a word, if it is given
abbrev pub given_words : Option Text → List Text
given_words None = []
given_words (Some text) = text ∷ []

-- the words that ask for an explanation
abbrev pub explain_words : Explain → List Text
explain_words explains.No = []
explain_words explains.Words = codes "--explain" ∷ []
explain_words explains.Json = codes "--explain-json" ∷ []

abbrev pub run_words : Option Text → Explain → Bool → List Text
run_words file explain strict = codes "run" ∷ explain_words explain ++ (switch_words (codes "--strict") strict ++ given_words file)

-- a run with a number of workers, as it was
abbrev pub former_run_words : Text → Bool → List Text
former_run_words workers explain = codes "run" ∷ workers_words (Some workers) ++ switch_words (codes "--explain") explain

abbrev pub audit_words : Explain → List Text
audit_words explain = codes "audit" ∷ explain_words explain

abbrev pub lanes_words : Option Text → Bool → Bool → List Text
lanes_words workers journal explain =
    codes "lanes" ∷ switch_words (codes "--journal") journal ++ (workers_words workers ++ switch_words (codes "--explain") explain)

-- ---- from a parse to its job

-- the words of a command: its word, its number of workers, its file, and the texts of its switches
pub record Words : Type 0 where
  pub word : Option Text
  pub workers : Option Text
  pub file : Option Text
  pub journal : Option Text
  pub explain : Option Text
  pub json : Option Text
  pub strict : Option Text

abbrev pub words : Option Text → Option Text → Option Text → Option Text → Option Text → Option Text → Option Text → Words
words word workers file journal explain json strict =
    record { word = word; workers = workers; file = file; journal = journal; explain = explain; json = json; strict = strict }

abbrev pub words_of : List Row → Words
words_of rows =
    words (first_of (codes "WORD") rows) (first_of (codes "workers") rows) (first_of (codes "FILE") rows)
    (one_of (codes "journal") rows) (one_of (codes "explain") rows) (one_of (codes "explain-json") rows) (one_of (codes "strict") rows)

-- the command that was named, with its words
abbrev pub named_of : Option (Text × List Row) → Option (Text × Words)
named_of = option_map (λ p. (p.0, words_of p.1))

-- what a flag's text says; without a text the flag was not given
abbrev pub flag_of : Option Text → Option Bool
flag_of None = Some false
flag_of (Some text) = if bytes_eq text (codes "true") then Some true
    else if bytes_eq text (codes "false") then Some false else None

abbrev pub digits_job : List ℕ → Job
digits_job digits = if bytes_eq digits (codes "-") then jobs.CheckInput else jobs.Check digits

-- the job of a command with a word
abbrev pub word_job : Text → List ℕ → Job
word_job name word = if bytes_eq name (codes "explain") then jobs.Explain word else digits_job word

-- the number of workers that a text asks for, if that many are allowed
abbrev pub workers_in : Text → Option ℕ
workers_in text = option_and_then workers_of (number_of text)

-- the number of workers: 2 without a text
abbrev pub workers_by : Option Text → Option ℕ
workers_by None = Some 2
workers_by (Some text) = workers_in text

-- lanes with the number of workers that a text asks for; no job if that many are not allowed
abbrev pub lanes_job : Option Text → Bool → Bool → Option Job
lanes_job workers journal explain = option_map (λ n. jobs.Lanes n journal explain) (workers_by workers)

-- how a run or an audit is explained by two switches
abbrev pub explain_of : Bool → Bool → Explain
explain_of explain json = if json then explains.Json else if explain then explains.Words else explains.No

-- a run; no job with a number of workers
abbrev pub job_of_run : Option Text → Option Text → Bool → Bool → Bool → Option Job
job_of_run None file explain json strict = Some (jobs.Run (explain_of explain json) strict file)
job_of_run (Some text) file explain json strict = None

abbrev pub job_of_name : Text → Option Text → Option Text → Option Text → Bool → Bool → Bool → Bool → Option Job
job_of_name name word workers file journal explain json strict = if bytes_eq name (codes "run") then job_of_run workers file explain json strict
    else if bytes_eq name (codes "lanes") then lanes_job workers journal explain
    else if bytes_eq name (codes "audit") then Some (jobs.Audit (explain_of explain json))
    else if bytes_eq name (codes "rules") then Some jobs.Rules
    else if bytes_eq name (codes "settings") then Some jobs.Settings
    else option_map (word_job name) word

-- what a command asks for: a job, or nothing; not known if a switch has a text other than `true` and `false`
abbrev pub job_by : Text → Words → Option (Option Job)
job_by name given =
    option_and_then (λ strict. option_and_then (λ json. option_and_then (λ explain. option_map
    (λ journal. job_of_name name given.word given.workers given.file journal explain json strict)
    (flag_of given.journal)) (flag_of given.explain)) (flag_of given.json)) (flag_of given.strict)

abbrev pub named_job : Option (Text × Words) → Option (Option Job)
named_job None = Some None
named_job (Some p) = job_by p.0 p.1
