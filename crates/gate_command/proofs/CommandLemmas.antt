-- What the commands of the program ask for.
use Rattle.std.proofs.Common.{◌≡◌, ◌≢◌, ℕ, ◌==◌, ◌||◌, Bool, true, false, if◌then◌else◌, List, [], ◌∷◌, codes, Option, Some, None, option_map, option_and_then, IfSome, Result, Err, inr, refl, sym, subst, ap, ap₂, ◌∙◌, arith}
use Rattle.std.specs.Str.{bytes_eq}
use Rattle.std.proofs.lemmas.Slice.Eq.{bytes_eq-Decides}
use Rattle.std.proofs.lemmas.Option.{none-some, same_Some}
use Rattle.std.proofs.lemmas.Bool.Decides.{nat_tests}
use Rattle.clap.specs.Words.{AddsArg, App, Row, Rule, Text, first_of, one_of, with_rule}
use Rattle.clap.specs.declared.builder.arg.Arg.{Arg}
use Rattle.clap.specs.declared.builder.command.Command.{Command}
use Rattle.gate_command.specs.declared.args.ArgsFault.{ArgsFault}
use Rattle.gate_command.specs.declared.args.ArgsFault.TheVariants as faults
use Rattle.gate_command.specs.Commands.{AnswersTo, IsCommandOf, IsMisuse, IsOption, IsPlainWord, Words, digits_job, flag_of, job_by, job_of_name, lanes_job, named_job, named_of, words, words_of}
use Rattle.gate_command.specs.declared.job.Job.{Job}
use Rattle.gate_command.specs.declared.job.Job.TheVariants as jobs
use Rattle.gate_command.specs.declared.job.Explain.{Explain}
use Rattle.gate_command.specs.declared.job.Explain.TheVariants as explains
use Rattle.gate_command.proofs.CommandWords.{in_json, in_words, switch_text}

-- ---- commands with options

-- a command that has one more
pub one_more : (old new : Command) (option : Arg) (app : App) (rule : Rule) → IsCommandOf app old → IsOption rule option → AddsArg old option new
    → IsCommandOf (with_rule app rule) new
one_more old new option app rule (is, local) (ruled, own) added = (added.shape own ∙ ap₂ with_rule is ruled, added.globals ∙ ap₂ (λ (x y : Bool). x || y) local own)

-- ---- the job of words

pub run_of : (file : Option Text) (explain : Explain) (strict : Bool)
    → named_job (Some (codes "run", words None None file None (Some (switch_text (in_words explain))) (Some (switch_text (in_json explain))) (Some (switch_text strict)))) ≡ Some (Some (jobs.Run explain strict file))
run_of file explains.No true = refl
run_of file explains.No false = refl
run_of file explains.Words true = refl
run_of file explains.Words false = refl
run_of file explains.Json true = refl
run_of file explains.Json false = refl

pub former_job : (workers : Text) (explain : Bool)
    → named_job (Some (codes "run", words None (Some workers) None None (Some (switch_text explain)) (Some (codes "false")) (Some (codes "false")))) ≡ Some None
former_job workers true = refl
former_job workers false = refl

pub audit_job : (explain : Explain)
    → named_job (Some (codes "audit", words None None None None (Some (switch_text (in_words explain))) (Some (switch_text (in_json explain))) None)) ≡ Some (Some (jobs.Audit explain))
audit_job explains.No = refl
audit_job explains.Words = refl
audit_job explains.Json = refl

pub lanes_job_of : (workers : Option Text) (journal explain : Bool)
    → named_job (Some (codes "lanes", words None workers None (Some (switch_text journal)) (Some (switch_text explain)) None None)) ≡ Some (lanes_job workers journal explain)
lanes_job_of workers true true = refl
lanes_job_of workers true false = refl
lanes_job_of workers false true = refl
lanes_job_of workers false false = refl

is_other : (x : ℕ) → x ≢ 45 → (x == 45) ≡ false
is_other x h = grind (arith, nat_tests)

digits_other : (x : ℕ) (xs : List ℕ) → (x == 45) ≡ false → digits_job (x ∷ xs) ≡ jobs.Check (x ∷ xs)
digits_other x xs e = rw e

plain_digits : (digits : List ℕ) → IsPlainWord digits → digits_job digits ≡ jobs.Check digits
plain_digits [] h = refl
plain_digits (x ∷ xs) h = digits_other x xs (is_other x h)

pub check_job : (digits : List ℕ) → IsPlainWord digits → named_job (Some (codes "check", words (Some digits) None None None None None None)) ≡ Some (Some (jobs.Check digits))
check_job digits h = ap (λ (job : Job). Some (Some job)) (plain_digits digits h)

-- the answer is the one to the words that were met
pub answers_to : (met : Option (Text × List Row)) (named : Option (Text × Words)) (asked : Option Job) (result : Result Job ArgsFault)
    → named_of met ≡ named → named_job named ≡ Some asked → IfSome (named_job (named_of met)) (λ found. AnswersTo found result) → AnswersTo asked result
answers_to met named asked result same is h = subst (λ (o : Option (Option Job)). IfSome o (λ found. AnswersTo found result)) (ap named_job same ∙ is) h

-- where memory ran out any job may have been asked for
pub out_of_memory : (asked : Option Job) (fault : ArgsFault) → fault ≡ faults.Memory → AnswersTo asked (Err fault)
out_of_memory None fault e = subst IsMisuse (sym e) tt
out_of_memory (Some found) fault e = inr (ap Err e)

-- ---- from the parts of a parse

-- the parts of the subcommand that was met, as one
pub met_named : {A : Type 0} (met : Option A) (name : A → Text) (rows : A → List Row) (n : Text) (word workers file : Option Text)
    → Some n ≡ option_map name met
    → (found : List Row) → Some found ≡ option_map (λ (p : Text × List Row). p.1) (option_map (λ a. (name a, rows a)) met)
    → word ≡ first_of (codes "WORD") found → workers ≡ first_of (codes "workers") found → file ≡ first_of (codes "FILE") found
    → named_of (option_map (λ a. (name a, rows a)) met)
    ≡ Some (n, words word workers file (one_of (codes "journal") found) (one_of (codes "explain") found) (one_of (codes "explain-json") found) (one_of (codes "strict") found))
met_named None name rows n word workers file e found h d w f = absurd (none-some n (sym e))
met_named (Some a) name rows n word workers file e found h d w f =
    ap₂ (λ (x : Text) (r : List Row). Some (x, words_of r)) (sym (same_Some _ _ e)) (sym (same_Some _ _ h))
    ∙ (ap₂ (λ (y z : Option Text). Some (n, words y z (first_of (codes "FILE") found) (one_of (codes "journal") found) (one_of (codes "explain") found) (one_of (codes "explain-json") found) (one_of (codes "strict") found))) (sym d) (sym w)
    ∙ ap (λ (y : Option Text). Some (n, words word workers y (one_of (codes "journal") found) (one_of (codes "explain") found) (one_of (codes "explain-json") found) (one_of (codes "strict") found))) (sym f))

-- none was met
pub none_named : {A : Type 0} (met : Option A) (name : A → Text) (rows : A → List Row) → None ≡ option_map name met
    → named_of (option_map (λ a. (name a, rows a)) met) ≡ None
none_named None name rows e = refl
none_named (Some a) name rows e = absurd (none-some _ e)

-- ---- a switch

told : (flag b d : Bool) → (b ≡ true → flag ≡ true) → (d ≡ true → flag ≡ false)
    → IfSome (if b then Some true else if d then Some false else None) (λ found. flag ≡ found)
told flag true d on off = on refl
told flag false true on off = off refl
told flag false false on off = tt

pub flag_told : (text : Option Text) (flag : Bool) → (text ≡ None → flag ≡ false)
    → (text ≡ Some (codes "true") → flag ≡ true) → (text ≡ Some (codes "false") → flag ≡ false) → IfSome (flag_of text) (λ found. flag ≡ found)
flag_told None flag none on off = none refl
flag_told (Some text) flag none on off = told flag (bytes_eq text (codes "true")) (bytes_eq text (codes "false"))
    (λ e. on (ap Some ((bytes_eq-Decides text (codes "true")).0 e))) (λ e. off (ap Some ((bytes_eq-Decides text (codes "false")).0 e)))

-- a switch whose text is known
switched : {X : Type 0} (known : Option Bool) (flag : Bool) (of : Bool → Option X) (P : X → Type 0)
    → IfSome known (λ other. flag ≡ other) → IfSome (of flag) P → IfSome (option_and_then of known) P
switched None flag of P same asked = tt
switched (Some other) flag of P same asked = subst (λ (b : Bool). IfSome (of b) P) same asked

-- the last of them
told_last : {X : Type 0} (known : Option Bool) (flag : Bool) (of : Bool → X) (P : X → Type 0)
    → IfSome known (λ other. flag ≡ other) → P (of flag) → IfSome (option_map of known) P
told_last None flag of P same asked = tt
told_last (Some other) flag of P same asked = subst (λ (b : Bool). P (of b)) same asked

pub by_switches : (name : Text) (given : Words) (journal explain json strict : Bool) (P : Option Job → Type 0)
    → IfSome (flag_of given.journal) (λ other. journal ≡ other) → IfSome (flag_of given.explain) (λ other. explain ≡ other)
    → IfSome (flag_of given.json) (λ other. json ≡ other) → IfSome (flag_of given.strict) (λ other. strict ≡ other)
    → P (job_of_name name given.word given.workers given.file journal explain json strict) → IfSome (job_by name given) P
by_switches name given journal explain json strict P same alike like equal asked =
    let job : Bool → Bool → Bool → Bool → Option Job = λ s n e j. job_of_name name given.word given.workers given.file j e n s in
    switched (flag_of given.strict) strict (λ s. option_and_then (λ n. option_and_then (λ e. option_map (job s n e) (flag_of given.journal)) (flag_of given.explain)) (flag_of given.json)) P equal
    (switched (flag_of given.json) json (λ n. option_and_then (λ e. option_map (job strict n e) (flag_of given.journal)) (flag_of given.explain)) P like
    (switched (flag_of given.explain) explain (λ e. option_map (job strict json e) (flag_of given.journal)) P alike
    (told_last (flag_of given.journal) journal (job strict json explain) P same asked)))
