-- What the commands of the program make of the words that are told of them, by computation.
use Rattle.std.proofs.Common.{◌≡◌, ◌≢◌, ℕ, ◌==◌, Bool, true, false, List, [], ◌∷◌, codes, Option, Some, None, refl, arith}
use Rattle.std.proofs.lemmas.Bool.Decides.{nat_tests}
use Rattle.clap.specs.Words.{Text, subcommand_of, takes}
use Rattle.clap.proofs.OnLiterals.{clap_on_literals}
use Rattle.gate_command.specs.declared.job.Explain.{Explain}
use Rattle.gate_command.specs.declared.job.Explain.TheVariants as explains
use Rattle.gate_command.specs.Commands.{IsPlainIfGiven, IsPlainWord, audit_words, former_run_words, gate_app, lanes_words, named_of, run_words, words}

-- the text of a switch
abbrev pub switch_text : Bool → Text
switch_text true = codes "true"
switch_text false = codes "false"

is_other : (x : ℕ) → x ≢ 45 → (x == 45) ≡ false
is_other x h = grind (arith, nat_tests)

-- ---- commands without a word

pub rules_named : named_of (subcommand_of gate_app (codes "rules" ∷ [])) ≡ Some (codes "rules", words None None None None None None None)
unfolding clap_on_literals
rules_named = refl

pub rules_taken : takes gate_app (codes "rules" ∷ []) ≡ true
unfolding clap_on_literals
rules_taken = refl

pub settings_named : named_of (subcommand_of gate_app (codes "settings" ∷ [])) ≡ Some (codes "settings", words None None None None None None None)
unfolding clap_on_literals
settings_named = refl

pub settings_taken : takes gate_app (codes "settings" ∷ []) ≡ true
unfolding clap_on_literals
settings_taken = refl

-- ---- commands with a word

pub input_named : named_of (subcommand_of gate_app (codes "check" ∷ codes "-" ∷ [])) ≡ Some (codes "check", words (Some (codes "-")) None None None None None None)
unfolding clap_on_literals
input_named = refl

pub input_taken : takes gate_app (codes "check" ∷ codes "-" ∷ []) ≡ true
unfolding clap_on_literals
input_taken = refl

nothing_named : named_of (subcommand_of gate_app (codes "check" ∷ [] ∷ [])) ≡ Some (codes "check", words (Some []) None None None None None None)
unfolding clap_on_literals
nothing_named = refl

nothing_taken : takes gate_app (codes "check" ∷ [] ∷ []) ≡ true
unfolding clap_on_literals
nothing_taken = refl

digits_named : (x : ℕ) (xs : List ℕ) → (x == 45) ≡ false → named_of (subcommand_of gate_app (codes "check" ∷ (x ∷ xs) ∷ [])) ≡ Some (codes "check", words (Some (x ∷ xs)) None None None None None None)
unfolding clap_on_literals
digits_named x xs e = rw (e, e)

digits_taken : (x : ℕ) (xs : List ℕ) → (x == 45) ≡ false → takes gate_app (codes "check" ∷ (x ∷ xs) ∷ []) ≡ true
unfolding clap_on_literals
digits_taken x xs e = rw (e, e)

pub plain_named : (digits : List ℕ) → IsPlainWord digits → named_of (subcommand_of gate_app (codes "check" ∷ digits ∷ [])) ≡ Some (codes "check", words (Some digits) None None None None None None)
plain_named [] h = nothing_named
plain_named (x ∷ xs) h = digits_named x xs (is_other x h)

pub plain_taken : (digits : List ℕ) → IsPlainWord digits → takes gate_app (codes "check" ∷ digits ∷ []) ≡ true
plain_taken [] h = nothing_taken
plain_taken (x ∷ xs) h = digits_taken x xs (is_other x h)

no_word_named : named_of (subcommand_of gate_app (codes "explain" ∷ [] ∷ [])) ≡ Some (codes "explain", words (Some []) None None None None None None)
unfolding clap_on_literals
no_word_named = refl

no_word_taken : takes gate_app (codes "explain" ∷ [] ∷ []) ≡ true
unfolding clap_on_literals
no_word_taken = refl

word_named : (x : ℕ) (xs : List ℕ) → (x == 45) ≡ false → named_of (subcommand_of gate_app (codes "explain" ∷ (x ∷ xs) ∷ [])) ≡ Some (codes "explain", words (Some (x ∷ xs)) None None None None None None)
unfolding clap_on_literals
word_named x xs e = rw (e, e)

word_taken : (x : ℕ) (xs : List ℕ) → (x == 45) ≡ false → takes gate_app (codes "explain" ∷ (x ∷ xs) ∷ []) ≡ true
unfolding clap_on_literals
word_taken x xs e = rw (e, e)

pub explain_named : (word : List ℕ) → IsPlainWord word → named_of (subcommand_of gate_app (codes "explain" ∷ word ∷ [])) ≡ Some (codes "explain", words (Some word) None None None None None None)
explain_named [] h = no_word_named
explain_named (x ∷ xs) h = word_named x xs (is_other x h)

pub explain_taken : (word : List ℕ) → IsPlainWord word → takes gate_app (codes "explain" ∷ word ∷ []) ≡ true
explain_taken [] h = no_word_taken
explain_taken (x ∷ xs) h = word_taken x xs (is_other x h)

-- ---- lanes

two_named : (journal explain : Bool) → named_of (subcommand_of gate_app (lanes_words None journal explain)) ≡ Some (codes "lanes", words None None None (Some (switch_text journal)) (Some (switch_text explain)) None None)
unfolding clap_on_literals
two_named true true = refl
two_named true false = refl
two_named false true = refl
two_named false false = refl

two_taken : (journal explain : Bool) → takes gate_app (lanes_words None journal explain) ≡ true
unfolding clap_on_literals
two_taken true true = refl
two_taken true false = refl
two_taken false true = refl
two_taken false false = refl

no_number_named : (journal explain : Bool) → named_of (subcommand_of gate_app (lanes_words (Some []) journal explain)) ≡ Some (codes "lanes", words None (Some []) None (Some (switch_text journal)) (Some (switch_text explain)) None None)
unfolding clap_on_literals
no_number_named true true = refl
no_number_named true false = refl
no_number_named false true = refl
no_number_named false false = refl

no_number_taken : (journal explain : Bool) → takes gate_app (lanes_words (Some []) journal explain) ≡ true
unfolding clap_on_literals
no_number_taken true true = refl
no_number_taken true false = refl
no_number_taken false true = refl
no_number_taken false false = refl

number_named : (x : ℕ) (xs : List ℕ) (journal explain : Bool) → (x == 45) ≡ false
    → named_of (subcommand_of gate_app (lanes_words (Some (x ∷ xs)) journal explain)) ≡ Some (codes "lanes", words None (Some (x ∷ xs)) None (Some (switch_text journal)) (Some (switch_text explain)) None None)
unfolding clap_on_literals
number_named x xs true true e = rw (e, e)
number_named x xs true false e = rw (e, e)
number_named x xs false true e = rw (e, e)
number_named x xs false false e = rw (e, e)

number_taken : (x : ℕ) (xs : List ℕ) (journal explain : Bool) → (x == 45) ≡ false → takes gate_app (lanes_words (Some (x ∷ xs)) journal explain) ≡ true
unfolding clap_on_literals
number_taken x xs true true e = rw (e, e)
number_taken x xs true false e = rw (e, e)
number_taken x xs false true e = rw (e, e)
number_taken x xs false false e = rw (e, e)

pub lanes_named : (workers : Option Text) (journal explain : Bool) → IsPlainIfGiven workers
    → named_of (subcommand_of gate_app (lanes_words workers journal explain)) ≡ Some (codes "lanes", words None workers None (Some (switch_text journal)) (Some (switch_text explain)) None None)
lanes_named None journal explain h = two_named journal explain
lanes_named (Some []) journal explain h = no_number_named journal explain
lanes_named (Some (x ∷ xs)) journal explain h = number_named x xs journal explain (is_other x h)

pub lanes_taken : (workers : Option Text) (journal explain : Bool) → IsPlainIfGiven workers → takes gate_app (lanes_words workers journal explain) ≡ true
lanes_taken None journal explain h = two_taken journal explain
lanes_taken (Some []) journal explain h = no_number_taken journal explain
lanes_taken (Some (x ∷ xs)) journal explain h = number_taken x xs journal explain (is_other x h)

-- ---- audits and runs

-- the two switches of an explanation
abbrev pub in_words : Explain → Bool
in_words explains.Words = true
in_words other = false

abbrev pub in_json : Explain → Bool
in_json explains.Json = true
in_json other = false

pub audit_named : (explain : Explain)
    → named_of (subcommand_of gate_app (audit_words explain)) ≡ Some (codes "audit", words None None None None (Some (switch_text (in_words explain))) (Some (switch_text (in_json explain))) None)
unfolding clap_on_literals
audit_named explains.No = refl
audit_named explains.Words = refl
audit_named explains.Json = refl

pub audit_taken : (explain : Explain) → takes gate_app (audit_words explain) ≡ true
unfolding clap_on_literals
audit_taken explains.No = refl
audit_taken explains.Words = refl
audit_taken explains.Json = refl

free_run_named : (explain : Explain) (strict : Bool)
    → named_of (subcommand_of gate_app (run_words None explain strict)) ≡ Some (codes "run", words None None None None (Some (switch_text (in_words explain))) (Some (switch_text (in_json explain))) (Some (switch_text strict)))
unfolding clap_on_literals
free_run_named explains.No true = refl
free_run_named explains.No false = refl
free_run_named explains.Words true = refl
free_run_named explains.Words false = refl
free_run_named explains.Json true = refl
free_run_named explains.Json false = refl

free_run_taken : (explain : Explain) (strict : Bool) → takes gate_app (run_words None explain strict) ≡ true
unfolding clap_on_literals
free_run_taken explains.No true = refl
free_run_taken explains.No false = refl
free_run_taken explains.Words true = refl
free_run_taken explains.Words false = refl
free_run_taken explains.Json true = refl
free_run_taken explains.Json false = refl

no_file_named : (explain : Explain) (strict : Bool)
    → named_of (subcommand_of gate_app (run_words (Some []) explain strict)) ≡ Some (codes "run", words None None (Some []) None (Some (switch_text (in_words explain))) (Some (switch_text (in_json explain))) (Some (switch_text strict)))
unfolding clap_on_literals
no_file_named explains.No true = refl
no_file_named explains.No false = refl
no_file_named explains.Words true = refl
no_file_named explains.Words false = refl
no_file_named explains.Json true = refl
no_file_named explains.Json false = refl

no_file_taken : (explain : Explain) (strict : Bool) → takes gate_app (run_words (Some []) explain strict) ≡ true
unfolding clap_on_literals
no_file_taken explains.No true = refl
no_file_taken explains.No false = refl
no_file_taken explains.Words true = refl
no_file_taken explains.Words false = refl
no_file_taken explains.Json true = refl
no_file_taken explains.Json false = refl

file_named : (x : ℕ) (xs : List ℕ) (explain : Explain) (strict : Bool) → (x == 45) ≡ false
    → named_of (subcommand_of gate_app (run_words (Some (x ∷ xs)) explain strict)) ≡ Some (codes "run", words None None (Some (x ∷ xs)) None (Some (switch_text (in_words explain))) (Some (switch_text (in_json explain))) (Some (switch_text strict)))
unfolding clap_on_literals
file_named x xs explains.No true e = rw (e, e)
file_named x xs explains.No false e = rw (e, e)
file_named x xs explains.Words true e = rw (e, e)
file_named x xs explains.Words false e = rw (e, e)
file_named x xs explains.Json true e = rw (e, e)
file_named x xs explains.Json false e = rw (e, e)

file_taken : (x : ℕ) (xs : List ℕ) (explain : Explain) (strict : Bool) → (x == 45) ≡ false → takes gate_app (run_words (Some (x ∷ xs)) explain strict) ≡ true
unfolding clap_on_literals
file_taken x xs explains.No true e = rw (e, e)
file_taken x xs explains.No false e = rw (e, e)
file_taken x xs explains.Words true e = rw (e, e)
file_taken x xs explains.Words false e = rw (e, e)
file_taken x xs explains.Json true e = rw (e, e)
file_taken x xs explains.Json false e = rw (e, e)

pub run_named : (file : Option Text) (explain : Explain) (strict : Bool) → IsPlainIfGiven file
    → named_of (subcommand_of gate_app (run_words file explain strict)) ≡ Some (codes "run", words None None file None (Some (switch_text (in_words explain))) (Some (switch_text (in_json explain))) (Some (switch_text strict)))
run_named None explain strict h = free_run_named explain strict
run_named (Some []) explain strict h = no_file_named explain strict
run_named (Some (x ∷ xs)) explain strict h = file_named x xs explain strict (is_other x h)

pub run_taken : (file : Option Text) (explain : Explain) (strict : Bool) → IsPlainIfGiven file → takes gate_app (run_words file explain strict) ≡ true
run_taken None explain strict h = free_run_taken explain strict
run_taken (Some []) explain strict h = no_file_taken explain strict
run_taken (Some (x ∷ xs)) explain strict h = file_taken x xs explain strict (is_other x h)

-- ---- runs with a number of workers, as they were

no_workers_named : (explain : Bool) → named_of (subcommand_of gate_app (former_run_words [] explain)) ≡ Some (codes "run", words None (Some []) None None (Some (switch_text explain)) (Some (codes "false")) (Some (codes "false")))
unfolding clap_on_literals
no_workers_named true = refl
no_workers_named false = refl

no_workers_taken : (explain : Bool) → takes gate_app (former_run_words [] explain) ≡ true
unfolding clap_on_literals
no_workers_taken true = refl
no_workers_taken false = refl

workers_named : (x : ℕ) (xs : List ℕ) (explain : Bool) → (x == 45) ≡ false
    → named_of (subcommand_of gate_app (former_run_words (x ∷ xs) explain)) ≡ Some (codes "run", words None (Some (x ∷ xs)) None None (Some (switch_text explain)) (Some (codes "false")) (Some (codes "false")))
unfolding clap_on_literals
workers_named x xs true e = rw (e, e)
workers_named x xs false e = rw (e, e)

workers_taken : (x : ℕ) (xs : List ℕ) (explain : Bool) → (x == 45) ≡ false → takes gate_app (former_run_words (x ∷ xs) explain) ≡ true
unfolding clap_on_literals
workers_taken x xs true e = rw (e, e)
workers_taken x xs false e = rw (e, e)

pub former_named : (workers : Text) (explain : Bool) → IsPlainWord workers
    → named_of (subcommand_of gate_app (former_run_words workers explain)) ≡ Some (codes "run", words None (Some workers) None None (Some (switch_text explain)) (Some (codes "false")) (Some (codes "false")))
former_named [] explain h = no_workers_named explain
former_named (x ∷ xs) explain h = workers_named x xs explain (is_other x h)

pub former_taken : (workers : Text) (explain : Bool) → IsPlainWord workers → takes gate_app (former_run_words workers explain) ≡ true
former_taken [] explain h = no_workers_taken explain
former_taken (x ∷ xs) explain h = workers_taken x xs explain (is_other x h)
