-- What a reply line says of its event, for `gate run --strict`.
use Rattle.std.specs.Prelude.{ℕ, ◌==◌, Bool, false, ◌||◌, ◌&&◌, not, if◌then◌else◌, List, [], ◌∷◌, codes}
use Rattle.std.specs.List.{starts_with}
use Rattle.gate_run.specs.declared.outcome.Outcome.{Outcome}
use Rattle.gate_run.specs.declared.outcome.Outcome.TheVariants.{Answered, Denied, Refused}

-- these bytes stand at the front of a text
abbrev pub begins : List ℕ → List ℕ → Bool
begins text front = starts_with (λ (x y : ℕ). x == y) text front

-- these bytes stand somewhere in a text
abbrev pub has_part : List ℕ → List ℕ → Bool
has_part part [] = false
has_part part (x ∷ xs) = begins (x ∷ xs) part || has_part part xs

-- an answer to a user is an error, or says of a transaction that it isn't allowed
abbrev pub is_unfulfilled : List ℕ → Bool
is_unfulfilled reply = begins reply (codes "rpc ") && (not (begins reply (codes "rpc 200 ")) || has_part (codes "\"allowed\":false") reply)

-- a line was refused, or memory ran out in its step
abbrev pub is_refused : List ℕ → Bool
is_refused reply = begins reply (codes "refused ") || begins reply (codes "fault ")

abbrev pub is_denied : List ℕ → Bool
is_denied reply = begins reply (codes "denied ") || is_unfulfilled reply

abbrev pub outcome_of : List ℕ → Outcome
outcome_of reply = if is_refused reply then Refused else if is_denied reply then Denied else Answered

-- the status that tells of it
abbrev pub status_of : Outcome → ℕ
status_of Answered = 0
status_of Denied = 1
status_of Refused = 3
