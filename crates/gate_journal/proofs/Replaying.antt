-- Runs over journals, one entry after another.
use Rattle.std.proofs.Common.{◌≡◌, ℕ, ◌+◌, ◌-◌, List, [], ◌∷◌, ◌++◌, take, drop, refl, sym, ◌∙◌, subst}
use Rattle.std.proofs.lemmas.List.{take-append-drop}
use Rattle.gate_core.specs.World.{World}
use Rattle.gate_core.specs.Steps.{step_of}
use Rattle.gate_journal.specs.declared.entry.Entry.{Entry}
use Rattle.gate_journal.specs.Legal.{AreLegalRounds, IsLegal, joined, state_after, state_after_rounds}

-- ---- a journal in two parts

pub state_after-append : (w : World) (es more : List Entry) → state_after w (es ++ more) ≡ state_after (state_after w es) more
state_after-append w [] more = refl
state_after-append w (e ∷ es) more = state_after-append (step_of w e.event).1 es more

-- the first entry of a legal journal, and the rest
pub legal-head : (w : World) (e : Entry) (es : List Entry) → IsLegal w (e ∷ es) → e.reply ≡ (step_of w e.event).0
legal-head w e es h = cc

pub legal-tail : (w : World) (e : Entry) (es : List Entry) → IsLegal w (e ∷ es) → IsLegal (step_of w e.event).1 es
legal-tail w e es h = cc

pub legal-cons : (w : World) (e : Entry) (es : List Entry) → e.reply ≡ (step_of w e.event).0 → IsLegal (step_of w e.event).1 es → IsLegal w (e ∷ es)
legal-cons w e es same rest = cc

pub legal-append : (w : World) (es more : List Entry) → IsLegal w es → IsLegal (state_after w es) more → IsLegal w (es ++ more)
legal-append w [] more first rest = rest
legal-append w (e ∷ es) more first rest =
    legal-cons w e (es ++ more) (legal-head w e es first) (legal-append (step_of w e.event).1 es more (legal-tail w e es first) rest)

pub legal-first : (w : World) (es more : List Entry) → IsLegal w (es ++ more) → IsLegal w es
legal-first w [] more h = refl
legal-first w (e ∷ es) more h =
    legal-cons w e es (legal-head w e (es ++ more) h) (legal-first (step_of w e.event).1 es more (legal-tail w e (es ++ more) h))

pub legal-rest : (w : World) (es more : List Entry) → IsLegal w (es ++ more) → IsLegal (state_after w es) more
legal-rest w [] more h = h
legal-rest w (e ∷ es) more h = legal-rest (step_of w e.event).1 es more (legal-tail w e (es ++ more) h)

pub legal-take : (w : World) (es : List Entry) (n : ℕ) → IsLegal w es → IsLegal w (take n es)
legal-take w es n h = legal-first w (take n es) (drop n es) (subst (IsLegal w) (sym (take-append-drop n es)) h)

-- ---- rounds

pub rounds-join : (w : World) (rounds : List (List Entry)) → AreLegalRounds w rounds → IsLegal w (joined rounds)
rounds-join w [] h = refl
rounds-join w (round ∷ rounds) (first, rest) = legal-append w round (joined rounds) first (rounds-join (state_after w round) rounds rest)

pub rounds-part : (w : World) (rounds : List (List Entry)) → IsLegal w (joined rounds) → AreLegalRounds w rounds
rounds-part w [] h = tt
rounds-part w (round ∷ rounds) h =
    (legal-first w round (joined rounds) h, rounds-part (state_after w round) rounds (legal-rest w round (joined rounds) h))

pub state_after-joined : (w : World) (rounds : List (List Entry)) → state_after_rounds w rounds ≡ state_after w (joined rounds)
state_after-joined w [] = refl
state_after-joined w (round ∷ rounds) =
    state_after-joined (state_after w round) rounds ∙ sym (state_after-append w round (joined rounds))

-- ---- one entry more

pub state_after-push : (w : World) (es : List Entry) (e : Entry) → state_after w (es ++ e ∷ []) ≡ (step_of (state_after w es) e.event).1
state_after-push w es e = state_after-append w es (e ∷ [])

pub legal-push : (w : World) (es : List Entry) (e : Entry) → IsLegal w es → e.reply ≡ (step_of (state_after w es) e.event).0 → IsLegal w (es ++ e ∷ [])
legal-push w es e h same = legal-append w es (e ∷ []) h (legal-cons (state_after w es) e [] same refl)
