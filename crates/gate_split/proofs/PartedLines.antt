-- Lanes have the lines of their input.
use Rattle.std.proofs.Common.{◌≡◌, ℕ, ◌<◌, ◌==◌, ◌||◌, ◌⊎◌, inl, inr, if◌then◌else◌, Bool, true, false, List, [], ◌∷◌, ◌++◌, length, map, refl, sym, ap, subst, ◌∙◌, arith, append_assoc, append-nil, codes}
use Rattle.std.specs.List.{concat}
use Rattle.std.specs.Str.{bytes_eq}
use Rattle.std.proofs.lemmas.Slice.Eq.{bytes_eq-Decides}
use Rattle.std.proofs.lemmas.Bool.Decides.{Decides-eqb, not_from_Decides}
use Rattle.std.proofs.lemmas.List.{append_cancel_right}
use Rattle.gate_lines.specs.Lines.{LacksNewline, EachLacksNewline, lines_of, unlines}
use Rattle.gate_lines.proofs.LineLists.{lines_of-whole, lines_of-rest}
use Rattle.gate_split.specs.Parts.{before, begun_lanes, behind, ended_lines, first_lanes, is_closing, is_parting, rounds_of}
use Rattle.gate_split.specs.PartedLines.{LanesHaveTheLines, begins_lane, ends_round, parted_lines}
use Rattle.gate_split.proofs.Lines.{ended_lines-whole, ended_lines-rest}

-- ---- lines with their newlines and without

-- the same line, with its newline, or as the last one of a text without
abbrev IsEnded : List ℕ → List ℕ → List (List ℕ) → Type 0
IsEnded ended line more = (ended ≡ line ++ 10 ∷ []) ⊎ ((ended ≡ line) × (0 < length line) × (more ≡ []))

abbrev Ended : List (List ℕ) → List (List ℕ) → Type 0
Ended [] [] = Unit {0}
Ended [] (l ∷ ls) = ⊥
Ended (e ∷ es) [] = ⊥
Ended (e ∷ es) (l ∷ ls) = LacksNewline l × IsEnded e l es × Ended es ls

ended_rest : (rest : List ℕ) → LacksNewline rest → Ended (ended_lines rest) (lines_of rest)
ended_rest [] clean = tt
ended_rest (x ∷ xs) clean =
    let some : 0 < length (x ∷ xs) = omega arith in
    subst (λ (es : List (List ℕ)). Ended es (lines_of (x ∷ xs))) (sym (ended_lines-rest (x ∷ xs) clean some))
    (subst (λ (ls : List (List ℕ)). Ended ((x ∷ xs) ∷ []) ls) (sym (lines_of-rest (x ∷ xs) clean some)) (clean, inr (refl, some, refl), tt))

ended_text : (lines : List (List ℕ)) (rest : List ℕ) → EachLacksNewline lines → LacksNewline rest → Ended (ended_lines (unlines lines ++ rest)) (lines_of (unlines lines ++ rest))
ended_text [] rest clean bare = ended_rest rest bare
ended_text (line ∷ lines) rest clean bare =
    let more = unlines lines ++ rest in
    let text : unlines (line ∷ lines) ++ rest ≡ line ++ 10 ∷ more = append_assoc line (10 ∷ unlines lines) rest in
    subst (λ (t : List ℕ). Ended (ended_lines t) (lines_of t)) (sym text)
    (subst (λ (es : List (List ℕ)). Ended es (lines_of (line ++ 10 ∷ more))) (sym (ended_lines-whole line more clean.0))
    (subst (λ (ls : List (List ℕ)). Ended ((line ++ 10 ∷ []) ∷ ended_lines more) ls) (sym (lines_of-whole line more clean.0)) (clean.0, inl refl, ended_text lines rest clean.1 bare)))

-- ---- the line that is a word, with its newline or without

no_newline_last : (line : List ℕ) → LacksNewline (line ++ 10 ∷ []) → ⊥
no_newline_last [] h = h.0 refl
no_newline_last (x ∷ xs) h = no_newline_last xs h.1

is_false : (b : Bool) → (b ≡ true → ⊥) → b ≡ false
is_false true h = absurd (h refl)
is_false false h = refl

are_same : (a b : Bool) → (a ≡ true → b ≡ true) → (b ≡ true → a ≡ true) → a ≡ b
are_same true b h k = sym (h refl)
are_same false true h k = k refl
are_same false false h k = refl

or_false : (b : Bool) → (b || false) ≡ b
or_false true = refl
or_false false = refl

word_rest : (word line : List ℕ) → LacksNewline line → (bytes_eq line (word ++ 10 ∷ []) || bytes_eq line word) ≡ bytes_eq line word
word_rest word line clean =
    let other : bytes_eq line (word ++ 10 ∷ []) ≡ false =
    is_false _ (λ e. no_newline_last word (subst LacksNewline ((bytes_eq-Decides line (word ++ 10 ∷ [])).0 e) clean)) in
    ap (λ b. b || bytes_eq line word) other

word_whole : (word line : List ℕ) → LacksNewline word → (bytes_eq (line ++ 10 ∷ []) (word ++ 10 ∷ []) || bytes_eq (line ++ 10 ∷ []) word) ≡ bytes_eq line word
word_whole word line lacks =
    let bare : bytes_eq (line ++ 10 ∷ []) word ≡ false =
    is_false _ (λ e. no_newline_last line (subst LacksNewline (sym ((bytes_eq-Decides (line ++ 10 ∷ []) word).0 e)) lacks)) in
    let same : bytes_eq (line ++ 10 ∷ []) (word ++ 10 ∷ []) ≡ bytes_eq line word =
    are_same _ _
    (λ e. (bytes_eq-Decides line word).1 (append_cancel_right line word (10 ∷ []) ((bytes_eq-Decides (line ++ 10 ∷ []) (word ++ 10 ∷ [])).0 e)))
    (λ e. (bytes_eq-Decides (line ++ 10 ∷ []) (word ++ 10 ∷ [])).1 (ap (λ l. l ++ 10 ∷ []) ((bytes_eq-Decides line word).0 e))) in
    ap (λ b. bytes_eq (line ++ 10 ∷ []) (word ++ 10 ∷ []) || b) bare ∙ or_false _ ∙ same

-- both tests tell the same
abbrev Agree : (List ℕ → Bool) → (List ℕ → Bool) → Type 0
Agree test bare = (e l : List ℕ) (es : List (List ℕ)) → LacksNewline l → IsEnded e l es → test e ≡ bare l

word_agrees : (word : List ℕ) → LacksNewline word → Agree (λ line. bytes_eq line (word ++ 10 ∷ []) || bytes_eq line word) (λ line. bytes_eq line word)
word_agrees word lacks e l es clean (inl whole) = ap (λ t. bytes_eq t (word ++ 10 ∷ []) || bytes_eq t word) whole ∙ word_whole word l lacks
word_agrees word lacks e l es clean (inr (is, some, none)) = ap (λ t. bytes_eq t (word ++ 10 ∷ []) || bytes_eq t word) is ∙ word_rest word l clean

lane_agrees : Agree is_parting begins_lane
lane_agrees = word_agrees (codes "---") (λ e. cc, (λ e. cc, (λ e. cc, tt)))

round_agrees : Agree is_closing ends_round
round_agrees = word_agrees (codes "===") (λ e. cc, (λ e. cc, (λ e. cc, tt)))

-- ---- parts

abbrev EndedAll : List (List (List ℕ)) → List (List (List ℕ)) → Type 0
EndedAll [] [] = Unit {0}
EndedAll [] (l ∷ ls) = ⊥
EndedAll (e ∷ es) [] = ⊥
EndedAll (e ∷ es) (l ∷ ls) = Ended e l × EndedAll es ls

before-nil : (test : List ℕ → Bool) (lines : List (List ℕ)) → lines ≡ [] → before test lines ≡ []
before-nil test lines none = ap (before test) none

ended_on : (e l : List ℕ) (more less : List (List ℕ)) → (more ≡ [] → less ≡ []) → IsEnded e l more → IsEnded e l less
ended_on e l more less none (inl whole) = inl whole
ended_on e l more less none (inr (is, some, last)) = inr (is, some, none last)

before_step : (b : Bool) (e l : List ℕ) (es ls : List (List ℕ)) → LacksNewline l → IsEnded e l es → Ended es ls → Ended (if b then [] else e ∷ es) (if b then [] else l ∷ ls)
before_step true e l es ls clean is rest = tt
before_step false e l es ls clean is rest = (clean, is, rest)

ended_before : (test bare : List ℕ → Bool) → Agree test bare → (es ls : List (List ℕ)) → Ended es ls → Ended (before test es) (before bare ls)
ended_before test bare agree [] [] h = tt
ended_before test bare agree [] (l ∷ ls) h = absurd h
ended_before test bare agree (e ∷ es) [] h = absurd h
ended_before test bare agree (e ∷ es) (l ∷ ls) (clean, is, rest) =
    subst (λ (b : Bool). Ended (if b then [] else e ∷ before test es) (before bare (l ∷ ls))) (sym (agree e l es clean is))
    (before_step (bare l) e l (before test es) (before bare ls) clean (ended_on e l es (before test es) (before-nil test es) is) (ended_before test bare agree es ls rest))

behind_step : (b : Bool) (e l : List (List ℕ)) (es ls : List (List (List ℕ))) → Ended e l → EndedAll es ls → EndedAll (if b then e ∷ es else es) (if b then l ∷ ls else ls)
behind_step true e l es ls first rest = (first, rest)
behind_step false e l es ls first rest = rest

ended_behind : (test bare : List ℕ → Bool) → Agree test bare → (es ls : List (List ℕ)) → Ended es ls → EndedAll (behind test es) (behind bare ls)
ended_behind test bare agree [] [] h = tt
ended_behind test bare agree [] (l ∷ ls) h = absurd h
ended_behind test bare agree (e ∷ es) [] h = absurd h
ended_behind test bare agree (e ∷ es) (l ∷ ls) (clean, is, rest) =
    subst (λ (b : Bool). EndedAll (if b then before test es ∷ behind test es else behind test es) (behind bare (l ∷ ls))) (sym (agree e l es clean is))
    (behind_step (bare l) (before test es) (before bare ls) (behind test es) (behind bare ls) (ended_before test bare agree es ls rest) (ended_behind test bare agree es ls rest))

-- ---- the lines of lanes

none_left : (es ls : List (List ℕ)) → es ≡ [] → Ended es ls → ls ≡ []
none_left es [] none h = refl
none_left es (l ∷ ls) none h = absurd (subst (λ (t : List (List ℕ)). Ended t (l ∷ ls)) none h)

lines_of-concat : (es ls : List (List ℕ)) → Ended es ls → lines_of (concat es) ≡ ls
lines_of-concat [] [] h = refl
lines_of-concat [] (l ∷ ls) h = absurd h
lines_of-concat (e ∷ es) [] h = absurd h
lines_of-concat (e ∷ es) (l ∷ ls) (clean, inl whole, rest) =
    ap (λ t. lines_of (t ++ concat es)) whole ∙ ap lines_of (append_assoc l (10 ∷ []) (concat es)) ∙ lines_of-whole l (concat es) clean
    ∙ ap (λ more. l ∷ more) (lines_of-concat es ls rest)
lines_of-concat (e ∷ es) (l ∷ ls) (clean, inr (is, some, none), rest) =
    ap (λ t. lines_of (t ++ concat es)) is ∙ ap (λ t. lines_of (l ++ concat t)) none ∙ ap lines_of (append-nil l) ∙ lines_of-rest l clean some
    ∙ ap (λ more. l ∷ more) (sym (none_left es ls none rest))

lines_of-each : (es ls : List (List (List ℕ))) → EndedAll es ls → map lines_of (map concat es) ≡ ls
lines_of-each [] [] h = refl
lines_of-each [] (l ∷ ls) h = absurd h
lines_of-each (e ∷ es) [] h = absurd h
lines_of-each (e ∷ es) (l ∷ ls) (first, rest) = ap (λ x. x ∷ map lines_of (map concat es)) (lines_of-concat e l first) ∙ ap (λ xs. l ∷ xs) (lines_of-each es ls rest)

begun_lines : (es ls : List (List ℕ)) → Ended es ls → map lines_of (begun_lanes es) ≡ behind begins_lane ls
begun_lines es ls h = lines_of-each (behind is_parting es) (behind begins_lane ls) (ended_behind is_parting begins_lane lane_agrees es ls h)

first_lines : (es ls : List (List ℕ)) → Ended es ls → map lines_of (first_lanes es) ≡ before begins_lane ls ∷ behind begins_lane ls
first_lines es ls h =
    ap (λ x. x ∷ map lines_of (begun_lanes es)) (lines_of-concat (before is_parting es) (before begins_lane ls) (ended_before is_parting begins_lane lane_agrees es ls h))
    ∙ ap (λ xs. before begins_lane ls ∷ xs) (begun_lines es ls h)

later_lines : (es ls : List (List (List ℕ))) → EndedAll es ls → map (map lines_of) (map begun_lanes es) ≡ map (behind begins_lane) ls
later_lines [] [] h = refl
later_lines [] (l ∷ ls) h = absurd h
later_lines (e ∷ es) [] h = absurd h
later_lines (e ∷ es) (l ∷ ls) (first, rest) = ap (λ x. x ∷ map (map lines_of) (map begun_lanes es)) (begun_lines e l first) ∙ ap (λ xs. behind begins_lane l ∷ xs) (later_lines es ls rest)

all_lines : (es ls : List (List ℕ)) → Ended es ls → map (map lines_of) (first_lanes (before is_closing es) ∷ map begun_lanes (behind is_closing es)) ≡ parted_lines ls
all_lines es ls h =
    ap (λ x. x ∷ map (map lines_of) (map begun_lanes (behind is_closing es))) (first_lines (before is_closing es) (before ends_round ls) (ended_before is_closing ends_round round_agrees es ls h))
    ∙ ap (λ xs. (before begins_lane (before ends_round ls) ∷ behind begins_lane (before ends_round ls)) ∷ xs) (later_lines (behind is_closing es) (behind ends_round ls) (ended_behind is_closing ends_round round_agrees es ls h))

-- ---- any text

record Lined (text : List ℕ) : Type 0 where
  lines : List (List ℕ)
  rest : List ℕ
  clean : EachLacksNewline lines
  bare : LacksNewline rest
  is : text ≡ unlines lines ++ rest

lined_byte : (x : ℕ) (xs : List ℕ) → (x ≡ 10 → ⊥) → Lined xs → Lined (x ∷ xs)
lined_byte x xs other l = by l.lines l.clean l.is
  where
    by : (lines : List (List ℕ)) → EachLacksNewline lines → xs ≡ unlines lines ++ l.rest → Lined (x ∷ xs)
    by [] clean is = record { lines = []; rest = x ∷ l.rest; clean = tt; bare = (other, l.bare); is = ap (λ t. x ∷ t) is }
    by (line ∷ lines) clean is = record { lines = (x ∷ line) ∷ lines; rest = l.rest; clean = ((other, clean.0), clean.1); bare = l.bare; is = ap (λ t. x ∷ t) is }

lined_next : (b : Bool) (x : ℕ) (xs : List ℕ) → (b ≡ true → x ≡ 10) → (b ≡ false → x ≡ 10 → ⊥) → Lined xs → Lined (x ∷ xs)
lined_next true x xs is other l = record { lines = [] ∷ l.lines; rest = l.rest; clean = (tt, l.clean); bare = l.bare; is = ap (λ y. y ∷ xs) (is refl) ∙ ap (λ t. 10 ∷ t) l.is }
lined_next false x xs is other l = lined_byte x xs (other refl) l

lined : (text : List ℕ) → Lined text
lined [] = record { lines = []; rest = []; clean = tt; bare = tt; is = refl }
lined (x ∷ xs) = lined_next (x == 10) x xs (Decides-eqb x 10).0 (λ e. not_from_Decides (x == 10) (Decides-eqb x 10) e) (lined xs)

pub lanes_have_the_lines : LanesHaveTheLines
lanes_have_the_lines text =
    let l = lined text in
    let ended : Ended (ended_lines text) (lines_of text) = subst (λ (t : List ℕ). Ended (ended_lines t) (lines_of t)) (sym l.is) (ended_text l.lines l.rest l.clean l.bare) in
    all_lines (ended_lines text) (lines_of text) ended
