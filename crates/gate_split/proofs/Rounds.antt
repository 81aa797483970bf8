-- What a line does to the rounds so far.
use Rattle.std.proofs.Common.{◌≡◌, ℕ, ◌+◌, ◌<◌, ◌≤◌, ◌↔◌, if◌then◌else◌, Bool, true, false, List, [], ◌∷◌, ◌++◌, length, map, Option, Some, None, refl, sym, ap, subst, ◌∙◌, arith, append_assoc, append-nil, length-append}
use Rattle.std.specs.List.{All, concat}
use Rattle.std.specs.Global.{Vec}
use Rattle.std.specs.Option.{option_map}
use Rattle.std.proofs.lemmas.Bool.{true≢false}
use Rattle.std.proofs.lemmas.List.{length-map, map-append}
use Rattle.std.proofs.lemmas.List.Elements.{All-nil, All-cons, All-head, All-tail}
use Rattle.gate_split.specs.Parts.{IsBegun, before, begun_lanes, behind, is_closing, is_idle, is_parting, lane_limit, lanes_in}
use Rattle.gate_split.specs.Splitting.{AreBegun, bytes_of, GoesOn, HasTooMany, IsCounted, LacksLane, SoFar, lanes_on, opened, rounds_bytes, rounds_on}

abbrev so : List (List (List ℕ)) → List (List ℕ) → Option (List ℕ) → ℕ → SoFar
so over whole last count = record { over = over; whole = whole; last = last; count = count }

-- ---- lines before and behind those of a test

before_yes : (test : List ℕ → Bool) (line : List ℕ) (lines : List (List ℕ)) → test line ≡ true → before test (line ∷ lines) ≡ []
before_yes test line lines holds = ap (λ b. if b then [] else line ∷ before test lines) holds

before_no : (test : List ℕ → Bool) (line : List ℕ) (lines : List (List ℕ)) → test line ≡ false → before test (line ∷ lines) ≡ line ∷ before test lines
before_no test line lines fails = ap (λ b. if b then [] else line ∷ before test lines) fails

behind_yes : (test : List ℕ → Bool) (line : List ℕ) (lines : List (List ℕ)) → test line ≡ true → behind test (line ∷ lines) ≡ before test lines ∷ behind test lines
behind_yes test line lines holds = ap (λ b. if b then before test lines ∷ behind test lines else behind test lines) holds

behind_no : (test : List ℕ → Bool) (line : List ℕ) (lines : List (List ℕ)) → test line ≡ false → behind test (line ∷ lines) ≡ behind test lines
behind_no test line lines fails = ap (λ b. if b then before test lines ∷ behind test lines else behind test lines) fails

-- ---- the lanes of a round

lane_kept : (last line : List ℕ) (lines : List (List ℕ)) → is_parting line ≡ false → lanes_on (Some last) (line ∷ lines) ≡ lanes_on (Some (last ++ line)) lines
lane_kept last line lines fails =
    ap (λ ls. (last ++ concat ls) ∷ begun_lanes (line ∷ lines)) (before_no is_parting line lines fails)
    ∙ ap (λ ls. (last ++ (line ++ concat (before is_parting lines))) ∷ map concat ls) (behind_no is_parting line lines fails)
    ∙ ap (λ bytes. bytes ∷ begun_lanes lines) (sym (append_assoc last line (concat (before is_parting lines))))

lane_parted : (last line : List ℕ) (lines : List (List ℕ)) → is_parting line ≡ true → lanes_on (Some last) (line ∷ lines) ≡ last ∷ lanes_on (Some []) lines
lane_parted last line lines holds =
    ap (λ ls. (last ++ concat ls) ∷ begun_lanes (line ∷ lines)) (before_yes is_parting line lines holds)
    ∙ ap (λ ls. (last ++ []) ∷ map concat ls) (behind_yes is_parting line lines holds)
    ∙ ap (λ bytes. bytes ∷ lanes_on (Some []) lines) (append-nil last)

none_kept : (line : List ℕ) (lines : List (List ℕ)) → is_parting line ≡ false → lanes_on None (line ∷ lines) ≡ lanes_on None lines
none_kept line lines fails = ap (map concat) (behind_no is_parting line lines fails)

none_parted : (line : List ℕ) (lines : List (List ℕ)) → is_parting line ≡ true → lanes_on None (line ∷ lines) ≡ lanes_on (Some []) lines
none_parted line lines holds = ap (map concat) (behind_yes is_parting line lines holds)

-- ---- rounds

-- a line that doesn't end the round
unclosed : (over : List (List (List ℕ))) (whole more_lanes : List (List ℕ)) (last last' : Option (List ℕ)) (count count' : ℕ) (line : List ℕ) (more : List (List ℕ)) → is_closing line ≡ false
    → ((lines : List (List ℕ)) → lanes_on last (line ∷ lines) ≡ more_lanes ++ lanes_on last' lines)
    → rounds_on (so over whole last count) (line ∷ more) ≡ rounds_on (so over (whole ++ more_lanes) last' count') more
unclosed over whole more_lanes last last' count count' line more fails go =
    ap (λ ls. over ++ (whole ++ lanes_on last ls) ∷ map begun_lanes (behind is_closing (line ∷ more))) (before_no is_closing line more fails)
    ∙ ap (λ rs. over ++ (whole ++ lanes_on last (line ∷ before is_closing more)) ∷ map begun_lanes rs) (behind_no is_closing line more fails)
    ∙ ap (λ ls. over ++ (whole ++ ls) ∷ map begun_lanes (behind is_closing more)) (go (before is_closing more))
    ∙ ap (λ ls. over ++ ls ∷ map begun_lanes (behind is_closing more)) (sym (append_assoc whole more_lanes (lanes_on last' (before is_closing more))))

-- the line that ends it
closed : (over : List (List (List ℕ))) (whole : List (List ℕ)) (last : List ℕ) (count count' : ℕ) (line : List ℕ) (more : List (List ℕ)) → is_closing line ≡ true
    → rounds_on (so over whole (Some last) count) (line ∷ more) ≡ rounds_on (so (over ++ (whole ++ last ∷ []) ∷ []) [] None count') more
closed over whole last count count' line more holds =
    ap (λ ls. over ++ (whole ++ lanes_on (Some last) ls) ∷ map begun_lanes (behind is_closing (line ∷ more))) (before_yes is_closing line more holds)
    ∙ ap (λ rs. over ++ (whole ++ (last ++ []) ∷ []) ∷ map begun_lanes rs) (behind_yes is_closing line more holds)
    ∙ ap (λ bytes. over ++ (whole ++ bytes ∷ []) ∷ map begun_lanes (before is_closing more ∷ behind is_closing more)) (append-nil last)
    ∙ sym (append_assoc over ((whole ++ last ∷ []) ∷ []) (map begun_lanes (before is_closing more ∷ behind is_closing more)))

-- ---- rounds that begin with a line `---`

cons_is_some : {X : Type 0} (x : X) (xs : List X) → x ∷ xs ≡ [] → ⊥
cons_is_some x xs none = omega (arith, ap length none)

abbrev Idle : List ℕ → Type 0
Idle line = is_idle line ≡ true

begun_parted : (line : List ℕ) (lines : List (List ℕ)) → is_parting line ≡ true → IsBegun (line ∷ lines)
begun_parted line lines holds = record {
  idle = subst (All Idle) (sym (before_yes is_parting line lines holds)) (All-nil Idle);
  begins = λ none. cons_is_some (before is_parting lines) (behind is_parting lines) (sym (behind_yes is_parting line lines holds) ∙ none);
}

begun_on : (line : List ℕ) (lines : List (List ℕ)) → is_parting line ≡ false → is_idle line ≡ true → IsBegun (line ∷ lines) → IsBegun lines
begun_on line lines fails idle h = record {
  idle = All-tail Idle line (before is_parting lines) (subst (All Idle) (before_no is_parting line lines fails) h.idle);
  begins = λ none. h.begins (behind_no is_parting line lines fails ∙ none);
}

begun_back : (line : List ℕ) (lines : List (List ℕ)) → is_parting line ≡ false → is_idle line ≡ true → IsBegun lines → IsBegun (line ∷ lines)
begun_back line lines fails idle h = record {
  idle = subst (All Idle) (sym (before_no is_parting line lines fails)) (All-cons Idle line (before is_parting lines) idle h.idle);
  begins = λ none. h.begins (sym (behind_no is_parting line lines fails) ∙ none);
}

not_begun : (line : List ℕ) (lines : List (List ℕ)) → is_parting line ≡ false → is_idle line ≡ false → IsBegun (line ∷ lines) → ⊥
not_begun line lines fails busy h =
    true≢false (sym (All-head Idle line (before is_parting lines) (subst (All Idle) (before_no is_parting line lines fails) h.idle)) ∙ busy)

nothing_begun : IsBegun [] → ⊥
nothing_begun h = h.begins refl

some_begun : (last last' line : List ℕ) (more : List (List ℕ)) → is_closing line ≡ false → (AreBegun (Some last) (line ∷ more) ↔ AreBegun (Some last') more)
some_begun last last' line more fails = (
  subst (All IsBegun) (behind_no is_closing line more fails),
  subst (All IsBegun) (sym (behind_no is_closing line more fails)),
)

none_begun : (last line : List ℕ) (more : List (List ℕ)) → is_closing line ≡ false → is_parting line ≡ true → (AreBegun None (line ∷ more) ↔ AreBegun (Some last) more)
none_begun last line more fails holds = (
  λ h. subst (All IsBegun) (behind_no is_closing line more fails) h.1,
  λ h. (subst IsBegun (sym (before_no is_closing line more fails)) (begun_parted line (before is_closing more) holds), subst (All IsBegun) (sym (behind_no is_closing line more fails)) h),
)

none_idle : (line : List ℕ) (more : List (List ℕ)) → is_closing line ≡ false → is_parting line ≡ false → is_idle line ≡ true → (AreBegun None (line ∷ more) ↔ AreBegun None more)
none_idle line more fails other idle = (
  λ h. (begun_on line (before is_closing more) other idle (subst IsBegun (before_no is_closing line more fails) h.0), subst (All IsBegun) (behind_no is_closing line more fails) h.1),
  λ h. (subst IsBegun (sym (before_no is_closing line more fails)) (begun_back line (before is_closing more) other idle h.0), subst (All IsBegun) (sym (behind_no is_closing line more fails)) h.1),
)

closed_begun : (last line : List ℕ) (more : List (List ℕ)) → is_closing line ≡ true → (AreBegun (Some last) (line ∷ more) ↔ AreBegun None more)
closed_begun last line more holds = (
  λ h. let all : All IsBegun (before is_closing more ∷ behind is_closing more) = subst (All IsBegun) (behind_yes is_closing line more holds) h in
      (All-head IsBegun (before is_closing more) (behind is_closing more) all, All-tail IsBegun (before is_closing more) (behind is_closing more) all),
  λ h. subst (All IsBegun) (sym (behind_yes is_closing line more holds)) (All-cons IsBegun (before is_closing more) (behind is_closing more) h.0 h.1),
)

-- ---- how many lanes

lanes_in-append : (rounds more : List (List (List ℕ))) → lanes_in (rounds ++ more) ≡ lanes_in rounds + lanes_in more
lanes_in-append [] more = omega arith
lanes_in-append (lanes ∷ rounds) more = omega (arith, lanes_in-append rounds more)

-- the lanes of rounds that go on
lanes_all : (over : List (List (List ℕ))) (whole lanes : List (List ℕ)) (rounds : List (List (List ℕ)))
    → lanes_in (over ++ (whole ++ lanes) ∷ rounds) ≡ lanes_in over + ((length whole + length lanes) + lanes_in rounds)
lanes_all over whole lanes rounds =
    lanes_in-append over ((whole ++ lanes) ∷ rounds) ∙ ap (λ n. lanes_in over + (n + lanes_in rounds)) (length-append whole lanes)

opened_some : (last : Option (List ℕ)) (lines : List (List ℕ)) → opened last ≤ length (lanes_on last lines)
opened_some None lines = omega arith
opened_some (Some last) lines = omega arith

at_least : (s : SoFar) (lines : List (List ℕ)) → lanes_in s.over + (length s.whole + opened s.last) ≤ lanes_in (rounds_on s lines)
at_least s lines =
    omega (arith, opened_some s.last (before is_closing lines), lanes_all s.over s.whole (lanes_on s.last (before is_closing lines)) (map begun_lanes (behind is_closing lines)))

pub lanes_counted : (s : SoFar) → AreBegun s.last [] → IsCounted s → lanes_in (rounds_on s []) ≤ lane_limit
lanes_counted s begun counted = within s.over s.whole s.last s.count begun counted.count counted.few
  where
    within : (over : List (List (List ℕ))) (whole : List (List ℕ)) (last : Option (List ℕ)) (count : ℕ) → AreBegun last [] → count ≡ lanes_in over + (length whole + opened last) → count ≤ lane_limit
        → lanes_in (rounds_on (so over whole last count) []) ≤ lane_limit
    within over whole None count begun is few = absurd (nothing_begun begun.0)
    within over whole (Some last) count begun is few = omega (arith, is, few, lanes_all over whole ((last ++ []) ∷ []) [])

-- ---- one line

pub goes_kept : (over : List (List (List ℕ))) (whole : List (List ℕ)) (last line : List ℕ) (count : ℕ) → IsCounted (so over whole (Some last) count) → is_closing line ≡ false → is_parting line ≡ false
    → GoesOn (so over whole (Some last) count) (so over whole (Some (last ++ line)) count) line
goes_kept over whole last line count counted fails other = record {
  counted = record { count = counted.count; few = counted.few; rounds = counted.rounds };
  rounds = λ more. subst (λ ls. rounds_on (so over whole (Some last) count) (line ∷ more) ≡ rounds_on (so over ls (Some (last ++ line)) count) more) (append-nil whole)
      (unclosed over whole [] (Some last) (Some (last ++ line)) count count line more fails (λ lines. lane_kept last line lines other));
  begun = λ more. some_begun last (last ++ line) line more fails;
}

pub goes_idle : (over : List (List (List ℕ))) (whole : List (List ℕ)) (line : List ℕ) (count : ℕ) → IsCounted (so over whole None count) → is_closing line ≡ false → is_parting line ≡ false → is_idle line ≡ true
    → GoesOn (so over whole None count) (so over whole None count) line
goes_idle over whole line count counted fails other idle = record {
  counted = counted;
  rounds = λ more. subst (λ ls. rounds_on (so over whole None count) (line ∷ more) ≡ rounds_on (so over ls None count) more) (append-nil whole)
      (unclosed over whole [] None None count count line more fails (λ lines. none_kept line lines other));
  begun = λ more. none_idle line more fails other idle;
}

pub goes_parted : (over : List (List (List ℕ))) (whole : List (List ℕ)) (last line : List ℕ) (count : ℕ) → IsCounted (so over whole (Some last) count) → count < lane_limit → is_closing line ≡ false → is_parting line ≡ true
    → GoesOn (so over whole (Some last) count) (so over (whole ++ last ∷ []) (Some []) (count + 1)) line
goes_parted over whole last line count counted below fails holds = record {
  counted = record { count = omega (arith, counted.count, length-append whole (last ∷ [])); few = omega (arith, below); rounds = counted.rounds };
  rounds = λ more. unclosed over whole (last ∷ []) (Some last) (Some []) count (count + 1) line more fails (λ lines. lane_parted last line lines holds);
  begun = λ more. some_begun last [] line more fails;
}

pub goes_begun : (over : List (List (List ℕ))) (whole : List (List ℕ)) (line : List ℕ) (count : ℕ) → IsCounted (so over whole None count) → count < lane_limit → is_closing line ≡ false → is_parting line ≡ true
    → GoesOn (so over whole None count) (so over whole (Some []) (count + 1)) line
goes_begun over whole line count counted below fails holds = record {
  counted = record { count = omega (arith, counted.count); few = omega (arith, below); rounds = counted.rounds };
  rounds = λ more. subst (λ ls. rounds_on (so over whole None count) (line ∷ more) ≡ rounds_on (so over ls (Some []) (count + 1)) more) (append-nil whole)
      (unclosed over whole [] None (Some []) count (count + 1) line more fails (λ lines. none_parted line lines holds));
  begun = λ more. none_begun [] line more fails holds;
}

pub goes_closed : (over : List (List (List ℕ))) (whole : List (List ℕ)) (last line : List ℕ) (count : ℕ) → IsCounted (so over whole (Some last) count) → is_closing line ≡ true
    → GoesOn (so over whole (Some last) count) (so (over ++ (whole ++ last ∷ []) ∷ []) [] None count) line
goes_closed over whole last line count counted holds = record {
  counted = record {
    count = omega (arith, counted.count, lanes_in-append over ((whole ++ last ∷ []) ∷ []), length-append whole (last ∷ []));
    few = counted.few;
    rounds = omega (
      arith,
      counted.rounds,
      lanes_in-append over ((whole ++ last ∷ []) ∷ []),
      length-append whole (last ∷ []),
      length-append over ((whole ++ last ∷ []) ∷ []),
    );
  };
  rounds = λ more. closed over whole last count count line more holds;
  begun = λ more. closed_begun last line more holds;
}

pub lane_past : (over : List (List (List ℕ))) (whole : List (List ℕ)) (last : Option (List ℕ)) (line : List ℕ) (count : ℕ) → IsCounted (so over whole last count) → lane_limit ≤ count → is_closing line ≡ false → is_parting line ≡ true
    → HasTooMany (so over whole last count) line
lane_past over whole None line count counted full fails holds = λ more.
    omega (
      arith,
      counted.count,
      full,
      ap lanes_in (unclosed over whole [] None (Some []) count 0 line more fails (λ lines. none_parted line lines holds)),
      length-append {A = List ℕ} whole [],
      at_least (so over (whole ++ []) (Some []) 0) more,
    )
lane_past over whole (Some last) line count counted full fails holds = λ more.
    omega (
      arith,
      counted.count,
      full,
      ap lanes_in (unclosed over whole (last ∷ []) (Some last) (Some []) count 0 line more fails (λ lines. lane_parted last line lines holds)),
      length-append whole (last ∷ []),
      at_least (so over (whole ++ last ∷ []) (Some []) 0) more,
    )

pub closed_twice : (s : SoFar) (line : List ℕ) → s.last ≡ None → is_closing line ≡ true → LacksLane s line
closed_twice s line none holds = λ more begun.
    nothing_begun (subst IsBegun (before_yes is_closing line more holds) (subst (λ (o : Option (List ℕ)). AreBegun o (line ∷ more)) none begun).0)

pub lane_lacking : (s : SoFar) (line : List ℕ) → s.last ≡ None → is_closing line ≡ false → is_parting line ≡ false → is_idle line ≡ false → LacksLane s line
lane_lacking s line none fails other busy = λ more begun.
    not_begun line (before is_closing more) other busy (subst IsBegun (before_no is_closing line more fails) (subst (λ (o : Option (List ℕ)). AreBegun o (line ∷ more)) none begun).0)

-- ---- one line, as the code keeps rounds

abbrev kept : Option (Vec ℕ) → Option (List ℕ)
kept last = option_map (λ (lane : Vec ℕ). lane.items) last

bytes_of-push : (lanes : List (Vec ℕ)) (lane : Vec ℕ) (new : List (Vec ℕ)) → new ≡ lanes ++ lane ∷ [] → bytes_of new ≡ bytes_of lanes ++ lane.items ∷ []
bytes_of-push lanes lane new grown = ap bytes_of grown ∙ map-append (λ (l : Vec ℕ). l.items) lanes (lane ∷ [])

goes_same : (s s' t t' : SoFar) (line : List ℕ) → s ≡ s' → t ≡ t' → GoesOn s' t' line → GoesOn s t line
goes_same s s' t t' line old new goes = subst (λ (x : SoFar). GoesOn x t line) (sym old) (subst (λ (y : SoFar). GoesOn s' y line) (sym new) goes)

counted_same : (over : List (List (List ℕ))) (whole : List (List ℕ)) (last last' : Option (List ℕ)) (count : ℕ) → last ≡ last' → IsCounted (so over whole last count) → IsCounted (so over whole last' count)
counted_same over whole last last' count same counted = subst (λ (o : Option (List ℕ)). IsCounted (so over whole o count)) same counted

-- a lane begins behind another
pub next_begins : (over : List (List (List ℕ))) (whole now : List (Vec ℕ)) (old new : Option (Vec ℕ)) (lane fresh : Vec ℕ) (count : ℕ) (line : List ℕ) → IsCounted (so over (bytes_of whole) (kept old) count) → count < lane_limit
    → is_closing line ≡ false → is_parting line ≡ true → old ≡ Some lane → new ≡ Some fresh → fresh.items ≡ [] → now ≡ whole ++ lane ∷ []
    → GoesOn (so over (bytes_of whole) (kept old) count) (so over (bytes_of now) (kept new) (count + 1)) line
next_begins over whole now old new lane fresh count line counted below fails holds was is empty grown =
    goes_same _ (so over (bytes_of whole) (Some lane.items) count) _ (so over (bytes_of whole ++ lane.items ∷ []) (Some []) (count + 1)) line
    (ap (λ (o : Option (List ℕ)). so over (bytes_of whole) o count) (ap kept was))
    (ap (λ (ls : List (List ℕ)). so over ls (kept new) (count + 1)) (bytes_of-push whole lane now grown)
    ∙ ap (λ (o : Option (List ℕ)). so over (bytes_of whole ++ lane.items ∷ []) o (count + 1)) (ap kept is ∙ ap (λ (bytes : List ℕ). Some bytes) empty))
    (goes_parted over (bytes_of whole) lane.items line count (counted_same over (bytes_of whole) _ _ count (ap kept was) counted) below fails holds)

-- the first lane of a round begins
pub first_begins : (over : List (List (List ℕ))) (whole : List (Vec ℕ)) (old new : Option (Vec ℕ)) (fresh : Vec ℕ) (count : ℕ) (line : List ℕ) → IsCounted (so over (bytes_of whole) (kept old) count) → count < lane_limit
    → is_closing line ≡ false → is_parting line ≡ true → old ≡ None → new ≡ Some fresh → fresh.items ≡ []
    → GoesOn (so over (bytes_of whole) (kept old) count) (so over (bytes_of whole) (kept new) (count + 1)) line
first_begins over whole old new fresh count line counted below fails holds was is empty =
    goes_same _ (so over (bytes_of whole) None count) _ (so over (bytes_of whole) (Some []) (count + 1)) line
    (ap (λ (o : Option (List ℕ)). so over (bytes_of whole) o count) (ap kept was))
    (ap (λ (o : Option (List ℕ)). so over (bytes_of whole) o (count + 1)) (ap kept is ∙ ap (λ (bytes : List ℕ). Some bytes) empty))
    (goes_begun over (bytes_of whole) line count (counted_same over (bytes_of whole) _ _ count (ap kept was) counted) below fails holds)

-- a round ends
pub round_ends : (over grown : List (Vec (Vec ℕ))) (whole pushed emptied : List (Vec ℕ)) (old new : Option (Vec ℕ)) (lane : Vec ℕ) (lanes : Vec (Vec ℕ)) (count : ℕ) (line : List ℕ)
    → IsCounted (so (rounds_bytes over) (bytes_of whole) (kept old) count) → is_closing line ≡ true → old ≡ Some lane → new ≡ None → pushed ≡ whole ++ lane ∷ [] → lanes.items ≡ pushed → emptied ≡ []
    → grown ≡ over ++ lanes ∷ []
    → GoesOn (so (rounds_bytes over) (bytes_of whole) (kept old) count) (so (rounds_bytes grown) (bytes_of emptied) (kept new) count) line
round_ends over grown whole pushed emptied old new lane lanes count line counted holds was is more moved empty grows =
    let all : rounds_bytes grown ≡ rounds_bytes over ++ (bytes_of whole ++ lane.items ∷ []) ∷ [] =
    ap rounds_bytes grows ∙ map-append (λ (ls : Vec (Vec ℕ)). bytes_of ls.items) over (lanes ∷ [])
    ∙ ap (λ (ls : List (List ℕ)). rounds_bytes over ++ ls ∷ []) (ap bytes_of moved ∙ bytes_of-push whole lane pushed more) in
    goes_same _ (so (rounds_bytes over) (bytes_of whole) (Some lane.items) count) _ (so (rounds_bytes over ++ (bytes_of whole ++ lane.items ∷ []) ∷ []) [] None count) line
    (ap (λ (o : Option (List ℕ)). so (rounds_bytes over) (bytes_of whole) o count) (ap kept was))
    (ap (λ (rs : List (List (List ℕ))). so rs (bytes_of emptied) (kept new) count) all
    ∙ ap (λ (ls : List (Vec ℕ)). so (rounds_bytes over ++ (bytes_of whole ++ lane.items ∷ []) ∷ []) (bytes_of ls) (kept new) count) empty
    ∙ ap (λ (o : Option (Vec ℕ)). so (rounds_bytes over ++ (bytes_of whole ++ lane.items ∷ []) ∷ []) [] (kept o) count) is)
    (goes_closed (rounds_bytes over) (bytes_of whole) lane.items line count (counted_same (rounds_bytes over) (bytes_of whole) _ _ count (ap kept was) counted) holds)

-- a lane grows by the line
pub lane_grows : (over : List (List (List ℕ))) (whole : List (Vec ℕ)) (old : Option (Vec ℕ)) (lane grown : Vec ℕ) (count : ℕ) (line : List ℕ) → IsCounted (so over (bytes_of whole) (kept old) count)
    → is_closing line ≡ false → is_parting line ≡ false → old ≡ Some lane → grown.items ≡ lane.items ++ line
    → GoesOn (so over (bytes_of whole) (kept old) count) (so over (bytes_of whole) (Some grown.items) count) line
lane_grows over whole old lane grown count line counted fails other was grows =
    goes_same _ (so over (bytes_of whole) (Some lane.items) count) _ (so over (bytes_of whole) (Some (lane.items ++ line)) count) line
    (ap (λ (o : Option (List ℕ)). so over (bytes_of whole) o count) (ap kept was))
    (ap (λ (bytes : List ℕ). so over (bytes_of whole) (Some bytes) count) grows)
    (goes_kept over (bytes_of whole) lane.items line count (counted_same over (bytes_of whole) _ _ count (ap kept was) counted) fails other)

-- a line is skipped before the first lane of a round
pub line_skipped : (over : List (List (List ℕ))) (whole : List (Vec ℕ)) (old : Option (Vec ℕ)) (count : ℕ) (line : List ℕ) → IsCounted (so over (bytes_of whole) (kept old) count)
    → is_closing line ≡ false → is_parting line ≡ false → is_idle line ≡ true → old ≡ None
    → GoesOn (so over (bytes_of whole) (kept old) count) (so over (bytes_of whole) (kept old) count) line
line_skipped over whole old count line counted fails other idle was =
    let same = ap (λ (o : Option (List ℕ)). so over (bytes_of whole) o count) (ap kept was) in
    goes_same _ (so over (bytes_of whole) None count) _ (so over (bytes_of whole) None count) line same same
    (goes_idle over (bytes_of whole) line count (counted_same over (bytes_of whole) _ _ count (ap kept was) counted) fails other idle)

-- all rounds are at least one, and at most as many as lanes
pub closed_bound : (over grown : List (Vec (Vec ℕ))) (whole : List (Vec ℕ)) (old : Option (Vec ℕ)) (lane : Vec ℕ) (lanes : Vec (Vec ℕ)) (count : ℕ)
    → IsCounted (so (rounds_bytes over) (bytes_of whole) (kept old) count) → old ≡ Some lane → grown ≡ over ++ lanes ∷ []
    → (0 < length grown) × (length grown ≤ lane_limit)
closed_bound over grown whole old lane lanes count counted was grows =
    let is : IsCounted (so (rounds_bytes over) (bytes_of whole) (Some lane.items) count) = counted_same (rounds_bytes over) (bytes_of whole) _ _ count (ap kept was) counted in
    let more : length grown ≡ length over + 1 = ap length grows ∙ length-append over (lanes ∷ []) in
    let same : length (rounds_bytes over) ≡ length over = length-map over (λ (ls : Vec (Vec ℕ)). bytes_of ls.items) in
    (omega (arith, more), omega (arith, more, same, is.count, is.few, is.rounds))
