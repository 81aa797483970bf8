-- What tokens tell of passes.
use Rattle.std.proofs.Common.{◌≡◌, ◌≢◌, ◌⊎◌, inl, inr, ℕ, zero, suc, ◌+◌, ◌-◌, ◌<◌, ◌≤◌, List, [], ◌∷◌, ◌++◌, length, take, drop, cond, eqb, Bool, true, false, refl, sym, ap, ◌∙◌, subst, arith, length-append}
use Rattle.std.specs.Prelude.{map, Contains, slice_index_or}
use Rattle.std.proofs.lemmas.Bool.Decides.{nat_tests}
use Rattle.atomic_table.specs.Table.{Me}
use Rattle.gate_message.specs.declared.event.Event.{Event}
use Rattle.gate_message.specs.declared.reply.Reply.{Reply}
use Rattle.gate_journal.specs.declared.entry.Entry.{Entry}
use Rattle.gate_journal.specs.Legal.{entry}
use Rattle.gate_shared.specs.declared.receipt.Made.{Made}
use Rattle.gate_shared.specs.declared.settle.Unsettled.{Unsettled}
use Rattle.gate_shared.specs.declared.settle.Unsettled.TheVariants.{Missing, CountDiffers, Memory}
use Rattle.gate_shared.specs.declared.tokens.Known.{Known}
use Rattle.gate_shared.specs.Calls.{PassView, Stands}
use Rattle.gate_shared.specs.Settling.{Claim, claim_list, claims_from, claims_of, number_of, WhyUnsettled, IsNotMissing}
use Rattle.gate_shared.specs.Tokens.{PassCall, CanPart, EachStands, IsIdleEmpty, IsTold, calls_in, calls_under, first_part, gathered, holder, knower, last_part, of_journal, seat_limit, weigh, weigh_to}
use Rattle.gate_shared.proofs.Totals.{weigh-append}

-- ---- a token that was lent the seat and the calls of a pass

known_same : (keeps : Bool) (all : List Entry) (s t : ℕ) (cs ds : List PassCall) (full : Bool) → s ≡ t → cs ≡ ds
    → let known : ℕ → List PassCall → Known = λ seats calls. record { keeps = keeps; seats = seats; all = all; calls = calls; full = full } in known s cs ≡ known t ds
known_same keeps all s t cs ds full e f = λ i. record { keeps = keeps; seats = e i; all = all; calls = f i; full = full }

take_front : (cs ds : List PassCall) → take (length cs) (cs ++ ds) ≡ cs
take_front [] ds = refl
take_front (c ∷ cs) ds = ap (λ es. c ∷ es) (take_front cs ds)

drop_front : (cs ds : List PassCall) → drop (length cs) (cs ++ ds) ≡ ds
drop_front [] ds = refl
drop_front (c ∷ cs) ds = drop_front cs ds

front_of : (cs ds : List PassCall) (n : ℕ) → n ≡ length ds → length (cs ++ ds) - n ≡ length cs
front_of cs ds n is = omega (arith, length-append cs ds)

pub left_of_it : (k : Known) (cs : List PassCall) (n : ℕ) → n ≡ length cs → first_part 1 n (gathered k (holder 1 cs)) ≡ k
left_of_it k cs n is =
    known_same k.keeps k.all ((k.seats + 1) - 1) k.seats (take (length (k.calls ++ cs) - n) (k.calls ++ cs)) k.calls k.full (omega arith)
    (ap (λ m. take m (k.calls ++ cs)) (front_of k.calls cs n is) ∙ take_front k.calls cs)

pub given_back : (k : Known) (cs : List PassCall) (n : ℕ) → n ≡ length cs → last_part 1 n (gathered k (holder 1 cs)) ≡ holder 1 cs
given_back k cs n is = ap (holder 1) (ap (λ m. drop m (k.calls ++ cs)) (front_of k.calls cs n is) ∙ drop_front k.calls cs)

pub can_give_back : (k : Known) (cs : List PassCall) (n : ℕ) → IsIdleEmpty k → n ≡ length cs → CanPart 1 n (gathered k (holder 1 cs))
can_give_back k cs n idle is = (
  omega arith,
  omega (arith, length-append k.calls cs),
  (λ only. let none : length k.calls ≡ 0 = ap length (idle (omega arith)) in omega (arith, length-append k.calls cs)),
  (λ none. absurd (omega arith)),
)

pub length-calls_under : (number : ℕ) (cs : List Made) → length (calls_under number cs) ≡ length cs
length-calls_under number [] = refl
length-calls_under number (c ∷ cs) = ap suc (length-calls_under number cs)

-- the calls of a pass, one more
pub calls_under-push : (number : ℕ) (cs : List Made) (c : Made) → calls_under number (cs ++ c ∷ []) ≡ calls_under number cs ++ (number, c) ∷ []
calls_under-push number [] c = refl
calls_under-push number (d ∷ ds) c = ap (λ cs. (number, d) ∷ cs) (calls_under-push number ds c)

-- ---- the calls of passes as claims

held : List Claim → List PassCall
held [] = []
held (c ∷ cs) = (c.pass, c.call) ∷ held cs

held-append : (cs ds : List Claim) → held (cs ++ ds) ≡ held cs ++ held ds
unfolding held
held-append [] ds = refl
held-append (c ∷ cs) ds = ap (λ es. (c.pass, c.call) ∷ es) (held-append cs ds)

held_list : (place at pass : ℕ) (cs : List Made) → held (claim_list place at pass cs) ≡ calls_under pass cs
unfolding held
held_list place at pass [] = refl
held_list place at pass (c ∷ cs) = ap (λ es. (pass, c) ∷ es) (held_list place (at + 1) pass cs)

held_from : (place : ℕ) (ps : List PassView) → held (claims_from place ps) ≡ calls_in ps
unfolding held
held_from place [] = refl
held_from place (p ∷ ps) =
    held-append (claim_list place 0 p.number p.calls) (claims_from (place + 1) ps)
    ∙ (ap (λ es. es ++ held (claims_from (place + 1) ps)) (held_list place 0 p.number p.calls) ∙ ap (λ es. calls_under p.number p.calls ++ es) (held_from (place + 1) ps))

stands_there : (journal : List Entry) (before : List Claim) (c : Claim) (after : List Claim) → EachStands journal (held (before ++ c ∷ after)) → Stands journal c.pass c.call
unfolding held
stands_there journal [] c after stand = stand.0
stands_there journal (b ∷ bs) c after stand = stands_there journal bs c after stand.1

-- ---- each number once

-- 1 at n, and 0 elsewhere
abbrev at_number : ℕ → ℕ → ℕ
at_number n m = cond (eqb n m) 1 0

at_number-same : (n m : ℕ) → m ≡ n → at_number n m ≡ 1
at_number-same n m is = grind (arith, nat_tests)

at_number-other : (n m : ℕ) → n ≢ m → at_number n m ≡ 0
at_number-other n m apart = grind (arith, nat_tests)

at_number-le : (n m : ℕ) → at_number n m ≤ 1
at_number-le n m = grind (arith, nat_tests)

none_below : (n k : ℕ) → k < n → weigh_to (at_number n) k ≡ 0
none_below n zero below = refl
none_below n (suc k) below = omega (arith, none_below n k (omega arith), at_number-other n (suc k) (λ same. omega arith))

at_number-cases : (n m : ℕ) → (n ≡ m) ⊎ (at_number n m ≡ 0)
at_number-cases n m = elim (eqb n m) as (λ b. eqb n m ≡ b → (n ≡ m) ⊎ (at_number n m ≡ 0)) [ true ↦ (λ e. inl (grind (arith, nat_tests))) | false ↦ (λ e. inr (grind (arith, nat_tests))) ] refl

once_more : (n k : ℕ) → weigh_to (at_number n) k ≤ 1 → (n ≡ suc k) ⊎ (at_number n (suc k) ≡ 0) → weigh_to (at_number n) (suc k) ≤ 1
once_more n k before (inl same) = omega (arith, none_below n k (omega arith), at_number-le n (suc k))
once_more n k before (inr none) = omega arith

once_to : (n k : ℕ) → weigh_to (at_number n) k ≤ 1
once_to n zero = omega arith
once_to n (suc k) = once_more n k (once_to n k) (at_number-cases n (suc k))

named_before : (before : List Claim) (n k : ℕ) → k < length (map number_of before) → slice_index_or (map number_of before) k n ≡ n → 1 ≤ weigh (at_number n) (held before)
unfolding held
named_before [] n k within is = absurd (omega arith)
named_before (b ∷ bs) n zero within is = omega (arith, at_number-same n (number_of b) is)
named_before (b ∷ bs) n (suc k) within is = omega (arith, named_before bs n k (omega arith) is)

twice : (before : List Claim) (c : Claim) (after : List Claim) → Contains (map number_of before) (number_of c) → 2 ≤ weigh (at_number (number_of c)) (held (before ++ c ∷ after))
unfolding held
twice before c after (k, within, is) =
    let n = number_of c in
    rw (held-append before (c ∷ after))
    (omega (arith, weigh-append (at_number n) (held before) ((c.pass, c.call) ∷ held after), named_before before n k within is, at_number-same n n refl))

-- ---- why passes don't settle

missing : (journal : List Entry) (all : List PassCall) (before : List Claim) (c : Claim) (after : List Claim) → EachStands journal all → ((h : ℕ → ℕ) → weigh h all ≤ weigh_to h (length journal))
    → all ≡ held (before ++ c ∷ after) → ¬ Stands journal c.pass c.call ⊎ Contains (map number_of before) (number_of c) → ⊥
missing journal all before c after stand once is (inl off) = off (stands_there journal before c after (subst (EachStands journal) is stand))
missing journal all before c after stand once is (inr again) =
    let n = number_of c in
    let most : weigh (at_number n) (held (before ++ c ∷ after)) ≤ weigh_to (at_number n) (length journal) = subst (λ cs. weigh (at_number n) cs ≤ weigh_to (at_number n) (length journal)) is (once (at_number n)) in
    omega (arith, most, twice before c after again, once_to n (length journal))

-- no call of these passes is missing
pub not_missing : (seats : ℕ) (journal : List Entry) (ps : List PassView) (why : Unsettled) → IsTold (of_journal seats journal (calls_in ps)) → WhyUnsettled journal ps why → IsNotMissing why
not_missing seats journal ps (Missing r) told (before, c, after, are, is, places, off) =
    missing journal (calls_in ps) before c after told.stand told.once (sym (held_from 0 ps) ∙ ap held are) off
not_missing seats journal ps (CountDiffers n m) told of = tt
not_missing seats journal ps Memory told of = tt

weigh-one : (cs : List Claim) → weigh (λ _. 1) (held cs) ≡ length cs
unfolding held
weigh-one [] = refl
weigh-one (c ∷ cs) = omega (arith, weigh-one cs)

weigh_to-one : (n : ℕ) → weigh_to (λ _. 1) n ≡ n
weigh_to-one zero = refl
weigh_to-one (suc n) = omega (arith, weigh_to-one n)

-- if all seats are back, memory ran out
pub out_of_memory : (seats : ℕ) (journal : List Entry) (ps : List PassView) (why : Unsettled) → IsTold (of_journal seats journal (calls_in ps)) → seats ≡ seat_limit → WhyUnsettled journal ps why → why ≡ Memory
out_of_memory seats journal ps (Missing r) told all of = absurd (not_missing seats journal ps (Missing r) told of)
out_of_memory seats journal ps (CountDiffers n m) told all of =
    let same : weigh (λ _. 1) (held (claims_of ps)) ≡ weigh_to (λ _. 1) (length journal) = ap (weigh (λ _. 1)) (held_from 0 ps) ∙ told.all all (λ _. 1) in
    absurd (of.2 (of.0 ∙ (sym (weigh_to-one (length journal)) ∙ (sym same ∙ (weigh-one (claims_of ps) ∙ sym of.1)))))
out_of_memory seats journal ps Memory told all of = refl

-- ---- a call that is entered

abbrev Eye : Type 0
Eye = Me (Unit {0}) Known

pub same_entry : (pass : ℕ) (e f : Event) (r s : Reply) → e ≡ f → r ≡ s → entry pass e r ≡ entry pass f s
same_entry pass e f r s same like = λ i. entry pass (same i) (like i)

-- the keeper knows the journal that has the entry more
pub keeper_next : (me after : Eye) (old reserved new : List Entry) (e f : Entry) → me ≡ (knower old, []) → after ≡ (knower (me.0.all ++ e ∷ []), me.1) → new ≡ reserved ++ f ∷ [] → reserved ≡ old → f ≡ e
    → after ≡ (knower new, [])
keeper_next me after old reserved new e f was grew pushed same is =
    let front : (knower (me.0.all ++ e ∷ []), me.1) ≡ (knower (old ++ e ∷ []), []) = λ i. (knower ((was i).0.all ++ e ∷ []), (was i).1) in
    let back : new ≡ old ++ e ∷ [] = pushed ∙ (λ i. same i ++ is i ∷ []) in
    grew ∙ (front ∙ (λ i. (knower (sym back i), [])))

-- the token of a pass has the call more
pub token_next : (me after : Eye) (number : ℕ) (old reserved new : List Made) (m : Made) → me ≡ (holder 1 (calls_under number old), []) → after ≡ (holder me.0.seats (me.0.calls ++ (number, m) ∷ []), me.1)
    → new ≡ reserved ++ m ∷ [] → reserved ≡ old → after ≡ (holder 1 (calls_under number new), [])
token_next me after number old reserved new m was grew pushed same =
    let front : (holder me.0.seats (me.0.calls ++ (number, m) ∷ []), me.1) ≡ (holder 1 (calls_under number old ++ (number, m) ∷ []), []) =
    λ i. (holder (was i).0.seats ((was i).0.calls ++ (number, m) ∷ []), (was i).1) in
    let back : calls_under number new ≡ calls_under number old ++ (number, m) ∷ [] = ap (calls_under number) (pushed ∙ ap (λ cs. cs ++ m ∷ []) same) ∙ calls_under-push number old m in
    grew ∙ (front ∙ (λ i. (holder 1 (sym back i), [])))
