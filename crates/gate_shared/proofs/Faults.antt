-- Which faults a call has, and what a pass keeps of them.
use Rattle.std.proofs.Common.{◌≡◌, ℕ, ◌≤◌, true, false, List, [], ◌∷◌, length, Some, sym, ap, subst, ◌∙◌}
use Rattle.std.specs.List.{All}
use Rattle.std.proofs.lemmas.List.Elements.{All-cons, All-nil}
use Rattle.atomic_table.specs.Table.{Me}
use Rattle.gate_message.specs.declared.event.Event.{Event}
use Rattle.gate_journal.specs.declared.entry.Entry.{Entry}
use Rattle.gate_journal.specs.Legal.{entry_limit}
use Rattle.gate_shared.specs.declared.receipt.Made.{Made}
use Rattle.gate_shared.specs.declared.shared.CallFault.{CallFault}
use Rattle.gate_shared.specs.declared.shared.CallFault.TheVariants.{WrongCaller, PassFull, HistoryShort, AuditFull, Memory}
use Rattle.gate_shared.specs.declared.tokens.Known.{Known}
use Rattle.gate_shared.specs.Calls.{IsFullIfMet, PassView, Stands, last_call, last_from}
use Rattle.gate_shared.specs.Held.{FirstFault, Held, IsNotShort, left_by}
use Rattle.gate_shared.specs.Tokens.{EachStands, calls_under, marked, marker, unmarked}

-- ---- the last call of a pass stands in the journal

last_stands : (journal : List Entry) (number : ℕ) (c : Made) (cs : List Made) → EachStands journal (calls_under number (c ∷ cs)) → Stands journal number (last_from c cs)
last_stands journal number c [] stand = stand.0
last_stands journal number c (d ∷ ds) stand = last_stands journal number d ds stand.1

some_made : (c d : Made) → Some c ≡ Some d → c ≡ d
some_made c d h = cc

last_is : (journal : List Entry) (number : ℕ) (cs : List Made) (c : Made) → last_call cs ≡ Some c → EachStands journal (calls_under number cs) → Stands journal number c
last_is journal number [] c is stand = absurd (cc)
last_is journal number (d ∷ ds) c is stand = subst (Stands journal number) (some_made (last_from d ds) c is) (last_stands journal number d ds stand)

not_short : (s : Held) (p : PassView) (event : Event) (fault : CallFault) → EachStands s.journal (calls_under p.number p.calls) → FirstFault s p event fault → IsNotShort fault
not_short s p event (HistoryShort r) stand (own, (c, is, same, off)) = absurd (off (last_is s.journal p.number p.calls c is stand))
not_short s p event WrongCaller stand first = tt
not_short s p event PassFull stand first = tt
not_short s p event AuditFull stand first = tt
not_short s p event Memory stand first = tt

-- a fault that was found after a comparison that changed nothing
pub faulted : (s s' : Held) (p p' : PassView) (event : Event) (fault : CallFault) → s' ≡ s → p' ≡ p → EachStands s.journal (calls_under p.number p.calls) → FirstFault s' p' event fault → left_by fault p' ≡ p'
    → FirstFault s p event fault × IsNotShort fault × (p' ≡ left_by fault p)
faulted s s' p p' event fault same is stand found left =
    let first : FirstFault s p event fault = subst (λ (q : PassView). FirstFault s q event fault) is (subst (λ (t : Held). FirstFault t p' event fault) same found) in
    (first, not_short s p event fault stand first, sym left ∙ ap (left_by fault) is)

-- ---- marks

abbrev pub Eye : Type 0
Eye = Me (Unit {0}) Known

pub unmarked_same : (k : Known) → k.full ≡ false → unmarked k ≡ k
unmarked_same k none = λ i. record { keeps = k.keeps; seats = k.seats; all = k.all; calls = k.calls; full = sym none i }

-- a token that is as one that knows a mark alone knows a mark alone
pub marker_as : (new old : Eye) → new ≡ old → old ≡ (marker old.0.full, []) → new ≡ (marker new.0.full, [])
marker_as new old same is = subst (λ (m : Eye). m ≡ (marker m.0.full, [])) (sym same) is

pub marked_full : (new old : Eye) → new ≡ (marked old.0 (marker true), old.1) → old ≡ (marker old.0.full, []) → new ≡ (marker new.0.full, [])
marked_full new old same is =
    let full : new ≡ (marker true, []) = same ∙ (λ i. (marked (is i).0 (marker true), (is i).1)) in
    subst (λ (m : Eye). m ≡ (marker m.0.full, [])) (sym full) (λ i. (marker true, []))

pub marks_none : (journal : List Entry) → All (IsFullIfMet journal) []
marks_none journal = All-nil (IsFullIfMet journal)

pub marks_more : (journal : List Entry) (p : PassView) (ps : List PassView) → (p.met_full ≡ true → entry_limit ≤ length journal) → All (IsFullIfMet journal) ps → All (IsFullIfMet journal) (p ∷ ps)
marks_more journal p ps here behind = All-cons (IsFullIfMet journal) p ps here behind
