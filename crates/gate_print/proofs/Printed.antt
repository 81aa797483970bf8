-- A text that is printed in parts.
use Rattle.std.proofs.Common.{◌≡◌, ◌≢◌, ℕ, ◌+◌, ◌≤◌, List, [], ◌++◌, length, take, Option, Result, Ok, Err, IsErrAnd, IfErr, refl, sym, subst, arith, length-append}
use Rattle.std.proofs.Math.Seq.{take-append-add}
use Rattle.std.proofs.lemmas.List.{append-nil, take-append-le, take_all}
use Rattle.std.proofs.KnownBytes.{Appends-nil, Appends-trans}
use Rattle.std.specs.Io.KnownBytes.{Appends}
use Rattle.gate_lines.specs.Writing.{TextWritten}
use Rattle.gate_lines.specs.declared.fault.LaneFault.{LaneFault}
use Rattle.gate_lines.specs.declared.fault.LaneFault.TheVariants as faults
use Rattle.gate_print.specs.Printing.{PartSent, Prints}

-- nothing was sent of any text
pub none_sent : (w w' : Option (List ℕ)) (text : List ℕ) → Appends w w' [] → PartSent w w' text
none_sent w w' text kept = (0, omega arith, kept)

-- a part of the front is a part of the whole
pub front_sent : (w w' : Option (List ℕ)) (front back : List ℕ) → PartSent w w' front → PartSent w w' (front ++ back)
front_sent w w' front back (n, few, wrote) = (
  n,
  omega (arith, length-append front back),
  subst (Appends w w') (sym (take-append-le n front back few)) wrote,
)

-- the front was sent, and then a part of the rest
pub back_sent : (w w' w'' : Option (List ℕ)) (front back : List ℕ) → Appends w w' front → PartSent w' w'' back → PartSent w w'' (front ++ back)
back_sent w w' w'' front back before (n, few, wrote) = (
  length front + n,
  omega (arith, length-append front back),
  subst (Appends w w'') (sym (take-append-add front back n)) (Appends-trans w w' w'' _ _ before wrote),
)

-- what was written at once
pub written_once : (w w' : Option (List ℕ)) (text : List ℕ) (r : Result (Unit {0}) LaneFault) → TextWritten w w' text r → Prints w w' text r
written_once w w' text (Ok done) h = h
written_once w w' text (Err faults.Write) (n, few, wrote) = (n, omega arith, wrote)
written_once w w' text (Err faults.Memory) h = none_sent w w' text h
written_once w w' text (Err faults.Read) h = absurd h

-- the front stopped, so the whole did
pub stopped_in_front : (w w' : Option (List ℕ)) (front back : List ℕ) (fault : LaneFault) → Prints w w' front (Err fault) → Prints w w' (front ++ back) (Err fault)
stopped_in_front w w' front back faults.Write h = front_sent w w' front back h
stopped_in_front w w' front back faults.Memory h = front_sent w w' front back h
stopped_in_front w w' front back faults.Read h = absurd h

-- the front was written, and then the rest was printed
pub printed_then : (w w' w'' : Option (List ℕ)) (front back : List ℕ) (r : Result (Unit {0}) LaneFault)
    → Appends w w' front → Prints w' w'' back r → Prints w w'' (front ++ back) r
printed_then w w' w'' front back (Ok done) before h = Appends-trans w w' w'' front back before h
printed_then w w' w'' front back (Err faults.Write) before h = back_sent w w' w'' front back before h
printed_then w w' w'' front back (Err faults.Memory) before h = back_sent w w' w'' front back before h
printed_then w w' w'' front back (Err faults.Read) before h = absurd h

-- memory ran out before anything was written
pub unprinted : (w : Option (List ℕ)) (text : List ℕ) (fault : LaneFault) → fault ≡ faults.Memory → Prints w w text (Err fault)
unprinted w text fault is = subst (λ (f : LaneFault). Prints w w text (Err f)) (sym is) (none_sent w w text (Appends-nil w))

-- in any stop a part was sent
pub part_sent : (w w' : Option (List ℕ)) (text : List ℕ) (fault : LaneFault) → Prints w w' text (Err fault) → PartSent w w' text
part_sent w w' text faults.Write h = h
part_sent w w' text faults.Memory h = h
part_sent w w' text faults.Read h = absurd h

-- what is printed of one text is printed of one that is equal
pub prints_as : (w w' : Option (List ℕ)) (text other : List ℕ) (r : Result (Unit {0}) LaneFault) → text ≡ other → Prints w w' text r → Prints w w' other r
prints_as w w' text other r is h = subst (λ (t : List ℕ). Prints w w' t r) is h

pub written_as : (w w' : Option (List ℕ)) (text other : List ℕ) (r : Result (Unit {0}) LaneFault) → text ≡ other → TextWritten w w' text r → Prints w w' other r
written_as w w' text other r is h = prints_as w w' text other r is (written_once w w' text r h)

-- a fault that is handed on
pub handed_on : (w w' : Option (List ℕ)) (text : List ℕ) (r : Result (Unit {0}) LaneFault) (fault : LaneFault)
    → IsErrAnd r (λ told. told ≡ fault) → Prints w w' text (Err fault) → Prints w w' text r
handed_on w w' text (Ok done) fault h p = absurd h
handed_on w w' text (Err told) fault h p = subst (λ (f : LaneFault). Prints w w' text (Err f)) (sym h) p

-- all was written, and not sent on
pub all_sent : (w w' w'' : Option (List ℕ)) (text : List ℕ) → Appends w w' text → Appends w' w'' [] → PartSent w w'' text
all_sent w w' w'' text wrote kept = (
  length text,
  omega arith,
  subst (Appends w w'') (sym (take_all (length text) text (omega arith))) (subst (Appends w w'') (append-nil text) (Appends-trans w w' w'' text [] wrote kept)),
)

pub no_read : (w w' : Option (List ℕ)) (text : List ℕ) (fault : LaneFault) → Prints w w' text (Err fault) → fault ≢ faults.Read
no_read w w' text fault h is = subst (λ (f : LaneFault). Prints w w' text (Err f)) is h

-- all was written, and then it was sent on
pub sent_behind : (w w' w'' : Option (List ℕ)) (text : List ℕ) (r : Result (Unit {0}) LaneFault) → Appends w w' text → Appends w' w'' []
    → IfErr r (λ fault. fault ≡ faults.Write) → Prints w w'' text r
sent_behind w w' w'' text (Ok done) wrote kept kind = subst (Appends w w'') (append-nil text) (Appends-trans w w' w'' text [] wrote kept)
sent_behind w w' w'' text (Err fault) wrote kept kind = subst (λ (f : LaneFault). Prints w w'' text (Err f)) (sym kind) (all_sent w w' w'' text wrote kept)
