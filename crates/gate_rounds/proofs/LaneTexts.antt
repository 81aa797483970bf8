-- The texts of entries and of lanes, part after part.
use Rattle.std.proofs.Common.{◌≡◌, ℕ, suc, ◌+◌, ◌<◌, List, [], ◌∷◌, ◌++◌, length, take, drop, get_or, codes, Option, Err, sym, subst, ap, ◌∙◌, append_assoc, append-nil, take-append-drop, arith}
use Rattle.std.proofs.lemmas.Grind.{flat_map-append}
use Rattle.std.proofs.lemmas.List.{get_or-map, length-map, length-take-le, take_more}
use Rattle.std.proofs.KnownBytes.{Appends-trans}
use Rattle.std.specs.Global.{Vec}
use Rattle.std.specs.Io.KnownBytes.{Appends}
use Rattle.std.specs.Fmt.{decimal}
use Rattle.gate_message.specs.Texts.{reply_text}
use Rattle.gate_events.specs.EventTexts.{text_of}
use Rattle.gate_journal.specs.declared.Entry.{Entry}
use Rattle.gate_lanes.specs.declared.LaneEnd.{LaneEnd}
use Rattle.gate_lines.proofs.LineLists.{unlines-append}
use Rattle.gate_lines.specs.declared.fault.LaneFault.{LaneFault}
use Rattle.gate_lines.specs.Lines.{unlines}
use Rattle.gate_rounds.specs.LaneLines.{entry_lines, journal_lines, lane_line, lanes_text, settled_line}
use Rattle.gate_print.specs.Printing.{Prints}
use Rattle.gate_rounds.specs.Texts.{texts_of}
use Rattle.gate_print.proofs.Printed.{printed_then, prints_as, stopped_in_front}

-- the event's line, and then the reply's
pub entry_parts : (e : Entry) → (codes "> " ++ (text_of e.event ++ 10 ∷ [])) ++ (codes "< " ++ (reply_text e.reply ++ 10 ∷ [])) ≡ unlines (entry_lines e)
entry_parts e = ap (λ (l : List ℕ). 62 ∷ 32 ∷ l) (append_assoc (text_of e.event) (10 ∷ []) (60 ∷ 32 ∷ (reply_text e.reply ++ 10 ∷ [])))

-- the line of a count, and then other lines
pub settled_parts : (count : ℕ) (lines : List (List ℕ)) → (codes "settled " ++ (decimal count ++ 10 ∷ [])) ++ unlines lines ≡ unlines (settled_line count ∷ lines)
settled_parts count lines = ap (λ (l : List ℕ). codes "settled " ++ l) (append_assoc (decimal count) (10 ∷ []) (unlines lines))

-- ---- journals

journal-append : (xs ys : List Entry) → unlines (journal_lines (xs ++ ys)) ≡ unlines (journal_lines xs) ++ unlines (journal_lines ys)
journal-append xs ys = ap unlines (flat_map-append entry_lines xs ys) ∙ unlines-append (journal_lines xs) (journal_lines ys)

journal-one : (e : Entry) → unlines (journal_lines (e ∷ [])) ≡ unlines (entry_lines e)
journal-one e = ap unlines (append-nil (entry_lines e))

-- one entry more
pub journal_more : (es : List Entry) (i : ℕ) (d : Entry) → i < length es
    → unlines (journal_lines (take (i + 1) es)) ≡ unlines (journal_lines (take i es)) ++ unlines (entry_lines (get_or es i d))
journal_more es i d lt = ap (λ (l : List Entry). unlines (journal_lines l)) (take_more es i d lt) ∙ journal-append (take i es) (get_or es i d ∷ [])
    ∙ ap (λ (l : List ℕ). unlines (journal_lines (take i es)) ++ l) (journal-one (get_or es i d))

-- those before an entry, it, and those after it
pub journal_parts : (es : List Entry) (i : ℕ)
    → unlines (journal_lines (take i es)) ++ unlines (journal_lines (drop i es)) ≡ unlines (journal_lines es)
journal_parts es i = sym (journal-append (take i es) (drop i es)) ∙ ap (λ (l : List Entry). unlines (journal_lines l)) (take-append-drop i es)

pub journal_rest : (es : List Entry) (i : ℕ) (d : Entry) → i < length es
    → (unlines (journal_lines (take i es)) ++ unlines (entry_lines (get_or es i d))) ++ unlines (journal_lines (drop (i + 1) es)) ≡ unlines (journal_lines es)
journal_rest es i d lt = ap (λ (l : List ℕ). l ++ unlines (journal_lines (drop (i + 1) es))) (sym (journal_more es i d lt)) ∙ journal_parts es (i + 1)

-- after one more entry
pub journal_next : (w w' w'' : Option (List ℕ)) (es : List Entry) (i : ℕ) (e : Entry) → i < length es → e ≡ get_or es i e
    → Appends w w' (unlines (journal_lines (take i es))) → Appends w' w'' (unlines (entry_lines e)) → Appends w w'' (unlines (journal_lines (take (i + 1) es)))
journal_next w w' w'' es i e lt is before one =
    let here : Appends w' w'' (unlines (entry_lines (get_or es i e))) = subst (λ (x : Entry). Appends w' w'' (unlines (entry_lines x))) is one in
    subst (Appends w w'') (sym (journal_more es i e lt)) (Appends-trans w w' w'' _ _ before here)

-- and where it stopped
pub journal_stop : (w w' w'' : Option (List ℕ)) (es : List Entry) (i : ℕ) (e : Entry) (fault : LaneFault) → i < length es → e ≡ get_or es i e
    → Appends w w' (unlines (journal_lines (take i es))) → Prints w' w'' (unlines (entry_lines e)) (Err fault) → Prints w w'' (unlines (journal_lines es)) (Err fault)
journal_stop w w' w'' es i e fault lt is before one =
    let here : Prints w' w'' (unlines (entry_lines (get_or es i e))) (Err fault) = subst (λ (x : Entry). Prints w' w'' (unlines (entry_lines x)) (Err fault)) is one in
    prints_as w w'' _ _ (Err fault) (journal_rest es i e lt)
    (stopped_in_front w w'' (unlines (journal_lines (take i es)) ++ unlines (entry_lines (get_or es i e))) (unlines (journal_lines (drop (i + 1) es))) fault
    (printed_then w w' w'' (unlines (journal_lines (take i es))) (unlines (entry_lines (get_or es i e))) (Err fault) before here))

-- ---- lanes

abbrev lane_text : ℕ → List ℕ → List ℕ
lane_text number text = (lane_line number ++ 10 ∷ []) ++ text

lanes-append : (n : ℕ) (xs ys : List (List ℕ)) → lanes_text n (xs ++ ys) ≡ lanes_text n xs ++ lanes_text (n + length xs) ys
lanes-append n [] ys = ap (λ (m : ℕ). lanes_text m ys) (let e : n ≡ n + 0 = omega arith in e)
lanes-append n (x ∷ xs) ys = ap (λ (l : List ℕ). lane_text n x ++ l) (lanes-append (n + 1) xs ys)
    ∙ ap (λ (m : ℕ). lane_text n x ++ (lanes_text (n + 1) xs ++ lanes_text m ys)) (let e : n + 1 + length xs ≡ n + suc (length xs) = omega arith in e)
    ∙ sym (append_assoc (lane_text n x) (lanes_text (n + 1) xs) (lanes_text (n + suc (length xs)) ys))

lanes-one : (n : ℕ) (x : List ℕ) → lanes_text n (x ∷ []) ≡ lane_text n x
lanes-one n x = append-nil (lane_text n x)

-- one lane more
pub lanes_more : (ts : List (List ℕ)) (i : ℕ) (d : List ℕ) → i < length ts
    → lanes_text 1 (take (i + 1) ts) ≡ lanes_text 1 (take i ts) ++ ((lane_line (i + 1) ++ 10 ∷ []) ++ get_or ts i d)
lanes_more ts i d lt = ap (lanes_text 1) (take_more ts i d lt) ∙ lanes-append 1 (take i ts) (get_or ts i d ∷ [])
    ∙ ap (λ (m : ℕ). lanes_text 1 (take i ts) ++ lanes_text m (get_or ts i d ∷ [])) (let e : 1 + length (take i ts) ≡ i + 1 = omega (arith, length-take-le i ts) in e)
    ∙ ap (λ (l : List ℕ). lanes_text 1 (take i ts) ++ l) (lanes-one (i + 1) (get_or ts i d))

-- those up to a lane, and the rest
pub lanes_rest : (ts : List (List ℕ)) (i : ℕ) (d : List ℕ) → i < length ts
    → (lanes_text 1 (take i ts) ++ ((lane_line (i + 1) ++ 10 ∷ []) ++ get_or ts i d)) ++ lanes_text (1 + length (take (i + 1) ts)) (drop (i + 1) ts) ≡ lanes_text 1 ts
lanes_rest ts i d lt = ap (λ (l : List ℕ). l ++ lanes_text (1 + length (take (i + 1) ts)) (drop (i + 1) ts)) (sym (lanes_more ts i d lt))
    ∙ sym (lanes-append 1 (take (i + 1) ts) (drop (i + 1) ts)) ∙ ap (lanes_text 1) (take-append-drop (i + 1) ts)

text_at : (ends : List (LaneEnd (Vec ℕ))) (i : ℕ) (e : LaneEnd (Vec ℕ)) (text : List ℕ) → i < length ends → e ≡ get_or ends i e → text ≡ e.writer.items
    → text ≡ get_or (texts_of ends) i e.writer.items
text_at ends i e text lt is same = same ∙ ap (λ (x : LaneEnd (Vec ℕ)). x.writer.items) is
    ∙ sym (get_or-map (λ (x : LaneEnd (Vec ℕ)). x.writer.items) ends i e e.writer.items lt)

-- after one more lane
pub lanes_next : (w w' w'' : Option (List ℕ)) (ends : List (LaneEnd (Vec ℕ))) (i : ℕ) (e : LaneEnd (Vec ℕ)) (text : List ℕ)
    → i < length ends → e ≡ get_or ends i e → text ≡ e.writer.items
    → Appends w w' (lanes_text 1 (take i (texts_of ends))) → Appends w' w'' ((lane_line (i + 1) ++ 10 ∷ []) ++ text)
    → Appends w w'' (lanes_text 1 (take (i + 1) (texts_of ends)))
lanes_next w w' w'' ends i e text lt is same before one =
    let within : i < length (texts_of ends) = rw (length-map ends (λ (x : LaneEnd (Vec ℕ)). x.writer.items)) lt in
    let here : Appends w' w'' (lane_text (i + 1) (get_or (texts_of ends) i e.writer.items)) =
    subst (λ (t : List ℕ). Appends w' w'' (lane_text (i + 1) t)) (text_at ends i e text lt is same) one in
    subst (Appends w w'') (sym (lanes_more (texts_of ends) i e.writer.items within)) (Appends-trans w w' w'' _ _ before here)

-- and where it stopped
pub lanes_stop : (w w' w'' : Option (List ℕ)) (ends : List (LaneEnd (Vec ℕ))) (i : ℕ) (e : LaneEnd (Vec ℕ)) (text : List ℕ) (fault : LaneFault)
    → i < length ends → e ≡ get_or ends i e → text ≡ e.writer.items
    → Appends w w' (lanes_text 1 (take i (texts_of ends))) → Prints w' w'' ((lane_line (i + 1) ++ 10 ∷ []) ++ text) (Err fault)
    → Prints w w'' (lanes_text 1 (texts_of ends)) (Err fault)
lanes_stop w w' w'' ends i e text fault lt is same before one =
    let ts = texts_of ends in
    let within : i < length ts = rw (length-map ends (λ (x : LaneEnd (Vec ℕ)). x.writer.items)) lt in
    let here : Prints w' w'' (lane_text (i + 1) (get_or ts i e.writer.items)) (Err fault) =
    subst (λ (t : List ℕ). Prints w' w'' (lane_text (i + 1) t) (Err fault)) (text_at ends i e text lt is same) one in
    prints_as w w'' _ _ (Err fault) (lanes_rest ts i e.writer.items within)
    (stopped_in_front w w'' (lanes_text 1 (take i ts) ++ lane_text (i + 1) (get_or ts i e.writer.items)) (lanes_text (1 + length (take (i + 1) ts)) (drop (i + 1) ts)) fault
    (printed_then w w' w'' (lanes_text 1 (take i ts)) (lane_text (i + 1) (get_or ts i e.writer.items)) (Err fault) before here))
