-- An id reads back from what is printed of it.
use Rattle.std.proofs.Common.{ℕ, ◌-◌, List, length, reverse, Option, Some, ap, ◌∙◌, arith, inl, inr}
use Rattle.std.proofs.lemmas.Bool.{cases_lt as split}
use Rattle.std.proofs.lemmas.List.{reverse-reverse, length-reverse, get_or-reverse, get_or_past}
use Rattle.hex.proofs.HexLemmas.{decode_sized-encode_lower}
use Rattle.gate_bytes.specs.Reading.{IsBytes}
use Rattle.gate_tx.specs.Ids.{read_id, reversed}
use Rattle.gate_tx.specs.Laws.{IdsAreReadBack}

reverse-bytes : (xs : List ℕ) → IsBytes xs → IsBytes (reverse xs)
reverse-bytes xs fits i =
    elim (split i (length xs)) [
      | inl lt ↦ rw (get_or-reverse xs i 0 lt) (fits (length xs - 1 - i))
      | inr le ↦ rw (get_or_past (reverse xs) i 0 (omega (arith, length-reverse xs))) (omega arith)
    ]

pub ids_are_read_back : IdsAreReadBack
unfolding read_id
ids_are_read_back id len fits =
    let back = decode_sized-encode_lower (reverse id) 32 (length-reverse id ∙ len) (reverse-bytes id fits) in
    let some : List ℕ → Option (List ℕ) = λ bytes. Some bytes in
    ap reversed back ∙ ap some (reverse-reverse id)
