-- What is read is spelled, and what is spelled is read.
use Rattle.std.proofs.Common.{◌≡◌, ℕ, Bool, true, false, List, Option, Some, None, refl, ap, sym, subst, ◌∙◌}
use Rattle.std.specs.Option.{option_map, option_or}
use Rattle.std.specs.Net.Grammar.{IsDotted}
use Rattle.std.proofs.lemmas.Bool.{true≢false}
use Rattle.gate_net.specs.Addresses.{Address, V4, V6, dotted_of, colon_hex_of, written_of, canonical, address_of}
use Rattle.gate_net.specs.Spelling.{has_dot, Spells}
use Rattle.gate_net.proofs.Dotted.{dotted_of-dotted, dotted-dotted_of, has_dot-dotted}
use Rattle.gate_net.proofs.Elided.{colon_hex_read, colon_hex_found}

-- a text without a dot is no IPv4 text
not_dotted : (text : List ℕ) → has_dot text ≡ false → dotted_of text ≡ None
not_dotted text plain = by (dotted_of text) refl
  where
    by : (found : Option (List ℕ)) → dotted_of text ≡ found → found ≡ None
    by None is = refl
    by (Some octets) is = absurd (true≢false (sym (has_dot-dotted text octets (dotted-dotted_of text octets is)) ∙ plain))

pub written_spelled : (text : List ℕ) (a : Address) → Spells text a → written_of text ≡ Some a
unfolding written_of
written_spelled text (V4 octets) is = ap (λ o. option_or (option_map V4 o) (option_map V6 (colon_hex_of text))) (dotted_of-dotted text octets is)
written_spelled text (V6 groups) is =
    ap (λ o. option_or (option_map V4 o) (option_map V6 (colon_hex_of text))) (not_dotted text is.1)
    ∙ ap (option_map V6) (colon_hex_read text groups is.0 is.1)

spelled_from : (text : List ℕ) (a : Address) (four : Option (List ℕ)) (six : Option (List ℕ)) → dotted_of text ≡ four → colon_hex_of text ≡ six → option_or (option_map V4 four) (option_map V6 six) ≡ Some a → Spells text a
spelled_from text a (Some octets) six p q h =
    let is : V4 octets ≡ a = cc in
    subst (Spells text) is (dotted-dotted_of text octets p)
spelled_from text a None (Some groups) p q h =
    let is : V6 groups ≡ a = cc in
    subst (Spells text) is (colon_hex_found text groups q)
spelled_from text a None None p q h = cc

pub spelled_written : (text : List ℕ) (a : Address) → written_of text ≡ Some a → Spells text a
unfolding written_of
spelled_written text a h = spelled_from text a (dotted_of text) (colon_hex_of text) refl refl h

pub address_found : (text : List ℕ) (a : Address) → address_of text ≡ Some a → (written : Address) × Spells text written × (a ≡ canonical written)
address_found text a h = by (written_of text) refl h
  where
    by : (found : Option Address) → written_of text ≡ found → option_map canonical found ≡ Some a → (written : Address) × Spells text written × (a ≡ canonical written)
    by None is e = cc
    by (Some written) is e =
        let same : a ≡ canonical written = cc in
        (written, spelled_written text written is, same)

pub address_read : (text : List ℕ) (a written : Address) → Spells text written → a ≡ canonical written → address_of text ≡ Some a
address_read text a written is same = ap (option_map canonical) (written_spelled text written is) ∙ ap Some (sym same)
