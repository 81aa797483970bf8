-- What the standard library reads, against the grammar without dotted ends.
use Rattle.std.proofs.Common.{◌≡◌, ℕ, ◌<◌, ◌==◌, ◌||◌, Bool, true, false, List, [], ◌∷◌, length, get_or, Option, Some, None, refl, ap, sym, subst, ◌∙◌, arith, suc, zero}
use Rattle.std.specs.declared.net.ip_addr.IpAddr.{IpAddr}
use Rattle.std.specs.declared.net.ip_addr.IpAddr.TheVariants as Ip
use Rattle.std.specs.declared.net.ipv4_addr.Ipv4Addr.{Ipv4Addr}
use Rattle.std.specs.declared.net.ipv6_addr.Ipv6Addr.{Ipv6Addr}
use Rattle.std.specs.Net.Grammar.{IsDotted, IsColonHex, IsIpText}
use Rattle.std.proofs.NetLemmas.Ipv6.{IsDotted-not_colon_hex}
use Rattle.std.proofs.lemmas.Bool.{true≢false, eq-eqb, ne_eqb}
use Rattle.gate_net.specs.Addresses.{Address, V4, V6, written_of}
use Rattle.gate_net.specs.Spelling.{has_dot, Spells}
use Rattle.gate_net.proofs.Bools.{or_true, or_both}
use Rattle.gate_net.proofs.Spelled.{written_spelled, spelled_written}

pub dot_at : (text : List ℕ) (k : ℕ) → k < length text → get_or text k 0 ≡ 46 → has_dot text ≡ true
dot_at [] k h is = absurd (omega arith)
dot_at (c ∷ text) zero h is = ap (λ b. b || has_dot text) (eq-eqb c 46 is)
dot_at (c ∷ text) (suc k) h is = ap (λ b. (c == 46) || b) (dot_at text k (omega arith) is) ∙ or_true (c == 46)

pub dots_nowhere : (text : List ℕ) → ((k : ℕ) → k < length text → get_or text k 0 ≡ 46 → ⊥) → has_dot text ≡ false
dots_nowhere [] none = refl
dots_nowhere (c ∷ text) none = or_both _ _ (ne_eqb c 46 (λ is. none 0 (omega arith) is)) (dots_nowhere text (λ k h is. none (suc k) (omega arith) is))

-- an IPv6 text with a dotted end is no text of an address
pub not_written : (text groups : List ℕ) → IsColonHex text groups → has_dot text ≡ true → None ≡ written_of text
not_written text groups is dot = by (written_of text) refl
  where
    by : (found : Option Address) → written_of text ≡ found → None ≡ found
    by None at = refl
    by (Some (V4 octets)) at = absurd (IsDotted-not_colon_hex text octets groups (spelled_written text (V4 octets) at) is)
    by (Some (V6 others)) at = absurd (true≢false (sym dot ∙ (spelled_written text (V6 others) at).1))

pub none_written : (text : List ℕ) → ((a : IpAddr) → ¬ (IsIpText text a)) → None ≡ written_of text
none_written text none = by (written_of text) refl
  where
    by : (found : Option Address) → written_of text ≡ found → None ≡ found
    by None at = refl
    by (Some (V4 octets)) at =
        let a : Ipv4Addr = record { octets = octets } in
        absurd (none (Ip.V4 a) (spelled_written text (V4 octets) at))
    by (Some (V6 groups)) at =
        let a : Ipv6Addr = record { segments = groups } in
        absurd (none (Ip.V6 a) (spelled_written text (V6 groups) at).0)
