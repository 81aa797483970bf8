-- A text parted at a byte.
use Rattle.std.proofs.Common.{◌≡◌, ℕ, ◌<◌, ◌==◌, nat_lt, false, List, length, Option, Some, None, MatchOption, refl, ap, sym, ◌∙◌, arith, Bor}
use Rattle.std.specs.List.{position_or_len, before_first, after_first}
use Rattle.std.proofs.lemmas.Bool.{lt-ltb}
use Rattle.std.proofs.lemmas.Bool.Decides.{nat_tests}
use Rattle.gate_net.specs.Addresses.{Address, written_of}
use Rattle.gate_net.specs.Subnets.{parted_at, slashed, subnet_at, subnet_of}
use Rattle.gate_net.specs.Permissions.{Permissions, permissions_of}
use Rattle.gate_net.specs.Whitelists.{worded, entry_at, entry_of}

not-lt : (a b : ℕ) → a ≡ b → nat_lt a b ≡ false
not-lt a b h = grind (arith, nat_tests)

pub parted : (char : ℕ) (text : List ℕ) (r : Option (Bor (List ℕ) × Bor (List ℕ)))
    → MatchOption r (position_or_len (λ b. b == char) text ≡ length text)
    (λ x. (position_or_len (λ b. b == char) text < length text) × (x.0.now ≡ before_first (λ b. b == char) text) × (x.1.now ≡ after_first (λ b. b == char) text))
    → MatchOption r (parted_at char text ≡ None) (λ p. parted_at char text ≡ Some (p.0.now, p.1.now))
unfolding parted_at
parted char text None h = rw (not-lt _ _ h)
parted char text (Some x) h = rw (lt-ltb _ _ h.0, h.1, h.2)

pub subnet_parted : (text left right : List ℕ) (written : Option Address) → parted_at 47 text ≡ Some (left, right) → written ≡ written_of left → slashed right written ≡ subnet_of text
unfolding subnet_of
subnet_parted text left right written is same = ap (slashed right) same ∙ sym (ap (subnet_at text) is)

pub subnet_whole : (text : List ℕ) → parted_at 47 text ≡ None → subnet_at text None ≡ subnet_of text
unfolding subnet_of
subnet_whole text none = sym (ap (subnet_at text) none)

pub entry_parted : (text left right : List ℕ) (permissions : Option Permissions) → parted_at 64 text ≡ Some (left, right) → permissions ≡ permissions_of left → worded permissions right ≡ entry_of text
unfolding entry_of
entry_parted text left right permissions is same = ap (λ p. worded p right) same ∙ sym (ap (entry_at text) is)

pub entry_whole : (text : List ℕ) → parted_at 64 text ≡ None → entry_at text None ≡ entry_of text
unfolding entry_of
entry_whole text none = sym (ap (entry_at text) none)
