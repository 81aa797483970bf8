-- `==` on callers, calls, events and replies says whether they are equal.
use Rattle.std.proofs.Common.{◌≡◌, ℕ, Bool, true, false, ◌&&◌, eqb, List, sym, ap}
use Rattle.std.specs.Bool.{Decides, beq}
use Rattle.std.specs.Cmp.{booleans_Decides}
use Rattle.std.specs.Str.{bytes_eq}
use Rattle.std.proofs.lemmas.Slice.Eq.{bytes_eq-Decides}
use Rattle.std.proofs.lemmas.Bool.{false≢true}
use Rattle.std.proofs.lemmas.Bool.Decides.{Decides-eqb, Decides-and, Decides-like}
use Rattle.gate_net.specs.Addresses.{Address, V4, V6}
use Rattle.gate_net.specs.Permissions.{Permissions}
use Rattle.gate_bytes.specs.Equality.{◌&◌}
use Rattle.gate_net.specs.contracts.address.AddressPartialEq.TheImpl.{ghosts as addresses}
use Rattle.gate_message.specs.UserCalls.{UserCall, called}

-- ---- calls

abbrev pub call_eq : UserCall → UserCall → Bool
call_eq a b = eqb a.time b.time && (bytes_eq a.user b.user && bytes_eq a.json b.json)

pub call_decides : (a b : UserCall) → Decides (call_eq a b) (a ≡ b)
call_decides a b =
    let parts = Decides-and _ _ (Decides-eqb a.time b.time) (Decides-and _ _ (bytes_eq-Decides a.user b.user) (bytes_eq-Decides a.json b.json)) in
    Decides-like _ (λ p i. called (p.1.0 i) (p.0 i) (p.1.1 i))
    (λ q. (ap (λ (c : UserCall). c.time) q, (ap (λ (c : UserCall). c.user) q, ap (λ (c : UserCall). c.json) q))) parts

-- ---- addresses

abbrev is_ipv6 : Address → Bool
is_ipv6 (V4 octets) = false
is_ipv6 (V6 groups) = true

abbrev numbers : Address → List ℕ
numbers (V4 octets) = octets
numbers (V6 groups) = groups

pub address_decides : (a b : Address) → Decides (addresses.eq a b) (a ≡ b)
address_decides (V4 a) (V4 b) = Decides-like _ (λ p. ap (λ (octets : List ℕ). V4 octets) p) (λ q. ap numbers q) (bytes_eq-Decides a b)
address_decides (V4 a) (V6 b) = (λ e. absurd (false≢true e), λ q. ap is_ipv6 q)
address_decides (V6 a) (V4 b) = (λ e. absurd (false≢true e), λ q. ap is_ipv6 (sym q))
address_decides (V6 a) (V6 b) = Decides-like _ (λ p. ap (λ (groups : List ℕ). V6 groups) p) (λ q. ap numbers q) (bytes_eq-Decides a b)

-- ---- permissions

-- bloomfilter, noban, forcerelay, relay, mempool, download, addr
abbrev Flags : Type 0
Flags = Bool × (Bool × (Bool × (Bool × (Bool × (Bool × Bool)))))

abbrev flags : Permissions → Flags
flags p = (p.bloomfilter, (p.noban, (p.forcerelay, (p.relay, (p.mempool, (p.download, p.addr))))))

abbrev with_flags : Flags → Permissions
with_flags f = record {
  bloomfilter = f.0;
  noban = f.1.0;
  forcerelay = f.1.1.0;
  relay = f.1.1.1.0;
  mempool = f.1.1.1.1.0;
  download = f.1.1.1.1.1.0;
  addr = f.1.1.1.1.1.1;
}

abbrev flags_eq : Flags → Flags → Bool
flags_eq f g =
    beq f.0 g.0 && (beq f.1.0 g.1.0 && (beq f.1.1.0 g.1.1.0 && (beq f.1.1.1.0 g.1.1.1.0
    && (beq f.1.1.1.1.0 g.1.1.1.1.0 && (beq f.1.1.1.1.1.0 g.1.1.1.1.1.0 && beq f.1.1.1.1.1.1 g.1.1.1.1.1.1)))))

flags_decide : (f g : Flags) → Decides (flags_eq f g) (f ≡ g)
flags_decide =
    booleans_Decides & booleans_Decides & booleans_Decides & booleans_Decides & booleans_Decides & booleans_Decides & booleans_Decides

pub permissions_decides : (a b : Permissions) → Decides (flags_eq (flags a) (flags b)) (a ≡ b)
permissions_decides a b = Decides-like _ (λ p. ap with_flags p) (λ q. ap flags q) (flags_decide (flags a) (flags b))
