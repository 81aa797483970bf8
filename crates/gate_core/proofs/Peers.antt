-- Sessions as they lie in a map.
use Rattle.std.proofs.Common.{◌≡◌, ℕ, Bool, true, false, nat_eq, not, is_some, List, [], ◌∷◌, ◌++◌, map, Option, Some, None, option_map, if◌then◌else◌, refl, sym, ap, ◌∙◌}
use Rattle.std.specs.Option.{option_map_or}
use Rattle.std.specs.Map.{lookup, set_value}
use Rattle.indexmap.specs.IndexMap.{insert_entry}
use Rattle.gate_bytes.specs.Order.{first_failing}
use Rattle.gate_rules.specs.declared.PeerDenial.{PeerDenial}
use Rattle.gate_rules.specs.declared.PeerDenial.TheVariants.{PeerUnknown, PeerClosed}
use Rattle.gate_core.specs.declared.session.Session.{Session as Status}
use Rattle.gate_net.specs.Permissions.{Permissions, no_permissions}
use Rattle.gate_core.specs.Access.{is_known, session_rules}
use Rattle.gate_core.specs.Sessions.{Session, session, session_of, status_of, flags_in, rate_in, closed, rated}

abbrev pub shown : ℕ × Status → Session
shown p = session p.0 p.1.is_open p.1.flags p.1.rate

pub session_of-shown : (es : List (ℕ × Status)) (peer : ℕ) → option_map status_of (session_of (map shown es) peer) ≡ lookup (nat_eq peer) es
session_of-shown [] peer = refl
session_of-shown (e ∷ es) peer =
    elim (nat_eq peer e.0) as (λ b. option_map status_of (if b then Some (shown e) else session_of (map shown es) peer) ≡ (if b then Some e.1 else lookup (nat_eq peer) es)) [
      | true ↦ refl
      | false ↦ session_of-shown es peer
    ]

mapped : (o : Option Session) → is_some (option_map status_of o) ≡ is_some o
mapped None = refl
mapped (Some s) = refl

pub is_known-shown : (es : List (ℕ × Status)) (peer : ℕ) → is_some (lookup (nat_eq peer) es) ≡ is_known (map shown es) peer
is_known-shown es peer = sym (ap is_some (session_of-shown es peer)) ∙ mapped (session_of (map shown es) peer)

-- the denial where a peer's session is open, closed or none
abbrev pub denial_by : Option Status → Option PeerDenial
denial_by None = Some PeerUnknown
denial_by (Some status) = if not status.is_open then Some PeerClosed else None

by_session : (o : Option Session) → denial_by (option_map status_of o) ≡ (if not (is_some o) then Some PeerUnknown else if option_map_or (λ (s : Session). not s.is_open) o false then Some PeerClosed else None)
by_session None = refl
by_session (Some s) = refl

pub rules-shown : (es : List (ℕ × Status)) (peer : ℕ) (found : Option Status) → found ≡ lookup (nat_eq peer) es → denial_by found ≡ first_failing (session_rules (map shown es) peer)
rules-shown es peer found is = ap denial_by (is ∙ sym (session_of-shown es peer)) ∙ by_session (session_of (map shown es) peer)

-- the flags where a peer has a session, or none
abbrev pub flags_by : Option Status → Permissions
flags_by None = no_permissions
flags_by (Some status) = status.flags

flags_by_session : (o : Option Session) → flags_by (option_map status_of o) ≡ option_map_or (λ (s : Session). s.flags) o no_permissions
flags_by_session None = refl
flags_by_session (Some s) = refl

pub flags-shown : (es : List (ℕ × Status)) (peer : ℕ) (found : Option Status) → found ≡ lookup (nat_eq peer) es → flags_by found ≡ flags_in (map shown es) peer
flags-shown es peer found is = ap flags_by (is ∙ sym (session_of-shown es peer)) ∙ flags_by_session (session_of (map shown es) peer)

-- the rate where a peer has a session, or 0
abbrev pub rate_by : Option Status → ℕ
rate_by None = 0
rate_by (Some status) = status.rate

rate_by_session : (o : Option Session) → rate_by (option_map status_of o) ≡ option_map_or (λ (s : Session). s.rate) o 0
rate_by_session None = refl
rate_by_session (Some s) = refl

pub rate-shown : (es : List (ℕ × Status)) (peer : ℕ) (found : Option Status) → found ≡ lookup (nat_eq peer) es → rate_by found ≡ rate_in (map shown es) peer
rate-shown es peer found is = ap rate_by (is ∙ sym (session_of-shown es peer)) ∙ rate_by_session (session_of (map shown es) peer)

-- a peer without a session comes last
pub entered-shown : (es : List (ℕ × Status)) (peer : ℕ) (status : Status) → session_of (map shown es) peer ≡ None → map shown (insert_entry nat_eq es peer status) ≡ map shown es ++ shown (peer, status) ∷ []
entered-shown [] peer status none = refl
entered-shown (e ∷ es) peer status none = by (nat_eq peer e.0) (entered-shown es peer status) none
  where
    by : (b : Bool) → (session_of (map shown es) peer ≡ None → map shown (insert_entry nat_eq es peer status) ≡ map shown es ++ shown (peer, status) ∷ [])
        → (if b then Some (shown e) else session_of (map shown es) peer) ≡ None
        → map shown (if b then (e.0, status) ∷ es else e ∷ insert_entry nat_eq es peer status) ≡ shown e ∷ map shown es ++ shown (peer, status) ∷ []
    by true rest h = cc
    by false rest h = ap (λ l. shown e ∷ l) (rest h)

some_is : (x y : Status) → Some x ≡ Some y → x ≡ y
some_is x y h = cc

-- a peer's session with its status closed
pub closed-shown : (es : List (ℕ × Status)) (peer : ℕ) (status : Status) → lookup (nat_eq peer) es ≡ Some status
    → map shown (set_value (nat_eq peer) es (record status { is_open = false })) ≡ closed (map shown es) peer
closed-shown [] peer status found = cc
closed-shown (e ∷ es) peer status found = by (nat_eq peer e.0) (closed-shown es peer status) found
  where
    by : (b : Bool) → (lookup (nat_eq peer) es ≡ Some status → map shown (set_value (nat_eq peer) es (record status { is_open = false })) ≡ closed (map shown es) peer)
        → (if b then Some e.1 else lookup (nat_eq peer) es) ≡ Some status
        → map shown (if b then (e.0, record status { is_open = false }) ∷ es else e ∷ set_value (nat_eq peer) es (record status { is_open = false }))
        ≡ (if b then session e.0 false e.1.flags e.1.rate ∷ map shown es else shown e ∷ closed (map shown es) peer)
    by true rest h = ap (λ (s : Status). session e.0 false s.flags s.rate ∷ map shown es) (sym (some_is e.1 status h))
    by false rest h = ap (λ l. shown e ∷ l) (rest h)

-- a peer without a session has none to close
pub closed-absent : (es : List (ℕ × Status)) (peer : ℕ) → lookup (nat_eq peer) es ≡ None → closed (map shown es) peer ≡ map shown es
closed-absent [] peer none = refl
closed-absent (e ∷ es) peer none = by (nat_eq peer e.0) (closed-absent es peer) none
  where
    by : (b : Bool) → (lookup (nat_eq peer) es ≡ None → closed (map shown es) peer ≡ map shown es) → (if b then Some e.1 else lookup (nat_eq peer) es) ≡ None
        → (if b then session e.0 false e.1.flags e.1.rate ∷ map shown es else shown e ∷ closed (map shown es) peer) ≡ shown e ∷ map shown es
    by true rest h = cc
    by false rest h = ap (λ l. shown e ∷ l) (rest h)

-- a peer's session with its status at another rate
pub rated-shown : (es : List (ℕ × Status)) (peer rate : ℕ) (status : Status) → lookup (nat_eq peer) es ≡ Some status
    → map shown (set_value (nat_eq peer) es (record status { rate = rate })) ≡ rated (map shown es) peer rate
rated-shown [] peer rate status found = cc
rated-shown (e ∷ es) peer rate status found = by (nat_eq peer e.0) (rated-shown es peer rate status) found
  where
    by : (b : Bool) → (lookup (nat_eq peer) es ≡ Some status → map shown (set_value (nat_eq peer) es (record status { rate = rate })) ≡ rated (map shown es) peer rate)
        → (if b then Some e.1 else lookup (nat_eq peer) es) ≡ Some status
        → map shown (if b then (e.0, record status { rate = rate }) ∷ es else e ∷ set_value (nat_eq peer) es (record status { rate = rate }))
        ≡ (if b then session e.0 e.1.is_open e.1.flags rate ∷ map shown es else shown e ∷ rated (map shown es) peer rate)
    by true rest h = ap (λ (s : Status). session e.0 s.is_open s.flags rate ∷ map shown es) (sym (some_is e.1 status h))
    by false rest h = ap (λ l. shown e ∷ l) (rest h)

-- a peer without a session has no rate to set
pub rated-absent : (es : List (ℕ × Status)) (peer rate : ℕ) → lookup (nat_eq peer) es ≡ None → rated (map shown es) peer rate ≡ map shown es
rated-absent [] peer rate none = refl
rated-absent (e ∷ es) peer rate none = by (nat_eq peer e.0) (rated-absent es peer rate) none
  where
    by : (b : Bool) → (lookup (nat_eq peer) es ≡ None → rated (map shown es) peer rate ≡ map shown es) → (if b then Some e.1 else lookup (nat_eq peer) es) ≡ None
        → (if b then session e.0 e.1.is_open e.1.flags rate ∷ map shown es else shown e ∷ rated (map shown es) peer rate) ≡ shown e ∷ map shown es
    by true rest h = cc
    by false rest h = ap (λ l. shown e ∷ l) (rest h)
