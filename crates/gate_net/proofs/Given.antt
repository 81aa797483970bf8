-- The flags of an address: entry by entry, and flag by flag.
use Rattle.std.proofs.Common.{◌≡◌, ℕ, ◌+◌, ◌<◌, ◌≤◌, ◌||◌, ◌&&◌, Bool, true, false, if◌then◌else◌, List, [], ◌∷◌, ◌++◌, length, get_or, take, map, refl, ap, ap₂, sym, subst, ◌∙◌}
use Rattle.std.specs.List.{filter, list_any, Any, Contains}
use Rattle.std.proofs.lemmas.List.{take_more, take_all, map-append}
use Rattle.std.proofs.lemmas.List.Elements.{filter-append}
use Rattle.std.proofs.lemmas.List.Folds.{list_any-append, Any-from_list_any, list_any-from_Any}
use Rattle.gate_net.specs.declared.entry.WhitelistEntry.{WhitelistEntry}
use Rattle.gate_net.specs.declared.whitelist.Whitelist.{Whitelist}
use Rattle.gate_net.specs.Addresses.{Address}
use Rattle.gate_net.specs.Subnets.{is_in}
use Rattle.gate_net.specs.Permissions.{Permissions, no_permissions, union, union_of}
use Rattle.gate_net.specs.Whitelists.{matching, is_implicit, own_flags, implicit_flags, flags_of}
use Rattle.gate_net.specs.Laws.{Flag, Bloomfilter, Noban, Forcerelay, Relay, Mempool, Download, Addr, has, gives}
use Rattle.gate_net.proofs.Flags.{AreSoFar, union_assoc, union_none}

union_append : (xs ys : List Permissions) → union_of (xs ++ ys) ≡ union (union_of xs) (union_of ys)
union_append [] ys = refl
union_append (x ∷ xs) ys = ap (union x) (union_append xs ys) ∙ sym (union_assoc x (union_of xs) (union_of ys))

pub so_far_more : (flags more : Permissions) (implicit mark : Bool) (w : Whitelist) (a : Address) (entries : List WhitelistEntry) (i : ℕ) (entry : WhitelistEntry)
    → i < length entries → entry ≡ get_or entries i entry
    → more ≡ union flags (union_of (map own_flags (matching a (entry ∷ []))))
    → mark ≡ (implicit || list_any is_implicit (matching a (entry ∷ [])))
    → AreSoFar flags implicit w a (take i entries) → AreSoFar more mark w a (take (i + 1) entries)
so_far_more flags more implicit mark w a entries i entry within is own implied so =
    let grown : take (i + 1) entries ≡ take i entries ++ entry ∷ [] = take_more entries i entry within ∙ ap (λ e. take i entries ++ e ∷ []) (sym is) in
    let both : matching a (take i entries ++ entry ∷ []) ≡ matching a (take i entries) ++ matching a (entry ∷ []) = filter-append (λ e. is_in a e.subnet) (take i entries) (entry ∷ []) in
    subst (AreSoFar more mark w a) (sym grown) (record {
      own =
          own
          ∙ (ap (λ f. union f (union_of (map own_flags (matching a (entry ∷ []))))) so.own
          ∙ sym (ap (λ l. union_of (map own_flags l)) both
          ∙ (ap union_of (map-append own_flags (matching a (take i entries)) (matching a (entry ∷ [])))
          ∙ union_append (map own_flags (matching a (take i entries))) (map own_flags (matching a (entry ∷ []))))));
      mark =
          implied
          ∙ (ap (λ b. b || list_any is_implicit (matching a (entry ∷ []))) so.mark
          ∙ sym (ap (list_any is_implicit) both ∙ list_any-append is_implicit (matching a (take i entries)) (matching a (entry ∷ []))));
    })

pub so_far_all : (flags : Permissions) (implicit : Bool) (w : Whitelist) (a : Address) (i : ℕ) → length w.entries ≤ i → AreSoFar flags implicit w a (take i w.entries)
    → union flags (if implicit then implicit_flags w else no_permissions) ≡ flags_of w a
unfolding flags_of
so_far_all flags implicit w a i ended so =
    let all = subst (AreSoFar flags implicit w a) (take_all i w.entries ended) so in
    ap₂ (λ f m. union f (if m then implicit_flags w else no_permissions)) all.own all.mark

-- flag by flag
has_union : (flag : Flag) (a b : Permissions) → has flag (union a b) ≡ (has flag a || has flag b)
has_union Bloomfilter a b = refl
has_union Noban a b = refl
has_union Forcerelay a b = refl
has_union Relay a b = refl
has_union Mempool a b = refl
has_union Download a b = refl
has_union Addr a b = refl

has_none : (flag : Flag) → has flag no_permissions ≡ false
has_none Bloomfilter = refl
has_none Noban = refl
has_none Forcerelay = refl
has_none Relay = refl
has_none Mempool = refl
has_none Download = refl
has_none Addr = refl

-- what the implicit entries among these give, and the others
abbrev total : Whitelist → Flag → List WhitelistEntry → Bool
total w flag entries = has flag (union_of (map own_flags entries)) || (list_any is_implicit entries && has flag (implicit_flags w))

has_if : (flag : Flag) (b : Bool) (flags : Permissions) → has flag (if b then flags else no_permissions) ≡ (b && has flag flags)
has_if flag true flags = refl
has_if flag false flags = has_none flag

mixed : (o u m l i : Bool) → ((o || u) || ((m || l) && i)) ≡ ((o || (m && i)) || (u || (l && i)))
mixed true u m l i = refl
mixed false true true true true = refl
mixed false true true true false = refl
mixed false true true false true = refl
mixed false true true false false = refl
mixed false true false true true = refl
mixed false true false true false = refl
mixed false true false false true = refl
mixed false true false false false = refl
mixed false false true true true = refl
mixed false false true true false = refl
mixed false false true false true = refl
mixed false false true false false = refl
mixed false false false true true = refl
mixed false false false true false = refl
mixed false false false false true = refl
mixed false false false false false = refl

total_cons : (w : Whitelist) (flag : Flag) (entry : WhitelistEntry) (entries : List WhitelistEntry) → total w flag (entry ∷ entries) ≡ (gives w flag entry || total w flag entries)
total_cons w flag entry entries =
    ap (λ b. b || (list_any is_implicit (entry ∷ entries) && has flag (implicit_flags w))) (has_union flag (own_flags entry) (union_of (map own_flags entries)))
    ∙ mixed (has flag entry.permissions) (has flag (union_of (map own_flags entries))) entry.is_implicit (list_any is_implicit entries) (has flag (implicit_flags w))

total_none : (w : Whitelist) (flag : Flag) → total w flag [] ≡ false
total_none w flag = ap (λ b. b || false) (has_none flag)

total_any : (w : Whitelist) (flag : Flag) (a : Address) (entries : List WhitelistEntry) → total w flag (matching a entries) ≡ list_any (λ entry. is_in a entry.subnet && gives w flag entry) entries
total_any w flag a [] = total_none w flag
total_any w flag a (entry ∷ entries) = by (is_in a entry.subnet) refl (total_any w flag a entries)
  where
    by : (here : Bool) → is_in a entry.subnet ≡ here → total w flag (matching a entries) ≡ list_any (λ entry. is_in a entry.subnet && gives w flag entry) entries
        → total w flag (matching a (entry ∷ entries)) ≡ list_any (λ entry. is_in a entry.subnet && gives w flag entry) (entry ∷ entries)
    by true is later = rw is (total_cons w flag entry (matching a entries) ∙ ap (λ b. gives w flag entry || b) later)
    by false is later = rw is later

pub flags_given : (w : Whitelist) (a : Address) (flag : Flag) → has flag (flags_of w a) ≡ list_any (λ entry. is_in a entry.subnet && gives w flag entry) w.entries
unfolding flags_of
flags_given w a flag =
    has_union flag (union_of (map own_flags (matching a w.entries))) (if list_any is_implicit (matching a w.entries) then implicit_flags w else no_permissions)
    ∙ (ap (λ b. has flag (union_of (map own_flags (matching a w.entries))) || b) (has_if flag (list_any is_implicit (matching a w.entries)) (implicit_flags w))
    ∙ total_any w flag a w.entries)

-- more entries
any_more : (test : WhitelistEntry → Bool) (xs ys : List WhitelistEntry) → ((x : WhitelistEntry) → Contains xs x → Contains ys x) → list_any test xs ≡ true → list_any test ys ≡ true
any_more test xs ys all h =
    let found = Any-from_list_any test xs h in
    let at = all found.1 (found.0, found.2, found.3) in
    list_any-from_Any test ys (at.0, found.1, at.1, at.2, found.4)

given_more : (w : Whitelist) (more : List WhitelistEntry) (a : Address) (flag : Flag) → ((entry : WhitelistEntry) → Contains w.entries entry → Contains more entry)
    → list_any (λ entry. is_in a entry.subnet && gives w flag entry) w.entries ≡ true → list_any (λ entry. is_in a entry.subnet && gives w flag entry) more ≡ true
given_more w more a flag all h = any_more (λ entry. is_in a entry.subnet && gives w flag entry) w.entries more all h

pub nothing_taken : (w : Whitelist) (more : List WhitelistEntry) (a : Address) (flag : Flag) → ((entry : WhitelistEntry) → Contains w.entries entry → Contains more entry)
    → has flag (flags_of w a) ≡ true → has flag (flags_of (record w { entries = more }) a) ≡ true
nothing_taken w more a flag all h = flags_given (record w { entries = more }) a flag ∙ given_more w more a flag all (sym (flags_given w a flag) ∙ h)

pub found_flags : (flags : Permissions) (a : Address) (entry : WhitelistEntry) → is_in a entry.subnet ≡ true → union flags entry.permissions ≡ union flags (union_of (map own_flags (matching a (entry ∷ []))))
found_flags flags a entry here = rw here (ap (union flags) (sym (union_none entry.permissions)))
