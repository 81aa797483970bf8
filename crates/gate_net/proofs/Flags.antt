-- Flags that are gathered, word after word and entry after entry.
use Rattle.std.proofs.Common.{◌≡◌, ℕ, ◌||◌, ◌&&◌, Bool, true, false, if◌then◌else◌, cond, List, [], ◌∷◌, ◌++◌, map, Option, Some, None, refl, ap, sym, subst, ◌∙◌}
use Rattle.std.specs.List.{filter, list_any}
use Rattle.std.specs.Option.{option_map, option_and_then, is_none, unwrap_or}
use Rattle.std.proofs.lemmas.Iterator.{YieldsList}
use Rattle.gate_net.specs.declared.entry.WhitelistEntry.{WhitelistEntry}
use Rattle.gate_net.specs.declared.whitelist.Whitelist.{Whitelist}
use Rattle.gate_net.specs.Addresses.{Address}
use Rattle.gate_net.specs.Subnets.{is_in}
use Rattle.gate_net.specs.Permissions.{Permissions, no_permissions, union, union_of, permitted_by, permitted_together}
use Rattle.gate_net.specs.Whitelists.{matching, is_implicit, own_flags, implicit_flags, flags_of}

or_assoc : (a b c : Bool) → ((a || b) || c) ≡ (a || (b || c))
or_assoc true b c = refl
or_assoc false b c = refl

or_false : (a : Bool) → (a || false) ≡ a
or_false true = refl
or_false false = refl

pub union_assoc : (a b c : Permissions) → union (union a b) c ≡ union a (union b c)
union_assoc a b c = λ i. record {
  bloomfilter = or_assoc a.bloomfilter b.bloomfilter c.bloomfilter i;
  noban = or_assoc a.noban b.noban c.noban i;
  forcerelay = or_assoc a.forcerelay b.forcerelay c.forcerelay i;
  relay = or_assoc a.relay b.relay c.relay i;
  mempool = or_assoc a.mempool b.mempool c.mempool i;
  download = or_assoc a.download b.download c.download i;
  addr = or_assoc a.addr b.addr c.addr i;
}

pub union_none : (a : Permissions) → union a no_permissions ≡ a
union_none a = λ i. record {
  bloomfilter = or_false a.bloomfilter i;
  noban = or_false a.noban i;
  forcerelay = or_false a.forcerelay i;
  relay = or_false a.relay i;
  mempool = or_false a.mempool i;
  download = or_false a.download i;
  addr = or_false a.addr i;
}

-- what the words left to read permit, with the flags so far
pub record AreLeft {S A : Type 0} (steps : S → Option A → S → Type 0) (word : A → List ℕ) (flags : Permissions) (words : S) (all : Option Permissions) : Type 0 where
  pub rest : List (List ℕ)
  pub yields : YieldsList steps word words rest
  pub value : option_map (union flags) (permitted_together rest) ≡ all

map_id : (found : Option Permissions) → option_map (union no_permissions) found ≡ found
map_id None = refl
map_id (Some flags) = refl

pub left_first : {S A : Type 0} (steps : S → Option A → S → Type 0) (word : A → List ℕ) (words : S) (rest : List (List ℕ)) → YieldsList steps word words rest → AreLeft steps word no_permissions words (permitted_together rest)
left_first steps word words rest yields = record { rest = rest; yields = yields; value = map_id (permitted_together rest) }

map_union : (a b : Permissions) (found : Option Permissions) → option_map (union (union a b)) found ≡ option_map (union a) (option_map (union b) found)
map_union a b None = refl
map_union a b (Some flags) = ap Some (union_assoc a b flags)

pub left_done : {S A : Type 0} (steps : S → Option A → S → Type 0) (word : A → List ℕ) (flags : Permissions) (words after : S) (all : Option Permissions) → AreLeft steps word flags words all → steps words None after → Some flags ≡ all
left_done {S} {A} steps word flags words after all left none = by left.rest left.yields left.value
  where
    by : (rest : List (List ℕ)) → YieldsList steps word words rest → option_map (union flags) (permitted_together rest) ≡ all → Some flags ≡ all
    by [] yields value = ap Some (sym (union_none flags)) ∙ value
    by (next ∷ rest) yields value = absurd (yields.runs.0 after none)

pub left_wrong : {S A : Type 0} (steps : S → Option A → S → Type 0) (word : A → List ℕ) (flags : Permissions) (words after : S) (all : Option Permissions) (item : A) → AreLeft steps word flags words all → steps words (Some item) after → permitted_by (word item) ≡ None → None ≡ all
left_wrong {S} {A} steps word flags words after all item left some none = by left.rest left.yields left.value
  where
    by : (rest : List (List ℕ)) → YieldsList steps word words rest → option_map (union flags) (permitted_together rest) ≡ all → None ≡ all
    by [] yields value = absurd (yields.runs item after some)
    by (next ∷ rest) yields value =
        let here : permitted_by next ≡ None = ap permitted_by (sym (yields.runs.1 item after some).0) ∙ none in
        sym (ap (λ o. option_map (union flags) (option_and_then (λ f. option_map (union f) (permitted_together rest)) o)) here) ∙ value

pub left_more : {S A : Type 0} (steps : S → Option A → S → Type 0) (word : A → List ℕ) (flags : Permissions) (words after : S) (all : Option Permissions) (item : A) (own : Permissions) → AreLeft steps word flags words all → steps words (Some item) after → permitted_by (word item) ≡ Some own
    → AreLeft steps word (union flags own) after all
left_more {S} {A} steps word flags words after all item own left some is = by left.rest left.yields left.value
  where
    by : (rest : List (List ℕ)) → YieldsList steps word words rest → option_map (union flags) (permitted_together rest) ≡ all → AreLeft steps word (union flags own) after all
    by [] yields value = absurd (yields.runs item after some)
    by (next ∷ rest) yields value =
        let step = yields.runs.1 item after some in
        let here : permitted_by next ≡ Some own = ap permitted_by (sym step.0) ∙ is in
        record {
          rest = rest;
          yields = record { runs = step.1 };
          value =
              map_union flags own (permitted_together rest)
              ∙ (sym (ap (λ o. option_map (union flags) (option_and_then (λ f. option_map (union f) (permitted_together rest)) o)) here) ∙ value);
        }

-- the flags and the mark that the entries read so far leave
pub record AreSoFar (flags : Permissions) (implicit : Bool) (whitelist : Whitelist) (a : Address) (entries : List WhitelistEntry) : Type 0 where
  pub own : flags ≡ union_of (map own_flags (matching a entries))
  pub mark : implicit ≡ list_any is_implicit (matching a entries)

pub left_begin : {S A : Type 0} (steps : S → Option A → S → Type 0) (word : A → List ℕ) (flags : Permissions) (words items : S) (rest : List (List ℕ)) → flags ≡ no_permissions → words ≡ items → YieldsList steps word items rest
    → AreLeft steps word flags words (permitted_together rest)
left_begin steps word flags words items rest none same yields =
    subst (λ f. AreLeft steps word f words (permitted_together rest)) (sym none)
    (subst (λ s. AreLeft steps word no_permissions s (permitted_together rest)) (sym same) (left_first steps word items rest yields))
