-- The texts of lists and of objects, one item after another.
use Rattle.std.proofs.Common.{◌≡◌, ℕ, List, [], ◌∷◌, ◌++◌, ◌+◌, ◌<◌, ◌≤◌, length, take, get_or, true, refl, sym, ap, ◌∙◌, append_assoc, Option}
use Rattle.std.proofs.lemmas.List.{take_all, take_more, flat_map_more}
use Rattle.std.specs.List.{flat_map}
use Rattle.json.specs.Print.{quoted}
use Rattle.serde_json.specs.Data.{Data, array, object, Members, no_members, member}
use Rattle.serde_json.specs.Written.{compact_text, items_text, members_text}
use Rattle.gate_tx.specs.Ids.{id_text}
use Rattle.gate_submission.specs.declared.package_outcome.Member.{Member}
use Rattle.gate_submission.specs.declared.package_outcome.Together.{Together}
use Rattle.gate_rpc.specs.declared.items.KnownEntry.{KnownEntry}
use Rattle.gate_rpc.specs.Packages.{fate_json, members_json}
use Rattle.gate_rpc.specs.Replies.{entries_json, entry_json, items_json}
use Rattle.gate_rpc.specs.Values.{txid_items, txids_json}

-- an id after others
abbrev pub later_text : List ℕ → List ℕ
later_text id = 44 ∷ quoted (id_text id)

later_texts : (ids : List (List ℕ)) → flat_map later_text ids ++ 93 ∷ [] ≡ items_text true (txid_items ids)
later_texts [] = refl
later_texts (id ∷ ids) = append_assoc (later_text id) (flat_map later_text ids) (93 ∷ []) ∙ ap (λ t. later_text id ++ t) (later_texts ids)

listed_text : (id : List ℕ) (ids : List (List ℕ)) → (91 ∷ (quoted (id_text id) ++ flat_map later_text ids)) ++ 93 ∷ [] ≡ compact_text (txids_json (id ∷ ids))
listed_text id ids = ap (λ t. 91 ∷ t) (append_assoc (quoted (id_text id)) (flat_map later_text ids) (93 ∷ []) ∙ ap (λ t. quoted (id_text id) ++ t) (later_texts ids))

pub listed_whole : (id : List ℕ) (ids : List (List ℕ)) (i : ℕ) (text all : List ℕ) → text ≡ 91 ∷ (quoted (id_text id) ++ flat_map later_text (take i ids)) → length ids ≤ i → all ≡ text ++ 93 ∷ []
    → all ≡ compact_text (txids_json (id ∷ ids))
listed_whole id ids i text all is end pushed =
    pushed ∙ ap (λ t. t ++ 93 ∷ []) (is ∙ ap (λ l. 91 ∷ (quoted (id_text id) ++ flat_map later_text l)) (take_all i ids end)) ∙ listed_text id ids

-- ---- the text of a list of values

-- a value after others
abbrev pub later : {A : Type 0} → (A → Data) → A → List ℕ
later f a = 44 ∷ compact_text (f a)

module _ {A : Type 0} (f : A → Data) where
  later_items : (values : List A) → flat_map (later f) values ++ 93 ∷ [] ≡ items_text true (items_json f values)
  later_items [] = refl
  later_items (a ∷ values) = append_assoc (later f a) (flat_map (later f) values) (93 ∷ []) ∙ ap (λ t. later f a ++ t) (later_items values)

  items_listed : (a : A) (values : List A) → (91 ∷ (compact_text (f a) ++ flat_map (later f) values)) ++ 93 ∷ [] ≡ compact_text (array (items_json f (a ∷ values)))
  items_listed a values = ap (λ t. 91 ∷ t) (append_assoc (compact_text (f a)) (flat_map (later f) values) (93 ∷ []) ∙ ap (λ t. compact_text (f a) ++ t) (later_items values))

  pub items_whole : (a : A) (values : List A) (i : ℕ) (text all : List ℕ) → text ≡ 91 ∷ (compact_text (f a) ++ flat_map (later f) (take i values)) → length values ≤ i → all ≡ text ++ 93 ∷ []
      → all ≡ compact_text (array (items_json f (a ∷ values)))
  items_whole a values i text all is end pushed =
      pushed ∙ ap (λ t. t ++ 93 ∷ []) (is ∙ ap (λ l. 91 ∷ (compact_text (f a) ++ flat_map (later f) l)) (take_all i values end)) ∙ items_listed a values

-- one more item behind others
pub one_more : {A : Type 0} (f : A → List ℕ) (start : List ℕ) (values : List A) (i : ℕ) (a : A) (text item all : List ℕ) → i < length values → a ≡ get_or values i a
    → text ≡ start ++ flat_map (λ v. 44 ∷ f v) (take i values) → item ≡ f a → all ≡ text ++ 44 ∷ item → all ≡ start ++ flat_map (λ v. 44 ∷ f v) (take (i + 1) values)
one_more {A = A} f start values i a text item all lt at is so pushed =
    let after : A → List ℕ = λ v. 44 ∷ f v in
    pushed ∙ ap (λ t. t ++ 44 ∷ item) is ∙ ap (λ t. (start ++ flat_map after (take i values)) ++ 44 ∷ t) so
    ∙ flat_map_more after start (take i values) a
    ∙ ap (λ l. start ++ flat_map after l) (sym (take_more values i a lt ∙ ap (λ x. take i values ++ x ∷ []) (sym at)))

-- ---- the text of an object of values by their keys

module _ {A : Type 0} (key : A → List ℕ) (f : A → Data) where
  abbrev members_by : List A → Members
  members_by [] = no_members
  members_by (a ∷ values) = member (key a) (f a) (members_by values)

  -- a value behind its key
  abbrev keyed : A → List ℕ
  keyed a = quoted (key a) ++ 58 ∷ compact_text (f a)

  abbrev later_keyed : A → List ℕ
  later_keyed a = 44 ∷ keyed a

  keyed_then : (a : A) (rest : List ℕ) → keyed a ++ rest ≡ quoted (key a) ++ 58 ∷ (compact_text (f a) ++ rest)
  keyed_then a rest = append_assoc (quoted (key a)) (58 ∷ compact_text (f a)) rest

  later_members : (values : List A) → flat_map later_keyed values ++ 125 ∷ [] ≡ members_text true (members_by values)
  later_members [] = refl
  later_members (a ∷ values) =
      append_assoc (later_keyed a) (flat_map later_keyed values) (125 ∷ [])
      ∙ ap (λ t. later_keyed a ++ t) (later_members values)
      ∙ ap (λ t. 44 ∷ t) (keyed_then a (members_text true (members_by values)))

  members_listed : (a : A) (values : List A) → (123 ∷ (keyed a ++ flat_map later_keyed values)) ++ 125 ∷ [] ≡ compact_text (object (members_by (a ∷ values)))
  members_listed a values =
      ap (λ t. 123 ∷ t)
      (append_assoc (keyed a) (flat_map later_keyed values) (125 ∷ [])
      ∙ ap (λ t. keyed a ++ t) (later_members values)
      ∙ keyed_then a (members_text true (members_by values)))

  members_whole : (a : A) (values : List A) (i : ℕ) (text all : List ℕ) → text ≡ 123 ∷ (keyed a ++ flat_map later_keyed (take i values)) → length values ≤ i → all ≡ text ++ 125 ∷ []
      → all ≡ compact_text (object (members_by (a ∷ values)))
  members_whole a values i text all is end pushed =
      pushed ∙ ap (λ t. t ++ 125 ∷ []) (is ∙ ap (λ l. 123 ∷ (keyed a ++ flat_map later_keyed l)) (take_all i values end)) ∙ members_listed a values

-- an entry behind its id
unfoldable pub member_text : KnownEntry → List ℕ
member_text known = quoted (id_text known.txid) ++ 58 ∷ compact_text (entry_json known.info)

pub member_is : (known : KnownEntry) → quoted (id_text known.txid) ++ 58 ∷ compact_text (entry_json known.info) ≡ member_text known
unfolding member_text
member_is known = refl

pub entries_whole : (known : KnownEntry) (entries : List KnownEntry) (i : ℕ) (text all : List ℕ) → text ≡ 123 ∷ (member_text known ++ flat_map (λ e. 44 ∷ member_text e) (take i entries)) → length entries ≤ i
    → all ≡ text ++ 125 ∷ [] → all ≡ compact_text (entries_json (known ∷ entries))
unfolding member_text
entries_whole known entries i text all is end pushed = members_whole (λ e. id_text e.txid) (λ e. entry_json e.info) known entries i text all is end pushed

-- what became of a member of a package, behind its witness id
unfoldable pub fate_text : Option Together → Member → List ℕ
fate_text all m = quoted (id_text m.wtxid) ++ 58 ∷ compact_text (fate_json all m.txid m.wtxid m.fate)

pub fate_is : (all : Option Together) (m : Member) → quoted (id_text m.wtxid) ++ 58 ∷ compact_text (fate_json all m.txid m.wtxid m.fate) ≡ fate_text all m
unfolding fate_text
fate_is all m = refl

pub fates_whole : (together : Option Together) (m : Member) (members : List Member) (i : ℕ) (text all : List ℕ) → text ≡ 123 ∷ (fate_text together m ++ flat_map (λ e. 44 ∷ fate_text together e) (take i members)) → length members ≤ i
    → all ≡ text ++ 125 ∷ [] → all ≡ compact_text (members_json together (m ∷ members))
unfolding fate_text
fates_whole together m members i text all is end pushed = members_whole (λ e. id_text e.wtxid) (λ e. fate_json together e.txid e.wtxid e.fate) m members i text all is end pushed
