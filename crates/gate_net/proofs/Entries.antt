-- The entries that texts spell, read one after another.
use Rattle.std.proofs.Common.{◌≡◌, ◌≢◌, ℕ, ◌+◌, ◌<◌, ◌≤◌, Bool, List, [], ◌∷◌, ◌++◌, length, get_or, drop, Result, Ok, Err, refl, ap, sym, subst, ◌∙◌, append_assoc, append-nil, add-one, suc}
use Rattle.std.proofs.Math.Seq.{drop-cons}
use Rattle.std.proofs.lemmas.List.{drop_all}
use Rattle.gate_rules.specs.declared.NetDenial.{NetDenial}
use Rattle.gate_net.specs.declared.fault.NetFault.{NetFault}
use Rattle.gate_net.specs.declared.fault.NetFault.TheVariants.{Denied}
use Rattle.gate_net.specs.declared.entry.WhitelistEntry.{WhitelistEntry}
use Rattle.gate_net.specs.declared.whitelist.Whitelist.{Whitelist}
use Rattle.gate_net.specs.Whitelists.{entry_of, in_front, entries_of, whitelisted, whitelist_of}

abbrev behind : List WhitelistEntry → Result (List WhitelistEntry) NetDenial → Result (List WhitelistEntry) NetDenial
behind read (Ok entries) = Ok (read ++ entries)
behind read (Err denial) = Err denial

-- what is read so far, and what is left, are all
pub record AreRead (texts : List (List ℕ)) (read : List WhitelistEntry) (rest : List (List ℕ)) : Type 0 where
  pub all : entries_of texts ≡ behind read (entries_of rest)

behind_nothing : (found : Result (List WhitelistEntry) NetDenial) → found ≡ behind [] found
behind_nothing (Ok entries) = refl
behind_nothing (Err denial) = refl

pub read_first : (texts : List (List ℕ)) → AreRead texts [] texts
read_first texts = record { all = behind_nothing (entries_of texts) }

behind_one : (read : List WhitelistEntry) (entry : WhitelistEntry) (rest : Result (List WhitelistEntry) NetDenial) → behind read (in_front (Ok entry) rest) ≡ behind (read ++ entry ∷ []) rest
behind_one read entry (Ok entries) = ap Ok (sym (append_assoc read (entry ∷ []) entries))
behind_one read entry (Err denial) = refl

next : (texts : List (List ℕ)) (i : ℕ) (text : List ℕ) → i < length texts → text ≡ get_or texts i text → drop i texts ≡ text ∷ drop (i + 1) texts
next texts i text within is = drop-cons texts i text within ∙ (ap (λ t. t ∷ drop (suc i) texts) (sym is) ∙ ap (λ n. text ∷ drop n texts) (sym (add-one i)))

pub read_more : (texts : List (List ℕ)) (read more : List WhitelistEntry) (i : ℕ) (text : List ℕ) (entry : WhitelistEntry) → i < length texts → text ≡ get_or texts i text → Ok entry ≡ entry_of text → more ≡ read ++ entry ∷ [] → AreRead texts read (drop i texts)
    → AreRead texts more (drop (i + 1) texts)
read_more texts read more i text entry within is found grown so = record {
  all =
      so.all
      ∙ (ap (λ l. behind read (entries_of l)) (next texts i text within is)
      ∙ (ap (λ e. behind read (in_front e (entries_of (drop (i + 1) texts)))) (sym found)
      ∙ (behind_one read entry (entries_of (drop (i + 1) texts)) ∙ ap (λ l. behind l (entries_of (drop (i + 1) texts))) (sym grown))));
}

pub read_wrong : (texts : List (List ℕ)) (read : List WhitelistEntry) (i : ℕ) (text : List ℕ) (denial : NetDenial) (relay forcerelay : Bool) → i < length texts → text ≡ get_or texts i text → Err denial ≡ entry_of text → AreRead texts read (drop i texts)
    → whitelist_of texts relay forcerelay ≡ Err (Denied denial)
read_wrong texts read i text denial relay forcerelay within is found so =
    ap (whitelisted relay forcerelay)
    (so.all
    ∙ (ap (λ l. behind read (entries_of l)) (next texts i text within is)
    ∙ ap (λ e. behind read (in_front e (entries_of (drop (i + 1) texts)))) (sym found)))

pub read_all : (texts : List (List ℕ)) (read : List WhitelistEntry) (i : ℕ) (relay forcerelay : Bool) → length texts ≤ i → AreRead texts read (drop i texts)
    → whitelist_of texts relay forcerelay ≡ Ok (record { entries = read; relay = relay; forcerelay = forcerelay })
read_all texts read i relay forcerelay ended so =
    ap (whitelisted relay forcerelay)
    (so.all ∙ (ap (λ l. behind read (entries_of l)) (drop_all i texts ended) ∙ ap Ok (append-nil read)))
