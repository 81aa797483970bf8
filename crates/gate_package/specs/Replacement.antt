-- Package replacement: when two that are judged together take the place of entries (J10 to J16).
use Rattle.std.specs.Prelude.{ℕ, ◌-◌, nat_lt, nat_le, ◌==◌, Bool, false, not, ◌||◌, if◌then◌else◌, List, [], ◌∷◌, length}
use Rattle.std.specs.List.{flat_map, list_any}
use Rattle.gate_bytes.specs.Order.{Rule}
use Rattle.gate_tx.specs.Ids.{txid_of}
use Rattle.gate_tx.specs.Tx.{Tx}
use Rattle.gate_rules.specs.declared.PackageDenial.{PackageDenial}
use Rattle.gate_rules.specs.declared.PackageDenial.TheVariants.{ReplacesAsOthers, HasAncestors, TooManyReplacements, LowerFee, LowerRateThanFirst, ConflictTopology, LowerDiagram}
use Rattle.gate_standard.specs.Amounts.{feerate, required_fee}
use Rattle.gate_pool.specs.Pool.{Admitted, listing_of}
use Rattle.gate_pool.specs.Family.{children_of, fees_of, is_among, parents_above}
use Rattle.gate_admit.specs.Policies.{Policy, incremental_feerate}
use Rattle.gate_diagram.specs.declared.Price.{Price}
use Rattle.gate_diagram.specs.Diagram.{improves, pair_chunks}
use Rattle.gate_diagram.specs.Prices.{price_sum_fee, price_sum_size}
use Rattle.gate_rivals.specs.Rivals.{have_ancestors, have_too_many, is_entangled, replaced_together, rivals_of}

abbrev pub price_of : Admitted → Price
price_of e = record { fee = e.fee; vsize = e.vsize }

-- what all pay together
abbrev pub price_of_all : List Price → Price
price_of_all prices = record { fee = price_sum_fee prices; vsize = price_sum_size prices }

-- they pay less than what they replace, or not enough more to pay for their own relay (J13)
abbrev pub pays_too_little : Policy → ℕ → Price → Bool
pays_too_little policy paid sum = nat_lt sum.fee paid || nat_lt (sum.fee - paid) (required_fee (incremental_feerate policy) sum.vsize)

-- the feerate of all is not above that of the first, each rounded down (J14)
abbrev pub is_no_dearer : Price → List Price → Bool
is_no_dearer sum [] = false
is_no_dearer sum (first ∷ others) = nat_le (feerate sum.fee sum.vsize) (feerate first.fee first.vsize)

-- the chunks of an entry that is replaced, with these parents and children: those of a parent stand with its child
abbrev pub chunks_with : Admitted → List Admitted → List Admitted → List Price
chunks_with e (parent ∷ others) children = pair_chunks (price_of parent) (price_of e)
chunks_with e [] (child ∷ others) = []
chunks_with e [] [] = price_of e ∷ []

abbrev pub chunks_at : List Admitted → Admitted → List Price
chunks_at entries e = chunks_with e (parents_above entries e.tx.inputs) (children_of entries (txid_of e.tx))

-- the chunks of what is replaced, with the parents that stay
abbrev pub old_chunks : List Admitted → List Admitted → List Price
old_chunks entries replaced = flat_map (chunks_at entries) replaced

-- the first of these, if it is not replaced
abbrev pub left_of : List (List ℕ) → List Admitted → List Price
left_of gone [] = []
left_of gone (parent ∷ others) = if is_among gone parent then [] else price_of parent ∷ []

abbrev pub left_at : List Admitted → List (List ℕ) → Admitted → List Price
left_at entries gone e = left_of gone (parents_above entries e.tx.inputs)

-- the chunks behind the replacement: all that enter are one, and each parent that stays is one
abbrev pub new_chunks : List Admitted → List Admitted → Price → List Price
new_chunks entries replaced sum = sum ∷ flat_map (left_at entries (listing_of replaced)) replaced

-- J13 to J16, for what is replaced
abbrev pub rules_on : Policy → List Admitted → List Admitted → List Price → Price → List (Rule PackageDenial)
rules_on policy entries replaced prices sum =
    (LowerFee, pays_too_little policy (fees_of replaced) sum)
    ∷ (LowerRateThanFirst, is_no_dearer sum prices)
    ∷ (ConflictTopology, list_any (is_entangled entries) replaced)
    ∷ (LowerDiagram, not (improves (new_chunks entries replaced sum) (old_chunks entries replaced)))
    ∷ []

-- J10 to J16, of transactions that spend what entries spend, at these prices
unfoldable pub replacement_rules : Policy → List Admitted → List Tx → List Price → List (Rule PackageDenial)
replacement_rules policy entries txs prices =
    (ReplacesAsOthers, not (length txs == 2))
    ∷ (HasAncestors, have_ancestors entries txs)
    ∷ (TooManyReplacements, have_too_many entries (rivals_of entries txs))
    ∷ rules_on policy entries (replaced_together entries txs) prices (price_of_all prices)
