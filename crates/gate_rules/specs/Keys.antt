-- The name, the token and what follows, of each rule and word that the program prints, in its order.
use Rattle.std.specs.Prelude.{List, [], ◌∷◌, ◌++◌, map, codes}
use Rattle.gate_rules.specs.declared.rule.Consequence.TheVariants.{Nothing, EndsRun, EndsProgram}
use Rattle.gate_rules.specs.Chain.{chain, row_of as chain_row}
use Rattle.gate_rules.specs.Denials.{admission, row_of as admission_row}
use Rattle.gate_rules.specs.Key.{Key, key}
use Rattle.gate_rules.specs.Packages.{packages, row_of as package_row}
use Rattle.gate_rules.specs.Peers.{peers, row_of as peer_row}
use Rattle.gate_rules.specs.Whitelist.{whitelist, row_of as whitelist_row}

-- what a user may not call
abbrev pub user_key : Key
user_key = key (codes "U1") (codes "rpc-whitelist") Nothing

-- lines that are no events
abbrev pub line_keys : List Key
line_keys =
    key (codes "L1") (codes "bad-line") Nothing
    ∷ key (codes "L2") (codes "line-too-long") EndsRun
    ∷ key (codes "L3") (codes "too-many-lines") EndsRun
    ∷ []

-- the words for an opening's faults, beside those of N1 to N3
abbrev pub opening_keys : List Key
opening_keys =
    key (codes "opening") (codes "bad-line") EndsProgram
    ∷ key (codes "opening") (codes "times-limit") EndsProgram
    ∷ key (codes "opening") (codes "no-times") EndsProgram
    ∷ key (codes "opening") (codes "coin-value") EndsProgram
    ∷ key (codes "opening") (codes "coin-unspendable") EndsProgram
    ∷ key (codes "opening") (codes "coin-above-tip") EndsProgram
    ∷ key (codes "opening") (codes "coin-twice") EndsProgram
    ∷ []

-- the words for events that were not called
abbrev pub fault_keys : List Key
fault_keys =
    key (codes "fault") (codes "wrong-caller") Nothing
    ∷ key (codes "fault") (codes "pass-full") Nothing
    ∷ key (codes "fault") (codes "audit-full") Nothing
    ∷ key (codes "fault") (codes "history-short") Nothing
    ∷ key (codes "fault") (codes "memory") Nothing
    ∷ []

-- the words of answers to a user's call that are no denials by a rule
abbrev pub call_keys : List Key
call_keys =
    key (codes "call") (codes "missing-inputs") Nothing
    ∷ key (codes "call") (codes "Parse error") Nothing
    ∷ key (codes "call") (codes "Invalid Request") Nothing
    ∷ key (codes "call") (codes "Method not found") Nothing
    ∷ key (codes "call") (codes "Invalid params") Nothing
    ∷ key (codes "call") (codes "Transaction not in mempool") Nothing
    ∷ []

-- behind others, the rules and words that no type of denial has
abbrev pub with_words : List Key → List Key
with_words keys = keys ++ line_keys ++ opening_keys ++ fault_keys ++ call_keys

abbrev pub table_keys : List Key
table_keys =
    with_words (map admission_row admission ++ map peer_row peers ++ map package_row packages ++ user_key ∷ map whitelist_row whitelist ++ map chain_row chain)
