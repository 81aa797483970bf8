-- The rules of admission, a row each.
use Rattle.std.specs.Prelude.{ℕ, ◌+◌, ◌*◌, ◌-◌, List, [], ◌∷◌, ◌++◌, drop, codes}
use Rattle.gate_rules.specs.declared.denial.Denial.{Denial}
use Rattle.gate_rules.specs.declared.denial.Denial.TheVariants.{Decode, VinEmpty, VoutEmpty, Oversize, VoutNegative, VoutTooLarge, TotalTooLarge, InputsDuplicate, CoinbaseLength, PrevoutNull, Coinbase, Version, TxSize, ScriptSigSize, ScriptSigNotPushOnly, ScriptPubKey, Dust, MultiOpReturn, TxSizeSmall, NonFinal, AlreadyInMempool, SameNonWitnessData, MempoolConflict, AlreadyKnown, MissingOrSpent, NonBip68Final, PrematureSpend, InputValues, InBelowOut, FeeOutOfRange, NonstandardInputs, WitnessNonstandard, TooManySigops, MempoolMinFee, MinRelayFee, TooLongChain, SpendsConflicting, LowerFeeRate, TooManyReplacements, AddsUnconfirmed, LowerFee, LowerDifference, VerdictMissing, SoftVerdict, HardVerdict, MempoolFull, TrucViolation, DustWithFee, UnsweptDust, MaxFeerate, DataCarrier}
use Rattle.gate_rules.specs.declared.rule.Consequence.{Consequence}
use Rattle.gate_rules.specs.declared.rule.Consequence.TheVariants.{Close, Keep}
use Rattle.gate_rules.specs.Key.{Key, key}

abbrev pub row_of : Denial → Key
row_of Decode = key (codes "A1") (codes "tx-decode") Keep
row_of VinEmpty = key (codes "A2") (codes "bad-txns-vin-empty") Close
row_of VoutEmpty = key (codes "A3") (codes "bad-txns-vout-empty") Close
row_of Oversize = key (codes "A4") (codes "bad-txns-oversize") Close
row_of VoutNegative = key (codes "A5") (codes "bad-txns-vout-negative") Close
row_of VoutTooLarge = key (codes "A6") (codes "bad-txns-vout-toolarge") Close
row_of TotalTooLarge = key (codes "A7") (codes "bad-txns-txouttotal-toolarge") Close
row_of InputsDuplicate = key (codes "A8") (codes "bad-txns-inputs-duplicate") Close
row_of CoinbaseLength = key (codes "A9") (codes "bad-cb-length") Close
row_of PrevoutNull = key (codes "A10") (codes "bad-txns-prevout-null") Close
row_of Coinbase = key (codes "A11") (codes "coinbase") Close
row_of Version = key (codes "A12") (codes "version") Keep
row_of TxSize = key (codes "A13") (codes "tx-size") Keep
row_of ScriptSigSize = key (codes "A14") (codes "scriptsig-size") Keep
row_of ScriptSigNotPushOnly = key (codes "A15") (codes "scriptsig-not-pushonly") Keep
row_of ScriptPubKey = key (codes "A16") (codes "scriptpubkey") Keep
row_of Dust = key (codes "A17") (codes "dust") Keep
row_of MultiOpReturn = key (codes "A18") (codes "multi-op-return") Keep
row_of TxSizeSmall = key (codes "A19") (codes "tx-size-small") Keep
row_of NonFinal = key (codes "A20") (codes "non-final") Keep
row_of AlreadyInMempool = key (codes "A21") (codes "txn-already-in-mempool") Keep
row_of SameNonWitnessData = key (codes "A22") (codes "txn-same-nonwitness-data-in-mempool") Keep
row_of MempoolConflict = key (codes "A23") (codes "txn-mempool-conflict") Keep
row_of AlreadyKnown = key (codes "A24") (codes "txn-already-known") Keep
row_of MissingOrSpent = key (codes "A25") (codes "bad-txns-inputs-missingorspent") Keep
row_of NonBip68Final = key (codes "A26") (codes "non-BIP68-final") Keep
row_of PrematureSpend = key (codes "A27") (codes "bad-txns-premature-spend-of-coinbase") Keep
row_of InputValues = key (codes "A28") (codes "bad-txns-inputvalues-outofrange") Close
row_of InBelowOut = key (codes "A29") (codes "bad-txns-in-belowout") Close
row_of FeeOutOfRange = key (codes "A30") (codes "bad-txns-fee-outofrange") Close
row_of NonstandardInputs = key (codes "A31") (codes "bad-txns-nonstandard-inputs") Keep
row_of WitnessNonstandard = key (codes "A32") (codes "bad-witness-nonstandard") Keep
row_of TooManySigops = key (codes "A33") (codes "bad-txns-too-many-sigops") Keep
row_of MempoolMinFee = key (codes "A34") (codes "mempool min fee not met") Keep
row_of MinRelayFee = key (codes "A35") (codes "min relay fee not met") Keep
row_of TooLongChain = key (codes "A36") (codes "too-long-mempool-chain") Keep
row_of SpendsConflicting = key (codes "A37") (codes "bad-txns-spends-conflicting-tx") Close
row_of LowerFeeRate = key (codes "A38") (codes "insufficient fee") Keep
row_of TooManyReplacements = key (codes "A39") (codes "too many potential replacements") Keep
row_of AddsUnconfirmed = key (codes "A40") (codes "replacement-adds-unconfirmed") Keep
row_of LowerFee = key (codes "A41") (codes "insufficient fee") Keep
row_of LowerDifference = key (codes "A42") (codes "insufficient fee") Keep
row_of VerdictMissing = key (codes "A43") (codes "verdict-missing") Keep
row_of SoftVerdict = key (codes "A44") (codes "non-mandatory-script-verify-flag") Keep
row_of HardVerdict = key (codes "A45") (codes "mandatory-script-verify-flag-failed") Close
row_of MempoolFull = key (codes "A46") (codes "mempool full") Keep
row_of TrucViolation = key (codes "A47") (codes "TRUC-violation") Keep
row_of DustWithFee = key (codes "A48") (codes "dust") Keep
row_of UnsweptDust = key (codes "A49") (codes "missing-ephemeral-spends") Keep
row_of MaxFeerate = key (codes "A50") (codes "max feerate exceeded") Keep
row_of DataCarrier = key (codes "A51") (codes "datacarrier") Keep

-- those on a transaction by itself, in the order of their numbers
abbrev pub alone : List Denial
alone =
    Decode ∷ VinEmpty ∷ VoutEmpty ∷ Oversize ∷ VoutNegative ∷ VoutTooLarge ∷ TotalTooLarge ∷ InputsDuplicate ∷ CoinbaseLength ∷ PrevoutNull ∷ Coinbase ∷ Version ∷ TxSize ∷ ScriptSigSize ∷ ScriptSigNotPushOnly ∷ ScriptPubKey ∷ Dust ∷ MultiOpReturn ∷ TxSizeSmall ∷ []

-- those behind these, in the order of their numbers
abbrev pub behind : List Denial
behind =
    NonFinal ∷ AlreadyInMempool ∷ SameNonWitnessData ∷ MempoolConflict ∷ AlreadyKnown ∷ MissingOrSpent ∷ NonBip68Final ∷ PrematureSpend ∷ InputValues ∷ InBelowOut ∷ FeeOutOfRange ∷ NonstandardInputs ∷ WitnessNonstandard ∷ TooManySigops ∷ MempoolMinFee ∷ MinRelayFee ∷ TooLongChain ∷ SpendsConflicting ∷ LowerFeeRate ∷ TooManyReplacements ∷ AddsUnconfirmed ∷ LowerFee ∷ LowerDifference ∷ VerdictMissing ∷ SoftVerdict ∷ HardVerdict ∷ MempoolFull ∷ TrucViolation ∷ DustWithFee ∷ UnsweptDust ∷ MaxFeerate ∷ DataCarrier ∷ []

-- all of them, in the order of their numbers
abbrev pub admission : List Denial
admission = alone ++ behind

-- the letter of the layer, and the number
abbrev pub name_of : Denial → List ℕ
name_of denial = (row_of denial).name

abbrev pub token_of : Denial → List ℕ
token_of denial = (row_of denial).token

abbrev pub then_of : Denial → Consequence
then_of denial = (row_of denial).follows

-- a number by its decimal digits, behind others that are this number
abbrev digits_behind : ℕ → List ℕ → ℕ
digits_behind number [] = number
digits_behind number (digit ∷ digits) = digits_behind (number * 10 + (digit - 48)) digits

-- the number behind the letter
abbrev pub rule_of : Denial → ℕ
rule_of denial = digits_behind 0 (drop 1 (name_of denial))
