-- No coin of a chain stands above its tip.
use Rattle.std.proofs.Common.{◌≡◌, ℕ, ◌+◌, ◌-◌, ◌≤◌, Bool, true, false, List, [], ◌∷◌, length, map, slice_get, Option, Some, None, IfSome, if◌then◌else◌, ap, ◌∙◌, arith, length-append}
use Rattle.std.specs.Prelude.{option_and_then}
use Rattle.std.proofs.lemmas.List.{length-map}
use Rattle.std.specs.Option.{option_or}
use Rattle.std.specs.Str.{bytes_eq}
use Rattle.gate_tx.specs.declared.OutPoint.{OutPoint}
use Rattle.gate_tx.specs.declared.TxOut.{TxOut}
use Rattle.gate_tx.specs.declared.Coin.{Coin}
use Rattle.gate_tx.specs.Coins.{is_unspendable}
use Rattle.gate_tx.specs.Ids.{txid_of}
use Rattle.gate_tx.specs.Tx.{Tx}
use Rattle.gate_chain.specs.Blocks.{Block}
use Rattle.gate_chain.specs.Coins.{coin_of, coin_made, coin_of_transaction, coin_of_transactions, coin_of_blocks, opening_coin_of}
use Rattle.gate_chain.specs.Headers.{header_time}
use Rattle.gate_chain.specs.History.{History, first_connected}
use Rattle.gate_chain.specs.Keeping.{IsOpening}
use Rattle.gate_chain.specs.Linked.{is_spent}
use Rattle.gate_chain.specs.Times.{times_of, tip_of}

abbrev pub IsWithin : ℕ → Option Coin → Type 0
IsWithin most found = IfSome found (λ c. c.height ≤ most)

pub either : (most : ℕ) (a b : Option Coin) → IsWithin most a → IsWithin most b → IsWithin most (option_or a b)
either most None b here later = later
either most (Some c) b here later = here

pub more : (least most : ℕ) (a : Option Coin) → least ≤ most → IsWithin least a → IsWithin most a
more least most None le h = tt
more least most (Some c) le h = omega (arith, le, h)

output_within : (height : ℕ) (coinbase : Bool) (found : Option TxOut) → IsWithin height (option_and_then (coin_made height coinbase) found)
output_within height coinbase None = tt
output_within height coinbase (Some o) = by (is_unspendable o.script)
  where
    by : (b : Bool) → IsWithin height (if b then None else Some (record { value = o.value; script = o.script; height = height; coinbase = coinbase }))
    by true = tt
    by false = omega arith

transaction_within : (height : ℕ) (coinbase : Bool) (tx : Tx) (p : OutPoint) → IsWithin height (coin_of_transaction height coinbase tx p)
transaction_within height coinbase tx p = by (bytes_eq (txid_of tx) p.txid)
  where
    by : (b : Bool) → IsWithin height (if b then option_and_then (coin_made height coinbase) (slice_get tx.outputs p.index) else None)
    by true = output_within height coinbase (slice_get tx.outputs p.index)
    by false = tt

pub transactions_within : (height : ℕ) (coinbase : Bool) (txs : List Tx) (p : OutPoint) → IsWithin height (coin_of_transactions height coinbase txs p)
transactions_within height coinbase [] p = tt
transactions_within height coinbase (tx ∷ txs) p =
    either height (coin_of_transaction height coinbase tx p) (coin_of_transactions height false txs p) (transaction_within height coinbase tx p) (transactions_within height false txs p)

pub blocks_within : (height most : ℕ) (blocks : List Block) (p : OutPoint) → height + length blocks ≤ most + 1 → IsWithin most (coin_of_blocks height blocks p)
blocks_within height most [] p le = tt
blocks_within height most (b ∷ blocks) p le =
    either most (coin_of_transactions height true b.transactions p) (coin_of_blocks (height + 1) blocks p)
    (more height most _ (omega (arith, le)) (transactions_within height true b.transactions p))
    (blocks_within (height + 1) most blocks p (omega (arith, le)))

count : (h : History) → length (times_of h) ≡ length h.times + length h.blocks
count h = length-append h.times (map (λ b. header_time b.header) h.blocks) ∙ ap (λ n. length h.times + n) (length-map h.blocks (λ b. header_time b.header))

pub coin_within : (h : History) (p : OutPoint) → IsOpening h.first h.coins h.times → IsWithin (tip_of h) (coin_of h p)
unfolding coin_of
coin_within h p is = by (is_spent h p)
  where
    found : IsWithin (tip_of h) (option_or (opening_coin_of h.coins p) (coin_of_blocks (first_connected h) h.blocks p))
    found =
        let n = count h in
        either (tip_of h) (opening_coin_of h.coins p) (coin_of_blocks (first_connected h) h.blocks p)
        (more (first_connected h - 1) (tip_of h) _ (omega (arith, n)) (is.heights p))
        (blocks_within (first_connected h) (tip_of h) h.blocks p (omega (arith, n, is.some)))

    by : (b : Bool) → IsWithin (tip_of h) (if b then None else option_or (opening_coin_of h.coins p) (coin_of_blocks (first_connected h) h.blocks p))
    by true = tt
    by false = found
