-- The one text of each event: its line, without the newline.
use Rattle.std.specs.Prelude.{ℕ, Bool, true, false, List, ◌++◌, codes, Option, Some, None}
use Rattle.std.specs.List.{flat_map}
use Rattle.std.specs.Fmt.{decimal}
use Rattle.hex.specs.Hex.{encode_lower}
use Rattle.gate_tx.specs.Tx.{Tx}
use Rattle.gate_tx.specs.Text.{text}
use Rattle.gate_net.specs.Addresses.{Address, address_text}
use Rattle.gate_chain.specs.Blocks.{Block}
use Rattle.gate_chain.specs.declared.opening.OpeningCoin.{OpeningCoin}
use Rattle.gate_submission.specs.declared.verdict.VerdictRow.{VerdictRow}
use Rattle.gate_block.specs.Text.{block_text}
use Rattle.gate_message.specs.UserCalls.{UserCall}
use Rattle.gate_words.specs.CoinWords.{coin_text}
use Rattle.gate_words.specs.VerdictWords.{row_text}
use Rattle.gate_message.specs.declared.chain_event.ChainEvent.{ChainEvent}
use Rattle.gate_message.specs.declared.chain_event.ChainEvent.TheVariants.{MoveTip, LearnCoin, LearnVerdict, Forget}
use Rattle.gate_message.specs.declared.event.Event.{Event}
use Rattle.gate_message.specs.declared.event.Event.TheVariants.{Enter, Leave, Tx as Submit, Package, Mempool, GetBlock, Headers, FeeFilter, Rpc, SetFloor, Set, Chain}
use Rattle.gate_message.specs.declared.switch.Switch.{Switch}
use Rattle.gate_message.specs.declared.switch.Switch.TheVariants.{Bloom, Upload, Historic, Download}

-- a transaction in hex in lower case, or `-` for a word that spelled none
abbrev pub transaction_word : Option Tx → List ℕ
transaction_word None = codes "-"
transaction_word (Some tx) = encode_lower (text tx)

-- a block in hex in lower case, or `-` for a word that spelled none
abbrev pub block_word : Option Block → List ℕ
block_word None = codes "-"
block_word (Some block) = encode_lower (block_text block)

-- the words of blocks, each after a space
abbrev pub block_words : List (Option Block) → List ℕ
block_words blocks = flat_map (λ block. codes " " ++ block_word block) blocks

abbrev pub switch_word : Switch → List ℕ
switch_word Bloom = codes "bloom"
switch_word Upload = codes "upload"
switch_word Historic = codes "historic"
switch_word Download = codes "ibd"

abbrev pub on_word : Bool → List ℕ
on_word true = codes "on"
on_word false = codes "off"

abbrev pub enter_text : ℕ → Address → List ℕ
enter_text peer address = codes "peer " ++ (decimal peer ++ (codes " enter " ++ address_text address))

abbrev pub tx_text : ℕ → ℕ → Option Tx → List ℕ
tx_text peer now transaction = codes "peer " ++ (decimal peer ++ (codes " tx " ++ (decimal now ++ (codes " " ++ transaction_word transaction))))

abbrev pub package_text : ℕ → ℕ → Option Tx → Option Tx → List ℕ
package_text peer now parent child =
    codes "peer " ++ (decimal peer ++ (codes " package " ++ (decimal now ++ (codes " " ++ (transaction_word parent ++ (codes " " ++ transaction_word child))))))

-- the line of a user's call, with its JSON as it was read
abbrev pub call_text : UserCall → List ℕ
call_text call = codes "user " ++ (call.user ++ (codes " rpc " ++ (decimal call.time ++ (codes " " ++ call.json))))

abbrev pub move_tip_text : ℕ → ℕ → List (Option Block) → List ℕ
move_tip_text disconnect now blocks = codes "chain " ++ (decimal disconnect ++ (codes " " ++ (decimal now ++ block_words blocks)))

abbrev pub learn_coin_text : OpeningCoin → List ℕ
learn_coin_text coin = codes "chain coin " ++ coin_text coin

abbrev pub learn_verdict_text : VerdictRow → List ℕ
learn_verdict_text row = codes "chain verdict " ++ row_text row

abbrev pub chain_event_text : ChainEvent → List ℕ
chain_event_text (MoveTip disconnect now blocks) = move_tip_text disconnect now blocks
chain_event_text (LearnCoin coin) = learn_coin_text coin
chain_event_text (LearnVerdict row) = learn_verdict_text row
chain_event_text (Forget blocks) = codes "chain forget " ++ decimal blocks

abbrev pub switch_text : Switch → Bool → List ℕ
switch_text switch on = codes "operator " ++ (switch_word switch ++ (codes " " ++ on_word on))

abbrev pub text_of : Event → List ℕ
text_of (Enter peer address) = enter_text peer address
text_of (Leave peer) = codes "peer " ++ (decimal peer ++ codes " leave")
text_of (Submit peer now transaction) = tx_text peer now transaction
text_of (Package peer now parent child) = package_text peer now parent child
text_of (Mempool peer) = codes "peer " ++ (decimal peer ++ codes " mempool")
text_of (GetBlock peer height) = codes "peer " ++ (decimal peer ++ (codes " getblock " ++ decimal height))
text_of (Headers peer height) = codes "peer " ++ (decimal peer ++ (codes " headers " ++ decimal height))
text_of (FeeFilter peer rate) = codes "peer " ++ (decimal peer ++ (codes " feefilter " ++ decimal rate))
text_of (Rpc call) = call_text call
text_of (SetFloor rate) = codes "operator floor " ++ decimal rate
text_of (Set switch on) = switch_text switch on
text_of (Chain event) = chain_event_text event
