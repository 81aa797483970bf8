-- The text of an opening and of events that tries transactions one after another.
use Rattle.std.specs.Prelude.{ℕ, ◌+◌, ◌-◌, ◌==◌, Bool, true, false, if◌then◌else◌, List, [], ◌∷◌, ◌++◌, codes, length, Option, Some, None}
use Rattle.std.specs.Borrow.{Bor}
use Rattle.std.specs.Fmt.{decimal, signed_decimal}
use Rattle.hex.specs.Hex.{encode_lower}
use Rattle.std.specs.List.{flat_map}
use Rattle.gate_register.specs.Settings.{word_of as setting_word}
use Rattle.gate_release.specs.Releases.{word_of as release_word}
use Rattle.gate_release.specs.declared.release.Release.{Release}
use Rattle.gate_tx.specs.declared.transaction.OutPoint.{OutPoint}
use Rattle.gate_tx.specs.Ids.{id_text}
use Rattle.gate_try.specs.declared.trial.SpentCoin.{SpentCoin}
use Rattle.gate_try.specs.declared.trial.Trial.{Trial}
use Rattle.gate_try.specs.declared.trial.TrialCoin.{TrialCoin}
use Rattle.gate_try.specs.declared.trial.TrialSetting.{TrialSetting}

-- the times of the tip's block, at this second, and of ten blocks before it, as far as there are so many
abbrev pub opening_head : ℕ → ℕ → List ℕ
opening_head tip time =
    codes "from " ++ (decimal (tip - 10) ++ (codes "\ntimes " ++ (decimal (tip - (tip - 10) + 1) ++ (codes " " ++ (decimal (time - 6000) ++ codes " 600\n")))))

abbrev pub kind_word : Bool → List ℕ
kind_word is_coinbase = if is_coinbase then codes "cb" else codes "plain"

abbrev pub coin_line : TrialCoin → List ℕ
coin_line coin =
    codes "coin " ++ (coin.txid.now ++ (codes " " ++ (coin.index.now ++ (codes " " ++ (coin.value.now ++ (codes " " ++ (coin.height.now ++ (
    codes " " ++ (kind_word coin.is_coinbase ++ (codes " " ++ (coin.script.now ++ codes "\n")))))))))))

abbrev pub coin_lines : List TrialCoin → List ℕ
coin_lines coins = flat_map coin_line coins

-- a script in hexadecimal digits; `-` is the empty one
abbrev pub script_word : List ℕ → List ℕ
script_word [] = codes "-"
script_word (byte ∷ bytes) = encode_lower (byte ∷ bytes)

-- an outpoint: its txid, and its place
abbrev pub point_words : OutPoint → List ℕ
point_words point = id_text point.txid ++ (codes " " ++ decimal point.index)

-- the coin of a PSBT, in a block of this height
abbrev pub spent_line : ℕ → SpentCoin → List ℕ
spent_line height coin =
    codes "coin " ++ (point_words coin.point ++ (codes " " ++ (signed_decimal coin.output.value ++ (
    codes " " ++ (decimal height ++ (codes " plain " ++ (script_word coin.output.script ++ codes "\n")))))))

abbrev pub spent_lines : ℕ → List SpentCoin → List ℕ
spent_lines height coins = flat_map (spent_line height) coins

-- the release, if one is named
abbrev pub policy_lines : Option Release → List ℕ
policy_lines None = []
policy_lines (Some release) = codes "policy " ++ (release_word release ++ codes "\n")

abbrev pub setting_line : TrialSetting → List ℕ
setting_line said = setting_word said.setting ++ (codes " " ++ (decimal said.number ++ codes "\n"))

abbrev pub setting_lines : List TrialSetting → List ℕ
setting_lines said = flat_map setting_line said

-- a peer sends a transaction at this second
abbrev pub peer_line : ℕ → List ℕ → List ℕ
peer_line time transaction = codes "peer 1 tx " ++ (decimal time ++ (codes " " ++ (transaction ++ codes "\n")))

abbrev pub sent_lines : ℕ → List (Bor (List ℕ)) → List ℕ
sent_lines time transactions = flat_map (λ (tx : Bor (List ℕ)). peer_line time tx.now) transactions

-- a peer enters, and sends them
abbrev pub peer_lines : ℕ → List (Bor (List ℕ)) → List ℕ
peer_lines time transactions = codes "peer 1 enter 127.0.0.1\n" ++ sent_lines time transactions

-- a user sends a transaction at this second, or only asks whether it would be taken
abbrev pub call_line : ℕ → List ℕ → Bool → List ℕ
call_line time transaction true =
    codes "user try rpc " ++ (decimal time ++ (codes " {\"id\":1,\"method\":\"testmempoolaccept\",\"params\":[[\"" ++ (transaction ++ codes "\"]]}\n")))
call_line time transaction false =
    codes "user try rpc " ++ (decimal time ++ (codes " {\"id\":1,\"method\":\"sendrawtransaction\",\"params\":[\"" ++ (transaction ++ codes "\"]}\n")))

-- a user sends them, or only asks if there is one alone
abbrev pub call_lines : ℕ → List (Bor (List ℕ)) → List ℕ
call_lines time transactions = flat_map (λ (tx : Bor (List ℕ)). call_line time tx.now (length transactions == 1)) transactions

-- a user asks for the PSBT's own transaction, or a peer enters and sends it
abbrev pub own_lines : ℕ → List ℕ → Bool → List ℕ
own_lines time transaction true = call_line time transaction true
own_lines time transaction false = codes "peer 1 enter 127.0.0.1\n" ++ peer_line time transaction

-- every input has this verdict, and the opening ends
abbrev pub verdict_line : List ℕ → List ℕ
verdict_line verdict = codes "verdict * " ++ (verdict ++ codes "\n---\n")

abbrev pub opening_lines : Trial → List ℕ
opening_lines trial =
    opening_head trial.tip trial.time ++ (coin_lines trial.coins.items ++ (spent_lines trial.height trial.spent.items ++ (
    policy_lines trial.policy ++ (setting_lines trial.settings.items ++ verdict_line trial.verdict.now))))

-- the PSBT's own transaction, or those that are said
abbrev pub events_by : Option (List ℕ) → Trial → List ℕ
events_by (Some transaction) trial = own_lines trial.time transaction trial.json
events_by None trial = if trial.json then call_lines trial.time trial.transactions.items else peer_lines trial.time trial.transactions.items

abbrev pub event_lines : Trial → List ℕ
event_lines trial = events_by trial.finished trial

-- the text of a trial
abbrev pub trial_text : Trial → List ℕ
trial_text trial = opening_lines trial ++ event_lines trial
