use Rattle.std.proofs.Common.{◌≡◌, ◌∙◌, ap, false, is_some, None, Option, refl, Some, subst, sym}
use Rattle.std.specs.Borrow.{Bor}
use Rattle.std.specs.Option.{option_copied}
use Rattle.gate_bytes.specs.Order.{first_failing}
use Rattle.gate_chain.specs.Connecting.{Tells}
use Rattle.gate_chain.specs.Learning.{learn_rules, learnt}
use Rattle.gate_rules.specs.declared.ChainDenial.{ChainDenial}
use Rattle.gate_chain.specs.declared.ChainFault.{ChainFault}
use Rattle.gate_chain.specs.declared.OpeningCoin.{OpeningCoin}
use Rattle.gate_message.specs.declared.reply.Reply.TheVariants.{Refused}
use Rattle.gate_pool.specs.Pool.{entry_by_txid}
use Rattle.gate_core.specs.Planning.{world_of}
use Rattle.gate_core.specs.World.{World}
use Rattle.gate_core.proofs.Learning.{coin_passes, coin_refused, learns, not_learnt}
use Rattle.gate_core.proofs.parts.StateParts.learn_coin.Goals as goal

copied_some : {X : Type 0} (o : Option (Bor X)) → is_some (option_copied o) ≡ is_some o
copied_some None = refl
copied_some (Some x) = refl

pub returns-in-Ok-clause-ok : goal.returns-in-Ok-clause-ok
returns-in-Ok-clause-ok g c =
    let w : World = world_of c.args.self.now in
    let coin : OpeningCoin = c.args.coin.now in
    let absent : is_some (entry_by_txid w.pool coin.outpoint.txid) ≡ false = ap is_some (sym c.entry.ensures) ∙ copied_some c.entry.result ∙ sym c.is_some.ensures ∙ c.if-is_some.false in
    let passes : first_failing (learn_rules w.chain coin) ≡ None = ap (λ (k : OpeningCoin). first_failing (learn_rules w.chain k)) (sym c.in_ok-copy.ensures) ∙ c.in-Ok.ensures.passes in
    learns w coin c.learn.new.self (coin_passes w coin passes absent) (c.in-Ok.ensures.ok ∙ ap (learnt w.chain) c.in_ok-copy.ensures)

pub returns-in-Err-Denied-clause-ok : goal.returns-in-Err-Denied-clause-ok
returns-in-Err-Denied-clause-ok g c =
    let w : World = world_of c.args.self.now in
    let coin : OpeningCoin = c.args.coin.now in
    let denial : ChainDenial = c.in-Err-Denied.denial in
    let told : first_failing (learn_rules w.chain c.in_ok-copy.field-0) ≡ Some denial =
    subst (λ (fault : ChainFault). Tells fault (first_failing (learn_rules w.chain c.in_ok-copy.field-0))) c.in-Err-Denied.field-0-is c.in-Err-Denied.ensures.denied in
    (λ i. (Refused denial, record w { chain = c.in-Err-Denied.ensures.err i }))
    ∙ not_learnt w coin denial (coin_refused w coin denial (ap (λ (k : OpeningCoin). first_failing (learn_rules w.chain k)) (sym c.in_ok-copy.ensures) ∙ told))
