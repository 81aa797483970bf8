-- Fee filters above all money.
use Rattle.std.proofs.Common.{◌≡◌, ◌<◌, ◌≤◌, ℕ, Bool, true, false, not, nat_le, nat_eq, if◌then◌else◌, List, [], ◌∷◌, Some, None, refl, ap, ◌∙◌, arith}
use Rattle.std.proofs.lemmas.Bool.{false_from_ne_true, leb-true}
use Rattle.std.specs.Option.{option_map_or}
use Rattle.gate_tx.specs.Money.{max_money}
use Rattle.gate_rules.specs.declared.PeerDenial.TheVariants.{PeerUnknown, PeerClosed}
use Rattle.gate_message.specs.declared.reply.Reply.{Reply}
use Rattle.gate_core.specs.Sessions.{Session, session_of, rate_in, rate_after, rated}
use Rattle.gate_core.specs.SessionLaws.{GreatRatesChangeNothing}
use Rattle.gate_core.specs.Access.{is_closed, is_known}
use Rattle.gate_core.specs.PeerSteps.{answered, filter_set}
use Rattle.gate_core.specs.Steps.{step_of}
use Rattle.gate_core.specs.World.{World}

-- a peer's own rate, set again, changes nothing
rated_again : (sessions : List Session) (peer : ℕ) → rated sessions peer (rate_in sessions peer) ≡ sessions
rated_again [] peer = refl
rated_again (s ∷ sessions) peer = by (nat_eq peer s.peer) (rated_again sessions peer)
  where
    by : (b : Bool) → rated sessions peer (rate_in sessions peer) ≡ sessions
        → (if b then record s { rate = option_map_or (λ (x : Session). x.rate) (if b then Some s else session_of sessions peer) 0 } ∷ sessions
        else s ∷ rated sessions peer (option_map_or (λ (x : Session). x.rate) (if b then Some s else session_of sessions peer) 0))
        ≡ s ∷ sessions
    by true rest = refl
    by false rest = ap (λ l. s ∷ l) rest

too_great : (sessions : List Session) (peer rate : ℕ) → max_money < rate → rate_after sessions peer rate ≡ rate_in sessions peer
too_great sessions peer rate great =
    ap (λ (b : Bool). if b then rate else rate_in sessions peer) (false_from_ne_true (nat_le rate max_money) (λ k. let within : rate ≤ max_money = leb-true _ _ k in absurd (omega arith)))

-- what a rule on sessions denies keeps the session
refused_stays : (w : World) (peer : ℕ) (served : Reply × World) (known closed : Bool) → served.1 ≡ w
    → (answered w peer served (if not known then Some PeerUnknown else if closed then Some PeerClosed else None)).1 ≡ w
refused_stays w peer served false closed same = refl
refused_stays w peer served true true same = refl
refused_stays w peer served true false same = same

pub great_rates_change_nothing : GreatRatesChangeNothing
unfolding step_of
great_rates_change_nothing w peer rate great =
    refused_stays w peer (filter_set w peer rate) (is_known w.sessions peer) (is_closed w.sessions peer)
    (ap (λ (l : List Session). record w { sessions = l }) (ap (rated w.sessions peer) (too_great w.sessions peer rate great) ∙ rated_again w.sessions peer))
