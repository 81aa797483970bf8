use Rattle.std.proofs.Common.{◌≡◌, ℕ, Bool, List, length, not, sym, ap, ◌∙◌, subst}
use Rattle.std.specs.Prelude.{IfSome, find}
use Rattle.std.specs.Str.{bytes_eq}
use Rattle.gate_pool.specs.Pool.{Admitted, has_txid}
use Rattle.gate_pool.specs.Family.{all_below, descendants_of, AreIdsOf}
use Rattle.gate_rbf.proofs.Rivals.{some_unless_none}
use Rattle.gate_admit.proofs.Kinship.{below_and_itself, ids_below, never_many, none_other, other_found}
use Rattle.gate_admit.proofs.truc.only_below.Goals as goal

pub unwrap-below-requires : goal.unwrap-below-requires
unwrap-below-requires g c =
    let entries = c.args.pool.now.entries in
    let x = c.args.txid.now in
    some_unless_none c.in_ok-found.found (λ none. never_many entries x c.count.result c.requires c.count.ensures (λ own. c.in_ok-found.ensures.many (λ (e : Admitted). has_txid e x) own none))

pub returns-clause-one : goal.returns-clause-one
returns-clause-one g c =
    let entries = c.args.pool.now.entries in
    let x = c.args.txid.now in
    let below = c.unwrap-below.result.items in
    let test : Admitted → Bool = λ e. has_txid e x in
    let are : AreIdsOf below (descendants_of entries x) = ids_below entries x below c.requires (λ own. subst (λ o. IfSome o (λ ids. AreIdsOf ids.items (all_below test entries))) c.unwrap-below.ensures (c.in_ok-found.ensures.found test own)) in
    let two : length (descendants_of entries x) ≡ 2 = below_and_itself entries x c.recall_distinct.ensures.txids c.requires ∙ sym c.count_below.ensures ∙ c.if-count_below-ne2.false in
    other_found entries x below are c.recall_distinct.ensures.txids c.requires two c.first_other.result (c.first_other.ensures ∙ ap (find (λ (id : List ℕ). not (bytes_eq id x))) c.deref.ensures.value)

pub returns-clause-other : goal.returns-clause-other
returns-clause-other g c = λ none.
    let entries = c.args.pool.now.entries in
    let x = c.args.txid.now in
    let below = c.unwrap-below.result.items in
    let test : Admitted → Bool = λ e. has_txid e x in
    let are : AreIdsOf below (descendants_of entries x) = ids_below entries x below c.requires (λ own. subst (λ o. IfSome o (λ ids. AreIdsOf ids.items (all_below test entries))) c.unwrap-below.ensures (c.in_ok-found.ensures.found test own)) in
    none_other entries x below are c.first_other.result (c.first_other.ensures ∙ ap (find (λ (id : List ℕ). not (bytes_eq id x))) c.deref.ensures.value) none
