-- The laws of texts.
use Rattle.std.proofs.Common.{◌≡◌, ℕ, List, [], Some, Ok, Err, Result, refl, sym, ap, ◌∙◌}
use Rattle.std.specs.Prelude.{IfOk}
use Rattle.std.specs.Global.{Vec}
use Rattle.std.proofs.lemmas.List.{append-nil}
use Rattle.gate_tx.specs.declared.fault.TxFault.{TxFault}
use Rattle.gate_tx.specs.Tx.{Tx}
use Rattle.gate_tx.specs.Text.{text, IsTransaction, Spells}
use Rattle.gate_tx.specs.Reading.{all_of, ok_of, decoded}
use Rattle.gate_tx.specs.Laws.{EachHasOneText, EachTextIsOfOne, TextsStandApart, TextsAreReadBack, DecodedIsSpelled}
use Rattle.gate_tx.proofs.Again.{no_prefix}
use Rattle.gate_tx.proofs.Answering.{all_takes, all_again}

pub each_has_one_text : EachHasOneText
each_has_one_text t a b first second = first.parts ∙ sym second.parts

pub texts_stand_apart : TextsStandApart
texts_stand_apart = no_prefix

pub each_text_is_of_one : EachTextIsOfOne
each_text_is_of_one a b bytes first second =
    (no_prefix a b [] first.is.is_tx second.is.is_tx (append-nil (text a) ∙ sym first.parts ∙ second.parts)).0

some_is : (r : Result Tx TxFault) (t : Tx) → ok_of r ≡ Some t → r ≡ Ok t
some_is (Ok x) t e = cc
some_is (Err e) t h = absurd cc

pub spelled_decoded : (bytes : List ℕ) (t : Tx) → Spells t bytes → decoded bytes ≡ Some t
unfolding decoded
spelled_decoded bytes t s = ap ok_of (all_again bytes t s)

pub decoded_is_spelled : DecodedIsSpelled
unfolding decoded
decoded_is_spelled bytes t fits = (λ e. all_takes bytes t fits (some_is (all_of bytes) t e), spelled_decoded bytes t)

pub texts_are_read_back : TextsAreReadBack
texts_are_read_back t is = spelled_decoded (text t) t (record { is = is; parts = refl })

-- what a call wrote reads back
pub back_if : {E : Type 0} (t : Tx) (bytes : List ℕ) (r : Result (Vec ℕ) E) → IsTransaction t → bytes ≡ text t → IfOk r (λ v. v.items ≡ bytes) → IfOk r (λ v. decoded v.items ≡ Some t)
back_if t bytes (Ok v) is e given = ap decoded (given ∙ e) ∙ texts_are_read_back t is
back_if t bytes (Err f) is e given = tt
