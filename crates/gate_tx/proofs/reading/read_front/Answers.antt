use Rattle.std.proofs.Common.{rules, ◌≡◌, ◌≤◌, length, sym, ap, subst, ◌∙◌, arith}
use Rattle.std.proofs.lemmas.Result.{err_from_is_err_and}
use Rattle.gate_tx.specs.Reading.{Fails, front_of, taken, tx_at}
use Rattle.gate_bytes.specs.Reading.{IsBytes}
use Rattle.gate_tx.specs.Text.{longest}
use Rattle.gate_tx.proofs.Fronts.{front_is, front_again, parts, is_transaction, shorter, behind}
use Rattle.gate_tx.proofs.reading.read_front.Goals as goal

pub returns-then-bytes-gt-MAX_SIZE-clause-exact : goal.returns-then-bytes-gt-MAX_SIZE-clause-exact
unfolding front_of
returns-then-bytes-gt-MAX_SIZE-clause-exact c = search rules

pub returns-in_err-parts-clause-only : goal.returns-in_err-parts-clause-only
returns-in_err-parts-clause-only c = λ tx rest is few e.
    let p = err_from_is_err_and c.from_residual.result c.from_residual.ensures.1 in
    rw (p.1, p.2) (subst (Fails c.in_err-parts.field-0.0) (ap tx_at c.new-cursor.ensures ∙ front_again c.args.bytes.now tx rest is e) c.in_err-parts.ensures)

pub returns-in_err-parts-clause-exact : goal.returns-in_err-parts-clause-exact
returns-in_err-parts-clause-exact c =
    let p = err_from_is_err_and c.from_residual.result c.from_residual.ensures.1 in
    let few : length c.args.bytes.now ≤ longest = omega (arith, c.if-bytes-gt-MAX_SIZE.false) in
    rw (p.1, p.2) (subst (Fails c.in_err-parts.field-0.0) (ap tx_at c.new-cursor.ensures ∙ sym (front_is c.args.bytes.now few)) c.in_err-parts.ensures)

pub overflow_sub-bytes : goal.overflow_sub-bytes
overflow_sub-bytes c =
    let few : length c.args.bytes.now ≤ longest = omega (arith, c.if-bytes-gt-MAX_SIZE.false) in
    let short = shorter c.args.bytes.now c.in_ok-parts.parts c.read_parts.new.cursor (λ i. omega (arith, c.type_inv.bytes i)) few (ap tx_at (sym c.new-cursor.ensures) ∙ c.in_ok-parts.ensures) in
    rw c.left.ensures short

pub of-requires : goal.of-requires
of-requires c =
    let few : length c.args.bytes.now ≤ longest = omega (arith, c.if-bytes-gt-MAX_SIZE.false) in
    is_transaction c.args.bytes.now c.in_ok-parts.parts c.read_parts.new.cursor (λ i. omega (arith, c.type_inv.bytes i)) few (ap tx_at (sym c.new-cursor.ensures) ∙ c.in_ok-parts.ensures)

pub returns-clause-found : goal.returns-clause-found
returns-clause-found c =
    let few : length c.args.bytes.now ≤ longest = omega (arith, c.if-bytes-gt-MAX_SIZE.false) in
    let read : tx_at c.args.bytes.now ≡ taken c.in_ok-parts.parts c.read_parts.new.cursor = ap tx_at (sym c.new-cursor.ensures) ∙ c.in_ok-parts.ensures in
    let fits : IsBytes c.args.bytes.now = λ i. omega (arith, c.type_inv.bytes i) in
    rw (c.of.ensures, c.split_at.ensures.back, c.left.ensures, behind c.args.bytes.now c.in_ok-parts.parts c.read_parts.new.cursor fits few read)
    (is_transaction c.args.bytes.now c.in_ok-parts.parts c.read_parts.new.cursor fits few read, parts c.args.bytes.now c.in_ok-parts.parts c.read_parts.new.cursor fits few read)

pub returns-clause-only : goal.returns-clause-only
returns-clause-only c = λ tx rest is few e.
    let read : tx_at c.args.bytes.now ≡ taken c.in_ok-parts.parts c.read_parts.new.cursor = ap tx_at (sym c.new-cursor.ensures) ∙ c.in_ok-parts.ensures in
    rw (c.of.ensures, c.split_at.ensures.back, c.left.ensures, behind c.args.bytes.now c.in_ok-parts.parts c.read_parts.new.cursor (λ i. omega (arith, c.type_inv.bytes i)) few read)
    (sym (front_again c.args.bytes.now tx rest is e) ∙ read)

pub returns-clause-exact : goal.returns-clause-exact
returns-clause-exact c =
    let few : length c.args.bytes.now ≤ longest = omega (arith, c.if-bytes-gt-MAX_SIZE.false) in
    let read : tx_at c.args.bytes.now ≡ taken c.in_ok-parts.parts c.read_parts.new.cursor = ap tx_at (sym c.new-cursor.ensures) ∙ c.in_ok-parts.ensures in
    rw (c.of.ensures, c.split_at.ensures.back, c.left.ensures, behind c.args.bytes.now c.in_ok-parts.parts c.read_parts.new.cursor (λ i. omega (arith, c.type_inv.bytes i)) few read)
    (front_is c.args.bytes.now few ∙ read)
