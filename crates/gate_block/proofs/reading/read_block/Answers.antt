use Rattle.std.proofs.Common.{◌≡◌, ◌≤◌, List, ℕ, Some, Err, length, take, drop, refl, sym, ap, subst, ◌∙◌, arith}
use Rattle.gate_bytes.specs.Reading.{IsBytes}
use Rattle.gate_tx.specs.Text.{longest}
use Rattle.gate_chain.specs.Blocks.{Block}
use Rattle.gate_block.specs.Reading.{all_transactions, with_header, GivesBlock}
use Rattle.gate_block.proofs.Spelled.{block_takes, block_again, gives_found, short_none, long_none, whole, drop_short, fails_with}
use Rattle.gate_block.proofs.reading.read_block.Goals as goal

pub returns-then-bytes-gt-MAX_SIZE-clause-exact : goal.returns-then-bytes-gt-MAX_SIZE-clause-exact
returns-then-bytes-gt-MAX_SIZE-clause-exact c = (refl, long_none c.args.bytes.now (omega (arith, c.if-bytes-gt-MAX_SIZE.true)))

pub returns-then-bytes-lt-HEADER_SIZE-clause-exact : goal.returns-then-bytes-lt-HEADER_SIZE-clause-exact
returns-then-bytes-lt-HEADER_SIZE-clause-exact c = (refl, short_none c.args.bytes.now (omega (arith, c.if-bytes-lt-HEADER_SIZE.true)))

pub returns-in_ok-new-in-Ok-clause-exact : goal.returns-in_ok-new-in-Ok-clause-exact
returns-in_ok-new-in-Ok-clause-exact c =
    let bytes : List ℕ = c.args.bytes.now in
    let few : length bytes ≤ longest = omega (arith, c.if-bytes-gt-MAX_SIZE.false) in
    let full : 80 ≤ length bytes = omega (arith, c.if-bytes-lt-HEADER_SIZE.false) in
    let back : c.split_at.result.1.now ≡ drop 80 bytes = c.split_at.ensures.back in
    let small : length c.split_at.result.1.now ≤ longest = rw back (drop_short bytes few) in
    let header : take 80 bytes ≡ c.new.result = sym (c.new.ensures ∙ c.copy_from_slice.ensures.after ∙ c.split_at.ensures.front) in
    let all : all_transactions (drop 80 bytes) ≡ Some c.in-Ok.transactions.items = ap all_transactions (sym back) ∙ c.in-Ok.ensures small in
    whole bytes few full ∙ (λ j. with_header (header j) (all j)) ∙ ap (λ (block : Block). Some block) (sym c.in_ok-new-in-Ok.ensures)

pub returns-in_ok-new-in-Ok-clause-found : goal.returns-in_ok-new-in-Ok-clause-found
returns-in_ok-new-in-Ok-clause-found c =
    let fits : IsBytes c.args.bytes.now = λ i. omega (arith, c.type_inv.bytes i) in
    block_takes c.args.bytes.now _ fits (returns-in_ok-new-in-Ok-clause-exact c)

pub returns-in_ok-new-in-Ok-clause-only : goal.returns-in_ok-new-in-Ok-clause-only
returns-in_ok-new-in-Ok-clause-only c = λ block s. sym (block_again c.args.bytes.now block s) ∙ returns-in_ok-new-in-Ok-clause-exact c

pub returns-in-Err-clause-exact : goal.returns-in-Err-clause-exact
returns-in-Err-clause-exact c =
    let bytes : List ℕ = c.args.bytes.now in
    let few : length bytes ≤ longest = omega (arith, c.if-bytes-gt-MAX_SIZE.false) in
    let full : 80 ≤ length bytes = omega (arith, c.if-bytes-lt-HEADER_SIZE.false) in
    let back : c.split_at.result.1.now ≡ drop 80 bytes = c.split_at.ensures.back in
    let small : length c.split_at.result.1.now ≤ longest = rw back (drop_short bytes few) in
    subst (GivesBlock (Err c.in-Err.fault)) (ap (λ l. with_header (take 80 bytes) (all_transactions l)) back ∙ sym (whole bytes few full))
    (fails_with c.in-Err.fault (take 80 bytes) (all_transactions c.split_at.result.1.now) (c.in-Err.ensures small))

pub returns-in-Err-clause-only : goal.returns-in-Err-clause-only
returns-in-Err-clause-only c = λ block s. gives_found (Err c.in-Err.fault) c.args.bytes.now block s (returns-in-Err-clause-exact c)
