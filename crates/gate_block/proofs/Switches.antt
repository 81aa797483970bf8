-- Blocks that come and go at the end of a history.
use Rattle.std.proofs.Common.{◌≡◌, ℕ, ◌+◌, ◌-◌, ◌≤◌, Bool, true, false, cond, ◌||◌, List, [], ◌∷◌, ◌++◌, length, take, drop, reverse, Option, Some, None, Result, Ok, Err, IfOk, IfErr, OnErr, refl, sym, ap, ◌∙◌, arith, append-nil, append_assoc, length-append}
use Rattle.std.proofs.Math.Seq.{take-append_seam}
use Rattle.std.proofs.lemmas.List.{take_all, drop_all, take-append-drop, drop_at, length-take, length-drop, reverse-append}
use Rattle.gate_bytes.specs.Order.{first_failing}
use Rattle.gate_bytes.proofs.OrderLemmas.{found_in_first, found_in_second}
use Rattle.gate_chain.specs.Blocks.{Block}
use Rattle.gate_rules.specs.declared.ChainDenial.{ChainDenial}
use Rattle.gate_chain.specs.declared.ChainFault.{ChainFault}
use Rattle.gate_chain.specs.declared.ChainFault.TheVariants.{Memory, Denied}
use Rattle.gate_chain.specs.Connecting.{grown, block_rules, undo_denial, Tells}
use Rattle.gate_chain.specs.History.{History}
use Rattle.gate_block.specs.Switching.{with_blocks, grown_by, left_of, without_last, last_blocks, blocks_rules}

abbrev blocks_of : History → List Block
blocks_of h = h.blocks

-- with no block gone
pub none_gone : (h : History) → without_last h 0 ≡ h
none_gone h = λ j. with_blocks h (take_all (length h.blocks - 0) h.blocks (omega arith) j)

pub none_last : (h : History) → last_blocks h 0 ≡ []
none_last h = drop_all (length h.blocks - 0) h.blocks (omega arith)

-- one block more is gone, of a history whose last ones are gone
module _ (h now new : History) (b : Block) (i : ℕ) (is : now ≡ without_last h i) (one : now ≡ grown new b) where
  first_blocks : take (left_of h i) h.blocks ≡ new.blocks ++ b ∷ []
  first_blocks = sym (ap blocks_of is) ∙ ap blocks_of one

  count : length new.blocks ≡ left_of h (i + 1)
  count =
      let a = ap length first_blocks in
      let n = length-append new.blocks (b ∷ []) in
      let t = length-take (left_of h i) h.blocks in
      omega arith

  whole : h.blocks ≡ new.blocks ++ (b ∷ last_blocks h i)
  whole = sym (take-append-drop (left_of h i) h.blocks) ∙ ap (λ l. l ++ last_blocks h i) first_blocks ∙ append_assoc new.blocks (b ∷ []) (last_blocks h i)

  pub one_gone : new ≡ without_last h (i + 1)
  one_gone =
      let front : take (left_of h (i + 1)) h.blocks ≡ new.blocks = ap (λ k. take k h.blocks) (sym count) ∙ ap (take (length new.blocks)) whole ∙ take-append_seam new.blocks (b ∷ last_blocks h i) in
      let first : new.first ≡ h.first = sym (ap (λ (x : History). x.first) one) ∙ ap (λ (x : History). x.first) is in
      let coins : new.coins ≡ h.coins = sym (ap (λ (x : History). x.coins) one) ∙ ap (λ (x : History). x.coins) is in
      let times : new.times ≡ h.times = sym (ap (λ (x : History). x.times) one) ∙ ap (λ (x : History). x.times) is in
      λ j. record { first = first j; coins = coins j; times = times j; blocks = sym front j }

  pub one_last : last_blocks h (i + 1) ≡ b ∷ last_blocks h i
  one_last = ap (drop (left_of h (i + 1))) whole ∙ drop_at new.blocks (b ∷ last_blocks h i) (left_of h (i + 1)) count

no_blocks : (blocks : List Block) (d : ChainDenial) → undo_denial blocks ≡ Some d → length blocks ≡ 0
no_blocks [] d e = refl
no_blocks (b ∷ blocks) d e = absurd cc

-- there is none
module _ (h now new : History) (d : ChainDenial) (i : ℕ) (is : now ≡ without_last h i) (none : undo_denial now.blocks ≡ Some d) (same : new ≡ now) where
  few : left_of h i ≡ 0
  few =
      let a = no_blocks now.blocks d none in
      let e = ap (λ (x : History). length x.blocks) is in
      let t = length-take (left_of h i) h.blocks in
      omega arith

  still : left_of h (i + 1) ≡ left_of h i
  still = let f = few in omega arith

  pub still_gone : new ≡ without_last h (i + 1)
  still_gone = same ∙ is ∙ ap (λ k. with_blocks h (take k h.blocks)) (sym still)

  pub still_last : last_blocks h (i + 1) ≡ last_blocks h i
  still_last = ap (λ k. drop k h.blocks) still

-- blocks that come and go again
pub come_and_gone : (h : History) (blocks : List Block) → without_last (grown_by h blocks) (length blocks) ≡ h
come_and_gone h blocks =
    let n = length-append h.blocks blocks in
    let m : length (h.blocks ++ blocks) - length blocks ≡ length h.blocks = omega arith in
    λ j. with_blocks h ((ap (λ k. take k (h.blocks ++ blocks)) m ∙ take-append_seam h.blocks blocks) j)

-- as many are gone as were asked for, where there are so many
pub so_many_gone : (h : History) (depth : ℕ) → depth ≤ length h.blocks → without_last h (length (last_blocks h depth)) ≡ without_last h depth
so_many_gone h depth le =
    let n = length-drop (left_of h depth) h.blocks in
    let e : length (last_blocks h depth) ≡ depth = omega arith in
    ap (without_last h) e

-- of all blocks some stand on top of a history, so many, and these are left
pub record IsJoining (h : History) (all : List Block) (now : History) (connected : ℕ) (left : List Block) : Type 0 where
  pub done : List Block
  pub parts : all ≡ done ++ left
  pub now_is : now ≡ grown_by h done
  pub connected_is : connected ≡ length done
  pub denial : first_failing (blocks_rules h all) ≡ first_failing (blocks_rules now left)

pub joining_starts : (h : History) (all : List Block) → IsJoining h all h 0 all
joining_starts h all = record {
  done = [];
  parts = refl;
  now_is = λ j. with_blocks h (sym (append-nil h.blocks) j);
  connected_is = refl;
  denial = refl;
}

module _ (h : History) (all : List Block) (now : History) (connected : ℕ) (b : Block) (left : List Block) (joining : IsJoining h all now connected (b ∷ left)) where
  pub joining_goes : first_failing (block_rules now b) ≡ None → IsJoining h all (grown now b) (connected + 1) left
  joining_goes passes = record {
    done = joining.done ++ b ∷ [];
    parts = joining.parts ∙ sym (append_assoc joining.done (b ∷ []) left);
    now_is = ap (λ (x : History). grown x b) joining.now_is ∙ (λ j. with_blocks h (append_assoc h.blocks joining.done (b ∷ []) j));
    connected_is = let c = joining.connected_is in let n = length-append joining.done (b ∷ []) in omega arith;
    denial = joining.denial ∙ found_in_second (block_rules now b) (blocks_rules (grown now b) left) passes;
  }

  pub joining_stops : (fault : ChainFault) → Tells fault (first_failing (block_rules now b)) → Tells fault (first_failing (blocks_rules h all))
  joining_stops Memory told = tt
  joining_stops (Denied d) told = joining.denial ∙ found_in_first (block_rules now b) (blocks_rules (grown now b) left) d told

pub joining_undone : (h : History) (all : List Block) (now : History) (connected : ℕ) (left : List Block) → IsJoining h all now connected left → without_last now connected ≡ h
joining_undone h all now connected left joining = (λ j. without_last (joining.now_is j) (joining.connected_is j)) ∙ come_and_gone h joining.done

pub joining_ends : (h : History) (all : List Block) (now : History) (connected : ℕ) → IsJoining h all now connected [] → (now ≡ grown_by h all) × (first_failing (blocks_rules h all) ≡ None)
joining_ends h all now connected joining = (
  joining.now_is ∙ ap (grown_by h) (sym (joining.parts ∙ append-nil joining.done)),
  joining.denial,
)

-- the rule on the depth stands first
pub deep : (a b : Bool) (d : ChainDenial) (r : Option ChainDenial) → (a || b) ≡ true → cond (a || b) (Some d) r ≡ Some d
deep a b d r e = ap (λ x. cond x (Some d) r) e

pub shallow : (a b : Bool) (d : ChainDenial) (r : Option ChainDenial) → (a || b) ≡ false → cond (a || b) (Some d) r ≡ r
shallow a b d r e = ap (λ x. cond x (Some d) r) e

-- whether there is one more or none
pub gone_on : (h now new : History) (i : ℕ) (r : Result Block ChainDenial) → now ≡ without_last h i
    → IfOk r (λ b. now ≡ grown new b) → OnErr r (new ≡ now) → IfErr r (λ d. undo_denial now.blocks ≡ Some d) → new ≡ without_last h (i + 1)
gone_on h now new i (Ok b) is one same none = one_gone h now new b i is one
gone_on h now new i (Err d) is one same none = still_gone h now new d i is none same

pub pushed : (h now new : History) (b : Block) (i : ℕ) (gone more : List Block) → now ≡ without_last h i → now ≡ grown new b → gone ≡ reverse (last_blocks h i)
    → more ≡ gone ++ b ∷ [] → more ≡ reverse (last_blocks h (i + 1))
pushed h now new b i gone more is one e m =
    m ∙ ap (λ l. l ++ b ∷ []) e ∙ sym (reverse-append (b ∷ []) (last_blocks h i)) ∙ ap reverse (sym (one_last h now new b i is one))
