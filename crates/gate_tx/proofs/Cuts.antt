-- A reader that reads the whole reads the same from a front of it, or finds the front too short.
use Rattle.std.proofs.Common.{◌≡◌, ℕ, ℤ, zero, suc, ◌≤◌, Bool, true, false, cond, eqb, ltb, List, [], ◌∷◌, ◌++◌, length, take, drop, Result, Ok, Err, refl, sym, ap, ◌∙◌, arith, inl, inr, ◌⊎◌}
use Rattle.std.specs.Int.{Width, w32, w64, cast_signed}
use Rattle.std.proofs.lemmas.Bool.{lt-ltb, le-ltb, cases_lt as split}
use Rattle.std.proofs.lemmas.List.{take-append-le, drop-append-le, append-nil, length-append}
use Rattle.byteorder.specs.Endian.{little_number}
use Rattle.byteorder.specs.Numbers.{little_from-append}
use Rattle.gate_bytes.specs.declared.ByteFault.{ByteFault}
use Rattle.gate_bytes.specs.declared.ByteFault.TheVariants as byte_faults
use Rattle.gate_bytes.specs.Compact.{most}
use Rattle.gate_bytes.specs.Reading as raw
use Rattle.gate_bytes.specs.Reading.{bytes_at, number_at, signed_at, count_at, compact_at}
use Rattle.gate_bytes.proofs.Numbers as raw_steps
use Rattle.gate_tx.specs.declared.fault.TxFault.{TxFault}
use Rattle.gate_tx.specs.declared.fault.TxFault.TheVariants as faults
use Rattle.gate_tx.specs.declared.transaction.OutPoint.{OutPoint}
use Rattle.gate_tx.specs.declared.transaction.TxIn.{TxIn}
use Rattle.gate_tx.specs.declared.transaction.TxOut.{TxOut}
use Rattle.gate_tx.specs.Text.{has_witness, text, longest}
use Rattle.gate_tx.specs.Reading.{◌>>=◌, lift, var_bytes_at, many_at, vector_at, point_at, input_at, output_at, witnesses_at, plain_at, extended_at, empty_at, behind_zero_at, tx_at, all_of}
use Rattle.gate_tx.specs.Laws.{CutsAreShort}
use Rattle.gate_tx.proofs.Steps.{bind_ok, lift_ok}
use Rattle.gate_tx.proofs.Whole.{made, finished}
use Rattle.gate_tx.proofs.Again.{tx_again}

abbrev Reader : Type 0 → Type 0 → Type 0
Reader E X = List ℕ → Result (X × List ℕ) E

-- what was made of the front, where the whole gave x
abbrev IsCut : {E X : Type 0} → E → List ℕ → X × List ℕ → Result (X × List ℕ) E → Type 0
IsCut short back x read = (read ≡ Err short) ⊎ ((left : List ℕ) × (read ≡ Ok (x.0, left)) × (x.1 ≡ left ++ back))

pub record IsSteady {E X : Type 0} (short : E) (r : Reader E X) : Type 0 where
  pub cut : (front back : List ℕ) (x : X × List ℕ) → r (front ++ back) ≡ Ok x → IsCut short back x (r front)

abbrev done : {E A : Type 0} → A → Result A E
done x = Ok x

done_is : {E A : Type 0} (x y : A) → done {E = E} x ≡ done y → x ≡ y
done_is x y e = cc

-- ---- fields of n bytes

module _ {X : Type 0} (n : ℕ) (f : List ℕ → X) where
  abbrev fixed : Reader ByteFault X
  fixed bytes = cond (ltb (length bytes) n) (Err byte_faults.Short) (Ok (f bytes, drop n bytes))

  steady_fixed : ((front back : List ℕ) → n ≤ length front → f (front ++ back) ≡ f front) → IsSteady byte_faults.Short fixed
  steady_fixed same = record {
    cut = λ front back x e. elim (split (length front) n) [
      | inl lt ↦ inl (rw (lt-ltb (length front) n lt) refl)
      | inr le ↦
          let g = raw_steps.guard_ok (ltb (length (front ++ back)) n) byte_faults.Short (Ok (f (front ++ back), drop n (front ++ back))) x e in
          let is : (f (front ++ back), drop n (front ++ back)) ≡ x = raw_steps.ok_is (f (front ++ back), drop n (front ++ back)) x g.1 in
          let value : f front ≡ x.0 = sym (same front back le) ∙ ap (λ (p : X × List ℕ). p.0) is in
          let rest : x.1 ≡ drop n front ++ back = sym (ap (λ (p : X × List ℕ). p.1) is) ∙ drop-append-le n front back le in
          inr (drop n front, rw (le-ltb (length front) n le) (ap (λ (y : X). done (y, drop n front)) value), rest)
    ];
  }

steady_bytes : (n : ℕ) → IsSteady byte_faults.Short (bytes_at n)
steady_bytes n = steady_fixed n (take n) (take-append-le n)

steady_number : (n : ℕ) → IsSteady byte_faults.Short (number_at n)
steady_number n = steady_fixed n (little_number n) (little_from-append n)

steady_signed : (w : Width) (n : ℕ) → IsSteady byte_faults.Short (signed_at w n)
steady_signed w n = steady_fixed n (λ bytes. cast_signed w (little_number n bytes)) (λ front back le. ap (cast_signed w) (little_from-append n front back le))

-- ---- steps

module _ {E X : Type 0} (short : E) where
  steady_ok : (x : X) → IsSteady short (λ bytes. Ok (x, bytes))
  steady_ok x = record {
    cut = λ front back y e.
        let is : (x, front ++ back) ≡ y = done_is (x, front ++ back) y e in
        inr (front, ap (λ (p : X × List ℕ). done (p.0, front)) is, sym (ap (λ (p : X × List ℕ). p.1) is));
  }

  steady_err : (f : E) → IsSteady {X = X} short (λ bytes. Err f)
  steady_err f = record { cut = λ front back y e. absurd cc }

  steady_cond : (b : Bool) (r s : Reader E X) → IsSteady short r → IsSteady short s → IsSteady short (λ bytes. cond b (r bytes) (s bytes))
  steady_cond true r s p q = record { cut = p.cut }
  steady_cond false r s p q = record { cut = q.cut }

module _ {X Y : Type 0} (r : Reader TxFault X) (f : X × List ℕ → Result (Y × List ℕ) TxFault) where
  abbrev chained : Reader TxFault Y
  chained bytes = r bytes >>= f

  from_cut : (back : List ℕ) (a : X × List ℕ) (y : Y × List ℕ) (read : Result (X × List ℕ) TxFault) → ((x : X) → IsSteady faults.Short (λ bytes. f (x, bytes))) → IsCut faults.Short back a read → f a ≡ Ok y
      → IsCut faults.Short back y (read >>= f)
  from_cut back a y read next (inl e) h = inl (rw e refl)
  from_cut back a y read next (inr c) h = rw c.1 ((next a.0).cut c.0 back y (ap (λ (rest : List ℕ). f (a.0, rest)) (sym c.2) ∙ h))

  steady_bind : IsSteady faults.Short r → ((x : X) → IsSteady faults.Short (λ bytes. f (x, bytes))) → IsSteady faults.Short chained
  steady_bind first next = record {
    cut = λ front back y e.
        let a = bind_ok (r (front ++ back)) f y e in
        from_cut back a.0 y (r front) next (first.cut front back a.0 a.1) a.2;
  }

module _ {X : Type 0} (r : Reader ByteFault X) where
  lift_cut : (back : List ℕ) (x : X × List ℕ) (read : Result (X × List ℕ) ByteFault) → IsCut byte_faults.Short back x read → IsCut faults.Short back x (lift read)
  lift_cut back x read (inl e) = inl (rw e refl)
  lift_cut back x read (inr c) = inr (c.0, rw c.1 refl, c.2)

  steady_lift : IsSteady byte_faults.Short r → IsSteady faults.Short (λ bytes. lift (r bytes))
  steady_lift is = record { cut = λ front back x e. lift_cut back x (r front) (is.cut front back x (lift_ok (r (front ++ back)) x e)) }

-- ---- a count

module _ {X Y : Type 0} (r : Reader ByteFault X) (f : X × List ℕ → Result (Y × List ℕ) ByteFault) where
  abbrev raw_chained : Reader ByteFault Y
  raw_chained bytes = raw.◌>>=◌ (r bytes) f

  raw_from_cut : (back : List ℕ) (a : X × List ℕ) (y : Y × List ℕ) (read : Result (X × List ℕ) ByteFault) → ((x : X) → IsSteady byte_faults.Short (λ bytes. f (x, bytes))) → IsCut byte_faults.Short back a read → f a ≡ Ok y
      → IsCut byte_faults.Short back y (raw.◌>>=◌ read f)
  raw_from_cut back a y read next (inl e) h = inl (rw e refl)
  raw_from_cut back a y read next (inr c) h = rw c.1 ((next a.0).cut c.0 back y (ap (λ (rest : List ℕ). f (a.0, rest)) (sym c.2) ∙ h))

  raw_steady_bind : IsSteady byte_faults.Short r → ((x : X) → IsSteady byte_faults.Short (λ bytes. f (x, bytes))) → IsSteady byte_faults.Short raw_chained
  raw_steady_bind first next = record {
    cut = λ front back y e.
        let a = raw_steps.bind_ok (r (front ++ back)) f y e in
        raw_from_cut back a.0 y (r front) next (first.cut front back a.0 a.1) a.2;
  }

steady_count : (n least : ℕ) → IsSteady byte_faults.Short (count_at n least)
steady_count n least =
    raw_steady_bind (number_at n) (λ x. cond (ltb x.0 least) (Err byte_faults.NotCanonical) (cond (ltb most x.0) (Err byte_faults.TooLarge) (Ok x))) (steady_number n)
    (λ x. steady_cond byte_faults.Short (ltb x least) (λ bytes. Err byte_faults.NotCanonical) (λ bytes. cond (ltb most x) (Err byte_faults.TooLarge) (Ok (x, bytes)))
    (steady_err byte_faults.Short byte_faults.NotCanonical)
    (steady_cond byte_faults.Short (ltb most x) (λ bytes. Err byte_faults.TooLarge) (λ bytes. Ok (x, bytes)) (steady_err byte_faults.Short byte_faults.TooLarge) (steady_ok byte_faults.Short x)))

-- behind its mark
marked : ℕ → Reader ByteFault ℕ
marked mark rest = cond (ltb mark 253) (Ok (mark, rest)) (cond (eqb mark 253) (count_at 2 253 rest) (cond (eqb mark 254) (count_at 4 65536 rest) (count_at 8 4294967296 rest)))

steady_marked : (mark : ℕ) → IsSteady byte_faults.Short (marked mark)
unfolding marked
steady_marked mark =
    steady_cond byte_faults.Short (ltb mark 253) (λ rest. Ok (mark, rest)) (λ rest. cond (eqb mark 253) (count_at 2 253 rest) (cond (eqb mark 254) (count_at 4 65536 rest) (count_at 8 4294967296 rest))) (steady_ok byte_faults.Short mark)
    (steady_cond byte_faults.Short (eqb mark 253) (count_at 2 253) (λ rest. cond (eqb mark 254) (count_at 4 65536 rest) (count_at 8 4294967296 rest)) (steady_count 2 253)
    (steady_cond byte_faults.Short (eqb mark 254) (count_at 4 65536) (count_at 8 4294967296) (steady_count 4 65536) (steady_count 8 4294967296)))

compact_cut : (front back : List ℕ) (x : ℕ × List ℕ) → compact_at (front ++ back) ≡ Ok x → IsCut byte_faults.Short back x (compact_at front)
unfolding compact_at marked
compact_cut [] back x e = inl refl
compact_cut (mark ∷ front) back x e = (steady_marked mark).cut front back x e

steady_compact : IsSteady byte_faults.Short compact_at
steady_compact = record { cut = compact_cut }

-- ---- the parts

abbrev IsSteadyTx : {X : Type 0} → Reader TxFault X → Type 0
IsSteadyTx r = IsSteady faults.Short r

steady_u32 : IsSteadyTx (λ bytes. lift (number_at 4 bytes))
steady_u32 = steady_lift (number_at 4) (steady_number 4)

steady_string : IsSteadyTx var_bytes_at
unfolding var_bytes_at
steady_string = steady_bind (λ bytes. lift (compact_at bytes)) (λ n. lift (bytes_at n.0 n.1)) (steady_lift compact_at steady_compact) (λ n. steady_lift (bytes_at n) (steady_bytes n))

module _ {X : Type 0} (each : Reader TxFault X) (steady : IsSteadyTx each) where
  steady_many : (n : ℕ) → IsSteadyTx (many_at each n)
  unfolding many_at
  steady_many zero = steady_ok faults.Short []
  steady_many (suc n) =
      steady_bind each (λ x. many_at each n x.1 >>= λ xs. Ok (x.0 ∷ xs.0, xs.1)) steady
      (λ x. steady_bind (many_at each n) (λ xs. Ok (x ∷ xs.0, xs.1)) (steady_many n) (λ xs. steady_ok faults.Short (x ∷ xs)))

  steady_list : IsSteadyTx (vector_at each)
  unfolding vector_at
  steady_list = steady_bind (λ bytes. lift (compact_at bytes)) (λ n. many_at each n.0 n.1) (steady_lift compact_at steady_compact) steady_many

steady_point : IsSteadyTx point_at
unfolding point_at
steady_point =
    steady_bind (λ bytes. lift (bytes_at 32 bytes)) (λ txid. lift (number_at 4 txid.1) >>= λ index. Ok (record { txid = txid.0; index = index.0 }, index.1)) (steady_lift (bytes_at 32) (steady_bytes 32))
    (λ txid. steady_bind (λ bytes. lift (number_at 4 bytes)) (λ index. Ok (record { txid = txid; index = index.0 }, index.1)) steady_u32
    (λ index. steady_ok faults.Short (record { txid = txid; index = index })))

abbrev made_in : OutPoint → List ℕ → ℕ → TxIn
made_in p s n = record { prevout = p; script = s; sequence = n; witness = [] }

steady_input : IsSteadyTx input_at
unfolding input_at
steady_input =
    steady_bind point_at (λ p. var_bytes_at p.1 >>= λ s. lift (number_at 4 s.1) >>= λ n. Ok (made_in p.0 s.0 n.0, n.1)) steady_point
    (λ p. steady_bind var_bytes_at (λ s. lift (number_at 4 s.1) >>= λ n. Ok (made_in p s.0 n.0, n.1)) steady_string
    (λ s. steady_bind (λ bytes. lift (number_at 4 bytes)) (λ n. Ok (made_in p s n.0, n.1)) steady_u32
    (λ n. steady_ok faults.Short (made_in p s n))))

abbrev made_out : ℤ → List ℕ → TxOut
made_out v s = record { value = v; script = s }

steady_output : IsSteadyTx output_at
unfolding output_at
steady_output =
    steady_bind (λ bytes. lift (signed_at w64 8 bytes)) (λ v. var_bytes_at v.1 >>= λ s. Ok (made_out v.0 s.0, s.1)) (steady_lift (signed_at w64 8) (steady_signed w64 8))
    (λ v. steady_bind var_bytes_at (λ s. Ok (made_out v s.0, s.1)) steady_string
    (λ s. steady_ok faults.Short (made_out v s)))

abbrev with_witness : TxIn → List (List ℕ) → TxIn
with_witness i items = record i { witness = items }

steady_witnesses : (ins : List TxIn) → IsSteadyTx (witnesses_at ins)
unfolding witnesses_at
steady_witnesses [] = steady_ok faults.Short []
steady_witnesses (i ∷ ins) =
    steady_bind (vector_at var_bytes_at) (λ items. witnesses_at ins items.1 >>= λ signed. Ok (with_witness i items.0 ∷ signed.0, signed.1)) (steady_list var_bytes_at steady_string)
    (λ items. steady_bind (witnesses_at ins) (λ signed. Ok (with_witness i items ∷ signed.0, signed.1)) (steady_witnesses ins)
    (λ signed. steady_ok faults.Short (with_witness i items ∷ signed)))

-- ---- the whole

-- the locktime, and the transaction
steady_end : (v : ℤ) (ins : List TxIn) (outs : List TxOut) → IsSteadyTx (λ bytes. lift (number_at 4 bytes) >>= λ lock. Ok (made v ins outs lock.0, lock.1))
steady_end v ins outs = steady_bind (λ bytes. lift (number_at 4 bytes)) (λ lock. Ok (made v ins outs lock.0, lock.1)) steady_u32 (λ lock. steady_ok faults.Short (made v ins outs lock))

steady_plain : (v : ℤ) (count : ℕ) → IsSteadyTx (plain_at v count)
unfolding plain_at
steady_plain v count =
    steady_bind (many_at input_at count) (λ ins. vector_at output_at ins.1 >>= λ outs. lift (number_at 4 outs.1) >>= λ lock. Ok (made v ins.0 outs.0 lock.0, lock.1)) (steady_many input_at steady_input count)
    (λ ins. steady_bind (vector_at output_at) (λ outs. lift (number_at 4 outs.1) >>= λ lock. Ok (made v ins outs.0 lock.0, lock.1)) (steady_list output_at steady_output)
    (λ outs. steady_end v ins outs))

steady_flagged : (v : ℤ) → IsSteadyTx (extended_at v)
unfolding extended_at
steady_flagged v =
    steady_bind (vector_at input_at) (λ ins. vector_at output_at ins.1 >>= λ outs. witnesses_at ins.0 outs.1 >>= λ signed. finished v outs.0 signed) (steady_list input_at steady_input)
    (λ ins. steady_bind (vector_at output_at) (λ outs. witnesses_at ins outs.1 >>= λ signed. finished v outs.0 signed) (steady_list output_at steady_output)
    (λ outs. steady_bind (witnesses_at ins) (λ signed. finished v outs signed) (steady_witnesses ins)
    (λ signed. steady_cond faults.Short (has_witness (made v signed outs 0)) (λ bytes. lift (number_at 4 bytes) >>= λ lock. Ok (made v signed outs lock.0, lock.1)) (λ bytes. Err faults.EmptyWitness)
    (steady_end v signed outs) (steady_err faults.Short faults.EmptyWitness))))

steady_empty : (v : ℤ) → IsSteadyTx (empty_at v)
unfolding empty_at
steady_empty v = steady_end v [] []

steady_behind_zero : (v : ℤ) → IsSteadyTx (behind_zero_at v)
unfolding behind_zero_at
steady_behind_zero v =
    steady_bind (λ bytes. lift (number_at 1 bytes)) (λ flag. cond (eqb flag.0 0) (empty_at v flag.1) (cond (eqb flag.0 1) (extended_at v flag.1) (Err faults.BadFlag))) (steady_lift (number_at 1) (steady_number 1))
    (λ flag. steady_cond faults.Short (eqb flag 0) (empty_at v) (λ bytes. cond (eqb flag 1) (extended_at v bytes) (Err faults.BadFlag)) (steady_empty v)
    (steady_cond faults.Short (eqb flag 1) (extended_at v) (λ bytes. Err faults.BadFlag) (steady_flagged v) (steady_err faults.Short faults.BadFlag)))

steady_tx : IsSteadyTx tx_at
unfolding tx_at
steady_tx =
    steady_bind (λ bytes. lift (signed_at w32 4 bytes)) (λ v. lift (compact_at v.1) >>= λ count. cond (eqb count.0 0) (behind_zero_at v.0 count.1) (plain_at v.0 count.0 count.1)) (steady_lift (signed_at w32 4) (steady_signed w32 4))
    (λ v. steady_bind (λ bytes. lift (compact_at bytes)) (λ count. cond (eqb count.0 0) (behind_zero_at v count.1) (plain_at v count.0 count.1)) (steady_lift compact_at steady_compact)
    (λ count. steady_cond faults.Short (eqb count 0) (behind_zero_at v) (plain_at v count) (steady_behind_zero v) (steady_plain v count)))

nothing_left : (left back : List ℕ) → [] ≡ left ++ back → back ≡ []
nothing_left [] back e = sym e
nothing_left (b ∷ left) back e = absurd cc

pub cuts_are_short : CutsAreShort
unfolding all_of
cuts_are_short t front back is e some =
    let whole : tx_at (front ++ back) ≡ Ok (t, []) = ap tx_at (sym e ∙ sym (append-nil (text t))) ∙ tx_again t [] is.is_tx in
    let small : length front ≤ longest = omega (arith, is.size, ap length e, length-append front back) in
    elim (steady_tx.cut front back (t, []) whole) [
      | inl short ↦ rw (le-ltb longest (length front) small, short) refl
      | inr c ↦ absurd (some (nothing_left c.0 back c.2))
    ]
