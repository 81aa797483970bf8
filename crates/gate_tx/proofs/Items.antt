-- The items of a witness and their texts.
use Rattle.std.proofs.Common.{◌≡◌, ℕ, zero, suc, ◌+◌, ◌-◌, ◌≤◌, ◌<◌, List, map, [], ◌∷◌, ◌++◌, length, take, drop, get_or, Option, Some, None, Result, Ok, Err, refl, sym, ap, subst, ◌∙◌, append_assoc, arith}
use Rattle.std.specs.Bool.{one_answer}
use Rattle.std.specs.List.{flat_map, slice_get, AllByRecursion}
use Rattle.std.specs.Option.{option_map}
use Rattle.std.specs.Iterator.{Yields, SkipsThenYields, YieldsFirstBy}
use Rattle.std.specs.Str.{bytes_eq}
use Rattle.std.specs.Cmp.Lexicographic.{pointwise}
use Rattle.std.proofs.lemmas.Bool.Decides.{Decides-like}
use Rattle.std.proofs.lemmas.Slice.Eq.{bytes_eq-Decides}
use Rattle.std.proofs.lemmas.List.{append-nil, length-append, length-map, take_at, drop_at, take_all, take_more}
use Rattle.std.proofs.lemmas.Option.{slice_get-get_or, slice_get_past}
use Rattle.gate_bytes.specs.Compact.{IsCount}
use Rattle.gate_bytes.specs.Reading.{IsBytes, compact_at}
use Rattle.gate_tx.specs.declared.fault.TxFault.{TxFault}
use Rattle.gate_tx.specs.Text.{var_bytes}
use Rattle.gate_tx.specs.Reading.{◌>>=◌, Fails, var_bytes_at, many_at, vector_at, split_items}
use Rattle.gate_tx.specs.Items.{read_items, items_at, HasItems, AreKept}
use Rattle.gate_tx.specs.Equality.{items_decides}
use Rattle.gate_tx.proofs.Steps.{bind_ok, ok_is, many_take, many_again}
use Rattle.gate_tx.proofs.Fields.{items_law}
use Rattle.gate_tx.proofs.Loops.{Fails-at}
use Rattle.gate_tx.proofs.Bounds.{items-le, var_bytes-le}

abbrev Items : Type 0
Items = List (List ℕ)

abbrev Read : Type 0
Read = Result (Items × List ℕ) TxFault

abbrev read_of : Items → List ℕ → Read
read_of items behind = Ok (items, behind)

-- what is read is what is seen
pub items_are : (n : ℕ) (bytes : List ℕ) (items : Items) (behind : List ℕ) → many_at var_bytes_at n bytes ≡ read_of items behind → items_at n bytes ≡ items
unfolding items_at
items_are n bytes items behind e = ap (λ (r : Read). read_items r) e

pub has_of : (n : ℕ) (bytes : List ℕ) (items : Items) (behind : List ℕ) → many_at var_bytes_at n bytes ≡ read_of items behind → HasItems n bytes
has_of n bytes items behind e = (behind, e ∙ ap (λ (xs : Items). read_of xs behind) (sym (items_are n bytes items behind e)))

-- ---- items that are kept are read

pub items_again : (items : Items) (n : ℕ) (bytes rest : List ℕ) → AreKept items n bytes → many_at var_bytes_at n (bytes ++ rest) ≡ read_of items rest
items_again items n bytes rest is = rw (is.count, is.texts) (many_again var_bytes_at var_bytes (λ s. IsCount (length s)) items_law items rest is.sizes)

kept_again : (items : Items) (n : ℕ) (bytes : List ℕ) → AreKept items n bytes → many_at var_bytes_at n bytes ≡ read_of items []
kept_again items n bytes is = ap (many_at var_bytes_at n) (sym (append-nil bytes)) ∙ items_again items n bytes [] is

pub kept_are : (items : Items) (n : ℕ) (bytes : List ℕ) → AreKept items n bytes → items_at n bytes ≡ items
kept_are items n bytes is = items_are n bytes items [] (kept_again items n bytes is)

pub kept : (items : Items) (n : ℕ) (bytes : List ℕ) → AreKept items n bytes → AreKept (items_at n bytes) n bytes
kept items n bytes is = subst (λ (xs : Items). AreKept xs n bytes) (sym (kept_are items n bytes is)) is

pub kept_has : (items : Items) (n : ℕ) (bytes : List ℕ) → AreKept items n bytes → HasItems n bytes
kept_has items n bytes is = has_of n bytes items [] (kept_again items n bytes is)

-- each item has a byte of text
pub kept_few : (items : Items) (n : ℕ) (bytes : List ℕ) → AreKept items n bytes → n ≤ length bytes
kept_few items n bytes is = rw (is.count, is.texts) (items-le var_bytes (λ s. omega (arith, var_bytes-le s)) items)

-- ---- none, and one more

nothing : AreKept [] 0 []
nothing = record { count = refl; texts = refl; sizes = tt }

pub nothing_kept : AreKept (items_at 0 []) 0 []
nothing_kept = kept [] 0 [] nothing

pub none_at : (bytes : List ℕ) → items_at 0 bytes ≡ []
unfolding items_at many_at
none_at bytes = refl

sizes_and : (items : Items) (item : List ℕ) → AllByRecursion (λ s. IsCount (length s)) items → IsCount (length item) → AllByRecursion (λ s. IsCount (length s)) (items ++ item ∷ [])
sizes_and [] item all is = (is, tt)
sizes_and (x ∷ items) item all is = (all.0, sizes_and items item all.1 is)

texts_and : (items : Items) (item : List ℕ) → flat_map var_bytes (items ++ item ∷ []) ≡ flat_map var_bytes items ++ var_bytes item
texts_and [] item = append-nil (var_bytes item)
texts_and (x ∷ items) item = ap (λ (t : List ℕ). var_bytes x ++ t) (texts_and items item) ∙ sym (append_assoc (var_bytes x) (flat_map var_bytes items) (var_bytes item))

one_more : (items : Items) (item : List ℕ) (n m : ℕ) (bytes longer : List ℕ) → AreKept items n bytes → IsCount (length item) → m ≡ n + 1 → longer ≡ bytes ++ var_bytes item → AreKept (items ++ item ∷ []) m longer
one_more items item n m bytes longer is count more longer_is = record {
  count = omega (arith, is.count, length-append items (item ∷ []));
  texts = longer_is ∙ ap (λ (t : List ℕ). t ++ var_bytes item) is.texts ∙ sym (texts_and items item);
  sizes = sizes_and items item is.sizes count;
}

pub pushed_kept : (items : Items) (item : List ℕ) (n m : ℕ) (bytes longer : List ℕ) → AreKept items n bytes → IsCount (length item) → m ≡ n + 1 → longer ≡ bytes ++ var_bytes item → AreKept (items_at m longer) m longer
pushed_kept items item n m bytes longer is count more longer_is = kept (items ++ item ∷ []) m longer (one_more items item n m bytes longer is count more longer_is)

pub pushed_are : (items : Items) (item : List ℕ) (n m : ℕ) (bytes longer : List ℕ) → AreKept items n bytes → IsCount (length item) → m ≡ n + 1 → longer ≡ bytes ++ var_bytes item → items_at m longer ≡ items ++ item ∷ []
pushed_are items item n m bytes longer is count more longer_is = kept_are (items ++ item ∷ []) m longer (one_more items item n m bytes longer is count more longer_is)

-- ---- lists of as many items are the same just where their texts are

pub same_texts : (a b : Items) (n m : ℕ) (s t : List ℕ) → AreKept a n s → AreKept b m t → n ≡ m → bytes_eq s t ≡ pointwise bytes_eq a b
same_texts a b n m s t is_a is_b e =
    one_answer (bytes_eq s t) (pointwise bytes_eq a b)
    (Decides-like _ (λ p. sym (kept_are a n s is_a) ∙ ap (λ (k : ℕ). items_at k s) e ∙ ap (items_at m) p ∙ kept_are b m t is_b) (λ q. is_a.texts ∙ ap (λ (xs : Items). flat_map var_bytes xs) q ∙ sym is_b.texts) (bytes_eq-Decides s t))
    (items_decides a b)

-- ---- items one by one

abbrev FirstRead : ℕ → List ℕ → Items → List ℕ → Type 0
FirstRead n bytes items behind = (x : List ℕ × List ℕ) × (var_bytes_at bytes ≡ Ok x) × ((others : Items) × (many_at var_bytes_at n x.1 ≡ read_of others behind) × (items ≡ x.0 ∷ others))

first_read : (n : ℕ) (bytes : List ℕ) (items : Items) (behind : List ℕ) → many_at var_bytes_at (suc n) bytes ≡ read_of items behind → FirstRead n bytes items behind
unfolding many_at
first_read n bytes items behind e =
    let a = bind_ok (var_bytes_at bytes) (λ first. many_at var_bytes_at n first.1 >>= λ others. Ok (first.0 ∷ others.0, others.1)) (items, behind) e in
    let b = bind_ok (many_at var_bytes_at n a.0.1) (λ others. Ok (a.0.0 ∷ others.0, others.1)) (items, behind) a.2 in
    let same : (a.0.0 ∷ b.0.0, b.0.1) ≡ (items, behind) = ok_is (a.0.0 ∷ b.0.0, b.0.1) (items, behind) b.2 in
    (a.0, a.1, (b.0.0, b.1 ∙ ap (λ (x : Items × List ℕ). read_of b.0.0 x.1) same, sym (ap (λ (x : Items × List ℕ). x.0) same)))

abbrev NextAt : ℕ → List ℕ → List ℕ → List ℕ → Type 0
NextAt n bytes item rest = HasItems n rest × (items_at (suc n) bytes ≡ item ∷ items_at n rest)

next_at : (n : ℕ) (bytes item rest behind : List ℕ) (items : Items) → many_at var_bytes_at (suc n) bytes ≡ read_of items behind → var_bytes_at bytes ≡ Ok (item, rest) → NextAt n bytes item rest
next_at n bytes item rest behind items e read =
    let first = first_read n bytes items behind e in
    let same : first.0 ≡ (item, rest) = ok_is first.0 (item, rest) (sym first.1 ∙ read) in
    let others : many_at var_bytes_at n rest ≡ read_of first.2.0 behind = ap (λ (x : List ℕ × List ℕ). many_at var_bytes_at n x.1) (sym same) ∙ first.2.1 in
    let here : items ≡ item ∷ first.2.0 = first.2.2 ∙ ap (λ (x : List ℕ × List ℕ). x.0 ∷ first.2.0) same in
    (has_of n rest first.2.0 behind others, items_are (suc n) bytes items behind e ∙ here ∙ ap (λ (xs : Items). item ∷ xs) (sym (items_are n rest first.2.0 behind others)))

pub next_is : (m n : ℕ) (bytes item rest : List ℕ) → HasItems m bytes → m ≡ suc n → var_bytes_at bytes ≡ Ok (item, rest) → HasItems n rest × (items_at m bytes ≡ item ∷ items_at n rest)
next_is m n bytes item rest has more read =
    let moved : HasItems (suc n) bytes = subst (λ (k : ℕ). HasItems k bytes) more has in
    let next = next_at n bytes item rest moved.0 (items_at (suc n) bytes) moved.1 read in
    (next.0, ap (λ (k : ℕ). items_at k bytes) more ∙ next.1)

pub next_comes : (m n : ℕ) (bytes : List ℕ) (e : TxFault) → HasItems m bytes → m ≡ suc n → var_bytes_at bytes ≡ Err e → ⊥
next_comes m n bytes e has more read =
    let moved : HasItems (suc n) bytes = subst (λ (k : ℕ). HasItems k bytes) more has in
    let first = first_read n bytes (items_at (suc n) bytes) moved.0 moved.1 in
    let h = sym read ∙ first.1 in cc

-- ---- the one at a place, by calls of `next`

seam : {B : Type 0} (front : List B) (x : B) (rest : List B) → slice_get (front ++ x ∷ rest) (length front) ≡ Some x
seam [] x rest = refl
seam (y ∷ front) x rest = seam front x rest

module _ {A B : Type 0} (view : A → B) where
  abbrev pub taking : List B → Option A → List B → Type 0
  taking = YieldsFirstBy view (λ (left : List B). left)

  passed : (s : List B) (xs : List A) (t : List B) → Yields taking s xs t → s ≡ map view xs ++ t
  passed s [] t e = e
  passed s (x ∷ xs) t e = e.1 ∙ ap (λ (left : List B). view x ∷ left) (passed e.0 xs t e.2)

  pub nth_is : (s : List B) (n : ℕ) (r : Option A) (u : List B) → SkipsThenYields taking s n r u → option_map view r ≡ slice_get s n
  nth_is s n None u h =
      let whole : s ≡ map view h.0 ++ [] = passed s h.0 h.1.0 h.1.1 ∙ ap (λ (left : List B). map view h.0 ++ left) h.1.2.0 in
      let count : length s ≡ length h.0 = ap length (whole ∙ append-nil (map view h.0)) ∙ length-map h.0 view in
      sym (slice_get_past s n (omega (arith, h.2)))
  nth_is s n (Some x) u h =
      let whole : s ≡ map view h.0 ++ view x ∷ u = passed s h.0 h.1.0 h.1.1 ∙ ap (λ (left : List B). map view h.0 ++ left) h.1.2 in
      let here : length (map view h.0) ≡ n = length-map h.0 view ∙ h.2 in
      sym (ap (λ (left : List B). slice_get left n) whole ∙ ap (slice_get (map view h.0 ++ view x ∷ u)) (sym here) ∙ seam (map view h.0) (view x) u)

-- ---- their number, and those before the last

none_count : (bytes : List ℕ) (items : Items) (behind : List ℕ) → many_at var_bytes_at 0 bytes ≡ read_of items behind → length items ≡ 0
unfolding many_at
none_count bytes items behind e = ap (λ (x : Items × List ℕ). length x.0) (sym (ok_is ([], bytes) (items, behind) e))

many_count : (n : ℕ) (bytes : List ℕ) (items : Items) (behind : List ℕ) → many_at var_bytes_at n bytes ≡ read_of items behind → length items ≡ n
many_count zero bytes items behind e = none_count bytes items behind e
many_count (suc n) bytes items behind e =
    let first = first_read n bytes items behind e in
    ap (λ (xs : Items). length xs) first.2.2 ∙ ap suc (many_count n first.0.1 first.2.0 behind first.2.1)

pub has_count : (n : ℕ) (bytes : List ℕ) → HasItems n bytes → length (items_at n bytes) ≡ n
has_count n bytes has = many_count n bytes (items_at n bytes) has.0 has.1

pub none_has : (bytes : List ℕ) → HasItems 0 bytes
unfolding many_at
none_has bytes = has_of 0 bytes [] bytes refl

many_step : (m : ℕ) (bytes : List ℕ) (first : List ℕ × List ℕ) (others : Items) (behind : List ℕ) → var_bytes_at bytes ≡ Ok first → many_at var_bytes_at m first.1 ≡ read_of others behind → many_at var_bytes_at (suc m) bytes ≡ read_of (first.0 ∷ others) behind
unfolding many_at
many_step m bytes first others behind p q = rw (p, q) refl

front_many : (m n : ℕ) (bytes : List ℕ) (items : Items) (behind : List ℕ) → m ≤ n → many_at var_bytes_at n bytes ≡ read_of items behind → (middle : List ℕ) × (many_at var_bytes_at m bytes ≡ read_of (take m items) middle)
unfolding many_at
front_many zero n bytes items behind le e = (bytes, refl)
front_many (suc m) zero bytes items behind le e = absurd (omega arith)
front_many (suc m) (suc n) bytes items behind le e =
    let first = first_read n bytes items behind e in
    let front = front_many m n first.0.1 first.2.0 behind (omega arith) first.2.1 in
    (front.0, many_step m bytes first.0 (take m first.2.0) front.0 first.1 front.1 ∙ ap (λ (xs : Items). read_of (take (suc m) xs) front.0) (sym first.2.2))

pub front_has : (m n : ℕ) (bytes : List ℕ) → m ≤ n → HasItems n bytes → HasItems m bytes × (items_at m bytes ≡ take m (items_at n bytes))
front_has m n bytes le has =
    let front = front_many m n bytes (items_at n bytes) has.0 le has.1 in
    (has_of m bytes (take m (items_at n bytes)) front.0 front.1, items_are m bytes (take m (items_at n bytes)) front.0 front.1)

ends_with : (xs : Items) (n : ℕ) (x : List ℕ) → length xs ≡ suc n → slice_get xs n ≡ Some x → xs ≡ take n xs ++ x ∷ []
ends_with xs n x long at =
    let within : n < length xs = omega arith in
    let here : get_or xs n x ≡ x = let h = sym (slice_get-get_or xs n x within) ∙ at in cc in
    let all : take (n + 1) xs ≡ xs = take_all (n + 1) xs (omega arith) in
    sym all ∙ take_more xs n x within ∙ ap (λ (y : List ℕ). take n xs ++ y ∷ []) here

pub last_is : (m n : ℕ) (bytes item : List ℕ) → m ≡ suc n → HasItems m bytes → slice_get (items_at m bytes) n ≡ Some item → items_at m bytes ≡ items_at n bytes ++ item ∷ []
last_is m n bytes item more has at =
    let front = front_has n m bytes (omega arith) has in
    ends_with (items_at m bytes) n item (has_count m bytes has ∙ more) at ∙ ap (λ (xs : Items). xs ++ item ∷ []) (sym front.1)

pub last_comes : (m n : ℕ) (bytes : List ℕ) → m ≡ suc n → HasItems m bytes → None ≡ slice_get (items_at m bytes) n → ⊥
last_comes m n bytes more has e =
    let count = has_count m bytes has in
    let here = slice_get-get_or (items_at m bytes) n [] (omega arith) in
    let h = e ∙ here in cc

-- ---- texts at the front of bytes

pub record IsSplit (n : ℕ) (bytes texts rest : List ℕ) : Type 0 where
  pub is_kept : AreKept (items_at n texts) n texts
  pub read : many_at var_bytes_at n bytes ≡ read_of (items_at n texts) rest

pub split_is : (n : ℕ) (bytes texts rest : List ℕ) → IsBytes bytes → split_items n bytes ≡ Ok (texts, rest) → IsSplit n bytes texts rest
unfolding split_items
split_is n bytes texts rest fits e =
    let b = bind_ok (many_at var_bytes_at n bytes) (λ items. Ok (flat_map var_bytes items.0, items.1)) (texts, rest) e in
    let t = many_take var_bytes_at var_bytes (λ s. IsCount (length s)) items_law n bytes b.0 fits b.1 in
    let same : (flat_map var_bytes b.0.0, b.0.1) ≡ (texts, rest) = ok_is (flat_map var_bytes b.0.0, b.0.1) (texts, rest) b.2 in
    let is : AreKept b.0.0 n texts = record { count = sym t.1; texts = sym (ap (λ (x : List ℕ × List ℕ). x.0) same); sizes = t.2 } in
    record { is_kept = kept b.0.0 n texts is; read = b.1 ∙ ap (λ (x : List ℕ × List ℕ). read_of b.0.0 x.1) same ∙ ap (λ (xs : Items). read_of xs rest) (sym (kept_are b.0.0 n texts is)) }

-- what was read by a loop
module _ (n : ℕ) (bytes : List ℕ) (items : Items) (rest : List ℕ) (fits : IsBytes bytes) (read : many_at var_bytes_at n bytes ≡ read_of items rest) where
  parts : bytes ≡ flat_map var_bytes items ++ rest
  parts = (many_take var_bytes_at var_bytes (λ s. IsCount (length s)) items_law n bytes (items, rest) fits read).0.parts

  len : length bytes ≡ length (flat_map var_bytes items) + length rest
  len = ap length parts ∙ length-append (flat_map var_bytes items) rest

  pub rest_shorter : length rest ≤ length bytes
  rest_shorter = let l = len in omega arith

  pub split_read : split_items n bytes ≡ Ok (take (length bytes - length rest) bytes, drop (length bytes - length rest) bytes)
  unfolding split_items
  split_read =
      let l = len in
      let at : length (flat_map var_bytes items) ≡ length bytes - length rest = omega arith in
      let front : take (length bytes - length rest) bytes ≡ flat_map var_bytes items = ap (take (length bytes - length rest)) parts ∙ take_at (flat_map var_bytes items) rest (length bytes - length rest) at in
      let back : drop (length bytes - length rest) bytes ≡ rest = ap (drop (length bytes - length rest)) parts ∙ drop_at (flat_map var_bytes items) rest (length bytes - length rest) at in
      rw (read, front, back) refl

pub split_fails : (n : ℕ) (bytes : List ℕ) (e : TxFault) → many_at var_bytes_at n bytes ≡ Err e → split_items n bytes ≡ Err e
unfolding split_items
split_fails n bytes e read = rw read refl

-- ---- a count and as many items

pub read_is : (bytes behind texts rest : List ℕ) (n : ℕ) → compact_at bytes ≡ Ok (n, behind) → IsBytes behind → split_items n behind ≡ Ok (texts, rest) → vector_at var_bytes_at bytes ≡ read_of (items_at n texts) rest
unfolding vector_at
read_is bytes behind texts rest n counted fits e = rw counted (split_is n behind texts rest fits e).read

abbrev fails_by : TxFault → Read
fails_by f = Err f

split_faults : (n : ℕ) (bytes : List ℕ) (e : TxFault) (r : Read) → many_at var_bytes_at n bytes ≡ r → split_items n bytes ≡ Err e → many_at var_bytes_at n bytes ≡ Err e
unfolding split_items
split_faults n bytes e (Ok x) read split = absurd (let h = sym (ap (λ (r : Read). r >>= λ items. Ok (flat_map var_bytes items.0, items.1)) read) ∙ split in cc)
split_faults n bytes e (Err f) read split =
    let h = sym (ap (λ (r : Read). r >>= λ items. Ok (flat_map var_bytes items.0, items.1)) read) ∙ split in
    let same : f ≡ e = cc in
    read ∙ ap fails_by same

pub read_fails : (bytes behind : List ℕ) (n : ℕ) (e : TxFault) → compact_at bytes ≡ Ok (n, behind) → Fails e (split_items n behind) → Fails e (vector_at var_bytes_at bytes)
unfolding vector_at
read_fails bytes behind n e counted = Fails-at e (split_items n behind) (vector_at var_bytes_at bytes) (λ f g. rw counted (split_faults n behind f (many_at var_bytes_at n behind) refl g))
