-- The maps of a PSBT (BIP 174): pairs of a key and a value, up to an empty key.
use Rattle.std.specs.Prelude.{◌≡◌, ℕ, zero, suc, Bool, true, false, ◌==◌, ◌||◌, List, [], ◌∷◌, ◌++◌, length, Option, Some, None, Result, Ok, Err, if◌then◌else◌}
use Rattle.std.specs.Borrow.{Bor}
use Rattle.std.specs.List.{list_any}
use Rattle.std.specs.Str.{bytes_eq}
use Rattle.gate_psbt.specs.declared.fault.PartFault.{PartFault}
use Rattle.gate_psbt.specs.declared.fault.PartFault.TheVariants as faults
use Rattle.gate_psbt.specs.declared.map.Owner.{Owner}
use Rattle.gate_psbt.specs.declared.map.Owner.TheVariants as owners
use Rattle.gate_psbt.specs.Faults.{◌>>=◌}
use Rattle.gate_psbt.specs.Fields.{counted_at}

-- a key and its value
abbrev pub KeyValue : Type 0
KeyValue = List ℕ × List ℕ

-- a key that is its type alone
abbrev pub is_single : Owner → ℕ → Bool
is_single owners.Whole kind = (kind == 0) || (kind == 0xfb)
is_single owners.Input kind = (kind == 0) || (kind == 1) || (kind == 3) || (kind == 4) || (kind == 5) || (kind == 7) || (kind == 8)
is_single owners.Output kind = (kind == 0) || (kind == 1)

-- a key whose type has a public key behind it, of 33 or 65 bytes
abbrev pub has_point : Owner → ℕ → Bool
has_point owners.Whole kind = false
has_point owners.Input kind = (kind == 2) || (kind == 6)
has_point owners.Output kind = kind == 2

-- a key whose type has an extended public key behind it, of 78 bytes
abbrev pub has_extended : Owner → ℕ → Bool
has_extended owners.Whole kind = kind == 1
has_extended owners.Input kind = false
has_extended owners.Output kind = false

-- whether a key of this many bytes is as long as its type allows
abbrev pub fits_type : Owner → ℕ → ℕ → Bool
fits_type owner kind n =
    if is_single owner kind then n == 1
    else if has_point owner kind then (n == 34) || (n == 66)
    else if has_extended owner kind then n == 79
    else true

abbrev pub fits : Owner → List ℕ → Bool
fits owner [] = false
fits owner (kind ∷ more) = fits_type owner kind (length (kind ∷ more))

-- the key and the value at the front, or nothing behind an empty key
unfoldable pub pair_at : Owner → List ℕ → Result (Option KeyValue × List ℕ) PartFault
pair_at owner bytes = do
  key ← counted_at bytes
  if length key.0 == 0 then Ok (None, key.1) else if fits owner key.0 then (do
    value ← counted_at key.1
    Ok (Some (key.0, value.0), value.1)) else Err faults.KeyLength

-- one of the pairs has this key
abbrev pub has_key : List KeyValue → List ℕ → Bool
has_key pairs key = list_any (λ (p : KeyValue). bytes_eq p.0 key) pairs

-- the map ends at an empty key; else it goes on behind one more pair, whose key is none of those before it
abbrev pub behind : (List KeyValue → Result (List KeyValue × List ℕ) PartFault) → List KeyValue → List ℕ → Option KeyValue → Result (List KeyValue × List ℕ) PartFault
behind more before rest None = Ok (before, rest)
behind more before rest (Some pair) = if has_key before pair.0 then Err faults.DuplicateKey else more (before ++ pair ∷ [])

-- at most this many pairs behind those that were read before, up to the empty key
unfoldable pub pairs_at : Owner → ℕ → List KeyValue → List ℕ → Result (List KeyValue × List ℕ) PartFault
pairs_at owner zero before bytes = Err faults.Short
pairs_at owner (suc n) before bytes = do
  pair ← pair_at owner bytes
  behind (λ pairs. pairs_at owner n pairs pair.1) before pair.1 pair.0

-- a map: it has no more pairs than bytes
unfoldable pub map_at : Owner → List ℕ → Result (List KeyValue × List ℕ) PartFault
map_at owner bytes = pairs_at owner (length bytes) [] bytes

-- a key is this type alone
abbrev pub is_key : ℕ → List ℕ → Bool
is_key kind [] = false
is_key kind (only ∷ []) = only == kind
is_key kind (x ∷ y ∷ more) = false

-- the value of the key that is this type alone
unfoldable pub value_of : ℕ → List KeyValue → Option (List ℕ)
value_of kind [] = None
value_of kind (pair ∷ more) = if is_key kind pair.0 then Some pair.1 else value_of kind more

-- what a call hands out is this value
abbrev pub ValueBy : Option (Bor (List ℕ)) → Option (List ℕ) → Type 0
ValueBy None value = value ≡ None
ValueBy (Some x) value = value ≡ Some x.now
