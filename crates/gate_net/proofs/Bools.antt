-- Tests, and values that hang on them.
use Rattle.std.proofs.Common.{◌≡◌, ◌&&◌, ◌||◌, Bool, true, false, if◌then◌else◌, Option, Some, None, refl}

pub and_left : (a b : Bool) → (a && b) ≡ true → a ≡ true
and_left true b h = refl
and_left false b h = cc

pub and_right : (a b : Bool) → (a && b) ≡ true → b ≡ true
and_right true b h = h
and_right false b h = cc

pub and_both : (a b : Bool) → a ≡ true → b ≡ true → (a && b) ≡ true
and_both true b h k = k
and_both false b h k = cc

pub or_both : (a b : Bool) → a ≡ false → b ≡ false → (a || b) ≡ false
or_both true b h k = cc
or_both false b h k = k

pub or_left : (a b : Bool) → (a || b) ≡ false → a ≡ false
or_left true b h = cc
or_left false b h = refl

pub or_right : (a b : Bool) → (a || b) ≡ false → b ≡ false
or_right true b h = cc
or_right false b h = h

pub or_true : (a : Bool) → (a || true) ≡ true
or_true true = refl
or_true false = refl

pub chosen : {X : Type 0} (b : Bool) (v : X) → b ≡ true → (if b then Some v else None) ≡ Some v
chosen true v h = refl
chosen false v h = cc

pub some_if : {X : Type 0} (b : Bool) (v w : X) → (if b then Some v else None) ≡ Some w → (b ≡ true) × (v ≡ w)
some_if true v w h = (refl, cc)
some_if false v w h = cc
