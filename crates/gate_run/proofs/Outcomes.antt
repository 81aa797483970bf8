-- Facts that hold on either outcome.
use Rattle.std.proofs.Common.{Result, Ok, Err, OnErr, OnOk}

pub OnErr-always : {T E : Type 0} (r : Result T E) (P : Type 0) → P → OnErr r P
OnErr-always (Ok x) P p = tt
OnErr-always (Err e) P p = p

pub OnOk-so : {T E : Type 0} (r : Result T E) (P Q : Type 0) → (P → Q) → OnOk r P → OnOk r Q
OnOk-so (Ok x) P Q so p = so p
OnOk-so (Err e) P Q so p = tt
