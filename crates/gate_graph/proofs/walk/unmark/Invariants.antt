use Rattle.std.proofs.Common.{◌≡◌, ◌<◌, ℕ, true, false, length, get_or}
use Rattle.std.specs.Vec.{vec_capacity}
use Rattle.gate_graph.proofs.walk.unmark.Given as goal

-- no mark was set, and those at the places so far are not set
abbrev pub invariant-loop-place : goal.invariant-loop-place
invariant-loop-place l = record {
  len : length l.marks.items ≡ length l.initial.marks.items;
  kept : (p : ℕ) → get_or l.marks.items p false ≡ true → get_or l.initial.marks.items p false ≡ true;
  cleared : (k d : ℕ) → k < l.place-index → get_or l.marks.items (get_or l.found k d) false ≡ false;
  capacity : vec_capacity l.marks ≡ vec_capacity l.initial.marks;
}
