-- The answers that refuse a line, each without its newline.
use Rattle.std.specs.Prelude.{ℕ, List, codes}

-- the answer to a line without a form
abbrev pub bad_line : List ℕ
bad_line = codes "refused L1 bad-line"

-- the answer to a line longer than the limit, which ends the lane
abbrev pub line_too_long : List ℕ
line_too_long = codes "refused L2 line-too-long"

-- the answer to the first line past the limit on their number, which ends the lane
abbrev pub too_many_lines : List ℕ
too_many_lines = codes "refused L3 too-many-lines"
