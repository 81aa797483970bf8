-- The words of a line, parted by single spaces.
use Rattle.std.specs.Prelude.{ℕ, nat_lt, ◌==◌, ◌&&◌, not, Bool, if◌then◌else◌, List, length, Option, Some, None, is_some}
use Rattle.std.specs.List.{position_or_len, before_first, after_first}

-- the text before the first space and the text after it, or none if there is no space
unfoldable pub part_of : List ℕ → Option (List ℕ × List ℕ)
part_of line = if nat_lt (position_or_len (λ b. b == 32) line) (length line) then Some (before_first (λ b. b == 32) line, after_first (λ b. b == 32) line) else None

-- not empty, and without a space
abbrev pub is_word : List ℕ → Bool
is_word text = not (length text == 0) && not (is_some (part_of text))
