-- The first line of some bytes.
use Rattle.std.specs.Prelude.{ℕ, List, length, take}
use Rattle.std.specs.List.{filter}
use Rattle.om_event.specs.Fronts.{line_len}
use Rattle.om_event.specs.Pieces.{is_space}

-- the bytes before the first line feed, or the end
unfoldable pub line_of : List ℕ → List ℕ
line_of bytes = take (line_len bytes) bytes

unfoldable pub spaces : List ℕ → ℕ
spaces line = length (filter is_space line)
