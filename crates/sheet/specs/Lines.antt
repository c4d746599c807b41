-- The lines of a sheet. Assumes nothing.
use Rattle.std.specs.Prelude.{ℕ, ◌+◌, List, [], ◌∷◌, length}
use Rattle.std.specs.List.{sum_by}
use Rattle.text.specs.Pieces.{lines_of}

-- the lines before the first empty one
abbrev pub filled : List (List ℕ) → List (List ℕ)
filled [] = []
filled ([] ∷ lines) = []
filled ((b ∷ bs) ∷ lines) = (b ∷ bs) ∷ filled lines

-- the lines of the sheet that a text begins with
abbrev pub sheet_lines : List ℕ → List (List ℕ)
sheet_lines bytes = filled (lines_of bytes)

-- how many bytes lines take up, each with the byte 10 after it
abbrev pub span : List (List ℕ) → ℕ
span lines = sum_by (λ line. length line + 1) lines
