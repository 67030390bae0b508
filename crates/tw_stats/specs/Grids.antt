-- Tables of text: lines of cells, the columns two blanks apart, each as wide as its widest cell.
--     letters text      how many characters it has
--     width lines column      those of the widest cell of a column
--     cell_text left width cell      a cell with blanks behind it, or before it, up to a width
--     grid_text left lines      the whole table, whose first columns stand left and whose others stand right
--     lines_of lines      the cells of lines, without where they lie in memory
use Rattle.std.specs.Prelude.{◌++◌, ◌+◌, ◌-◌, ◌∷◌, [], ℕ, List, Bool, chars, codes, flat_map, length, map, max, nat_lt, replicate, slice_index_or, string_bytes, String, if◌then◌else◌}
use Rattle.std.specs.Global.{Global, Vec}
use Rattle.std.specs.List.{join_by}

abbrev pub letters : List ℕ → ℕ
letters text = length (chars text)

abbrev pub greatest : List ℕ → ℕ
greatest [] = 0
greatest (n ∷ ns) = max n (greatest ns)

-- a line that has no such cell counts as one with an empty cell
abbrev pub width : List (List (List ℕ)) → ℕ → ℕ
width lines column = greatest (map (λ line. letters (slice_index_or line column [])) lines)

abbrev pub blanks : ℕ → List ℕ
blanks count = replicate count 32

abbrev pub cell_text : Bool → ℕ → List ℕ → List ℕ
cell_text left width cell =
    let rest = blanks (width - letters cell) in
    if left then cell ++ rest else rest ++ cell

-- the cells of a line from a column on, each as wide as its column; the columns before `left` stand left
abbrev pub cells_from : ℕ → (ℕ → ℕ) → ℕ → List (List ℕ) → List (List ℕ)
cells_from left widths column [] = []
cells_from left widths column (cell ∷ cells) = cell_text (nat_lt column left) (widths column) cell ∷ cells_from left widths (column + 1) cells

abbrev pub line_text : ℕ → (ℕ → ℕ) → List (List ℕ) → List ℕ
line_text left widths line = join_by (λ cell. cell) (codes "  ") (cells_from left widths 0 line) ++ codes "\n"

abbrev pub grid_text : ℕ → List (List (List ℕ)) → List ℕ
grid_text left lines = flat_map (line_text left (width lines)) lines

abbrev pub lines_of : List (Vec (String Global)) → List (List (List ℕ))
lines_of lines = map (λ line. map string_bytes line.items) lines
