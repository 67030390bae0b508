-- Widths of columns, line by line.
use Rattle.std.proofs.Common.{◌≡◌, ◌++◌, ◌+◌, ◌<◌, ◌≤◌, ◌∷◌, ◌∙◌, [], ℕ, suc, List, get_or, take, drop, length, map, max, nat_lt, string_bytes, sym, ap, arith, add-one, if◌then◌else◌}
use Rattle.std.specs.Global.{Global, Vec}
use Rattle.std.specs.Prelude.{◌==◌, String}
use Rattle.std.proofs.Math.Seq.{drop-cons}
use Rattle.std.proofs.lemmas.List.{get_or-map, length-map}
use Rattle.std.proofs.lemmas.Bool.Decides.{nat_tests}
use Rattle.std.proofs.lemmas.List.{map-append, take_more}
use Rattle.tw_stats.specs.Grids.{greatest, letters, lines_of, width}

pub greatest_more : (ns : List ℕ) (n : ℕ) → greatest (ns ++ n ∷ []) ≡ max (greatest ns) n
greatest_more [] n = omega arith
greatest_more (m ∷ ns) n = let e = greatest_more ns n in omega (arith, e)

pub width_more : (lines : List (List (List ℕ))) (line : List (List ℕ)) (column : ℕ) → width (lines ++ line ∷ []) column ≡ max (width lines column) (letters (get_or line column []))
width_more lines line column =
    let size = λ (l : List (List ℕ)). letters (get_or l column []) in
    ap greatest (map-append size lines (line ∷ [])) ∙ greatest_more (map size lines) (size line)

pub lines_more : (lines : List (Vec (String Global))) (i : ℕ) (line : Vec (String Global)) → i < length lines → line ≡ get_or lines i line
    → lines_of (take (i + 1) lines) ≡ lines_of (take i lines) ++ map string_bytes line.items ∷ []
lines_more lines i line within here =
    let cells = λ (l : Vec (String Global)). map string_bytes l.items in
    ap lines_of (take_more lines i line within) ∙ map-append cells (take i lines) (get_or lines i line ∷ []) ∙ ap (λ l. map cells (take i lines) ++ cells l ∷ []) (sym here)

-- ---- the cells of a line

-- a column at least as wide as one cell more
pub one_wider : (old now new cell width k column : ℕ) → now ≡ (if nat_lt k column then max old cell else old) → new ≡ (if k == column then max now width else now)
    → (k ≡ column → width ≡ cell) → new ≡ (if nat_lt k (column + 1) then max old cell else old)
one_wider old now new cell width k column before after same = grind (arith, nat_tests)

-- all cells of a line, and nothing behind its end
pub all_wider : (old now cell k column : ℕ) → now ≡ (if nat_lt k column then max old cell else old) → (column ≤ k → cell ≡ 0) → now ≡ max old cell
all_wider old now cell k column before none = grind (arith, nat_tests)

-- the cells from a place on
pub cells_at : (line : List (String Global)) (i : ℕ) (cell : String Global) → i < length line → cell ≡ get_or line i cell
    → drop i (map string_bytes line) ≡ string_bytes cell ∷ drop (i + 1) (map string_bytes line)
cells_at line i cell within here =
    let size = length-map line string_bytes in
    let first : get_or (map string_bytes line) i (string_bytes cell) ≡ string_bytes cell = get_or-map string_bytes line i cell (string_bytes cell) within ∙ ap string_bytes (sym here) in
    drop-cons (map string_bytes line) i (string_bytes cell) (omega (arith, size, within))
    ∙ ap (λ l. l ∷ drop (suc i) (map string_bytes line)) first
    ∙ ap (λ n. string_bytes cell ∷ drop n (map string_bytes line)) (sym (add-one i))

-- ---- the lines of a table

pub lines_at : (lines : List (Vec (String Global))) (i : ℕ) (line : Vec (String Global)) → i < length lines → line ≡ get_or lines i line
    → drop i (lines_of lines) ≡ map string_bytes line.items ∷ drop (i + 1) (lines_of lines)
lines_at lines i line within here =
    let cells = λ (l : Vec (String Global)). map string_bytes l.items in
    let size = length-map lines cells in
    let first : get_or (lines_of lines) i (cells line) ≡ cells line = get_or-map cells lines i line (cells line) within ∙ ap cells (sym here) in
    drop-cons (lines_of lines) i (cells line) (omega (arith, size, within))
    ∙ ap (λ l. l ∷ drop (suc i) (lines_of lines)) first
    ∙ ap (λ n. cells line ∷ drop n (lines_of lines)) (sym (add-one i))
