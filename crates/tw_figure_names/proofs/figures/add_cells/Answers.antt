-- One cell more.
use Rattle.std.proofs.Common.{◌≡◌, ◌∙◌, ◌++◌, ◌∷◌, [], ℕ, List, Some, ap, append_assoc, arith, codes, decimal, map, string_bytes, sym}
use Rattle.std.specs.List.{range_with_len}
use Rattle.std.proofs.lemmas.List.FromFn.{map-range_with_len_more}
use Rattle.tw_figure_names.specs.Entries.{cell_name}
use Rattle.tw_figure_names.specs.EntryViews.{number}
use Rattle.tw_figure_names.proofs.Placing.{then_more}
use Rattle.tw_figure_names.proofs.figures.add_cells.Goals as goal

together : (text digits : List ℕ) → text ++ (codes "[" ++ (digits ++ codes "]")) ≡ ((text ++ codes "[") ++ digits) ++ codes "]"
together text digits = simp append_assoc

pub loop-cell-preserved : goal.loop-cell-preserved
loop-cell-preserved c =
    let text = c.args.text.now in
    let k = c.loop-cell.cell-counter in
    let old = map number c.args.names.now.items in
    let named = λ (i : ℕ). Some (cell_name text i) in
    let written : string_bytes c.in_ok-format.field-0 ≡ cell_name text k = c.in_ok-format.ensures.ok ∙ together text (decimal k) in
    then_more old (map number c.loop-cell.names.items) (map number c.add.new.names.items) (map named (range_with_len 0 k)) (named k ∷ []) c.loop-cell.invariant
    (c.in_ok-add.ensures ∙ ap (λ name. map number c.loop-cell.names.items ++ Some name ∷ []) written)
    ∙ ap (λ names. old ++ names) (sym (map-range_with_len_more named 0 k k (omega arith)))
