use Rattle.std.proofs.Common.{◌≡◌, ◌∙◌, ◌++◌, ℕ, List, append_assoc, codes, decimal}
use Rattle.tw_record_lines.specs.FigureRows.{begin_text}
use Rattle.tw_record_lines.proofs.figure_lines.first_cells.Goals as goal

together : (digits name : List ℕ) → digits ++ (codes ",0," ++ (name ++ codes ",")) ≡ begin_text (digits ++ codes ",0") name
together digits name = simp append_assoc

pub returns : goal.returns
returns c = c.in_ok-text.ensures.ok ∙ together (decimal c.args.from) c.args.name.now
