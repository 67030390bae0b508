use Rattle.std.proofs.Common.{◌≡◌, ◌++◌, string_bytes}
use Rattle.std.specs.List.{slice_split}
use Rattle.std.specs.Str.Iter.{chars_rest}
use Rattle.tw_figure_names.specs.Texts.{is_blank, squeezed}
use Rattle.tw_figure_names.proofs.Squeezing.{rest}
use Rattle.tw_figure_names.proofs.texts.squeezed.Given as goal

-- what was written, and what is to come
abbrev pub invariant-loop-letter : goal.invariant-loop-letter
invariant-loop-letter l = string_bytes l.squeezed ++ rest (string_bytes l.squeezed) l.is_parted (slice_split is_blank (chars_rest l.letter-iterator)) ≡ squeezed l.text
