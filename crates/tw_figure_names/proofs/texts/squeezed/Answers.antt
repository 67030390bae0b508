-- A letter more, or a blank.
use Rattle.std.proofs.Common.{◌≡◌, ◌∙◌, ◌++◌, [], ℕ, false, List, ap, string_bytes, sym}
use Rattle.std.specs.List.{slice_split}
use Rattle.std.specs.Str.Iter.{chars_rest}
use Rattle.tw_figure_names.specs.Texts.{is_blank, squeezed}
use Rattle.tw_figure_names.proofs.Squeezing.{after_blank, after_letter, rest}
use Rattle.tw_figure_names.proofs.texts.squeezed.Goals as goal

at_start : (out bytes text : List ℕ) → out ≡ [] → bytes ≡ text → out ++ rest out false (slice_split is_blank bytes) ≡ squeezed text
unfolding squeezed
at_start out bytes text none same = λ i. none i ++ rest (none i) false (slice_split is_blank (same i))

pub loop-letter-init : goal.loop-letter-init
loop-letter-init c =
    at_start (string_bytes c.new-squeezed.result) (chars_rest c.into_iter-letter-iterator.result) c.args.text.now c.new-squeezed.ensures.bytes
    (ap chars_rest c.into_iter-letter-iterator.ensures.into_iter_gives ∙ c.chars-letter-items.ensures.rest)

pub loop-letter-preserved-then-is_blank : goal.loop-letter-preserved-then-is_blank
loop-letter-preserved-then-is_blank c =
    sym (after_blank (string_bytes c.loop-letter.squeezed) (chars_rest c.loop-letter.letter-iterator) (chars_rest c.next.new.self) c.loop-letter.is_parted c.in-Some.letter
    (sym c.is_blank.ensures ∙ c.if-is_blank.true) c.in-Some.ensures.steps.0)
    ∙ c.loop-letter.invariant

pub loop-letter-preserved : goal.loop-letter-preserved
loop-letter-preserved c =
    sym (after_letter (string_bytes c.loop-letter.squeezed) (chars_rest c.loop-letter.letter-iterator) (chars_rest c.next.new.self) (string_bytes c.add_letter.new.text) c.loop-letter.is_parted c.in-Some.letter
    (sym c.is_blank.ensures ∙ c.if-is_blank.false) c.in-Some.ensures.steps.0 c.in_ok-add_letter.ensures)
    ∙ c.loop-letter.invariant
