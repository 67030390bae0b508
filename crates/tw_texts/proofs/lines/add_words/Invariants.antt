use Rattle.std.proofs.Common.{◌≡◌, ◌++◌, drop, codes, string_bytes}
use Rattle.std.specs.Prelude.{flat_map}
use Rattle.std.specs.Fmt.{signed_decimal}
use Rattle.tw_texts.specs.Texts.{words_text}
use Rattle.tw_texts.proofs.lines.add_words.Given as goal

-- what is written and what is still to come are the words
abbrev pub invariant-loop-word : goal.invariant-loop-word
invariant-loop-word l =
    string_bytes l.text ++ flat_map (λ w. codes " " ++ signed_decimal w) (drop l.word-index l.rest) ≡ string_bytes l.fn.text ++ words_text l.words
