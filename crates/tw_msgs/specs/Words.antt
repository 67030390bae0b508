-- Lists of words.
--     same_words xs ys      the same words in the same order
--     listed numbers      what the words are, in place or on the heap
use Rattle.std.specs.Prelude.{ℤ, List, Bool}
use Rattle.std.specs.Cmp.Lexicographic.{pointwise}
use Rattle.std.specs.Ordering.{int_eq}
use Rattle.tw_msgs.specs.declared.words.Numbers.{Numbers}
use Rattle.tw_msgs.specs.declared.words.Numbers.TheVariants.{Few, Many}

abbrev pub same_words : List ℤ → List ℤ → Bool
same_words = pointwise int_eq

-- the numbers, in place or on the heap
abbrev pub listed : Numbers → List ℤ
listed (Few few) = few.items
listed (Many many) = many.items
