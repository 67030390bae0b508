-- Texts that are the same, and the names that have numbers: the functions', and those that a machine declares.
use Rattle.std.specs.Prelude.{ℕ, ◌+◌, Bool, true, false, ◌&&◌, List, [], ◌∷◌, ◌==◌, codes}

abbrev pub same_text : List ℕ → List ℕ → Bool
same_text [] [] = true
same_text (x ∷ xs) (y ∷ ys) = x == y && same_text xs ys
same_text _ _ = false

-- the functions are the names 0 to 14, and `item`. `in` is a word behind a timer alone. A machine may give these names to what it declares
abbrev pub functions : List (List ℕ)
functions =
    codes "min" ∷ codes "max" ∷ codes "choose" ∷ codes "length" ∷ codes "room" ∷ codes "front" ∷ codes "last" ∷ codes "sum" ∷ codes "at" ∷ codes "place"
    ∷ codes "sample" ∷ codes "roll" ∷ codes "running" ∷ codes "rest" ∷ codes "idle" ∷ codes "in" ∷ codes "item" ∷ []

abbrev pub in_number : ℕ
in_number = 15

abbrev pub item_number : ℕ
item_number = 16

-- behind them come the names that a machine declares: how many functions there are, and the number of such a name by its place
abbrev pub own_names : ℕ
own_names = 17

abbrev pub own : ℕ → ℕ
own k = own_names + k
