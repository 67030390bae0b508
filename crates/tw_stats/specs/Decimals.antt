-- Numbers with three decimals.
--     thousandths_text n      so many thousandths, as -0.500 or 12.000
use Rattle.std.specs.Prelude.{ℕ, ℤ, pos, negsuc, ◌++◌, ◌/◌, ◌%◌, List, codes, suc}
use Rattle.std.specs.Fmt.{decimal}

-- a whole part, and three digits
abbrev pub parts_text : ℕ → List ℕ
parts_text n = decimal (n / 1000) ++ codes "." ++ decimal (n % 1000 / 100) ++ decimal (n % 100 / 10) ++ decimal (n % 10)

abbrev pub thousandths_text : ℤ → List ℕ
thousandths_text (pos n) = parts_text n
thousandths_text (negsuc n) = codes "-" ++ parts_text (suc n)
