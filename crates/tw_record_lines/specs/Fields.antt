-- The fields of an item's value, for which a table of items has columns.
--     Field      its name, how many bits of the value lie below it, and how many it has
--     field c      that of a column, without where its name lies in memory
--     field_of low bits value      the number that so many bits of a value make, from the bit `low` on
--     field_heads fields, field_cells fields value      the names, and the numbers, each behind a comma
use Rattle.std.specs.Prelude.{◌++◌, ◌^◌, ℕ, ℤ, pos, List, codes, flat_map, min, unsigned_abs}
use Rattle.std.specs.Fmt.{decimal}
use Rattle.std.specs.Int.{int_div_euclid, int_rem_euclid}
use Rattle.tw_record_lines.specs.declared.fields.Column.{Column}

pub record Field : Type 0 where
  pub name : List ℕ
  pub low : ℕ
  pub bits : ℕ

abbrev pub field : Column → Field
field c = record { name = c.name.now; low = c.low; bits = c.bits }

-- 2 to this power; more than 62, which no field needs, counts as 62
abbrev pub power : ℕ → ℤ
power n = pos (2 ^ min n 62)

-- the value over 2^low, rounded down, modulo 2^bits: never negative; of a negative value what its bits in two's complement say
abbrev pub field_of : ℕ → ℕ → ℤ → ℕ
field_of low bits value = unsigned_abs (int_rem_euclid (int_div_euclid value (power low)) (power bits))

abbrev pub field_heads : List Field → List ℕ
field_heads fields = flat_map (λ f. codes "," ++ f.name) fields

abbrev pub field_cells : List Field → ℤ → List ℕ
field_cells fields value = flat_map (λ f. codes "," ++ decimal (field_of f.low f.bits value)) fields
