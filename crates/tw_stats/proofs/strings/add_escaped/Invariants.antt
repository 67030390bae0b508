use Rattle.std.proofs.Common.{◌≡◌, ◌++◌, flat_map, string_bytes}
use Rattle.tw_stats.specs.Strings.{escaped_letter}
use Rattle.tw_stats.proofs.strings.add_escaped.Given as goal

abbrev pub invariant-loop-letter : goal.invariant-loop-letter
invariant-loop-letter l = string_bytes l.text ≡ string_bytes l.fn.text ++ flat_map escaped_letter l.yielded
