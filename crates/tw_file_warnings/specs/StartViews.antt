-- Where the random numbers of a component start, without where it lies in memory.
use Rattle.std.specs.Prelude.{string_bytes}
use Rattle.tw_file_warnings.specs.Starts.{Start}
use Rattle.tw_file_warnings.specs.declared.starts.Start as rust

abbrev pub start : rust.Start → Start
start s = (string_bytes s.place, s.random)
