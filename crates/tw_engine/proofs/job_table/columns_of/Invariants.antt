use Rattle.std.proofs.Common.{◌≡◌, ◌++◌, drop, map}
use Rattle.tw_engine.specs.Views.{column}
use Rattle.tw_machine_file.specs.Shared.{file_field}
use Rattle.tw_record_lines.specs.Fields.{field}
use Rattle.tw_engine.proofs.job_table.columns_of.Given as goal

-- what has come and what is to come
abbrev pub invariant-loop-one : goal.invariant-loop-one
invariant-loop-one l = map field l.columns.items ++ map column (map file_field (drop l.one-index l.fields)) ≡ map column (map file_field l.fields)
