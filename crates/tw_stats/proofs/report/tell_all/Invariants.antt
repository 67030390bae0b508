use Rattle.std.proofs.Common.{◌-◌, take}
use Rattle.std.specs.List.{AllZip}
use Rattle.tw_stats.specs.Reports.{TellsPart}
use Rattle.tw_stats.proofs.report.tell_all.Given as goal

abbrev pub invariant-loop-member : goal.invariant-loop-member
invariant-loop-member l = AllZip (TellsPart l.from (l.end - l.from)) (take l.member-index l.members) l.parts.items
