use Rattle.std.proofs.Common.{◌≡◌, ◌++◌, string_bytes}
use Rattle.tw_inspect.specs.Reports.{gvt_line, lines_below}
use Rattle.tw_inspect.proofs.reports.report.Given as goal

-- the lines of the components so far
abbrev pub invariant-loop-component : goal.invariant-loop-component
invariant-loop-component g l = string_bytes l.text ≡ gvt_line l.executive.world ++ lines_below g.M.Atomic.meaning l.executive l.component
