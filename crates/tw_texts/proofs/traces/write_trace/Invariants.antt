use Rattle.std.proofs.Common.{take}
use Rattle.tw_texts.specs.Texts.{trace_text}
use Rattle.tw_texts.specs.Traces.{MovesBytes}
use Rattle.tw_texts.proofs.traces.write_trace.Given as goal

-- the writer has what is no longer among the lines gathered of the records so far
abbrev pub invariant-loop-record : goal.invariant-loop-record
invariant-loop-record g l =
    MovesBytes (g.W.Write.contents l.fn.out) (g.W.Write.contents l.out)
    (trace_text (g.N.Names.name_of l.names) (take l.record-index l.records)) l.lines.text
