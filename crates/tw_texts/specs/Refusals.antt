-- The refusals of a trace that was not written.
use Rattle.tw_vtime.specs.declared.refusal.Refusal.{Refusal}
use Rattle.tw_vtime.specs.declared.refusal.Refusal.TheVariants as refusal
use Rattle.tw_texts.specs.declared.traces.NotWritten.{NotWritten}
use Rattle.tw_texts.specs.declared.traces.NotWritten.TheVariants.{OutOfMemory, WriteFailed}

abbrev pub not_written_refusal : NotWritten → Refusal
not_written_refusal OutOfMemory = refusal.OutOfMemory
not_written_refusal WriteFailed = refusal.WriteFailed
