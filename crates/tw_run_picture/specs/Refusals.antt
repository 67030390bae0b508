-- The refusals of a picture in the table of all refusals.
use Rattle.tw_run_picture.specs.declared.refused.DrawRefused.{DrawRefused}
use Rattle.tw_run_picture.specs.declared.refused.DrawRefused.TheVariants.{OutOfMemory, BadTick, NoSuch, WriteFailed}
use Rattle.tw_vtime.specs.declared.refusal.Refusal.{Refusal}
use Rattle.tw_vtime.specs.declared.refusal.Refusal.TheVariants as refusals

-- what want of memory is refused by
abbrev pub out_of_memory : DrawRefused
out_of_memory = OutOfMemory

abbrev pub draw_refusal : DrawRefused → Refusal
draw_refusal OutOfMemory = refusals.OutOfMemory
draw_refusal BadTick = refusals.BadTick
draw_refusal NoSuch = refusals.NoSuch
draw_refusal WriteFailed = refusals.WriteFailed
