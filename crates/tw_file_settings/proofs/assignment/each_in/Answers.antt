use Rattle.std.proofs.Common.{arith, rules}
use Rattle.tw_file_settings.proofs.Reading.{none_read, read_next}
use Rattle.tw_file_settings.proofs.assignment.each_in.Goals as goal

pub returns-in_default-clause-none : goal.returns-in_default-clause-none
returns-in_default-clause-none c = none_read c.args.texts.now c.loop-text.text-index _ (search rules) c.in_default.ensures.none

pub loop-text-preserved : goal.loop-text-preserved
loop-text-preserved c =
    rw c.in_ok-push.ensures.items (read_next c.args.texts.now c.loop-text.assignments.items c.in-Some.assignment c.loop-text.text-index _ _ (omega arith) (search rules) c.loop-text.invariant c.in-Some.ensures.some)
