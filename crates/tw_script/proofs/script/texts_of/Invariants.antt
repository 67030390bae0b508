use Rattle.tw_script.proofs.Reading.{AreTexts, shown}
use Rattle.tw_script.proofs.script.texts_of.Given as goal

abbrev pub invariant-loop-i : goal.invariant-loop-i
invariant-loop-i l = AreTexts (shown l.lines) (shown l.texts.items) l.i
