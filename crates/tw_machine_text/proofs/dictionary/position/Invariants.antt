use Rattle.std.proofs.Common.{◌≡◌, ◌+◌, drop}
use Rattle.tw_machine_text.specs.Letters.{own_names}
use Rattle.tw_machine_text.specs.Text.{position}
use Rattle.tw_machine_text.specs.TextViews.{names_of}
use Rattle.tw_machine_text.proofs.dictionary.position.Given as goal

abbrev pub invariant-loop-index : goal.invariant-loop-index
invariant-loop-index l = position (l.index + own_names) (names_of (drop l.index l.declared)) l.text ≡ position own_names (names_of l.declared) l.text
