use Rattle.std.proofs.Common.{◌≡◌, drop}
use Rattle.tw_machine_text.specs.Kinds.{meaning_named}
use Rattle.tw_machine_text.specs.TextViews.{declarations}
use Rattle.tw_machine_text.proofs.kinds.meaning_named.Given as goal

abbrev pub invariant-loop-one : goal.invariant-loop-one
invariant-loop-one l = meaning_named (declarations (drop l.one-index l.declared)) l.name ≡ meaning_named (declarations l.declared) l.name
