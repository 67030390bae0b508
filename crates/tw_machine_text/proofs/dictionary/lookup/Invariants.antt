use Rattle.std.proofs.Common.{◌≡◌, drop, map}
use Rattle.tw_machine_text.specs.Text.{lookup}
use Rattle.tw_machine_text.proofs.dictionary.lookup.Given as goal

abbrev pub invariant-loop-entry : goal.invariant-loop-entry
invariant-loop-entry l = lookup (map (λ e. (e.0.now, e.1)) (drop l.entry-index l.table)) l.text ≡ lookup (map (λ e. (e.0.now, e.1)) l.table) l.text
