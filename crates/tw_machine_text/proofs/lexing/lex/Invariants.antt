use Rattle.std.proofs.Common.{◌≡◌, drop, []}
use Rattle.tw_machine_text.specs.Text.{scan, Between}
use Rattle.tw_machine_text.specs.TextViews.{viewed, names_of}
use Rattle.tw_machine_text.proofs.lexing.lex.Given as goal

abbrev pub invariant-bytes : goal.invariant-bytes
invariant-bytes l =
    let names = names_of l.declared in
    scan names (drop l.index l.text) (l.words.items, viewed l.mode) ≡ scan names l.text ([], Between)
