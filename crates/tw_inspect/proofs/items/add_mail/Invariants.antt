use Rattle.std.proofs.Common.{◌≡◌, ◌++◌, drop, string_bytes}
use Rattle.std.specs.Prelude.{flat_map}
use Rattle.tw_inspect.specs.Reports.{mail_line}
use Rattle.tw_inspect.proofs.items.add_mail.Given as goal

-- what is written and what is still to come are the lines
abbrev pub invariant-loop-item : goal.invariant-loop-item
invariant-loop-item l =
    string_bytes l.text ++ flat_map mail_line (drop l.item-index l.items) ≡ string_bytes l.fn.text ++ flat_map mail_line l.items
