use Rattle.std.proofs.Common.{◌≡◌, ◌++◌, drop, string_bytes}
use Rattle.std.specs.Prelude.{flat_map}
use Rattle.tw_inspect.specs.Reports.{waiting_line}
use Rattle.tw_inspect.proofs.items.add_waiting.Given as goal

-- what is written and what is still to come are the lines
abbrev pub invariant-loop-message : goal.invariant-loop-message
invariant-loop-message l =
    string_bytes l.text ++ flat_map waiting_line (drop l.message-index l.messages) ≡ string_bytes l.fn.text ++ flat_map waiting_line l.messages
