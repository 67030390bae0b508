use Rattle.std.proofs.Common.{◌≡◌, ◌++◌, drop, string_bytes}
use Rattle.std.specs.Prelude.{flat_map}
use Rattle.tw_inspect.specs.Reports.{outgoing_line}
use Rattle.tw_inspect.proofs.items.add_outgoing.Given as goal

-- what is written and what is still to come are the lines
abbrev pub invariant-loop-item : goal.invariant-loop-item
invariant-loop-item g l =
    string_bytes l.text ++ flat_map (outgoing_line l.network.names) (drop l.item-index l.items) ≡ string_bytes l.fn.text ++ flat_map (outgoing_line l.network.names) l.items
