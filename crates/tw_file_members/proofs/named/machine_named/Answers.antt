use Rattle.std.proofs.Common.{◌∙◌, map, sym, ap, option_map}
use Rattle.tw_machine_file.specs.Seen.{machine}
use Rattle.tw_file_members.proofs.Indices.{named_lent, none_named}
use Rattle.tw_file_members.proofs.named.machine_named.Goals as goal

pub returns-in_err-index : goal.returns-in_err-index
returns-in_err-index c =
    ap (option_map (λ m. machine m.now)) c.from_residual.ensures
    ∙ none_named c.args.name.now (map machine c.args.machines.now) (sym c.in_err-index.was ∙ c.machine_index.ensures)

pub returns : goal.returns
returns c =
    named_lent machine c.args.machines.now c.args.name.now c.in_ok-index.index c.get.result
    (sym c.in_ok-index.was ∙ c.machine_index.ensures) c.get.ensures.lookup
