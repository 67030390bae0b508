-- One machine more.
use Rattle.std.proofs.Common.{◌≡◌, ◌∙◌, ◌+◌, ◌++◌, ◌<◌, ℕ, List, ap, append_assoc, drop, get_or, length, map, sym}
use Rattle.std.proofs.lemmas.List.{at_drop_more}
use Rattle.serde_json.specs.Data.{Data}
use Rattle.serde_json.specs.View.{view}
use Rattle.tw_machine_file.specs.Seen.{machine}
use Rattle.tw_machine_file.specs.declared.machine.FileMachine.{FileMachine}
use Rattle.tw_machine_warnings.specs.Machines.{machines_warnings, used_warnings}
use Rattle.tw_machine_warnings.specs.Warning.{warning}
use Rattle.tw_machine_warnings.proofs.machines.add_machines.Goals as goal

one_more : (file : Data) (ms : List FileMachine) (i : ℕ) (m : FileMachine) → i < length ms → m ≡ get_or ms i m
    → used_warnings file i (machine m) ++ machines_warnings file (i + 1) (map machine (drop (i + 1) ms)) ≡ machines_warnings file i (map machine (drop i ms))
one_more file ms i m lt is =
    ap (λ v. used_warnings file i (machine v) ++ machines_warnings file (i + 1) (map machine (drop (i + 1) ms))) is
    ∙ sym (at_drop_more (λ l. machines_warnings file i (map machine l)) ms i m lt)

pub loop-index-preserved : goal.loop-index-preserved
loop-index-preserved c =
    let file = view c.args.file.now in
    let ms = c.args.machines.now in
    let i = c.loop-index.index in
    let m = c.index-machines-index.result in
    let said = map warning c.loop-index.warnings.items in
    let rest = machines_warnings file (i + 1) (map machine (drop (i + 1) ms)) in
    ap (λ ws. ws ++ rest) c.in_ok-add_used.ensures
    ∙ append_assoc said (used_warnings file i (machine m)) rest
    ∙ ap (λ ws. said ++ ws) (one_more file ms i m c.loop-index-test.true c.index-machines-index.is)
    ∙ c.loop-index.invariant
