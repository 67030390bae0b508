use Rattle.std.proofs.Common.{◌∙◌, ℕ, List, ap, sym, min, pos}
use Rattle.std.specs.Prelude.{sum_by}
use Rattle.tw_machine_declaration.specs.Seen as plain
use Rattle.tw_machine_declaration.specs.Names.{least_ticks, timer_count}
use Rattle.tw_machine_declaration.specs.declared.declaration.Timer.{Timer}
use Rattle.tw_machine_declaration.proofs.Ticks.{ticks_together}
use Rattle.tw_machine_declaration.proofs.names.cell_count.Goals as goal

pub returns-in-Due-clause-value : goal.returns-in-Due-clause-value
returns-in-Due-clause-value c =
    let given = plain.given c.args.given.now in
    rw c.in-Due.is
    (c.all_timers.ensures.value
    ∙ ap (λ (ts : List Timer). min (sum_by (timer_count given) ts) 257) c.as_slice.ensures.value
    ∙ ap (λ (n : ℕ). min n 257) (sym (ticks_together given (pos (least_ticks given c.in-Due.timers.least)) c.in-Due.timers.each.items)))
