use Rattle.std.proofs.Common.{◌∙◌, ap, length, sym}
use Rattle.std.specs.Prelude.{nat_le}
use Rattle.std.proofs.lemmas.Bool.{leb-true}
use Rattle.serde_json.proofs.Views.{items_len-items_view}
use Rattle.tw_machine_declaration.specs.Limits.{max_timer_names}
use Rattle.tw_machine_file.proofs.timers.few_timers.Goals as goal

pub returns-clause-few : goal.returns-clause-few
returns-clause-few c =
    let values = c.in-Some.values.now in
    leb-true (length values) max_timer_names
    (ap (λ n. nat_le n max_timer_names) (sym (items_len-items_view values)) ∙ sym c.are_few.ensures ∙ c.if-not-are_few.false)
