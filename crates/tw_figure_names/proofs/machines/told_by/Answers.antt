-- The entries are those of the machine, whatever a component gives.
use Rattle.std.proofs.Common.{◌≡◌, ◌∙◌, ap, map}
use Rattle.std.proofs.lemmas.Result.{IfOk-weaker}
use Rattle.serde_json.specs.View.{items_view}
use Rattle.tw_machine_declaration.specs.Names.{standings_of}
use Rattle.tw_machine_declaration.specs.Seen.{name, value}
use Rattle.tw_machine_file.specs.Seen.{machine}
use Rattle.tw_figure_names.specs.Entries.{entries_of, figures_of, observations_of}
use Rattle.tw_figure_names.specs.EntryViews.{entry}
use Rattle.tw_figure_names.specs.Said.{entries_said}
use Rattle.tw_figure_names.proofs.machines.told_by.Goals as goal
use Rattle.tw_figure_names.proofs.machines.told_by.Goals.{After-told_of}

said : (c : After-told_of) → map entry c.deref-4.result.now ≡ entries_said (machine c.args.said.now) (items_view c.args.words.now)
said c =
    let standings = c.deref-2.ensures.value ∙ c.in_ok-standings.ensures
    ∙ (λ i. standings_of (record { numbers = c.new.ensures.items i; lists = map (λ l. l.items) (c.new-2.ensures.items i) }) (map name (c.deref.ensures.value i))) in
    ap (map entry) c.deref-4.ensures.value ∙ c.in_ok-entries.ensures ∙ (λ i. entries_of (standings i) (map value (c.deref-3.ensures.value i)) (items_view c.args.words.now))

pub returns-clause-figures : goal.returns-clause-figures
returns-clause-figures c =
    IfOk-weaker c.told_of.result (λ told. _) (λ told. _) (λ told is. is ∙ ap figures_of (said (goal.at.returns-clause-figures c).After-told_of)) c.told_of.ensures.figures

pub returns-clause-observations : goal.returns-clause-observations
returns-clause-observations c =
    IfOk-weaker c.told_of.result (λ told. _) (λ told. _) (λ told is. is ∙ ap observations_of (said (goal.at.returns-clause-observations c).After-told_of)) c.told_of.ensures.observations
