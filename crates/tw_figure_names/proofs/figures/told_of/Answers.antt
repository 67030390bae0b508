-- The observations before the first queue.
use Rattle.std.proofs.Common.{◌∙◌, ◌++◌, List, ap, drop, length, map, take}
use Rattle.tw_figures.specs.Labelled.{observation}
use Rattle.tw_figure_names.specs.Entries.{observed_from}
use Rattle.tw_figure_names.specs.EntryViews.{entry}
use Rattle.tw_figure_names.specs.declared.entries.Entry.{Entry}
use Rattle.tw_figure_names.proofs.Placing.{all_observed}
use Rattle.tw_figure_names.proofs.figures.told_of.Goals as goal

pub returns-clause-observations : goal.returns-clause-observations
returns-clause-observations c =
    let es = c.args.entries.now in
    let at = c.queue_at.result in
    let names = c.add_all.new.numbers.names.items in
    let shown = c.add_all.new.numbers.observations.items in
    let all = c.add_all-2.new.numbers.observations.items in
    all_observed es at shown all c.truncate.new.self.items (observed_from (length names) (map entry (drop at es)))
    (c.in_ok-add_all.ensures.observations
    ∙ (λ i. map observation (c.new-2.ensures.items i) ++ observed_from (length (c.new.ensures.items i)) (map entry (c.split_at.ensures.front i))))
    (c.in_ok-add_all-2.ensures.observations ∙ ap (λ (behind : List Entry). map observation shown ++ observed_from (length names) (map entry behind)) c.split_at.ensures.back)
    (c.truncate.ensures.items ∙ ap (λ n. take n all) (c.len-shown.ensures ∙ c.add_all.new.numbers.observations.ok.0))
    c.queue_at.ensures.before
