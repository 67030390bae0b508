-- The numbers of one entry more.
use Rattle.std.proofs.Common.{◌∙◌, ◌+◌, ◌++◌, ap, length, map, sym, take}
use Rattle.tw_figures.specs.Labelled.{observation}
use Rattle.tw_figure_names.specs.Entries.{numbers_of, observed_at, observed_from}
use Rattle.tw_figure_names.specs.EntryViews.{entry, number}
use Rattle.tw_figure_names.proofs.Placing.{more_numbers, numbers_in, one_entry_more, one_observed_more, then_more}
use Rattle.tw_figure_names.proofs.figures.add_all.Goals as goal

pub loop-said-preserved : goal.loop-said-preserved
loop-said-preserved c =
    let es = c.args.entries.now in
    let i = c.loop-said.said-index in
    let e = c.said-item.result in
    let old = c.args.numbers.now in
    let between = c.loop-said.numbers in
    let new = c.add_entry.new.numbers in
    let k = length old.names.items in
    let so_far = c.loop-said.invariant in
    record {
      names =
          then_more (map number old.names.items) (map number between.names.items) (map number new.names.items) (numbers_in (take i es)) (numbers_of (entry e)) so_far.names c.in_ok-add_entry.ensures.names
          ∙ ap (λ names. map number old.names.items ++ names) (sym (one_entry_more es i e c.loop-said-test.true c.said-item.is));
      observations =
          then_more (map observation old.observations.items) (map observation between.observations.items) (map observation new.observations.items)
          (observed_from k (map entry (take i es))) (observed_at (k + length (numbers_in (take i es))) (entry e)) so_far.observations
          (c.in_ok-add_entry.ensures.observations
          ∙ ap (λ n. map observation between.observations.items ++ observed_at n (entry e)) (more_numbers old.names.items between.names.items (numbers_in (take i es)) so_far.names))
          ∙ ap (λ os. map observation old.observations.items ++ os) (sym (one_observed_more k es i e c.loop-said-test.true c.said-item.is));
    }
