use Rattle.std.proofs.Common.{ap, ◌∙◌}
use Rattle.tw_msgs.specs.Bags.{sorted_bag}
use Rattle.tw_msgs.specs.declared.record_kind.RecordKind.TheVariants.{Out}
use Rattle.tw_step.proofs.Moves.{output_is}
use Rattle.tw_step.proofs.step.output_step.Goals as goal

pub returns-clause-step : goal.returns-clause-step
returns-clause-step g c =
    let model = g.M.Atomic.meaning c.args.model.now in
    let view = c.now.view_is in
    let bag = c.in_ok-bag.ensures ∙ ap (λ m. sorted_bag (model.out m.state)) view in
    record {
      before_is = (λ i. record { state = c.of.ensures i; last = c.now.inside.last; due = c.now.inside.due }) ∙ view;
      makes = λ net is. output_is net model c.args.component c.args.now.now c.args.stamp _ is
          (λ i. record { component = c.args.component; stamp = c.args.stamp; kind = Out; bag = bag i; words = c.none.ensures i });
    }
