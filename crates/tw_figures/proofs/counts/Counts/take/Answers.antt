use Rattle.std.proofs.Common.{◌∙◌, ◌+◌, ap}
use Rattle.tw_figures.proofs.Counted.{counted_more, adds_output, adds_internal, adds_external, adds_confluent}
use Rattle.tw_figures.proofs.counts.Counts.take.Goals as goal

pub returns-in_ok-self-in-Out-2 : goal.returns-in_ok-self-in-Out-2
returns-in_ok-self-in-Out-2 c records is =
    counted_more records c.args.step.now c.args.self.now _ is
    (adds_output c.args.self.now c.args.step.now _ _ c.in-Out.is c.in_ok-self-in-Out.ensures
    (c.in_ok-self-in-Out-2.ensures ∙ ap (λ n. c.args.self.now.sent + n) c.len-items.ensures))

pub returns-in_ok-self-in-Int : goal.returns-in_ok-self-in-Int
returns-in_ok-self-in-Int c records is =
    counted_more records c.args.step.now c.args.self.now _ is
    (adds_internal c.args.self.now c.args.step.now _ c.in-Int.is c.in_ok-self-in-Int.ensures)

pub returns-in_ok-self-in-Ext-2 : goal.returns-in_ok-self-in-Ext-2
returns-in_ok-self-in-Ext-2 c records is =
    counted_more records c.args.step.now c.args.self.now _ is
    (adds_external c.args.self.now c.args.step.now _ _ c.in-Ext.is c.in_ok-self-in-Ext.ensures
    (c.in_ok-self-in-Ext-2.ensures ∙ ap (λ n. c.args.self.now.received + n) c.len-items.ensures))

pub returns-in_ok-self-in-Con-2 : goal.returns-in_ok-self-in-Con-2
returns-in_ok-self-in-Con-2 c records is =
    counted_more records c.args.step.now c.args.self.now _ is
    (adds_confluent c.args.self.now c.args.step.now _ _ c.in-Con.is c.in_ok-self-in-Con.ensures
    (c.in_ok-self-in-Con-2.ensures ∙ ap (λ n. c.args.self.now.received + n) c.len-items.ensures))
