use Rattle.std.proofs.Common.{◌≡◌, ◌-◌, Ok, ap, sym, ◌∙◌, arith}
use Rattle.tw_atomic.specs.Atomic.{turned}
use Rattle.tw_step.specs.Steps.{moved_to}
use Rattle.tw_vtime.specs.Advance.{advanced}
use Rattle.tw_step.proofs.Moves.{transition_is, transition_stops}
use Rattle.tw_step.proofs.turns.pass_turn.Given.{Over}
use Rattle.tw_step.proofs.turns.pass_turn.Goals.{After-transition}
use Rattle.tw_step.proofs.turns.pass_turn.Goals as goal

-- the state of the definition, from the parts that the code has of the turn
state_is : (g : Over) (c : After-transition g) → turned (g.M.Atomic.meaning c.args.model.now) c.due_turn-turn.result.turn c.now.inside.state c.due_turn-turn.result.elapsed c.args.bag.now
    ≡ moved_to (g.M.Atomic.meaning c.args.model.now) c.args.now.now c.args.stamp c.args.bag.now
state_is g c = λ i. turned (g.M.Atomic.meaning c.args.model.now) (c.due_turn-turn.ensures.turn i) (c.now.view_is i).state (c.due_turn-turn.ensures.elapsed i) c.args.bag.now

pub returns-in-Err-clause-passed : goal.returns-in-Err-clause-passed
returns-in-Err-clause-passed g c = λ net k home.
    let model = g.M.Atomic.meaning c.args.model.now in
    let at = (goal.at.returns-in-Err-clause-passed g c).After-transition in
    let s = c.args.stamp in
    let state = c.in_ok-transition.ensures.state ∙ state_is g at in
    transition_stops net model (record { component = k; micro_limit = c.args.micro_limit }) home c.args.now.now s c.args.bag.now c.in-Err.limit
    (ap (λ x. advanced s (model.ta x) c.args.micro_limit) (sym state) ∙ c.in-Err.ensures.met)

pub returns-in-Ok-clause-passed : goal.returns-in-Ok-clause-passed
returns-in-Ok-clause-passed g c =
    let model = g.M.Atomic.meaning c.args.model.now in
    let at = (goal.at.returns-in-Ok-clause-passed g c).After-transition in
    let s = c.args.stamp in
    let now = c.args.now.now in
    let bag = c.args.bag.now in
    let state = c.in_ok-transition.ensures.state ∙ state_is g at in
    let due = c.in-Ok.ensures.due in
    let last : c.output-now-inside.result ≡ s - 1 = omega (arith, c.output-now-inside.ensures, c.requires.is_transition) in (
      record { state_is = state; last_is = last; due_is = due },
      λ net k home.
          transition_is net model (record { component = k; micro_limit = c.args.micro_limit }) home now s bag due.0 (ap (λ x. advanced s (model.ta x) c.args.micro_limit) (sym state) ∙ due.1)
          ∙ (λ i. Ok (record {
            entry = record { component = k; stamp = s; kind = sym c.due_turn-turn.ensures.kind i; bag = bag; words = model.words (sym state i) };
            after = record { state = sym state i; last = sym last i; due = sym due.2 i };
          })),
    )
