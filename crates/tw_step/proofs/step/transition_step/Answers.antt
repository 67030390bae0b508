use Rattle.std.proofs.Common.{◌≡◌, ◌<◌, ◌-◌, ◌==◌, Ok, ap, sym, subst, ◌∙◌, arith}
use Rattle.tw_atomic.specs.Atomic.{turned}
use Rattle.tw_step.specs.Steps.{moved_to}
use Rattle.tw_step.specs.Turns.{IsRefusedBy}
use Rattle.tw_theory.specs.Transitions.{Moment, kind_of, turn}
use Rattle.tw_vtime.specs.Advance.{advanced}
use Rattle.tw_vtime.specs.Stamps.{never, tick_of}
use Rattle.tw_step.proofs.Moves.{stopped, transition_is}
use Rattle.tw_step.proofs.step.transition_step.Given.{Over}
use Rattle.tw_step.proofs.step.transition_step.Goals.{After-forward}
use Rattle.tw_step.proofs.step.transition_step.Goals as goal

-- the state of the definition, from the parts that the code has of the turn
state_is : (g : Over) (c : After-forward g) → turned (g.M.Atomic.meaning c.args.model.now) c.due_turn-turn.result.turn c.now.inside.state c.due_turn-turn.result.elapsed c.as_slice-2.result.now
    ≡ moved_to (g.M.Atomic.meaning c.args.model.now) c.args.now.now c.args.stamp c.args.bag
state_is g c =
    let made = c.due_turn-turn.ensures in
    let now = c.now.view_is in
    let bag = c.as_slice.ensures in
    λ i. turned (g.M.Atomic.meaning c.args.model.now) ((made.turn ∙ ap (turn (c.args.now.now.due == c.args.stamp)) bag) i) (now i).state (made.elapsed i) (c.as_slice-2.ensures i)

pub returns-in-Err-clause-stopped : goal.returns-in-Err-clause-stopped
returns-in-Err-clause-stopped g c =
    let model = g.M.Atomic.meaning c.args.model.now in
    let at = (goal.at.returns-in-Err-clause-stopped g c).After-forward in
    stopped model c.args.home c.args.now.now c.args.stamp c.args.bag c.in-Err.refused
    (subst (λ s. IsRefusedBy (advanced c.args.stamp (model.ta s) c.args.home.micro_limit) c.in-Err.refused) (c.in_ok-residue.ensures.state ∙ state_is g at) c.in-Err.ensures.refused)

pub returns-clause-step : goal.returns-clause-step
returns-clause-step g c =
    let model = g.M.Atomic.meaning c.args.model.now in
    let at = (goal.at.returns-clause-step g c).After-forward in
    let s = c.args.stamp in
    let now = c.args.now.now in
    let state = c.in_ok-residue.ensures.state ∙ state_is g at in
    let due = c.in-Ok.ensures.due in
    let last : c.output-now-inside.result ≡ s - 1 = omega (arith, c.output-now-inside.ensures, c.requires.is_transition) in
    let kind : c.due_turn-turn.result.kind ≡ kind_of (turn (now.due == s) c.args.bag) = c.due_turn-turn.ensures.kind ∙ ap (λ b. kind_of (turn (now.due == s) b)) c.as_slice.ensures in
    record {
      before_is = (λ i. record { state = c.of-before.ensures i; last = c.now.inside.last; due = c.now.inside.due }) ∙ c.now.view_is;
      passed = record { state_is = state; last_is = last; due_is = due };
      makes = λ net home.
          transition_is net model c.args.home home now s c.args.bag due.0 (ap (λ x. advanced s (model.ta x) c.args.home.micro_limit) (sym state) ∙ due.1)
          ∙ (λ i. Ok (record {
            entry = record { component = c.args.home.component; stamp = s; kind = sym kind i; bag = c.args.bag; words = (ap model.words (sym state) ∙ sym c.in-Ok.ensures.words) i };
            after = record { state = sym state i; last = sym last i; due = sym due.2 i };
          }));
    }

pub returns-clause-valid : goal.returns-clause-valid
returns-clause-valid g c =
    let model = c.args.model.now in
    let s = c.args.stamp in
    let now = c.args.now.now in
    let at = (goal.at.returns-clause-valid g c).After-forward in
    subst (g.M.Atomic.valid model) (sym (c.in_ok-residue.ensures.state ∙ state_is g at))
    (g.met.M.Atomic.stays_valid model (turn (now.due == s) c.args.bag) now.state (tick_of s - tick_of now.last) c.args.bag c.requires.can_move)

pub returns-clause-linked : goal.returns-clause-linked
returns-clause-linked g c =
    let model = c.args.model.now in
    let s = c.args.stamp in
    let now = c.args.now.now in
    let bag = c.args.bag in
    let at = (goal.at.returns-clause-linked g c).After-forward in
    let made = c.due_turn-turn.ensures in
    let view = c.now.view_is in
    let turn_is = made.turn ∙ ap (turn (now.due == s)) c.as_slice.ensures in
    let state = c.in_ok-residue.ensures.state ∙ state_is g at in
    let residue = c.in_ok-residue.ensures.residue ∙ (λ i. g.M.Atomic.residue_of model (turn_is i) (view i).state (made.elapsed i) (c.as_slice-2.ensures i)) in
    record {
      is_due = c.requires.is_due;
      last_is = subst (λ n. n < never) (sym (ap (λ (m : Moment g.row.M-State.Denot). m.last) view)) c.requires.last;
      back = (λ i. g.M.Atomic.undone model (turn_is i) (state i) (tick_of s - tick_of (view i).last) bag (residue i))
          ∙ g.met.M.Atomic.reverses model (turn (now.due == s) bag) now.state (tick_of s - tick_of now.last) bag c.requires.can_move
          ∙ sym (c.of-before.ensures ∙ ap (λ (m : Moment g.row.M-State.Denot). m.state) view);
    }
