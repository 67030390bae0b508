-- The step that the code makes is the definition's, in each network with this component.
use Rattle.std.proofs.Common.{◌≡◌, ℕ, ◌+◌, ◌-◌, ◌==◌, [], Option, Ok, Err, sym, ap, ◌∙◌}
use Rattle.tw_atomic.specs.Atomic.{Bag, Meaning, turned}
use Rattle.tw_msgs.specs.Bags.{sorted_bag}
use Rattle.tw_msgs.specs.declared.record.Record.{Record}
use Rattle.tw_msgs.specs.declared.record_kind.RecordKind.TheVariants.{Out}
use Rattle.tw_step.specs.Steps.{IsAt, IsStopped, moved_to}
use Rattle.tw_step.specs.Turns.{IsRefusedBy}
use Rattle.tw_step.specs.declared.refused.TurnRefused.{TurnRefused}
use Rattle.tw_step.specs.declared.refused.TurnRefused.TheVariants.{OutOfMemory, OverLimit}
use Rattle.tw_step.specs.declared.step.Home.{Home}
use Rattle.tw_theory.specs.Network.{Network, model_of}
use Rattle.tw_theory.specs.Transitions.{Moment, Move, output, transition, moved, if_within, turn, kind_of, due_of}
use Rattle.tw_vtime.specs.Advance.{advanced}
use Rattle.tw_vtime.specs.Stamps.{tick_of}
use Rattle.tw_vtime.specs.declared.limits.Limit.{Limit}

pub output_is : {S : Type 0} (net : Network S) (model : Meaning S) (c : ℕ) (now : Moment S) (s : ℕ) (done : Record) → ((x : S) → model_of net c x ≡ model)
    → done ≡ record { component = c; stamp = s; kind = Out; bag = sorted_bag (model.out now.state); words = [] }
    → output net c now s ≡ record { entry = done; after = record now { due = s + 1 } }
unfolding output
output_is net model c now s done is done_is =
    (λ i. record { entry = record { component = c; stamp = s; kind = Out; bag = sorted_bag ((is now.state i).out now.state); words = [] }; after = record { state = now.state; last = now.last; due = s + 1 } })
    ∙ ap (λ r. record { entry = r; after = record { state = now.state; last = now.last; due = s + 1 } }) (sym done_is)

module _ {S : Type 0} (net : Network S) (model : Meaning S) (home : Home) (at : IsAt net model home) (now : Moment S) (s : ℕ) (bag : Bag) where
  -- the move of a transition, by its state and its next own step
  abbrev move_to : S → ℕ → Move S
  move_to state due = record {
    entry = record { component = home.component; stamp = s; kind = kind_of (turn (now.due == s) bag); bag = bag; words = model.words state };
    after = record { state = state; last = s - 1; due = due };
  }

  transition_within : transition net home.component now s bag ≡ if_within (move_to (moved_to model now s bag)) (advanced s (model.ta (moved_to model now s bag)) home.micro_limit)
  unfolding transition moved
  transition_within =
      let state_at : Meaning S → S = λ m. turned m (turn (now.due == s) bag) now.state (tick_of s - tick_of now.last) bag in
      λ i. let m = at.model_is now.state i in
      if_within (λ d. record {
        entry = record { component = home.component; stamp = s; kind = kind_of (turn (now.due == s) bag); bag = bag; words = (at.model_is (state_at m) i).words (state_at m) };
        after = record { state = state_at m; last = s - 1; due = d };
      }) (advanced s (m.ta (state_at m)) (at.limit_is i))

  pub transition_is : (o : Option ℕ) → advanced s (model.ta (moved_to model now s bag)) home.micro_limit ≡ Ok o → transition net home.component now s bag ≡ Ok (move_to (moved_to model now s bag) (due_of o))
  transition_is o goes = transition_within ∙ ap (if_within (move_to (moved_to model now s bag))) goes

  pub transition_stops : (limit : Limit) → advanced s (model.ta (moved_to model now s bag)) home.micro_limit ≡ Err limit → transition net home.component now s bag ≡ Err limit
  transition_stops limit met = transition_within ∙ ap (if_within (move_to (moved_to model now s bag))) met

pub stopped : {S : Type 0} (model : Meaning S) (home : Home) (now : Moment S) (s : ℕ) (bag : Bag) (refused : TurnRefused) → IsRefusedBy (advanced s (model.ta (moved_to model now s bag)) home.micro_limit) refused → IsStopped model home now s bag refused
stopped model home now s bag OutOfMemory met = tt
stopped model home now s bag (OverLimit limit) met = λ net at. transition_stops net model home at now s bag limit met
