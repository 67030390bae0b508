-- The laws of steps, chains, memory and the board applied to a relay between a generator and a tally, and to a driven run.
use Rattle.std.specs.Prelude.{pos, ◌+◌, ◌≡◌, List, [], ◌∷◌, ◌++◌, ⊤, Ok}
use Rattle.std.specs.List.{AllByRecursion as Each}
use Rattle.tw_msgs.specs.declared.record_kind.RecordKind.TheVariants.{Out, Ext}
use Rattle.tw_vtime.specs.Stamps.{stamp}
use Rattle.tw_theory.specs.Board.{numbers_of, posted_after}
use Rattle.tw_theory.specs.Bundles.{positive}
use Rattle.tw_theory.specs.Chains.{own_steps}
use Rattle.tw_theory.specs.Contents.{Aggressive, receive}
use Rattle.tw_theory.specs.ExampleActions.{until, after}
use Rattle.tw_theory.specs.ExampleChains.{eight, emptied, relayed, relay_after, generates}
use Rattle.tw_theory.specs.ExampleModels.{State, relay}
use Rattle.tw_theory.specs.ExampleNetworks.{slow_three}
use Rattle.tw_theory.specs.Executive.{Action, Step, Deliver, Stepped, mail_of, answers}
use Rattle.tw_theory.specs.LocalRun.{Leads}
use Rattle.tw_theory.specs.Memory.{IsReplayed, live, need}
use Rattle.tw_theory.specs.Network.{input}
use Rattle.tw_theory.specs.Soundness.{IsSound, new_process, new_world}
use Rattle.tw_theory.specs.Standing.{IsReadyFrom, IsRunning}
use Rattle.tw_theory.specs.Transitions.{start_moment}
use Rattle.tw_laws.specs.Applied.{driven}
use Rattle.tw_laws.specs.Chains.{IsStepped, steps_of_one}
use Rattle.tw_laws.specs.Standing.{StandingLaw, MayCome}

-- its states are all valid
abbrev pub AnyState : State → Type 0
AnyState s = ⊤

-- the generator has sent at ticks 3 and 6, and the later message was delivered
abbrev pub received : List Action
received = generates ++ Deliver 1 1 ∷ []

pub record LawsOfRelay : Type 0 where
  -- the chain's steps are the relay's own; installing it then makes two of them, by Step actions
  pub next_steps : Leads slow_three 1 (start_moment (relay 2)) (eight ∷ []) (own_steps slow_three 1 relayed.steps) emptied []
  pub stepped : IsStepped slow_three until (after slow_three Aggressive received) relayed 2 (relay_after received) (relay_after (received ++ Step 1 ∷ Step 1 ∷ []))
  pub answered : answers slow_three until (after slow_three Aggressive received) (steps_of_one 1 2) ≡ Ok (Stepped (stamp 4 0 1) Ext) ∷ Ok (Stepped (stamp 6 0 0) Out) ∷ []
  -- it is ready at the start, and so after its chain
  pub standing : StandingLaw AnyState (relay 2)
  pub ready : IsReadyFrom AnyState (relay 2) 1 emptied [] (stamp 6 0 1 + 1)
  -- and so is a process that began there and has received a message
  pub running : IsRunning AnyState (relay 2) slow_three 1 0 (receive (new_process slow_three Aggressive 1 (relay 2)) (positive (input 6 1 0 (pos 5)))).1
  -- what lies in its mailbox before the delivery may be received
  pub in_mail : mail_of (after slow_three Aggressive generates).mail 1 ≡ positive (input 3 1 0 (pos 5)) ∷ positive (input 6 1 0 (pos 5)) ∷ []
  pub may_come : Each (λ i. MayCome 1 (relay_after generates) [] i.message) (mail_of (after slow_three Aggressive generates).mail 1)
  -- the second message would need a node; where there is none it stays in the mailbox, and the executive is as it was
  pub lives : live (relay_after generates) ≡ 1
  pub needs : need slow_three (after slow_three Aggressive generates) (relay_after generates) (Deliver 1 1) ≡ 1
  pub left_out : IsReplayed slow_three until (new_world slow_three Aggressive) received 4 (after slow_three Aggressive generates)
  pub stays_sound : IsSound slow_three until (after slow_three Aggressive generates)
  -- the numbers of a run that is complete, and what the board shows then
  pub numbers : numbers_of (driven Aggressive) ≡ (stamp 4 0 0, 3)
  pub posted : posted_after (stamp 2 0 0, 1) (numbers_of (driven Aggressive)) ≡ (stamp 4 0 0, 3)
