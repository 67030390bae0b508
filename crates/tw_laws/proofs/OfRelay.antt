-- The laws of steps, chains, memory and the board on a relay.
use Rattle.std.proofs.Common.{◌+◌, ◌≡◌, [], ◌∷◌, ◌++◌, Some, refl, sym, ◌∙◌, subst, arith, inl}
use Rattle.std.specs.Prelude.{slice_get, pos}
use Rattle.std.specs.List.{AllByRecursion as Each}
use Rattle.tw_vtime.specs.Stamps.{stamp}
use Rattle.tw_theory.specs.Board.{numbers_of, posted_after, AtMost}
use Rattle.tw_theory.specs.Bundles.{positive}
use Rattle.tw_theory.specs.Chains.{IsHome, All, own_steps}
use Rattle.tw_theory.specs.Contents.{Aggressive, receive}
use Rattle.tw_theory.specs.ExampleActions.{until, after}
use Rattle.tw_theory.specs.ExampleChains.{eight, emptied, from_start, relayed, relay_after, generates}
use Rattle.tw_theory.specs.ExampleModels.{relay}
use Rattle.tw_theory.specs.ExampleNetworks.{slow_three}
use Rattle.tw_theory.specs.Executive.{Step, Deliver, mail_of, column_of, act}
use Rattle.tw_theory.specs.LocalRun.{Leads, step_at, local_step}
use Rattle.tw_theory.specs.Memory.{IsReplayed, live, need}
use Rattle.tw_theory.specs.Network.{IsNetwork, input}
use Rattle.tw_theory.specs.Soundness.{IsSound, new_process, new_world}
use Rattle.tw_theory.specs.Standing.{CanTake, IsReadyFrom, IsRunning}
use Rattle.tw_theory.specs.Transitions.{start_moment, output, moved, transition}
use Rattle.tw_theory.proofs.RelayChain.{chain_of_relay}
use Rattle.tw_laws.specs.Applied.{driven}
use Rattle.tw_laws.specs.Chains.{IsStepped}
use Rattle.tw_laws.specs.OfRelay.{AnyState, received, LawsOfRelay}
use Rattle.tw_laws.specs.Standing.{MayCome}
use Rattle.tw_laws.proofs.Acting.{start_law}
use Rattle.tw_laws.proofs.Agreeing.{chain_law}
use Rattle.tw_laws.proofs.Harvesting.{replay_sound}
use Rattle.tw_laws.proofs.Installed.{install_law}
use Rattle.tw_laws.proofs.Ready.{KeepsValid, standing_law, receive_law}
use Rattle.tw_laws.proofs.Running.{running_law}
use Rattle.tw_laws.proofs.Replayed.{replay_law, board_law}

slow_three_fits : IsNetwork slow_three
slow_three_fits = record {
  inputs = (record { to = omega arith; phase = refl; stamp = omega arith }, tt);
  couplings = (omega arith, (omega arith, tt));
}

home : IsHome slow_three (relay 2) from_start
home = record { model_is = λ s. refl; limit_is = refl }

next_steps : Leads slow_three 1 (start_moment (relay 2)) (eight ∷ []) (own_steps slow_three 1 relayed.steps) emptied []
next_steps = chain_law.next_steps slow_three (relay 2) relayed [] home chain_of_relay.run (omega arith)

there : slice_get (after slow_three Aggressive received).processes 1 ≡ Some (relay_after received)
unfolding act local_step step_at output moved transition
there = refl

stepped : IsStepped slow_three until (after slow_three Aggressive received) relayed 2 (relay_after received) (relay_after (received ++ Step 1 ∷ Step 1 ∷ []))
stepped = install_law.steps slow_three until (after slow_three Aggressive received) (relay 2) relayed All _ _ _ home chain_of_relay.run (omega arith) there chain_of_relay.other_bag

keeps : KeepsValid AnyState (relay 2)
keeps turn s elapsed bag can = tt

-- the numbers of the example's message are of their size
eight_comes : Each (CanTake 1) (eight ∷ [])
eight_comes = (record { to = refl; phase = refl; before_end = omega arith; fits = (omega arith, record { sfits = omega arith }) }, tt)

ready : IsReadyFrom AnyState (relay 2) 1 emptied [] (stamp 6 0 1 + 1)
ready =
    let law = standing_law AnyState (relay 2) keeps in
    let start = law.start 1 (eight ∷ []) tt (tt, tt) eight_comes in
    law.run slow_three 1 (start_moment (relay 2)) (eight ∷ []) (own_steps slow_three 1 relayed.steps) emptied [] (record { model_is = λ s. refl; micro_limit = omega arith }) start.0 next_steps

five_comes : CanTake 1 (input 6 1 0 (pos 5))
five_comes = record { to = refl; phase = refl; before_end = omega arith; fits = (omega arith, record { sfits = omega arith }) }

running : IsRunning AnyState (relay 2) slow_three 1 0 (receive (new_process slow_three Aggressive 1 (relay 2)) (positive (input 6 1 0 (pos 5)))).1
running =
    let law = running_law AnyState (relay 2) keeps in
    law.receive slow_three 1 0 (new_process slow_three Aggressive 1 (relay 2)) (positive (input 6 1 0 (pos 5))) (law.start slow_three Aggressive 1 tt eight_comes) five_comes (omega arith)

in_mail : mail_of (after slow_three Aggressive generates).mail 1 ≡ positive (input 3 1 0 (pos 5)) ∷ positive (input 6 1 0 (pos 5)) ∷ []
unfolding act local_step step_at output moved transition
in_mail = refl

sound : IsSound slow_three until (after slow_three Aggressive generates)
sound = replay_sound slow_three until (new_world slow_three Aggressive) generates slow_three_fits (omega arith) (start_law slow_three Aggressive until slow_three_fits)

relay_there : slice_get (after slow_three Aggressive generates).processes 1 ≡ Some (relay_after generates)
unfolding act local_step step_at output moved transition
relay_there = refl

no_column : column_of (after slow_three Aggressive generates).columns 1 ≡ []
unfolding act local_step step_at output moved transition
no_column = refl

may_come : Each (λ i. MayCome 1 (relay_after generates) [] i.message) (mail_of (after slow_three Aggressive generates).mail 1)
may_come =
    subst (λ column. Each (λ i. MayCome 1 (relay_after generates) column i.message) (mail_of (after slow_three Aggressive generates).mail 1)) no_column
    (receive_law slow_three until (after slow_three Aggressive generates) sound 1 (relay_after generates) relay_there)

lives : live (relay_after generates) ≡ 1
unfolding act local_step step_at output moved transition
lives = refl

needs : need slow_three (after slow_three Aggressive generates) (relay_after generates) (Deliver 1 1) ≡ 1
unfolding act local_step step_at output moved transition
needs = refl

left_out : IsReplayed slow_three until (new_world slow_three Aggressive) received 4 (after slow_three Aggressive generates)
unfolding act local_step step_at output moved transition
left_out = record {
  taken = generates;
  are = inl (refl, inl (refl, inl (refl, inl (refl, (tt, tt)))));
  world = refl;
  number = refl;
}

numbers : numbers_of (driven Aggressive) ≡ (stamp 4 0 0, 3)
unfolding act local_step step_at output moved transition
numbers = refl

posted : posted_after (stamp 2 0 0, 1) (numbers_of (driven Aggressive)) ≡ (stamp 4 0 0, 3)
posted =
    let within : AtMost (stamp 2 0 0, 1) (numbers_of (driven Aggressive)) = subst (AtMost (stamp 2 0 0, 1)) (sym numbers) (omega arith, omega arith) in
    board_law.posts (driven Aggressive) (stamp 2 0 0, 1) within ∙ numbers

pub laws_of_relay : LawsOfRelay
laws_of_relay = record {
  next_steps = next_steps;
  stepped = stepped;
  answered = stepped.answers;
  standing = standing_law AnyState (relay 2) keeps;
  ready = ready;
  running = running;
  in_mail = in_mail;
  may_come = may_come;
  lives = lives;
  needs = needs;
  left_out = left_out;
  stays_sound = (replay_law.sound slow_three until (new_world slow_three Aggressive) received 4 (after slow_three Aggressive generates) slow_three_fits (omega arith) (start_law slow_three Aggressive until slow_three_fits) left_out).0;
  numbers = numbers;
  posted = posted;
}
