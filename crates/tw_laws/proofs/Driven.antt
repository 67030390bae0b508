-- Sweeps and outcomes on concrete networks.
use Rattle.std.proofs.Common.{◌≡◌, ℕ, zero, suc, ◌<◌, ◌≤◌, ◌⊎◌, inl, inr, List, [], ◌∷◌, ◌++◌, true, false, true≢false, Some, refl, sym, ap, ◌∙◌, subst, arith, ⊎_elim}
use Rattle.std.specs.Prelude.{slice_get, ◌≢◌, ◌==◌, Ok}
use Rattle.std.specs.List.{AllByRecursion as Each}
use Rattle.std.proofs.lemmas.Option.{same_Some, none-some}
use Rattle.std.proofs.lemmas.Bool.{cond-false, ne_eqb, cases_lt}
use Rattle.tw_msgs.specs.declared.record.Record.{Record}
use Rattle.tw_vtime.specs.Stamps.{stamp, max_tick}
use Rattle.tw_theory.specs.Contents.{Process, Cancel, Aggressive, Lazy, Placed, Straggler, Annihilated, next, back_to_first}
use Rattle.tw_theory.specs.ExampleModels.{State}
use Rattle.tw_theory.specs.ExampleNetworks.{three, gen_tally, lone}
use Rattle.tw_theory.specs.Exchange.{sweep, MayDraw, IsDrawn}
use Rattle.tw_theory.specs.Executive.{World, Action, Step, Deliver, Posted, Received, Raised, Harvested, act, replay, answers, column_of}
use Rattle.tw_theory.specs.LocalRun.{step_at, local_step}
use Rattle.tw_theory.specs.Network.{Network, IsNetwork}
use Rattle.tw_theory.specs.Outcomes.{RunState, state, Complete, Fault as InFault, Going, IsOutcome}
use Rattle.tw_theory.specs.Soundness.{IsSound, new_world}
use Rattle.tw_theory.specs.Traces.{of_component}
use Rattle.tw_theory.specs.Transitions.{output, moved, transition}
use Rattle.tw_laws.specs.Applied.{stuck, driven_trace, out_of_ticks}
use Rattle.tw_laws.specs.Driven.{swept, ahead, posts_of_three, end_of_three, made, driven, ended, last_output, Driven}
use Rattle.tw_laws.specs.Exchange.{IsAfterSweep}
use Rattle.tw_laws.proofs.Acting.{start_law}
use Rattle.tw_laws.proofs.Harvesting.{replay_sound}
use Rattle.tw_laws.proofs.Outcomes.{outcome_law}
use Rattle.tw_laws.proofs.Swept.{sweep_law}
use Rattle.tw_laws.proofs.Three.{three_fits, lone_fits, gen_tally_fits, stuck_sound}

-- what is reached from the start by actions is sound
start : (net : Network State) (until : ℕ) (cancel : Cancel) → IsNetwork net → IsSound net until (new_world net cancel)
start net until cancel ok = start_law net cancel until ok

still : (net : Network State) (until : ℕ) (w : World State) (actions : List Action) → IsNetwork net → until ≤ max_tick
    → IsSound net until w → IsSound net until (replay net until w actions)
still net until w actions ok bound h = replay_sound net until w actions ok bound h

after_sweep : (net : Network State) (until : ℕ) (w : World State) → IsNetwork net → until ≤ max_tick → IsSound net until w
    → IsAfterSweep w (swept net until w)
after_sweep net until w ok bound h = sweep_law.after net until w ok bound h

-- ---- the sweep as a list

two_passes : sweep three 10 (ahead Aggressive) ≡ posts_of_three ++ Deliver 1 0 ∷ Deliver 2 0 ∷ posts_of_three ++ Deliver 2 0 ∷ end_of_three
unfolding act local_step step_at output moved transition back_to_first
two_passes = refl

aggressive_answers : answers three 10 (ahead Aggressive) (sweep three 10 (ahead Aggressive))
    ≡ Ok (Posted 1) ∷ Ok (Posted 1) ∷ Ok (Posted 0) ∷ Ok (Received (Straggler 3)) ∷ Ok (Received Placed) ∷ Ok (Posted 0) ∷ Ok (Posted 1) ∷ Ok (Posted 0) ∷ Ok (Received (Annihilated 0))
    ∷ Ok (Raised (stamp 2 0 1)) ∷ Ok (Harvested 1) ∷ Ok (Harvested 0) ∷ Ok (Harvested 0) ∷ []
unfolding act local_step step_at output moved transition back_to_first
aggressive_answers = refl

one_pass : sweep three 10 (ahead Lazy) ≡ posts_of_three ++ Deliver 1 0 ∷ Deliver 2 0 ∷ end_of_three
unfolding act local_step step_at output moved transition back_to_first
one_pass = refl

gvt_is : (cancel : Cancel) → (swept three 10 (ahead cancel)).gvt ≡ stamp 2 0 1
unfolding act local_step step_at output moved transition back_to_first
gvt_is Aggressive = refl
gvt_is Lazy = refl

ahead_sound : (cancel : Cancel) → IsSound three 10 (ahead cancel)
ahead_sound cancel = still three 10 (new_world three cancel) (Step 1 ∷ Step 1 ∷ Step 1 ∷ Step 0 ∷ []) three_fits (omega arith) (start three 10 cancel three_fits)

-- ---- a complete run

made_sound : (cancel : Cancel) → IsSound gen_tally 3 (made cancel)
made_sound cancel =
    let w = replay gen_tally 3 (new_world gen_tally cancel) (Step 0 ∷ Step 0 ∷ []) in
    still gen_tally 3 w (sweep gen_tally 3 w) gen_tally_fits (omega arith) (still gen_tally 3 (new_world gen_tally cancel) (Step 0 ∷ Step 0 ∷ []) gen_tally_fits (omega arith) (start gen_tally 3 cancel gen_tally_fits))

stepped_sound : (cancel : Cancel) → IsSound gen_tally 3 (replay gen_tally 3 (made cancel) (Step 1 ∷ []))
stepped_sound cancel = still gen_tally 3 (made cancel) (Step 1 ∷ []) gen_tally_fits (omega arith) (made_sound cancel)

driven_sound : (cancel : Cancel) → IsSound gen_tally 3 (driven cancel)
driven_sound cancel =
    let w = replay gen_tally 3 (made cancel) (Step 1 ∷ []) in
    still gen_tally 3 w (sweep gen_tally 3 w) gen_tally_fits (omega arith) (stepped_sound cancel)

-- of components that recorded nothing
none_of : (c : ℕ) (rs : List Record) → Each (λ r. r.component ≢ c) rs → of_component c rs ≡ []
none_of c [] h = refl
none_of c (r ∷ rs) h = cond-false (r.component == c) _ _ (ne_eqb r.component c h.0) ∙ none_of c rs h.1

is_complete : (cancel : Cancel) → state gen_tally 3 (driven cancel) ≡ Complete
unfolding act local_step step_at output moved transition back_to_first state
is_complete Aggressive = refl
is_complete Lazy = refl

parts : (cancel : Cancel) (c : ℕ) → of_component c driven_trace ≡ column_of (driven cancel).columns c
unfolding act local_step step_at output moved transition back_to_first
parts Aggressive zero = refl
parts Aggressive (suc zero) = refl
parts Aggressive (suc (suc c)) = none_of (suc (suc c)) driven_trace ((λ e. omega (arith, e)), ((λ e. omega (arith, e)), ((λ e. omega (arith, e)), tt)))
parts Lazy zero = refl
parts Lazy (suc zero) = refl
parts Lazy (suc (suc c)) = none_of (suc (suc c)) driven_trace ((λ e. omega (arith, e)), ((λ e. omega (arith, e)), ((λ e. omega (arith, e)), tt)))

complete : (cancel : Cancel) → IsOutcome gen_tally 3 Complete driven_trace
complete cancel =
    let h = driven_sound cancel in
    let lines = (after_sweep gen_tally 3 (replay gen_tally 3 (made cancel) (Step 1 ∷ [])) gen_tally_fits (omega arith) (stepped_sound cancel)).lines in
    subst (λ (s : RunState). IsOutcome gen_tally 3 s driven_trace) (is_complete cancel)
    (outcome_law.at_gvt gen_tally 3 (driven cancel) gen_tally_fits (omega arith) h lines driven_trace
    ((inl (omega arith), (inl (omega arith), tt)), ((inr (refl, omega arith), tt), (tt, tt)))
    (parts cancel)
    (λ bad. let k : Complete ≡ Going = sym (is_complete cancel) ∙ bad in cc)).0

-- ---- a fault

ended_sound : (cancel : Cancel) → IsSound (lone 1099511627773) 1099511627774 (ended cancel)
ended_sound cancel = still (lone 1099511627773) 1099511627774 (stuck cancel) (sweep (lone 1099511627773) 1099511627774 (stuck cancel)) lone_fits (omega arith) (stuck_sound cancel)

is_fault : (cancel : Cancel) → state (lone 1099511627773) 1099511627774 (ended cancel) ≡ InFault out_of_ticks
unfolding act local_step step_at output moved transition back_to_first state
is_fault Aggressive = refl
is_fault Lazy = refl

fault_parts : (cancel : Cancel) (c : ℕ) → of_component c last_output ≡ column_of (ended cancel).columns c
unfolding act local_step step_at output moved transition back_to_first
fault_parts Aggressive zero = refl
fault_parts Aggressive (suc c) = none_of (suc c) last_output ((λ e. omega (arith, e)), tt)
fault_parts Lazy zero = refl
fault_parts Lazy (suc c) = none_of (suc c) last_output ((λ e. omega (arith, e)), tt)

fault : (cancel : Cancel) → IsOutcome (lone 1099511627773) 1099511627774 (InFault out_of_ticks) last_output
fault cancel =
    subst (λ (s : RunState). IsOutcome (lone 1099511627773) 1099511627774 s last_output) (is_fault cancel)
    (outcome_law.at_gvt (lone 1099511627773) 1099511627774 (ended cancel) lone_fits (omega arith) (ended_sound cancel)
    (after_sweep (lone 1099511627773) 1099511627774 (stuck cancel) lone_fits (omega arith) (stuck_sound cancel)).lines last_output (tt, tt) (fault_parts cancel)
    (λ bad. let k : InFault out_of_ticks ≡ Going = sym (is_fault cancel) ∙ bad in cc)).0

-- ---- what is given out

-- at or before another, and of a lesser number
at_or_before : (p q : Process State) (c d : ℕ) → next p ≤ next q → c ≤ d → (next p < next q) ⊎ ((next p ≡ next q) × (c ≤ d))
at_or_before p q c d l k = ⊎_elim (λ a. inl a) (λ a. inr (omega (arith, a, l), k)) (cases_lt (next p) (next q))

module _ (until gvt window : ℕ) (p q r : Process State) where
  first_of_three : MayDraw until gvt window p → next p ≤ next q → next p ≤ next r
      → IsDrawn until gvt window (false ∷ false ∷ false ∷ []) (p ∷ q ∷ r ∷ []) 0
  first_of_three may a b = record { process = p; at = refl; free = refl; may = may; least = least }
    where
      least : (d : ℕ) (x : Process State) → slice_get (p ∷ q ∷ r ∷ []) d ≡ Some x → slice_get (false ∷ false ∷ false ∷ []) d ≡ Some false
          → MayDraw until gvt window x → (next p < next x) ⊎ ((next p ≡ next x) × (0 ≤ d))
      least zero x at free m = inr (ap (λ (y : Process State). next y) (same_Some p x at), omega arith)
      least (suc zero) x at free m = subst (λ (y : Process State). (next p < next y) ⊎ ((next p ≡ next y) × (0 ≤ 1))) (same_Some q x at) (at_or_before p q 0 1 a (omega arith))
      least (suc (suc zero)) x at free m = subst (λ (y : Process State). (next p < next y) ⊎ ((next p ≡ next y) × (0 ≤ 2))) (same_Some r x at) (at_or_before p r 0 2 b (omega arith))
      least (suc (suc (suc d))) x at free m = absurd (none-some x at)

  second_of_three : MayDraw until gvt window q → next q ≤ next r
      → IsDrawn until gvt window (true ∷ false ∷ false ∷ []) (p ∷ q ∷ r ∷ []) 1
  second_of_three may b = record { process = q; at = refl; free = refl; may = may; least = least }
    where
      least : (d : ℕ) (x : Process State) → slice_get (p ∷ q ∷ r ∷ []) d ≡ Some x → slice_get (true ∷ false ∷ false ∷ []) d ≡ Some false
          → MayDraw until gvt window x → (next q < next x) ⊎ ((next q ≡ next x) × (1 ≤ d))
      least zero x at free m = absurd (true≢false (same_Some true false free))
      least (suc zero) x at free m = inr (ap (λ (y : Process State). next y) (same_Some q x at), omega arith)
      least (suc (suc zero)) x at free m = subst (λ (y : Process State). (next q < next y) ⊎ ((next q ≡ next y) × (1 ≤ 2))) (same_Some r x at) (at_or_before q r 1 2 b (omega arith))
      least (suc (suc (suc d))) x at free m = absurd (none-some x at)

first : (cancel : Cancel) → IsDrawn 10 (stamp 2 0 1) 5 (false ∷ false ∷ false ∷ []) (swept three 10 (ahead cancel)).processes 0
unfolding act local_step step_at output moved transition back_to_first
first Aggressive = first_of_three 10 (stamp 2 0 1) 5 _ _ _ (omega arith, omega arith) (omega arith) (omega arith)
first Lazy = first_of_three 10 (stamp 2 0 1) 5 _ _ _ (omega arith, omega arith) (omega arith) (omega arith)

second : (cancel : Cancel) → IsDrawn 10 (stamp 2 0 1) 5 (true ∷ false ∷ false ∷ []) (swept three 10 (ahead cancel)).processes 1
unfolding act local_step step_at output moved transition back_to_first
second Aggressive = second_of_three 10 (stamp 2 0 1) 5 _ _ _ (omega arith, omega arith) (omega arith)
second Lazy = second_of_three 10 (stamp 2 0 1) 5 _ _ _ (omega arith, omega arith) (omega arith)

pub driven_runs : Driven
driven_runs = record {
  aggressive = two_passes;
  aggressive_answers = aggressive_answers;
  lazy = one_pass;
  after = λ cancel. after_sweep three 10 (ahead cancel) three_fits (omega arith) (ahead_sound cancel);
  gvt = gvt_is;
  first = first;
  second = second;
  complete = λ cancel. (is_complete cancel, complete cancel);
  fault = λ cancel. (is_fault cancel, fault cancel);
}
