-- A generator, a relay and a tally in a row.
use Rattle.std.proofs.Common.{◌<◌, ◌≡◌, ◌∙◌, refl, sym, ap, arith, inl, inr, ℕ, zero, suc, List, [], ◌∷◌, Some}
use Rattle.std.specs.Prelude.{pos, Ok}
use Rattle.tw_msgs.specs.declared.record.Record.{Record}
use Rattle.tw_msgs.specs.declared.record_kind.RecordKind.TheVariants.{Out, Int, Ext}
use Rattle.tw_vtime.specs.Stamps.{stamp}
use Rattle.tw_theory.specs.Contents.{Cancel, Aggressive, Lazy, Placed}
use Rattle.tw_theory.specs.ExampleModels.{State}
use Rattle.tw_theory.specs.ExampleNetworks.{three, lone, gen_tally}
use Rattle.tw_theory.specs.ExampleTraces.{out, int, ext, item}
use Rattle.tw_theory.specs.Exchange.{work}
use Rattle.tw_theory.specs.Executive.{Action, Step, Deliver, Back, Raise, Answer, Stepped, Posted, Received, Raised, Harvested, column_of, act, answers}
use Rattle.tw_theory.specs.LocalRun.{step_at, local_step}
use Rattle.tw_theory.specs.Marks.{marks, rewind}
use Rattle.tw_theory.specs.Network.{IsNetwork}
use Rattle.tw_theory.specs.Outcomes.{state, Complete, Fault as InFault, Going}
use Rattle.tw_theory.specs.Simulator.{sequential, up_to}
use Rattle.tw_theory.specs.Soundness.{IsSound, new_world}
use Rattle.tw_theory.specs.Traces.{IsTrace, of_component, before}
use Rattle.tw_theory.specs.Transitions.{output, moved, transition}
use Rattle.tw_laws.specs.Applied.{start, after, posted, drive, driven, driven_trace, DrivenRun, LawsOfThree, stuck, out_of_ticks}
use Rattle.tw_laws.specs.History.{Holdings, IsRunTo, IsCommitted}
use Rattle.tw_laws.specs.Rewinding.{IsRewound, IsOneCut}
use Rattle.tw_laws.proofs.Acting.{start_law}
use Rattle.tw_laws.proofs.Ending.{state_law}
use Rattle.tw_laws.proofs.Harvesting.{replay_sound, committed_law}
use Rattle.tw_laws.proofs.History.Committed.{committed_history}
use Rattle.tw_laws.proofs.Least.{gvt_law}
use Rattle.tw_laws.proofs.Lines.{lines_law}
use Rattle.tw_laws.proofs.Merging.{merging_law}
use Rattle.tw_laws.proofs.Outcomes.{all_before}
use Rattle.tw_laws.proofs.Parting.{cuts_part}
use Rattle.tw_laws.proofs.Rewinding.{inverse_law, back_restores}
use Rattle.tw_laws.proofs.Rewound.{rewinding_law, back_cuts}
use Rattle.tw_laws.proofs.AtGvt.{held_by, run_to}
use Rattle.tw_laws.proofs.SweepEnds.{sweep_ends}
use Rattle.tw_laws.proofs.TimeWarp.{time_warp_law}
use Rattle.tw_laws.proofs.Traces.{own_other, trace_law, sequential_trace, rounds_law}

pub three_fits : IsNetwork three
three_fits = record {
  inputs = (record { to = omega arith; phase = refl; stamp = omega arith }, tt);
  couplings = (omega arith, (omega arith, tt));
}

-- the mark is before gvt's steps, and the generator's output is taken back
rewound_three : (cancel : Cancel)
    → IsRewound (posted cancel) (marks (start cancel).processes) (rewind (posted cancel) (marks (start cancel).processes)).1
unfolding act local_step step_at output moved transition rewind
rewound_three Aggressive = (rewinding_law (posted Aggressive) (marks (start Aggressive).processes) 1 refl).1
rewound_three Lazy = (rewinding_law (posted Lazy) (marks (start Lazy).processes) 1 refl).1

less_work : (cancel : Cancel) → work (act three 10 (posted cancel) (Deliver 1 0)).1 < work (posted cancel)
unfolding act local_step step_at output moved transition
less_work Aggressive = omega arith
less_work Lazy = omega arith

going : (cancel : Cancel) → state three 10 (start cancel) ≡ Going
unfolding state
going cancel = refl

at_zero : (cancel : Cancel) → state three 0 (start cancel) ≡ Complete
unfolding state
at_zero cancel = refl

pub lone_fits : IsNetwork (lone 1099511627773)
lone_fits = record { inputs = tt; couplings = tt }

pub stuck_sound : (cancel : Cancel) → IsSound (lone 1099511627773) 1099511627774 (stuck cancel)
stuck_sound cancel = replay_sound (lone 1099511627773) 1099511627774 (new_world (lone 1099511627773) cancel) (Step 0 ∷ Raise ∷ []) lone_fits (omega arith) (start_law (lone 1099511627773) cancel 1099511627774 lone_fits)

is_stuck : (cancel : Cancel) → state (lone 1099511627773) 1099511627774 (stuck cancel) ≡ InFault out_of_ticks
unfolding act local_step step_at output moved transition state
is_stuck Aggressive = refl
is_stuck Lazy = refl

fault_of : (cancel : Cancel) → (sequential (lone 1099511627773) 1099511627774).fault ≡ Some out_of_ticks
fault_of cancel =
    (state_law.fault (lone 1099511627773) 1099511627774 (stuck cancel) lone_fits (omega arith) (stuck_sound cancel) out_of_ticks (is_stuck cancel)).1

-- ---- a run driven to its end

pub gen_tally_fits : IsNetwork gen_tally
gen_tally_fits = record { inputs = tt; couplings = (omega arith, tt) }

driven_sound : (cancel : Cancel) → IsSound gen_tally 3 (driven cancel)
driven_sound cancel = replay_sound gen_tally 3 (new_world gen_tally cancel) drive gen_tally_fits (omega arith) (start_law gen_tally cancel 3 gen_tally_fits)

abbrev DrivenAnswers : List Answer
DrivenAnswers = Ok (Stepped (stamp 2 0 0) Out) ∷ Ok (Posted 1) ∷ Ok (Received Placed) ∷ Ok (Stepped (stamp 2 0 1) Int) ∷ Ok (Stepped (stamp 2 0 1) Ext) ∷ Ok (Raised (stamp 4 0 0)) ∷ Ok (Harvested 2) ∷ Ok (Harvested 1) ∷ []

driven_answers : (cancel : Cancel) → answers gen_tally 3 (new_world gen_tally cancel) drive ≡ DrivenAnswers
unfolding act local_step step_at output moved transition
driven_answers Aggressive = refl
driven_answers Lazy = refl

abbrev columns_driven : List (List Record)
columns_driven = (out 2 0 0 (item 5) ∷ int 2 0 0 (pos 1 ∷ []) ∷ []) ∷ (ext 2 0 1 (item 5) (pos 1 ∷ pos 5 ∷ pos 5 ∷ []) ∷ []) ∷ []

driven_columns : (cancel : Cancel) → (driven cancel).columns ≡ columns_driven
unfolding act local_step step_at output moved transition
driven_columns Aggressive = refl
driven_columns Lazy = refl

driven_complete : (cancel : Cancel) → state gen_tally 3 (driven cancel) ≡ Complete
unfolding act local_step step_at output moved transition state
driven_complete Aggressive = refl
driven_complete Lazy = refl

-- what all columns before the end merge to
driven_parts : (c : ℕ) → of_component c driven_trace ≡ before (stamp 3 0 0) (column_of columns_driven c)
driven_parts zero = refl
driven_parts (suc zero) = refl
driven_parts (suc (suc c)) =
    let sent = out 2 0 0 (item 5) in
    let moved = int 2 0 0 (pos 1 ∷ []) in
    let tallied = ext 2 0 1 (item 5) (pos 1 ∷ pos 5 ∷ pos 5 ∷ []) in
    own_other (suc (suc c)) sent (moved ∷ tallied ∷ []) (λ e. omega (arith, e)) ∙ own_other (suc (suc c)) moved (tallied ∷ []) (λ e. omega (arith, e)) ∙ own_other (suc (suc c)) tallied [] (λ e. omega (arith, e))

driven_is_trace : IsTrace driven_trace
driven_is_trace = ((inl (omega arith), (inl (omega arith), tt)), ((inr (refl, omega arith), tt), (tt, tt)))

driven_run : (cancel : Cancel) → DrivenRun cancel
driven_run cancel =
    let sound = driven_sound cancel in
    let complete = driven_complete cancel in
    let done = state_law.complete gen_tally 3 (driven cancel) gen_tally_fits (omega arith) sound complete in
    let past = (state_law.past gen_tally 3 (driven cancel)).0 complete in
    record {
      answers_are = driven_answers cancel;
      columns = driven_columns cancel;
      complete = complete;
      no_fault = done.0;
      has_all = done.1;
      merged =
          (merging_law gen_tally 3 (stamp 3 0 0) (driven cancel) gen_tally_fits (omega arith) sound past driven_trace driven_is_trace (λ c. driven_parts c ∙ ap (λ columns. before (stamp 3 0 0) (column_of columns c)) (sym (driven_columns cancel)))).0
          ∙ all_before (stamp 3 0 0) (sequential gen_tally 3).records (sequential_trace gen_tally 3 gen_tally_fits (omega arith)).1;
      all_rounds = rounds_law gen_tally 3 gen_tally_fits (omega arith) done.0;
    }

backed_three : (cancel : Cancel) → IsOneCut (posted cancel) 0 0 1 (act three 10 (posted cancel) (Back 0 0)).1
unfolding act local_step step_at output moved transition
backed_three Aggressive = back_cuts three 10 (posted Aggressive) 0 0 1 refl
backed_three Lazy = back_cuts three 10 (posted Lazy) 0 0 1 refl

module _ (cancel : Cancel) where
  sound : IsSound three 10 (start cancel)
  sound = start_law three cancel 10 three_fits

  sound_after : (actions : List Action) → IsSound three 10 (after cancel actions)
  sound_after actions = replay_sound three 10 (start cancel) actions three_fits (omega arith) sound

  run_to_gvt : (actions : List Action) → (h : Holdings State) × IsRunTo three 10 (up_to 10 (after cancel actions).gvt) h × IsCommitted three 10 (up_to 10 (after cancel actions).gvt) h
  run_to_gvt actions =
      let w = after cancel actions in
      let is = run_to three 10 three_fits w (sound_after actions) in
      (held_by 10 w, is, committed_history three 10 (up_to 10 w.gvt) (held_by 10 w) (omega arith) is)

  pub laws_of_three : LawsOfThree cancel
  laws_of_three = record {
    network = three_fits;
    time_warp = λ commands. time_warp_law three cancel 10 commands three_fits (omega arith);
    sound = sound;
    kept = sound_after;
    run_to = run_to_gvt;
    committed = λ actions. committed_law three cancel 10 actions three_fits (omega arith);
    restored = λ cs. inverse_law three 10 (start cancel) cs three_fits (omega arith) sound;
    rewound = rewound_three cancel;
    restored_by_back = λ cs c p at. back_restores three 10 (start cancel) cs c p three_fits (omega arith) sound at;
    cut_back_to = backed_three cancel;
    parts = λ actions c s p at. cuts_part three 10 (after cancel actions) c s p three_fits (sound_after actions) at;
    rises = λ first more. gvt_law.rises_by three 10 (after cancel first) three_fits (omega arith) (sound_after first) more;
    grows = λ first more. gvt_law.grows_by three 10 (after cancel first) more;
    sweeps_end = λ first more progress. sweep_ends three 10 (after cancel first) three_fits (omega arith) (sound_after first) more progress;
    less_work = less_work cancel;
    going = going cancel;
    complete = (at_zero cancel, (state_law.complete three 0 (start cancel) three_fits (omega arith) (start_law three cancel 0 three_fits) (at_zero cancel)).0);
    fault = (is_stuck cancel, fault_of cancel);
    lines = λ actions c p at.
        (lines_law (lone 1099511627773) cancel 1099511627774 actions lone_fits (omega arith) c p at out_of_ticks (fault_of cancel)).1;
    driven_run = driven_run cancel;
    traced = trace_law.ordered three 10 three_fits (omega arith);
  }
