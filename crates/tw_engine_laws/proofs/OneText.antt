-- Two ends of one job on the same bytes.
use Rattle.std.proofs.Common.{◌≡◌, ◌∙◌, ◌⊎◌, ◌++◌, ℕ, List, ap, append_assoc, inl, inr, refl, subst, sym}
use Rattle.std.specs.Global.{Global}
use Rattle.std.specs.Prelude.{Bool, Option, Some, None, Result, Ok, Err, String, option_map}
use Rattle.std.specs.Io.KnownBytes.{Appends}
use Rattle.tw_any_model.specs.AnyModel.{any_meaning}
use Rattle.tw_any_model.specs.declared.any_model.AnyModel.{AnyModel}
use Rattle.tw_any_model.specs.declared.any_model.AnyState.{AnyState}
use Rattle.tw_cli.specs.declared.driving.Driver.{Driver}
use Rattle.tw_cli.specs.declared.driving.Driver.TheVariants.{Script, Seed}
use Rattle.tw_cli.specs.declared.jobs.Job.{Job}
use Rattle.tw_cli.specs.declared.jobs.Job.TheVariants.{Demo, Check, Dot, Simulate}
use Rattle.tw_cli.specs.declared.jobs.Task.TheVariants.{Seq, Stats, Table, Draw, Run, Play}
use Rattle.tw_cli.specs.declared.setting.ByWorkers.{ByWorkers}
use Rattle.tw_figures.specs.Shown.{shown_of}
use Rattle.tw_figures.specs.declared.seeing.Tabled.{Tabled}
use Rattle.tw_figures.specs.declared.seeing.Tabled.TheVariants.{OfRun, OfFigures}
use Rattle.tw_stats.specs.Written.{report_bytes}
use Rattle.std.proofs.lemmas.Option.{same_Some}
use Rattle.tw_engine.specs.Checks.{IsCheck, check_text, warnings_in}
use Rattle.tw_engine.specs.Ends.{Fault}
use Rattle.tw_engine.specs.Exits.{exit_of, exit_of_rest, exit_of_run, exit_of_view, line_of, status_of}
use Rattle.tw_engine.specs.Jobs.{Ends, IsPlay, IsScriptedBy}
use Rattle.tw_engine.specs.Plays.{IsScripted, IsSeeded, committed_text, first}
use Rattle.tw_engine.specs.Runs.{IsDemo, IsRun, IsRunByWorkers, demo_network, name_in, run_fault, run_text}
use Rattle.tw_machine_warnings.specs.Warning.{lines_of}
use Rattle.tw_engine.specs.Views.{IsLineOf, IsSummed, IsSummedBy, IsTabulated, IsTabulatedBy, IsTabulatedOf, Summed, Tabulated, file_fields, file_labels, table_with}
use Rattle.tw_engine.specs.declared.exit.Exit.{Exit}
use Rattle.tw_engine.specs.declared.failed.Failed.{Failed}
use Rattle.tw_engine.specs.declared.failed.Failed.TheVariants as failed
use Rattle.tw_engine_laws.proofs.One.{AreOne, are_one, one_count, one_fault, one_line, one_run, one_table}
use Rattle.tw_engine_laws.proofs.OnePlay.{draw_one, full_before, play_one}
use Rattle.tw_engine_laws.proofs.OneSummary.{one_figures, one_summary}
use Rattle.tw_engine_laws.specs.OneText.{HasFullLine, HasOneText, IsDoneWhole, IsSameEnd, WasFull}
use Rattle.tw_file_network.specs.OneMeaning.{MeansOne}
use Rattle.tw_file_network.specs.TreeMeaning.{IsMeaning}
use Rattle.tw_laws.specs.Couplings.{CouplingsLaw}
use Rattle.tw_network.specs.Contents.{Contents}
use Rattle.tw_play.specs.Playing.{ArePlayed}
use Rattle.tw_script.specs.OneScript.{ScriptLaw}
use Rattle.tw_script.specs.Scripts.{IsScript}
use Rattle.tw_script.specs.declared.command.Command.{Command}
use Rattle.tw_seeded.specs.Schedules.{seeded}
use Rattle.tw_theory.specs.Contents.{Cancel}

-- ---- an exit of a job that is done whole is that of an end

not_failed : (why : Failed) → IsDoneWhole (exit_of why) → ⊥
not_failed (failed.Bad why line) whole = whole
not_failed (failed.Want why) whole = whole
not_failed failed.NoWrite whole = whole

-- where every failed end exits so, one that is done whole is no failure
end_of : {A : Type 0} (exit_for : Result A Failed → Exit) → ((why : Failed) → exit_for (Err why) ≡ exit_of why) → (Is : Result A Failed → Type 0) (exit : Exit)
    → Ends exit_for exit Is → IsDoneWhole exit → (x : A) × (exit ≡ exit_for (Ok x)) × Is (Ok x)
end_of {A} exit_for fails Is exit (end, is, done) whole = go end is done
  where
    go : (end : Result A Failed) → exit ≡ exit_for end → Is end → (x : A) × (exit ≡ exit_for (Ok x)) × Is (Ok x)
    go (Ok x) is done = (x, is, done)
    go (Err why) is done = absurd (not_failed why (subst IsDoneWhole (is ∙ fails why) whole))

-- ---- texts

-- text and text' went out, which are one
one_out : (old new new' text text' : List ℕ) → Appends (Some old) (Some new) text → Appends (Some old) (Some new') text' → text ≡ text' → new ≡ new'
one_out old new new' text text' out out' one = out ∙ ap (λ t. old ++ t) one ∙ sym out'

-- exits of the same end
same_end : (exit exit' by by' : Exit) (new new' : List ℕ) → exit ≡ by → exit' ≡ by' → new ≡ new' → status_of by ≡ status_of by' → line_of by ≡ line_of by' → IsSameEnd exit exit' new new'
same_end exit exit' by by' new new' is is' text status line = record {
  text = text;
  status = ap status_of is ∙ status ∙ sym (ap status_of is');
  line = ap line_of is ∙ line ∙ sym (ap line_of is');
}

no_fault : (met : Fault) → ◌≡◌ {A = Option Fault} None (Some met) → ⊥
no_fault met e = cc e

-- ---- by the networks that the bytes mean

module _ (n m : Contents AnyModel) (one : AreOne n m) (until : ℕ) (exit exit' : Exit) (old new new' : List ℕ) where
  -- two lines of one fault
  view_end : (line line' : Option (String Global)) → exit ≡ exit_of_view (Ok line) → exit' ≡ exit_of_view (Ok line') → new ≡ new'
      → IsLineOf n (run_fault n until) line → IsLineOf m (run_fault m until) line' → IsSameEnd exit exit' new new'
  view_end None None is is' out said said' = same_end exit exit' _ _ new new' is is' out refl refl
  view_end None (Some line') is is' out said said' = absurd (no_fault said'.0.0 (sym said ∙ one_fault n m one until ∙ said'.0.1))
  view_end (Some line) None is is' out said said' = absurd (no_fault said.0.0 (sym said' ∙ sym (one_fault n m one until) ∙ said.0.1))
  view_end (Some line) (Some line') is is' out said said' =
      same_end exit exit' _ _ new new' is is' out refl (said.1 ∙ one_line n m one until ∙ sym said'.1)

  run_end : (fault fault' : Option Fault) → exit ≡ exit_of_run (Ok fault) → exit' ≡ exit_of_run (Ok fault') → fault ≡ run_fault n until → fault' ≡ run_fault m until
      → Appends (Some old) (Some new) (run_text n until) → Appends (Some old) (Some new') (run_text m until) → IsSameEnd exit exit' new new'
  run_end fault fault' is is' met met' out out' =
      let same : exit_of_run (Ok fault) ≡ exit_of_run (Ok fault') = ap (λ f. exit_of_run (Ok f)) (met ∙ one_fault n m one until ∙ sym met') in
      same_end exit exit' _ _ new new' is is' (one_out old new new' (run_text n until) (run_text m until) out out' (one_run n m one until)) (ap status_of same) (ap line_of same)

-- all was written, of both
whole_end : (exit exit' : Exit) (new new' : List ℕ) → exit ≡ exit_of_rest (Ok tt) → exit' ≡ exit_of_rest (Ok tt) → new ≡ new' → IsSameEnd exit exit' new new'
whole_end exit exit' new new' is is' out = same_end exit exit' _ _ new new' is is' out refl refl

-- ---- the jobs

module _ (means : (bytes : List ℕ) → MeansOne bytes) (law : CouplingsLaw AnyState) (bytes : List ℕ) (exit exit' : Exit) (old new new' : List ℕ) where
  one : (n m : Contents AnyModel) → IsMeaning bytes n → IsMeaning bytes m → AreOne n m
  one = are_one means law bytes

  run_ends : (until : ℕ) (fault fault' : Option Fault) → exit ≡ exit_of_run (Ok fault) → exit' ≡ exit_of_run (Ok fault')
      → IsRun bytes until (Ok fault) (Some old) (Some new) → IsRun bytes until (Ok fault') (Some old) (Some new') → IsSameEnd exit exit' new new'
  run_ends until fault fault' is is' (n, of_n, done) (m, of_m, done') =
      run_end n m (one n m of_n of_m) until exit exit' old new new' fault fault' is is' done.0 done'.0 done.1 done'.1

  worked_ends : (way : Cancel) (until : ℕ) (fault fault' : Option Fault) → exit ≡ exit_of_run (Ok fault) → exit' ≡ exit_of_run (Ok fault')
      → IsRunByWorkers bytes way until (Ok fault) (Some old) (Some new) → IsRunByWorkers bytes way until (Ok fault') (Some old) (Some new') → IsSameEnd exit exit' new new'
  worked_ends way until fault fault' is is' (inl done) (inl done') = run_ends until fault fault' is is' done done'
  worked_ends way until fault fault' is is' (inr (n, of_n, full)) done' = absurd full.0
  worked_ends way until fault fault' is is' (inl done) (inr (n, of_n, full)) = absurd full.0

  demo_ends : (fault fault' : Option Fault) → exit ≡ exit_of_run (Ok fault) → exit' ≡ exit_of_run (Ok fault')
      → IsDemo (Ok fault) (Some old) (Some new) → IsDemo (Ok fault') (Some old) (Some new') → IsSameEnd exit exit' new new'
  demo_ends fault fault' is is' done done' =
      let same : exit_of_run (Ok fault) ≡ exit_of_run (Ok fault') = ap (λ f. exit_of_run (Ok f)) (done.0 ∙ sym done'.0) in
      same_end exit exit' _ _ new new' is is' (one_out old new new' (run_text demo_network 5) (run_text demo_network 5) done.1 done'.1 refl) (ap status_of same) (ap line_of same)

  check_ends : (strict : Bool) (done done' : Unit {0}) → exit ≡ exit_of_rest (Ok done) → exit' ≡ exit_of_rest (Ok done')
      → IsCheck bytes strict (Ok done) (Some old) (Some new) → IsCheck bytes strict (Ok done') (Some old) (Some new') → IsSameEnd exit exit' new new'
  check_ends strict done done' is is' (n, of_n, checked) (m, of_m, checked') =
      let odd = warnings_in bytes in
      whole_end exit exit' new new' is is' (one_out old new new' (check_text n odd) (check_text m odd) checked.1 checked'.1
      (ap (λ t. t ++ lines_of odd) (one_count n m (one n m of_n of_m))))

  -- what is shown is one
  one_shown : (only : Option (List ℕ)) (n m : Contents AnyModel) → AreOne n m → (shown shown' : List Bool) → shown_of n.names only ≡ Some shown → shown_of m.names only ≡ Some shown' → shown ≡ shown'
  one_shown only n m same shown shown' is is' = same_Some shown shown' (sym is ∙ ap (λ names. shown_of names only) (sym same.same.names) ∙ is')

  -- the table is one
  one_table_of : (n m : Contents AnyModel) → IsMeaning bytes n → AreOne n m → (only : Option (List ℕ)) (from until : ℕ) (of : Tabled) (shown : List Bool)
      → table_with n (file_fields bytes) (file_labels bytes n) (record { only = only; from = from; until = until; of = of }) shown ≡ table_with m (file_fields bytes) (file_labels bytes m) (record { only = only; from = from; until = until; of = of }) shown
  one_table_of n m of_n same only from until (OfRun rows) shown = one_table n m same rows (file_fields bytes) shown from until
  one_table_of n m of_n same only from until OfFigures shown = one_figures bytes n m same shown from until

  table_ends : (only : Option (List ℕ)) (from until : ℕ) (of : Tabled) (line line' : Option (String Global)) → exit ≡ exit_of_view (Ok line) → exit' ≡ exit_of_view (Ok line')
      → (n m : Contents AnyModel) → IsMeaning bytes n → IsMeaning bytes m
      → IsTabulatedOf n (table_with n (file_fields bytes) (file_labels bytes n) (record { only = only; from = from; until = until; of = of })) (record { only = only; from = from; until = until; of = of }) (Ok line) (Some old) (Some new)
      → IsTabulatedOf m (table_with m (file_fields bytes) (file_labels bytes m) (record { only = only; from = from; until = until; of = of })) (record { only = only; from = from; until = until; of = of }) (Ok line') (Some old) (Some new') → IsSameEnd exit exit' new new'
  table_ends only from until of line line' is is' n m of_n of_m done done' =
      let t : Tabulated = record { only = only; from = from; until = until; of = of } in
      let same = one n m of_n of_m in
      let shown = one_shown only n m same done.1.shown done'.1.shown done.1.are done'.1.are in
      view_end n m same until exit exit' old new new' line line' is is'
      (one_out old new new' (table_with n (file_fields bytes) (file_labels bytes n) t done.1.shown) (table_with m (file_fields bytes) (file_labels bytes m) t done'.1.shown) done.1.written done'.1.written
      (one_table_of n m of_n same only from until of done.1.shown ∙ ap (table_with m (file_fields bytes) (file_labels bytes m) t) shown)) done.0 done'.0

  tabulated_ends : (only : Option (List ℕ)) (from until : ℕ) (of : Tabled) (line line' : Option (String Global)) → exit ≡ exit_of_view (Ok line) → exit' ≡ exit_of_view (Ok line')
      → IsTabulated bytes (record { only = only; from = from; until = until; of = of }) (Ok line) (Some old) (Some new)
      → IsTabulated bytes (record { only = only; from = from; until = until; of = of }) (Ok line') (Some old) (Some new') → IsSameEnd exit exit' new new'
  tabulated_ends only from until of line line' is is' (inl refused) done' = absurd refused.0
  tabulated_ends only from until of line line' is is' (inr done) (inl refused) = absurd refused.0
  tabulated_ends only from until of line line' is is' (inr (n, of_n, done)) (inr (m, of_m, done')) =
      table_ends only from until of line line' is is' n m of_n of_m done done'

  stats_ends : (s : Summed) (line line' : Option (String Global)) → exit ≡ exit_of_view (Ok line) → exit' ≡ exit_of_view (Ok line')
      → IsSummed bytes s (Ok line) (Some old) (Some new) → IsSummed bytes s (Ok line') (Some old) (Some new') → IsSameEnd exit exit' new new'
  stats_ends s line line' is is' (inl refused) done' = absurd refused.0
  stats_ends s line line' is is' (inr done) (inl refused) = absurd refused.0
  stats_ends s line line' is is' (inr (n, of_n, done)) (inr (m, of_m, done')) =
      let same = one n m of_n of_m in
      let shown = one_shown s.only n m same done.1.shown done'.1.shown done.1.are done'.1.are in
      view_end n m same s.until exit exit' old new new' line line' is is'
      (one_out old new new' _ _ done.1.written done'.1.written
      (one_summary bytes n m of_n same s.from s.until s.json done.1.shown done.1.report done'.1.report done.1.is done'.1.is
      ∙ ap (λ l. report_bytes s.json (name_in m.names) (file_labels bytes m) l done'.1.report) shown)) done.0 done'.0

  -- in order or by workers, who give up before all is written
  summed_ends : (by : Option ByWorkers) (s : Summed) (line line' : Option (String Global)) → exit ≡ exit_of_view (Ok line) → exit' ≡ exit_of_view (Ok line')
      → IsSummedBy by bytes s (Ok line) (Some old) (Some new) → IsSummedBy by bytes s (Ok line') (Some old) (Some new') → IsSameEnd exit exit' new new'
  summed_ends None s line line' is is' done done' = stats_ends s line line' is is' done done'
  summed_ends (Some by) s line line' is is' (inl done) (inl done') = stats_ends s line line' is is' done done'
  summed_ends (Some by) s line line' is is' (inr (n, of_n, full)) done' = absurd full.0
  summed_ends (Some by) s line line' is is' (inl done) (inr (n, of_n, full)) = absurd full.0

  tabled_ends : (by : Option ByWorkers) (only : Option (List ℕ)) (from until : ℕ) (of : Tabled) (line line' : Option (String Global)) → exit ≡ exit_of_view (Ok line) → exit' ≡ exit_of_view (Ok line')
      → IsTabulatedBy by bytes (record { only = only; from = from; until = until; of = of }) (Ok line) (Some old) (Some new)
      → IsTabulatedBy by bytes (record { only = only; from = from; until = until; of = of }) (Ok line') (Some old) (Some new') → IsSameEnd exit exit' new new'
  tabled_ends None only from until of line line' is is' done done' = tabulated_ends only from until of line line' is is' done done'
  tabled_ends (Some by) only from until of line line' is is' (inl done) (inl done') = tabulated_ends only from until of line line' is is' done done'
  tabled_ends (Some by) only from until of line line' is is' (inr (n, of_n, full)) done' = absurd full.0
  tabled_ends (Some by) only from until of line line' is is' (inl done) (inr (n, of_n, full)) = absurd full.0

-- ---- plays

-- what went out of a play, and then the trace
played_out : (old new : List ℕ) (mid : Option (List ℕ)) (text trace : List ℕ) → Appends (Some old) mid text → Appends mid (Some new) trace → new ≡ old ++ (text ++ trace)
played_out old new None text trace out traced = absurd out
played_out old new (Some m) text trace out traced = traced ∙ ap (λ t. t ++ trace) out ∙ append_assoc old text trace

-- two texts that went out, of which either has the line, or which are one
plays_alike : (exit exit' : Exit) (old new new' text text' trace trace' : List ℕ) → exit ≡ exit_of_rest (Ok tt) → exit' ≡ exit_of_rest (Ok tt)
    → new ≡ old ++ (text ++ trace) → new' ≡ old ++ (text' ++ trace') → HasFullLine text ⊎ (HasFullLine text' ⊎ (text ++ trace ≡ text' ++ trace'))
    → WasFull old new ⊎ (WasFull old new' ⊎ IsSameEnd exit exit' new new')
plays_alike exit exit' old new new' text text' trace trace' is is' out out' (inl full) = inl (text ++ trace, out, full_before trace text full)
plays_alike exit exit' old new new' text text' trace trace' is is' out out' (inr (inl full)) = inr (inl (text' ++ trace', out', full_before trace' text' full))
plays_alike exit exit' old new new' text text' trace trace' is is' out out' (inr (inr same)) =
    inr (inr (whole_end exit exit' new new' is is' (out ∙ ap (λ t. old ++ t) same ∙ sym out')))

module _ (means : (bytes : List ℕ) → MeansOne bytes) (scripts : ScriptLaw) (law : CouplingsLaw AnyState) (bytes : List ℕ) (exit exit' : Exit) (old new new' : List ℕ)
    (is : exit ≡ exit_of_rest (Ok tt)) (is' : exit' ≡ exit_of_rest (Ok tt)) (until : ℕ) (way : Cancel) where
  -- a text is the script of one list of commands
  commands_one : (script : List ℕ) (n m : Contents AnyModel) → IsMeaning bytes n → AreOne n m → (commands commands' : List Command) → IsScript n.names script commands → IsScript m.names script commands'
      → commands' ≡ commands
  commands_one script n m of_n one commands commands' says says' =
      let whole = (means bytes).whole n of_n in
      (scripts n.names (record { flat = whole.names; distinct = whole.distinct })).script script commands' commands
      (subst (λ names. IsScript names script commands') one.same.names says') says

  played_ends : (script : List ℕ) → IsScripted bytes script until way (Ok tt) (Some old) (Some new) → IsScripted bytes script until way (Ok tt) (Some old) (Some new')
      → WasFull old new ⊎ (WasFull old new' ⊎ IsSameEnd exit exit' new new')
  played_ends script (n, of_n, (commands, says, (p, mid, done, traced))) (m, of_m, (commands', says', (q, mid', done', traced'))) =
      let one = are_one means law bytes n m of_n of_m in
      let same = commands_one script n m of_n one commands commands' says says' in
      let played' = subst (λ cs. ArePlayed any_meaning cs (first m way until) done'.text q) same done'.played in
      plays_alike exit exit' old new new' done.text done'.text (committed_text p.executive) (committed_text q.executive) is is'
      (played_out old new mid done.text (committed_text p.executive) done.written traced) (played_out old new' mid' done'.text (committed_text q.executive) done'.written traced')
      (play_one n m one law until way commands p q done.text done'.text done.played played')

  scripted_ends : (script : List ℕ) → IsScriptedBy bytes until way (Ok tt) (Some script) (Some old) (Some new) → IsScriptedBy bytes until way (Ok tt) (Some script) (Some old) (Some new')
      → WasFull old new ⊎ (WasFull old new' ⊎ IsSameEnd exit exit' new new')
  scripted_ends script (inl refused) done' = absurd refused.0
  scripted_ends script (inr (n, of_n, inl unread)) done' = absurd unread.0
  scripted_ends script (inr (n, of_n, inr done)) (inl refused) = absurd refused.0
  scripted_ends script (inr (n, of_n, inr done)) (inr (m, of_m, inl unread)) = absurd unread.0
  scripted_ends script (inr (n, of_n, inr done)) (inr (m, of_m, inr done')) = played_ends script done done'

  seeded_ends : (seed steps : ℕ) → IsSeeded bytes seed steps until way (Ok tt) (Some old) (Some new) → IsSeeded bytes seed steps until way (Ok tt) (Some old) (Some new')
      → WasFull old new ⊎ (WasFull old new' ⊎ IsSameEnd exit exit' new new')
  seeded_ends seed steps (n, of_n, (p, mid, done, traced)) (m, of_m, (q, mid', done', traced')) =
      let one = are_one means law bytes n m of_n of_m in
      plays_alike exit exit' old new new' done.text done'.text (committed_text p.executive) (committed_text q.executive) is is'
      (played_out old new mid done.text (committed_text p.executive) done.written traced) (played_out old new' mid' done'.text (committed_text q.executive) done'.written traced')
      (draw_one n m one law until way (seeded seed) steps p q done.text done'.text done.played done'.played)

  play_ends : (driver : Driver) (script : List ℕ) → IsPlay driver until way (Ok tt) bytes (Some script) (Some old) (Some new) → IsPlay driver until way (Ok tt) bytes (Some script) (Some old) (Some new')
      → WasFull old new ⊎ (WasFull old new' ⊎ IsSameEnd exit exit' new new')
  play_ends (Script path) script done done' = scripted_ends script done done'
  play_ends (Seed seed steps) script done done' = seeded_ends seed steps done done'

-- ---- every job

run_fails : (why : Failed) → exit_of_run (Err why) ≡ exit_of why
run_fails why = refl

view_fails : (why : Failed) → exit_of_view (Err why) ≡ exit_of why
view_fails why = refl

rest_fails : (why : Failed) → exit_of_rest (Err why) ≡ exit_of why
rest_fails why = refl

module _ (means : (bytes : List ℕ) → MeansOne bytes) (scripts : ScriptLaw) (law : CouplingsLaw AnyState) where
  pub one_text : (job : Job) → HasOneText job
  one_text Demo bytes script old new new' exit exit' done done' whole whole' =
      let e = end_of exit_of_run run_fails (λ end. IsDemo end (Some old) (Some new)) exit done whole in
      let f = end_of exit_of_run run_fails (λ end. IsDemo end (Some old) (Some new')) exit' done' whole' in
      demo_ends means law bytes exit exit' old new new' e.0 f.0 e.1 f.1 e.2 f.2
  one_text (Check net strict) bytes script old new new' exit exit' done done' whole whole' =
      let e = end_of exit_of_rest rest_fails (λ end. IsCheck bytes strict end (Some old) (Some new)) exit done whole in
      let f = end_of exit_of_rest rest_fails (λ end. IsCheck bytes strict end (Some old) (Some new')) exit' done' whole' in
      check_ends means law bytes exit exit' old new new' strict e.0 f.0 e.1 f.1 e.2 f.2
  one_text (Dot net) bytes script old new new' exit exit' done done' whole whole' = tt
  one_text (Simulate net until (Seq progress)) bytes script old new new' exit exit' done done' whole whole' =
      let e = end_of exit_of_run run_fails (λ end. IsRun bytes until end (Some old) (Some new)) exit done whole in
      let f = end_of exit_of_run run_fails (λ end. IsRun bytes until end (Some old) (Some new')) exit' done' whole' in
      run_ends means law bytes exit exit' old new new' until e.0 f.0 e.1 f.1 e.2 f.2
  one_text (Simulate net until (Stats from only json progress by)) bytes script old new new' exit exit' done done' whole whole' =
      let it : Summed = record { only = option_map (λ o. o.now) only; from = from; until = until; json = json } in
      let e = end_of exit_of_view view_fails (λ end. IsSummedBy by bytes it end (Some old) (Some new)) exit done whole in
      let f = end_of exit_of_view view_fails (λ end. IsSummedBy by bytes it end (Some old) (Some new')) exit' done' whole' in
      summed_ends means law bytes exit exit' old new new' by it e.0 f.0 e.1 f.1 e.2 f.2
  one_text (Simulate net until (Table from only tabled progress by)) bytes script old new new' exit exit' done done' whole whole' =
      let shown = option_map (λ o. o.now) only in
      let it : Tabulated = record { only = shown; from = from; until = until; of = tabled } in
      let e = end_of exit_of_view view_fails (λ end. IsTabulatedBy by bytes it end (Some old) (Some new)) exit done whole in
      let f = end_of exit_of_view view_fails (λ end. IsTabulatedBy by bytes it end (Some old) (Some new')) exit' done' whole' in
      tabled_ends means law bytes exit exit' old new new' by shown from until tabled e.0 f.0 e.1 f.1 e.2 f.2
  one_text (Simulate net until (Draw picture)) bytes script old new new' exit exit' done done' whole whole' = tt
  one_text (Simulate net until (Run cancel setting)) bytes script old new new' exit exit' done done' whole whole' =
      let e = end_of exit_of_run run_fails (λ end. IsRunByWorkers bytes cancel until end (Some old) (Some new)) exit done whole in
      let f = end_of exit_of_run run_fails (λ end. IsRunByWorkers bytes cancel until end (Some old) (Some new')) exit' done' whole' in
      worked_ends means law bytes exit exit' old new new' cancel until e.0 f.0 e.1 f.1 e.2 f.2
  one_text (Simulate net until (Play cancel driver)) bytes script old new new' exit exit' done done' whole whole' =
      let e = end_of exit_of_rest rest_fails (λ end. IsPlay driver until cancel end bytes (Some script) (Some old) (Some new)) exit done whole in
      let f = end_of exit_of_rest rest_fails (λ end. IsPlay driver until cancel end bytes (Some script) (Some old) (Some new')) exit' done' whole' in
      play_ends means scripts law bytes exit exit' old new new' e.1 f.1 until cancel driver script e.2 f.2
