-- From the text that is written to what it says of the bytes of the file.
use Rattle.std.proofs.Common.{◌≡◌, ◌≤◌, ◌++◌, ◌∙◌, ℕ, List, [], length, refl, sym, ap, subst, append_assoc, arith, inl, inr}
use Rattle.std.specs.Arc.{arc_value}
use Rattle.std.specs.Prelude.{◌⊎◌, Option, None, Ok, Err}
use Rattle.std.proofs.lemmas.Option.{slice_get_past}
use Rattle.tw_msgs.specs.declared.record.Record.{Record}
use Rattle.tw_any_model.specs.declared.any_model.AnyModel.{AnyModel}
use Rattle.tw_any_model.specs.AnyModel.{any_meaning}
use Rattle.tw_any_model.specs.declared.any_model.AnyState.{AnyState}
use Rattle.tw_exec.specs.Running.{Running, start}
use Rattle.tw_theory.specs.Contents.{Cancel, Aggressive}
use Rattle.tw_vtime.specs.declared.refusal.Refusal.{Refusal}
use Rattle.tw_vtime.specs.declared.refusal.Refusal.TheVariants as refusal
use Rattle.tw_workers.specs.Runs.{CanBeFull}
use Rattle.tw_engine.proofs.Driven.{keeps_all}
use Rattle.tw_network.specs.Contents.{Contents, network_of}
use Rattle.tw_theory.specs.Transitions.{output, moved, transition}
use Rattle.tw_theory.specs.Simulator.{sequential, rounds, round}
use Rattle.tw_file_network.specs.TreeMeaning.{IsMeaning}
use Rattle.tw_texts.specs.Refusals.{not_written_refusal}
use Rattle.tw_texts.specs.Texts.{trace_text}
use Rattle.tw_texts.specs.Traces.{AppendsBeginning}
use Rattle.tw_texts.specs.declared.traces.NotWritten.{NotWritten}
use Rattle.tw_texts.specs.declared.traces.NotWritten.TheVariants.{OutOfMemory, WriteFailed}
use Rattle.tw_engine.specs.Ends.{Fault, RunEnd, failed_of}
use Rattle.tw_engine.specs.declared.failed.Failed.{Failed}
use Rattle.tw_engine.specs.declared.failed.Failed.TheVariants.{Bad, Want, NoWrite}
use Rattle.tw_engine.specs.declared.job_run.Made.{Made}
use Rattle.tw_engine.specs.Runs.{HasNoNetwork, IsDemo, IsMadeInOrder, IsRun, IsRunByWorkers, IsShown, IsUnmade, IsWhole, IsWorked, demo_network, fault_text, name_in, text_or_nothing, run_fault}

pub no_name : (names : List (List ℕ)) (component : ℕ) → length names ≤ component → [] ≡ name_in names component
no_name names component past = sym (ap text_or_nothing (slice_get_past names component past))

-- a beginning of a text is one of a longer text
pub beginning_of_more : (old new : Option (List ℕ)) (text more : List ℕ) → AppendsBeginning old new text → AppendsBeginning old new (text ++ more)
beginning_of_more old new text more b = (
  b.0,
  b.1 ++ more,
  b.2,
  sym (append_assoc b.0 b.1 more) ∙ ap (λ l. l ++ more) b.3,
)

-- a text that is not written to its end
pub text_short : (n : Contents AnyModel) (records : List Record) (fault : Option Fault) (why : NotWritten) (old new : Option (List ℕ))
    → (why ≡ OutOfMemory → AppendsBeginning old new (trace_text (name_in n.names) records)) → IsShown n records fault (Err (failed_of (not_written_refusal why))) old new
text_short n records fault OutOfMemory old new begun = (refl, inr (beginning_of_more old new (trace_text (name_in n.names) records) (fault_text n.names fault) (begun refl)))
text_short n records fault WriteFailed old new begun = tt

run_of_shown : (bytes : List ℕ) (until : ℕ) (n : Contents AnyModel) (end : RunEnd) (old new : Option (List ℕ)) → IsMeaning bytes n
    → IsShown n (sequential (network_of any_meaning n) until).records (run_fault n until) end old new → IsRun bytes until end old new
run_of_shown bytes until n (Ok fault) old new means shown = (n, means, shown)
run_of_shown bytes until n (Err (Bad why line)) old new means shown = absurd shown
run_of_shown bytes until n (Err (Want why)) old new means (is, inl keeps) = (is, inl keeps)
run_of_shown bytes until n (Err (Want why)) old new means (is, inr begun) = (is, inr (n, means, begun))
run_of_shown bytes until n (Err NoWrite) old new means shown = shown

-- the demonstration meets no limit
demo_no_fault : run_fault demo_network 5 ≡ None
unfolding sequential rounds round output moved transition
demo_no_fault = refl

demo_of_shown : (end : RunEnd) (old new : Option (List ℕ))
    → IsShown demo_network (sequential (network_of any_meaning demo_network) 5).records (run_fault demo_network 5) end old new → IsDemo end old new
demo_of_shown (Ok fault) old new shown = (shown.0 ∙ demo_no_fault, shown.1)
demo_of_shown (Err (Bad why line)) old new shown = shown
demo_of_shown (Err (Want why)) old new shown = inl shown
demo_of_shown (Err NoWrite) old new shown = shown

-- what a run in order writes of a file's network
pub run_of_ordered : (bytes : List ℕ) (until : ℕ) (n : Contents AnyModel) (end : RunEnd) (old new : Option (List ℕ)) → IsMeaning bytes n
    → IsMadeInOrder n until end old new → IsRun bytes until end old new
run_of_ordered bytes until n end old new means (inl shown) = run_of_shown bytes until n end old new means shown
run_of_ordered bytes until n (Ok fault) old new means (inr late) = absurd late.0
run_of_ordered bytes until n (Err why) old new means (inr late) =
    subst (λ w. IsRun bytes until (Err w) old new) (sym late.0.0) (late.1, refl, inl (refl, late.0.1))

-- what workers write of it
pub run_of_worked : (bytes : List ℕ) (way : Cancel) (until : ℕ) (n : Contents AnyModel) (end : RunEnd) (old new : Option (List ℕ)) → IsMeaning bytes n
    → IsWorked (start any_meaning n way until) end old new → IsRunByWorkers bytes way until end old new
run_of_worked bytes way until n end old new means (inl ordered) = inl (run_of_ordered bytes until n end old new means ordered)
run_of_worked bytes way until n end old new means (inr full) = inr (n, means, full)

-- workers who give up for memory or for nodes make no run
pub given_up : (n : Contents AnyModel) (way : Cancel) (until : ℕ) (e : Running AnyModel AnyState) (why : Refusal) → e ≡ start any_meaning n way until
    → (why ≡ refusal.OutOfMemory) ⊎ (why ≡ refusal.Full) → (why ≡ refusal.Full → CanBeFull any_meaning e) → IsUnmade n way until (Want why)
given_up n way until e why is (inl memory) full = inl (inl (ap (λ w. Want w) memory))
given_up n way until e why is (inr nodes) full = inr (ap (λ w. Want w) nodes, subst (λ r. CanBeFull any_meaning r) is (full nodes))

-- where they made none, nothing is written
pub unmade : (n : Contents AnyModel) (way : Cancel) (until : ℕ) (why : Failed) (old : Option (List ℕ)) → IsUnmade n way until why → IsWorked (start any_meaning n way until) (Err why) old old
unmade n way until why old (inl (inl want)) = inl (inl (subst (λ w. IsShown n (sequential (network_of any_meaning n) until).records (run_fault n until) (Err w) old old) (sym want) (refl, inl (keeps_all old))))
unmade n way until why old (inl (inr late)) = inl (inr (late, keeps_all old))
unmade n way until why old (inr full) = inr (full, keeps_all old)

-- what is written of a run that they made
pub worked_whole : (n : Contents AnyModel) (way : Cancel) (until : ℕ) (made : Made) (end : RunEnd) (old new : Option (List ℕ)) → arc_value made.network ≡ n → IsWhole until made
    → IsShown (arc_value made.network) made.records.items made.fault end old new → IsWorked (start any_meaning n way until) end old new
worked_whole n way until made end old new is whole shown =
    inl (inl (subst (λ (m : Contents AnyModel). IsShown m (sequential (network_of any_meaning m) until).records (run_fault m until) end old new) is
    (subst (λ (rs : List Record). IsShown (arc_value made.network) rs (run_fault (arc_value made.network) until) end old new) whole.records
    (subst (λ (f : Option Fault). IsShown (arc_value made.network) made.records.items f end old new) whole.fault shown))))

-- what they write of the demonstration
pub demo_of_worked : (n : Contents AnyModel) (end : RunEnd) (old new : Option (List ℕ)) → n ≡ demo_network → IsWorked (start any_meaning n Aggressive 5) end old new → IsDemo end old new
demo_of_worked n end old new is (inl ordered) = demo_of end (subst (λ (m : Contents AnyModel). IsMadeInOrder m 5 end old new) is ordered)
  where
    demo_of : (e : RunEnd) → IsMadeInOrder demo_network 5 e old new → IsDemo e old new
    demo_of e (inl shown) = demo_of_shown e old new shown
    demo_of (Ok fault) (inr late) = absurd late.0
    demo_of (Err why) (inr late) = let after = late.0.1 in absurd (omega (arith, after))
demo_of_worked n (Ok fault) old new is (inr full) = absurd full.0
demo_of_worked n (Err why) old new is (inr full) = subst (λ w. IsDemo (Err w) old new) (sym full.0.0) (inr (refl, full.1))

-- there is no network to run
pub no_run : (bytes : List ℕ) (until : ℕ) (why : Failed) (old : Option (List ℕ)) → HasNoNetwork bytes why → IsRun bytes until (Err why) old old
no_run bytes until why old (inl want) = subst (λ w. IsRun bytes until (Err w) old old) (sym want) (refl, inl (keeps_all old))
no_run bytes until why old (inr (fault, is, bad)) = subst (λ w. IsRun bytes until (Err w) old old) (sym bad) (keeps_all old, refl, inr (fault, is, refl))
