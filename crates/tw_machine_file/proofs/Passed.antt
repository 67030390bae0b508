-- What ends the reading of a list, the first fault is that of the whole; and how long lists are as they are seen.
use Rattle.std.proofs.Common.{◌≡◌, ◌≢◌, ◌∷◌, ◌+◌, ◌<◌, ◌∙◌, ℕ, suc, List, arith, drop, drop-cons, length, slice_index_or, subst, sym}
use Rattle.std.proofs.lemmas.List.{length-map}
use Rattle.serde_json.proofs.Views.{items_len-items_view}
use Rattle.serde_json.specs.Events.{items_len}
use Rattle.serde_json.specs.View.{items_view}
use Rattle.serde_json.specs.declared.value.Value.{Value}
use Rattle.tw_machine_text.specs.Views.{body}
use Rattle.tw_machine_declaration.specs.Seen.{name}
use Rattle.tw_machine_file.specs.Seen.{scope}
use Rattle.tw_machine_file.specs.TimedViews.{timer_texts}
use Rattle.tw_machine_file.specs.declared.declarations.Scope as rust_scope
use Rattle.tw_machine_file.specs.declared.timed.TimerTexts as rust_texts
use Rattle.std.specs.Prelude.{Result, Err}
use Rattle.std.specs.Result.{IsErrAnd}
use Rattle.std.proofs.lemmas.Result.{err_from_is_err_and}
use Rattle.tw_machine_file.specs.Answers.{FailsBy}
use Rattle.tw_machine_file.specs.Fault.{Fault, fault}
use Rattle.tw_machine_file.specs.declared.fault.MachineFault.{MachineFault}
use Rattle.tw_machine_file.specs.declared.fault.MachineFault.TheVariants.{OutOfMemory}

-- what is to come begins with the next
pub drop_at : {A : Type 0} (xs : List A) (i : ℕ) (x : A) → i < length xs → x ≡ slice_index_or xs i x → drop i xs ≡ x ∷ drop (i + 1) xs
drop_at xs i x lt is =
    let next : suc i ≡ i + 1 = omega arith in
    drop-cons xs i x lt ∙ (λ j. sym is j ∷ drop (next j) xs)

-- what `?` passes on
pub fails_on : {A B : Type 0} (r : Result A MachineFault) (e : MachineFault) (said : Result B Fault) → IsErrAnd r (λ y. y ≡ e) → (e ≢ OutOfMemory → said ≡ Err (fault e)) → FailsBy r said
fails_on {A} r e said is so =
    let p = err_from_is_err_and r is in
    subst (λ (r : Result A MachineFault). FailsBy r said) (sym p.1) (subst (λ y. y ≢ OutOfMemory → said ≡ Err (fault y)) (sym p.2) so)

pub many_values : (values : List Value) → items_len (items_view values) ≡ length values
many_values values = items_len-items_view values

pub many_names : (s : rust_scope.Scope) → length (scope s).names ≡ length s.names.items
many_names s = length-map s.names.items name

pub many_programs : (ts : rust_texts.TimerTexts) → length (timer_texts ts).programs ≡ length ts.programs.items
many_programs ts = length-map ts.programs.items body
