use Rattle.std.proofs.Common.{◌≢◌, ◌∙◌, ◌≤◌, ◌<◌, ap, sym, map, ℕ, subst}
use Rattle.std.proofs.lemmas.List.{length-map}
use Rattle.std.specs.Prelude.{Result, Ok, Err}
use Rattle.std.specs.Result.{IfErr}
use Rattle.tw_nested.specs.Tree.{parts_of}
use Rattle.tw_file_network.specs.Draft.{input_view, inputs_view}
use Rattle.tw_file_network.specs.Numbers.{number_of, numbered_input}
use Rattle.tw_file_network.specs.TreeDraft.{tree_view}
use Rattle.tw_file_network.specs.TreeMeaning.{IsTreeFileFault, in_parameter}
use Rattle.tw_file_network.specs.declared.refused.FileRefused.{FileRefused}
use Rattle.tw_file_network.specs.declared.refused.FileRefused.TheVariants.{OutOfMemory}
use Rattle.tw_file_network.proofs.PartsInOrder.{passed_on}
use Rattle.tw_file_network.proofs.TreeOfFile.{many_inputs, no_names, refused}
use Rattle.tw_file_network.proofs.trees.network_of_tree.Goals as goal

pub returns-in_err-root-clause-err : goal.returns-in_err-root-clause-err
returns-in_err-root-clause-err c =
    passed_on c.from_residual.result c.in_err-root.field-0.0 (IsTreeFileFault (tree_view c.args.tree.now)) c.from_residual.ensures.1
    (λ other. in_parameter c.in_err-root.field-0.0 (c.in_err-root.ensures.err other))

pub returns-then-len-gt-MAX_INPUTS-clause-err : goal.returns-then-len-gt-MAX_INPUTS-clause-err
returns-then-len-gt-MAX_INPUTS-clause-err c = λ _.
    many_inputs (tree_view c.args.tree.now) (parts_of c.in_ok-root.root.parts.items) c.in_ok-root.root.couplings.items c.in_ok-root.ensures.ok c.in_ok-root.ensures.couplings
    (subst (λ (n : ℕ). 65536 < n) (c.len.ensures ∙ c.args.tree.now.inputs.ok.0 ∙ sym (length-map c.args.tree.now.inputs.items input_view)) c.if-len-gt-MAX_INPUTS.true)

pub returns-in_err-named-clause-err : goal.returns-in_err-named-clause-err
returns-in_err-named-clause-err c =
    passed_on c.from_residual-in_err-named.result c.in_err-named.field-0.0 (IsTreeFileFault (tree_view c.args.tree.now)) c.from_residual-in_err-named.ensures.1
    (λ other. no_names (tree_view c.args.tree.now) (parts_of c.in_ok-root.root.parts.items) c.in_ok-root.root.couplings.items c.in_ok-root.ensures.ok c.in_ok-root.ensures.couplings
    (subst (λ (n : ℕ). n ≤ 65536) (c.len.ensures ∙ c.args.tree.now.inputs.ok.0 ∙ sym (length-map c.args.tree.now.inputs.items input_view)) c.if-len-gt-MAX_INPUTS.false)
    c.new.result.items c.new.ensures.items c.in_err-named.field-0.0 (c.in_err-named.ensures.err other))

if_err : {A : Type 0} (r : Result A FileRefused) (P Q : FileRefused → Type 0) → ((e : FileRefused) → P e → Q e) → IfErr r (λ e. e ≢ OutOfMemory → P e) → IfErr r (λ e. e ≢ OutOfMemory → Q e)
if_err (Ok x) P Q f at = tt
if_err (Err e) P Q f at = λ other. f e (at other)

pub returns-clause-err : goal.returns-clause-err
returns-clause-err c =
    if_err c.nested-2.result _ (IsTreeFileFault (tree_view c.args.tree.now))
    (refused (tree_view c.args.tree.now) (parts_of c.in_ok-root-2.root.parts.items) c.in_ok-root-2.root.couplings.items c.in_ok-root-2.ensures.ok c.in_ok-root-2.ensures.couplings
    (parts_of c.in_ok-root.root.parts.items) c.in_ok-root.ensures.ok c.in_ok-named.named.names c.in_ok-named.ensures.ok.names c.in_ok-inputs.inputs.items
    (c.in_ok-inputs.ensures ∙ ap (λ drafts. map (numbered_input (number_of c.in_ok-named.named.names)) (inputs_view drafts)) c.as_slice.ensures.value))
    c.nested-2.ensures.err
