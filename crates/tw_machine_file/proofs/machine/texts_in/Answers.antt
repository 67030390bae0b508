use Rattle.std.proofs.Common.{◌∙◌, ap, map, refl, subst, sym}
use Rattle.std.specs.Prelude.{None}
use Rattle.serde_json.specs.View.{view}
use Rattle.tw_machine_text.specs.TextViews.{declarations}
use Rattle.tw_machine_declaration.specs.Seen.{name}
use Rattle.tw_machine_declaration.specs.TimedViews.{named}
use Rattle.tw_machine_file.specs.Answers.{FailsBy, Gives}
use Rattle.tw_machine_file.specs.Machine.{declared, texts_by, texts_of}
use Rattle.tw_machine_file.specs.Seen.{scope, texts as seen_texts}
use Rattle.tw_machine_file.specs.Shared.{file_field}
use Rattle.tw_machine_file.specs.Timed.{language_with, timed_texts}
use Rattle.tw_machine_file.proofs.Languages.{same_language}
use Rattle.tw_machine_file.proofs.machine.texts_in.Goals as goal

pub returns-then-all-clause-ok : goal.returns-then-all-clause-ok
returns-then-all-clause-ok c =
    let s = scope c.args.all.now in
    let fields = map file_field c.args.fields.now in
    let v = view c.args.value.now in
    let n = named c.timer_names.result in
    let names = ap declarations c.deref-then-all.ensures.value ∙ c.in_ok-declared.ensures ∙ ap (λ ns. declared fields (map name ns)) c.deref.ensures.value in
    let same = ap (λ ds. timed_texts (language_with ds n) n v) names ∙ ap (λ n. timed_texts (language_with (declared fields s.names) n) n v) c.timer_names.ensures ∙ ap (λ b. texts_by b fields s v) (sym c.if-all.true) in
    subst (λ said. Gives c.timed_texts.result seen_texts said) same c.timed_texts.ensures.ok

pub returns-then-all-clause-err : goal.returns-then-all-clause-err
returns-then-all-clause-err c =
    let s = scope c.args.all.now in
    let fields = map file_field c.args.fields.now in
    let v = view c.args.value.now in
    let n = named c.timer_names.result in
    let names = ap declarations c.deref-then-all.ensures.value ∙ c.in_ok-declared.ensures ∙ ap (λ ns. declared fields (map name ns)) c.deref.ensures.value in
    let same = ap (λ ds. timed_texts (language_with ds n) n v) names ∙ ap (λ n. timed_texts (language_with (declared fields s.names) n) n v) c.timer_names.ensures ∙ ap (λ b. texts_by b fields s v) (sym c.if-all.true) in
    subst (λ said. FailsBy c.timed_texts.result said) same c.timed_texts.ensures.err

pub returns-clause-ok : goal.returns-clause-ok
returns-clause-ok c =
    let s = scope c.args.all.now in
    let fields = map file_field c.args.fields.now in
    let v = view c.args.value.now in
    let names = ap declarations c.deref-else-all.ensures.value ∙ c.in_ok-declared.ensures ∙ ap (λ ns. declared fields (map name ns)) c.deref.ensures.value in
    let same = ap (texts_of v) (same_language (record { declared = c.deref-else-all.result; timing = None }) fields s.names names refl) ∙ ap (λ b. texts_by b fields s v) (sym c.if-all.false) in
    subst (λ said. Gives c.texts_of.result seen_texts said) same c.texts_of.ensures.ok

pub returns-clause-err : goal.returns-clause-err
returns-clause-err c =
    let s = scope c.args.all.now in
    let fields = map file_field c.args.fields.now in
    let v = view c.args.value.now in
    let names = ap declarations c.deref-else-all.ensures.value ∙ c.in_ok-declared.ensures ∙ ap (λ ns. declared fields (map name ns)) c.deref.ensures.value in
    let same = ap (texts_of v) (same_language (record { declared = c.deref-else-all.result; timing = None }) fields s.names names refl) ∙ ap (λ b. texts_by b fields s v) (sym c.if-all.false) in
    subst (λ said. FailsBy c.texts_of.result said) same c.texts_of.ensures.err
