use Rattle.std.proofs.Common.{◌∷◌, List, false, None, Some, refl, subst, sym, ap, ◌∙◌}
use Rattle.tw_machine_text.specs.declared.words.Word.{Word}
use Rattle.tw_machine_text.specs.declared.words.Word.TheVariants as word
use Rattle.tw_machine_text.specs.Tree.{Means, Empty, Then, Wait}
use Rattle.tw_machine_text.specs.TextViews.{names_of}
use Rattle.tw_machine_text.specs.Views.{body, tree}
use Rattle.tw_machine_text.proofs.Readings.{tree_means, read_answer, tree_only, found_tree, stands_tree, none_some_words, not_both}
use Rattle.tw_machine_text.proofs.read.read_tree.Goals as goal
use Rattle.tw_machine_text.proofs.read.read_tree.Goals.{else-words-via-then-words+else-may_stand_as, else-words-via-else-words}

pub returns-then-may_stand_as-clause-found : goal.returns-then-may_stand_as-clause-found
returns-then-may_stand_as-clause-found c =
    read_answer (names_of c.args.names.declared.now) c.args.names.timing c.args.names.kinds.now c.args.text.now 64 c.args.many c.args.member c.in-Ok.words.complete c.in-Ok.words.words.items (body c.in-Ok-parse.program) (tree c.in-Some.e) c.desugared_tree.result c.if-words.true c.in-Ok.ensures
    (subst (λ (ws : List Word). Means 65 8193 ws (body c.in-Ok-parse.program)) (c.deref-2.ensures.value ∙ c.in-Ok-behind_wait.ensures ∙ ap (λ (z : List Word). word.Wait ∷ z) c.deref.ensures.value) c.in-Ok-parse.ensures.found)
    (sym c.in-Some.ensures)
    (sym c.may_stand_as.ensures ∙ c.if-may_stand_as.true)
    c.desugared_tree.ensures

pub returns-then-may_stand_as-clause-only : goal.returns-then-may_stand_as-clause-only
returns-then-may_stand_as-clause-only c e h =
    let m = tree_means (names_of c.args.names.declared.now) c.args.names.timing c.args.names.kinds.now c.args.text.now 64 c.args.many c.args.member c.in-Ok.words.complete c.in-Ok.words.words.items e c.in-Ok.ensures h in
    let same = found_tree (body c.in-Ok-parse.program) h.written (Some (tree c.in-Some.e)) (c.in-Ok-parse.ensures.only (Then Empty (Wait h.written) false) (subst (λ (ws : List Word). Means 65 8193 ws (Then Empty (Wait h.written) false)) (sym (c.deref-2.ensures.value ∙ c.in-Ok-behind_wait.ensures ∙ ap (λ (z : List Word). word.Wait ∷ z) c.deref.ensures.value)) m.1)) c.in-Some.ensures in
    tree_only (names_of c.args.names.declared.now) c.args.names.timing c.args.names.kinds.now c.args.text.now 64 c.args.many c.args.member e (tree c.in-Some.e) c.desugared_tree.result h same c.desugared_tree.ensures

pub returns-in-Some-clause-only : goal.returns-in-Some-clause-only
returns-in-Some-clause-only c e h =
    let m = tree_means (names_of c.args.names.declared.now) c.args.names.timing c.args.names.kinds.now c.args.text.now 64 c.args.many c.args.member c.in-Ok.words.complete c.in-Ok.words.words.items e c.in-Ok.ensures h in
    let same = found_tree (body c.in-Ok-parse.program) h.written (Some (tree c.in-Some.e)) (c.in-Ok-parse.ensures.only (Then Empty (Wait h.written) false) (subst (λ (ws : List Word). Means 65 8193 ws (Then Empty (Wait h.written) false)) (sym (c.deref-2.ensures.value ∙ c.in-Ok-behind_wait.ensures ∙ ap (λ (z : List Word). word.Wait ∷ z) c.deref.ensures.value)) m.1)) c.in-Some.ensures in
    absurd (elim c.else-words.branch [
      | else-words-via-then-words+else-may_stand_as w ↦ not_both _ (stands_tree c.args.names.timing c.args.member c.args.names.kinds.now h.written (tree c.in-Some.e) same h.stands) (sym w.may_stand_as.ensures ∙ w.if-may_stand_as.false)
      | else-words-via-else-words w ↦ not_both _ m.0 w.if-words.false
    ])

pub returns-in-Ok-parse-clause-only : goal.returns-in-Ok-parse-clause-only
returns-in-Ok-parse-clause-only c e h =
    let m = tree_means (names_of c.args.names.declared.now) c.args.names.timing c.args.names.kinds.now c.args.text.now 64 c.args.many c.args.member c.in-Ok.words.complete c.in-Ok.words.words.items e c.in-Ok.ensures h in
    absurd (none_some_words refl (sym (found_tree (body c.in-Ok-parse.program) h.written None (c.in-Ok-parse.ensures.only (Then Empty (Wait h.written) false) (subst (λ (ws : List Word). Means 65 8193 ws (Then Empty (Wait h.written) false)) (sym (c.deref-2.ensures.value ∙ c.in-Ok-behind_wait.ensures ∙ ap (λ (z : List Word). word.Wait ∷ z) c.deref.ensures.value)) m.1)) c.in-None.ensures)))

pub returns-clause-only : goal.returns-clause-only
returns-clause-only c e h =
    let m = tree_means (names_of c.args.names.declared.now) c.args.names.timing c.args.names.kinds.now c.args.text.now 64 c.args.many c.args.member c.in-Ok.words.complete c.in-Ok.words.words.items e c.in-Ok.ensures h in
    let only = rw c.in-Err-Wrong.field-0-is at c.in-Err-Wrong.ensures.only in
    absurd (none_some_words refl (sym (only (Then Empty (Wait h.written) false) (subst (λ (ws : List Word). Means 65 8193 ws (Then Empty (Wait h.written) false)) (sym (c.deref-2.ensures.value ∙ c.in-Ok-behind_wait.ensures ∙ ap (λ (z : List Word). word.Wait ∷ z) c.deref.ensures.value)) m.1))))
