use Rattle.std.proofs.Common.{List, map, ap, refl, subst, sym, ◌∙◌}
use Rattle.tw_machine_text.specs.declared.words.Word.{Word}
use Rattle.std.proofs.lemmas.List.{length-map}
use Rattle.tw_machine_text.specs.Timers.{may_stand}
use Rattle.tw_machine_text.specs.Tree.{Means}
use Rattle.tw_machine_text.specs.TextViews.{names_of}
use Rattle.tw_machine_text.specs.Views.{body}
use Rattle.tw_machine_text.proofs.Readings.{all_words, read_words, read_only, complete_words, stands, not_both, none_some_words}
use Rattle.tw_machine_text.proofs.read.read.Goals as goal
use Rattle.tw_machine_text.proofs.read.read.Goals.{else-words-via-then-words+else-may_stand, else-words-via-else-words}

pub returns-then-may_stand-clause-found : goal.returns-then-may_stand-clause-found
returns-then-may_stand-clause-found c =
    read_words (names_of c.args.names.declared.now) c.args.names.timing c.args.names.kinds.now (map body c.args.procedures.now) c.args.text.now 64 c.args.many c.in-Ok.words.words.items (body c.in-Ok-parse.written) c.desugared.result
    (all_words (names_of c.args.names.declared.now) c.args.text.now c.in-Ok.words.complete c.in-Ok.words.words.items c.if-words.true c.in-Ok.ensures)
    (subst (λ (ws : List Word). Means 65 8192 ws (body c.in-Ok-parse.written)) c.deref.ensures.value c.in-Ok-parse.ensures.found)
    (ap (λ n. may_stand c.args.names.timing c.args.names.kinds.now n (body c.in-Ok-parse.written)) (length-map c.args.procedures.now body) ∙ sym c.may_stand.ensures ∙ c.if-may_stand.true)
    c.desugared.ensures

pub returns-then-may_stand-clause-only : goal.returns-then-may_stand-clause-only
returns-then-may_stand-clause-only c program h =
    let r = stands (names_of c.args.names.declared.now) c.args.names.timing c.args.names.kinds.now (map body c.args.procedures.now) c.args.text.now 64 c.args.many c.in-Ok.words.complete c.in-Ok.words.words.items program (body c.in-Ok-parse.written) c.in-Ok.ensures h
    (λ m. c.in-Ok-parse.ensures.only h.written (subst (λ (ws : List Word). Means 65 8192 ws h.written) (sym c.deref.ensures.value) m)) in
    read_only (names_of c.args.names.declared.now) c.args.names.timing c.args.names.kinds.now (map body c.args.procedures.now) c.args.text.now 64 c.args.many program (body c.in-Ok-parse.written) c.desugared.result h r.same c.desugared.ensures

pub returns-in-Ok-parse-clause-only : goal.returns-in-Ok-parse-clause-only
returns-in-Ok-parse-clause-only c program h =
    let r = stands (names_of c.args.names.declared.now) c.args.names.timing c.args.names.kinds.now (map body c.args.procedures.now) c.args.text.now 64 c.args.many c.in-Ok.words.complete c.in-Ok.words.words.items program (body c.in-Ok-parse.written) c.in-Ok.ensures h
    (λ m. c.in-Ok-parse.ensures.only h.written (subst (λ (ws : List Word). Means 65 8192 ws h.written) (sym c.deref.ensures.value) m)) in
    absurd (elim c.else-words.branch [
      | else-words-via-then-words+else-may_stand w ↦ not_both _ r.stands (ap (λ n. may_stand c.args.names.timing c.args.names.kinds.now n (body c.in-Ok-parse.written)) (length-map c.args.procedures.now body) ∙ sym w.may_stand.ensures ∙ w.if-may_stand.false)
      | else-words-via-else-words w ↦ not_both _ r.whole w.if-words.false
    ])

pub returns-clause-only : goal.returns-clause-only
returns-clause-only c program h =
    let only = rw c.in-Err-Wrong.field-0-is at c.in-Err-Wrong.ensures.only in
    absurd (none_some_words (only h.written
    (subst (λ (ws : List Word). Means 65 8192 ws h.written) (sym c.deref.ensures.value) (complete_words (names_of c.args.names.declared.now) c.args.names.timing c.args.names.kinds.now (map body c.args.procedures.now) c.args.text.now 64 c.args.many c.in-Ok.words.complete c.in-Ok.words.words.items program c.in-Ok.ensures h).1)) refl)
