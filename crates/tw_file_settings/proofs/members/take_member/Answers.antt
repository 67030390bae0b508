use Rattle.std.proofs.Common.{◌∙◌, rules, sym}
use Rattle.serde_json.specs.Find.{get}
use Rattle.serde_json.specs.View.{view}
use Rattle.serde_json.specs.declared.value.Value.{the_lemmas}
use Rattle.tw_file_settings.proofs.Objects.{is_left, there, was_member}
use Rattle.tw_file_settings.proofs.members.take_member.Goals as goal

pub returns-clause-found : goal.returns-clause-found
returns-clause-found c =
    was_member c.in-Some.members.now c.in_ok-from_str.field-0 c.args.name.now (view c.args.value.now) c.in_ok-insert.field-0
    (search rules) (search rules) c.in_ok-insert.ensures.old

pub returns-clause-left : goal.returns-clause-left
returns-clause-left c = λ some.
    is_left c.in-Some.members.now c.insert.new.self c.in_ok-from_str.field-0 c.args.name.now (view c.args.value.now) _ _
    (search rules) (search (rules, the_lemmas)) (search rules) c.in_ok-insert.ensures.entries

pub returns-clause-stays : goal.returns-clause-stays
returns-clause-stays c = λ none.
    let found = was_member c.in-Some.members.now c.in_ok-from_str.field-0 c.args.name.now (view c.args.value.now) c.in_ok-insert.field-0
    (search rules) (search rules) c.in_ok-insert.ensures.old in
    absurd (there c.get.result (get c.args.name.now (view c.args.value.now)) c.get.ensures (search rules) (sym found ∙ none))
