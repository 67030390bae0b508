use Rattle.std.proofs.Common.{◌≡◌, ◌∙◌, ap, false, map, rules, sym, true}
use Rattle.tw_file_settings.specs.Texts.{AreRead, has_twice, targets_of}
use Rattle.tw_file_settings.proofs.Reading.{same_targets}
use Rattle.tw_file_settings.proofs.assignment.assignments_in.Goals as goal

pub returns-then-has_twice-clause-none : goal.returns-then-has_twice-clause-none
returns-then-has_twice-clause-none c = λ given are.
    let read : AreRead (map (λ t. t.now) c.args.texts.now) c.in-Some.assignments.items = search rules in
    let same = same_targets (map (λ t. t.now) c.args.texts.now) c.in-Some.assignments.items given read are.0 in
    let twice : has_twice (targets_of c.in-Some.assignments.items) ≡ true = search rules in
    let bad : true ≡ false = sym twice ∙ ap has_twice same ∙ are.1 in cc
