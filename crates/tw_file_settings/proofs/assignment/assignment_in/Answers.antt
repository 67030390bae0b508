use Rattle.std.proofs.Common.{◌≡◌, rules, subst, sym}
use Rattle.std.specs.List.{after_first}
use Rattle.serde_json.specs.View.{number_view}
use Rattle.tw_file_settings.specs.Texts.{IsWhole, is_equals}
use Rattle.tw_file_settings.proofs.assignment.assignment_in.Goals as goal

pub returns-in_err-number-clause-none : goal.returns-in_err-number-clause-none
returns-in_err-number-clause-none c = rw c.from_residual-in_err-number.ensures (λ a is.
    let behind : c.in_ok-target.value.now ≡ after_first is_equals c.args.text.now = search rules in
    c.in_err-number.ensures.none (number_view a.number) (subst (λ t. IsWhole t (number_view a.number)) (sym behind) is.3))
