-- Before the first component nothing is there.
use Rattle.std.proofs.Common.{◌∙◌, ◌++◌, Bor, List, ap, map}
use Rattle.serde_json.specs.View.{view}
use Rattle.serde_json.specs.declared.value.Value.{Value}
use Rattle.tw_figure_names.specs.Said.{atoms_of, atoms_within}
use Rattle.tw_figure_names.proofs.atoms.atoms_of.Goals as goal

pub returns : goal.returns
unfolding atoms_of
returns c =
    c.in_ok-add_within.ensures
    ∙ ap (λ (before : List (Bor Value)). map (λ a. view a.now) before ++ atoms_within 64 (view c.args.file.now)) c.new-atoms.ensures.items
