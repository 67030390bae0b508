-- A component's name is the text that is read.
use Rattle.std.proofs.Common.{◌≡◌, ◌++◌, ℕ, List, string_bytes, subst}
use Rattle.std.specs.Fmt.{decimal}
use Rattle.std.specs.Prelude.{IfOk, codes}
use Rattle.tw_file_warnings.proofs.places.component_place.Goals as goal

pub returns : goal.returns
returns c =
    subst (λ (name : List ℕ). IfOk c.format.result (λ t. string_bytes t
    ≡ c.args.path.now ++ (codes "components[" ++ (decimal c.args.index ++ (codes "] \"" ++ (c.args.prefix.now ++ (name ++ codes "\"")))))))
    c.text_in-name.ensures c.format.ensures.ok
