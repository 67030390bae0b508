-- What is put behind the `else` of tests that draw.
use Rattle.std.proofs.Common.{◌≡◌, ◌++◌, List, [], ◌∷◌, true, false, map, refl, ap}
use Rattle.tw_machine_text.specs.declared.tree.Arms as rust
use Rattle.tw_machine_text.specs.Tree.{SourceStatement, Arms, IfElse, Then}
use Rattle.tw_machine_text.specs.Drawn.{begun}
use Rattle.tw_machine_text.specs.Desugared.{around}
use Rattle.tw_machine_text.specs.Views.{chain}

-- the last arms are the innermost
pub around_last : (before : List rust.Arms) (arms : rust.Arms) (s : SourceStatement) → around (map chain (before ++ arms ∷ [])) s ≡ around (map chain before) (IfElse (chain arms) (Then (begun true) s false))
around_last [] arms s = refl
around_last (first ∷ more) arms s = ap (λ (inner : SourceStatement). IfElse (chain first) (Then (begun true) inner false)) (around_last more arms s)
