use Rattle.std.proofs.Common.{◌≡◌, ℕ, suc, ◌+◌, List, ◌∷◌, ◌++◌, [], replicate, ap, ◌∙◌, arith}
use Rattle.tw_mail.proofs.Boxes.{replicate_more}
use Rattle.tw_fossils.specs.declared.column.Column.{Column}
use Rattle.tw_exec.proofs.executive.empty_columns.Goals as goal

-- one column more
one_more : (n : ℕ) (columns : List Column) (old : List Column) → old ≡ replicate n [] → columns ≡ old ++ [] ∷ [] → columns ≡ replicate (n + 1) []
one_more n columns old empty more =
    let next : suc n ≡ n + 1 = omega arith in
    more ∙ ap (λ l. l ++ [] ∷ []) empty ∙ replicate_more n [] ∙ ap (λ k. replicate k []) next

pub loop-preserved : goal.loop-preserved
loop-preserved c = record { empty = one_more c.loop.counter _ c.loop.columns.items c.loop.invariant.empty (c.in_ok-push.ensures.items ∙ ap (λ x. c.loop.columns.items ++ x ∷ []) c.new.ensures) }

pub returns : goal.returns
returns c = c.loop.invariant.empty ∙ ap (λ n. replicate n []) (omega (arith, c.loop-test.false, c.loop.auto.counter-end))
