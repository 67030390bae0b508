use Rattle.std.proofs.Common.{◌≡◌, ℕ, ℤ, pos, ◌+◌, ◌<◌, List, [], ◌∷◌, ◌++◌, length, get_or, take, ap, sym, ◌∙◌, arith, rules}
use Rattle.std.proofs.lemmas.List.{take_all, take_more}
use Rattle.tw_models.proofs.intake.refill.Goals as goal

-- the next of some values goes after those before it
next_copied : (copy shown kept : List ℤ) (i : ℕ) (value : ℤ) → shown ≡ kept → i < length shown → value ≡ get_or shown i (pos 0) → copy ≡ take i kept
    → copy ++ value ∷ [] ≡ take (i + 1) kept
next_copied copy shown kept i value same below is so_far =
    let within : i < length kept = omega (arith, ap length same) in
    let here : value ≡ get_or kept i (pos 0) = is ∙ ap (λ l. get_or l i (pos 0)) same in
    (λ j. so_far j ++ here j ∷ []) ∙ sym (take_more kept i (pos 0) within)

pub loop-value-preserved : goal.loop-value-preserved
loop-value-preserved g c = c.push.ensures.items
    ∙ next_copied _ _ c.args.kept.now.items c.loop-value.value-index _ c.as_slice-value-items.ensures.value c.loop-value-test.true (search rules) c.loop-value.invariant

pub returns : goal.returns
returns g c = c.loop-value.invariant ∙ take_all c.loop-value.value-index c.args.kept.now.items (omega (arith, ap length c.as_slice-value-items.ensures.value))
