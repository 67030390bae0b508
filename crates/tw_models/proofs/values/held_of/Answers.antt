use Rattle.std.proofs.Common.{◌≡◌, ℕ, ℤ, pos, ◌+◌, ◌<◌, List, [], ◌∷◌, ◌++◌, length, get_or, take, sym, ◌∙◌, arith, rules}
use Rattle.std.proofs.lemmas.List.{take_all, take_more}
use Rattle.tw_models.proofs.values.held_of.Goals as goal

-- the next of some values goes after those before it
next_held : (held values : List ℤ) (i : ℕ) (value : ℤ) → i < length values → value ≡ get_or values i (pos 0) → held ≡ take i values
    → held ++ value ∷ [] ≡ take (i + 1) values
next_held held values i value below is so_far =
    (λ j. so_far j ++ is j ∷ []) ∙ sym (take_more values i (pos 0) below)

pub loop-value-preserved : goal.loop-value-preserved
loop-value-preserved c = record {
  items = c.push.ensures.items
      ∙ next_held _ c.args.values.now c.loop-value.value-index _ c.loop-value-test.true (search rules) c.loop-value.invariant.items;
  count = omega arith;
}

pub returns : goal.returns
returns c = c.loop-value.invariant.items ∙ take_all c.loop-value.value-index c.args.values.now c.loop-value-test.false
