use Rattle.std.proofs.Common.{◌≡◌, ℕ, ℤ, pos, ◌+◌, ◌-◌, ◌<◌, ◌≤◌, List, [], ◌∷◌, ◌++◌, length, get_or, take, min, ap, sym, ◌∙◌, append_assoc, arith, rules}
use Rattle.std.proofs.lemmas.List.{get_or-take, length-take, map-append, take_min, take_more}
use Rattle.tw_models.specs.Intake.{values_of}
use Rattle.tw_models.proofs.intake.accept.Goals as goal

-- the value of the next item of a bag's first ones goes after those before it
next_kept : (before kept : List ℤ) (bag : List (ℕ × ℤ)) (count i : ℕ) (value : ℤ) → i < length (take count bag) → value ≡ (get_or (take count bag) i (0, pos 0)).1
    → kept ≡ before ++ values_of (take i bag) → kept ++ value ∷ [] ≡ before ++ values_of (take (i + 1) bag)
next_kept before kept bag count i value below is so_far =
    let none : ℕ × ℤ = (0, pos 0) in
    let first : i < count = omega (arith, length-take count bag) in
    let within : i < length bag = omega (arith, length-take count bag) in
    let here : value ≡ (get_or bag i none).1 = is ∙ ap (λ item. item.1) (get_or-take count bag i none first) in
    (λ j. so_far j ++ here j ∷ []) ∙ append_assoc before (values_of (take i bag)) ((get_or bag i none).1 ∷ [])
    ∙ ap (λ l. before ++ l) (sym (ap values_of (take_more bag i none within) ∙ map-append (λ item. item.1) (take i bag) (get_or bag i none ∷ [])))

-- as many items as are taken are those that find room
all_kept : (bag : List (ℕ × ℤ)) (room kept free count i : ℕ) → length (take count bag) ≤ i → i ≤ length (take count bag) → count ≡ min free (length bag) → free + kept ≡ room
    → take i bag ≡ take (room - kept) bag
all_kept bag room kept free count i low high is sum =
    let e : i ≡ min (room - kept) (length bag) = omega (arith, length-take count bag) in
    ap (λ n. take n bag) e ∙ take_min (room - kept) bag

pub loop-item-preserved : goal.loop-item-preserved
loop-item-preserved g c = record {
  kept = c.push.ensures.items
      ∙ next_kept _ _ c.args.bag.now c.min-count.result c.loop-item.item-index _ c.loop-item-test.true (search rules) c.loop-item.invariant.kept;
}

pub returns-clause-kept : goal.returns-clause-kept
returns-clause-kept g c = c.loop-item.invariant.kept
    ∙ ap (λ items. c.args.kept.now.items ++ values_of items)
    (all_kept c.args.bag.now g.row.ROOM (length c.args.kept.now.items) c.remaining_capacity.result c.min-count.result c.loop-item.item-index
    c.loop-item-test.false c.loop-item.auto.item-index-end c.min-count.ensures c.remaining_capacity.ensures)
