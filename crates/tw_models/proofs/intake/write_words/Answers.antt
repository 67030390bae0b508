use Rattle.std.proofs.Common.{◌≡◌, ℕ, ℤ, pos, ◌+◌, ◌<◌, ◌≤◌, List, [], ◌∷◌, ◌++◌, length, get_or, take, ap, sym, ◌∙◌, append_assoc, arith, rules}
use Rattle.std.proofs.lemmas.List.{take_all, take_more}
use Rattle.tw_models.proofs.intake.write_words.Goals as goal

-- the next value goes after those before it
next_written : (before words values : List ℤ) (i : ℕ) (value : ℤ) → i < length values → value ≡ get_or values i (pos 0) → words ≡ before ++ take i values
    → words ++ value ∷ [] ≡ before ++ take (i + 1) values
next_written before words values i value below is so_far =
    (λ j. so_far j ++ is j ∷ []) ∙ append_assoc before (take i values) (get_or values i (pos 0) ∷ [])
    ∙ ap (λ l. before ++ l) (sym (take_more values i (pos 0) below))

-- where the values are all written, they are what stands after the number
all_written : (before values : List ℤ) (number : ℤ) (i : ℕ) → length values ≤ i → (before ++ number ∷ []) ++ take i values ≡ before ++ number ∷ values
all_written before values number i le = rw (take_all i values le) (append_assoc before (number ∷ []) values)

pub loop-value-preserved : goal.loop-value-preserved
loop-value-preserved c = record {
  written = c.push_reserved-in-loop-value.ensures.items
      ∙ next_written _ _ c.args.values.now c.loop-value.value-index _ c.loop-value-test.true (search rules) c.loop-value.invariant.written;
  room = omega arith;
}

pub returns-clause-ok : goal.returns-clause-ok
returns-clause-ok c = c.loop-value.invariant.written ∙ all_written c.args.words.now.items c.args.values.now (pos c.args.dropped) c.loop-value.value-index c.loop-value-test.false
