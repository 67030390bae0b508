use Rattle.std.proofs.Common.{◌≡◌, ℕ, ℤ, ◌+◌, ◌-◌, ◌<◌, [], ◌∷◌, ◌++◌, length, take, get_or, refl, ap, ◌∙◌, sym, arith, pos}
use Rattle.std.proofs.lemmas.List.{take_more}
use Rattle.tw_atomic.specs.Atomic.{Bag}
use Rattle.tw_models.specs.Hop.{unstirred, unstirred_all}
use Rattle.tw_models.proofs.hop.unstirred_all.Goals as goal

-- the last item is taken back first
unstirred_all-push : (x : ℕ) (items : Bag) (item : ℕ × ℤ) → unstirred_all x (items ++ item ∷ []) ≡ unstirred_all (unstirred x item) items
unstirred_all-push x [] item = refl
unstirred_all-push x (first ∷ items) item = ap (λ n. unstirred n first) (unstirred_all-push x items item)

unstirred_all-take : (x : ℕ) (bag : Bag) (left : ℕ) → 0 < left → left - 1 < length bag → unstirred_all (unstirred x (get_or bag (left - 1) (0, pos 0))) (take (left - 1) bag) ≡ unstirred_all x (take left bag)
unstirred_all-take x bag left some within =
    let one : left - 1 + 1 ≡ left = omega arith in
    sym (unstirred_all-push x (take (left - 1) bag) (get_or bag (left - 1) (0, pos 0))) ∙ ap (unstirred_all x) (sym (take_more bag (left - 1) (0, pos 0) within) ∙ ap (λ n. take n bag) one)

pub loop-left-preserved : goal.loop-left-preserved
loop-left-preserved c = record { within = omega arith; rest = rw c.unstirred-x.ensures (unstirred_all-take c.loop-left.x c.args.bag.now c.loop-left.left c.loop-left-test.true (omega arith) ∙ c.loop-left.invariant.rest) }
