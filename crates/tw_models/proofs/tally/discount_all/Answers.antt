use Rattle.std.proofs.Common.{◌≡◌, ℕ, ℤ, ◌+◌, ◌-◌, ◌<◌, [], ◌∷◌, ◌++◌, length, take, get_or, refl, ap, ◌∙◌, sym, arith, pos}
use Rattle.std.proofs.lemmas.List.{take_more}
use Rattle.tw_atomic.specs.Atomic.{Bag}
use Rattle.tw_models.specs.declared.tally.TallyState.{TallyState}
use Rattle.tw_models.specs.Tally.{tally_less, tally_none}
use Rattle.tw_models.proofs.tally.discount_all.Goals as goal

-- the last item is taken back first
tally_none-push : (s : TallyState) (items : Bag) (item : ℕ × ℤ) → tally_none s (items ++ item ∷ []) ≡ tally_none (tally_less s item) items
tally_none-push s [] item = refl
tally_none-push s (first ∷ items) item = ap (λ t. tally_less t first) (tally_none-push s items item)

tally_none-take : (s : TallyState) (bag : Bag) (left : ℕ) → 0 < left → left - 1 < length bag → tally_none (tally_less s (get_or bag (left - 1) (0, pos 0))) (take (left - 1) bag) ≡ tally_none s (take left bag)
tally_none-take s bag left some within =
    let one : left - 1 + 1 ≡ left = omega arith in
    sym (tally_none-push s (take (left - 1) bag) (get_or bag (left - 1) (0, pos 0))) ∙ ap (tally_none s) (sym (take_more bag (left - 1) (0, pos 0) within) ∙ ap (λ n. take n bag) one)

pub loop-left-preserved : goal.loop-left-preserved
loop-left-preserved c = record { within = omega arith; rest = rw c.discount_one.ensures (tally_none-take c.loop-left.state c.args.bag.now c.loop-left.left c.loop-left-test.true (omega arith) ∙ c.loop-left.invariant.rest) }
