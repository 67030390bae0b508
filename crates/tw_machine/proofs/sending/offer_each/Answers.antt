-- What one more value sends comes behind what the others send.
use Rattle.std.proofs.Common.{◌≡◌, ℕ, suc, ℤ, pos, ◌+◌, List, [], ◌∷◌, ◌++◌, length, take, get_or, refl, ap, ap₂, ◌∙◌, sym, arith, append_assoc}
use Rattle.std.proofs.lemmas.List.{take_more, append-nil, length-take-le}
use Rattle.tw_atomic.specs.Atomic.{Bag}
use Rattle.tw_machine.specs.declared.language.Output.{Output}
use Rattle.tw_machine.specs.declared.memory.Input.{Input}
use Rattle.tw_machine.specs.Memory.{MemoryValue}
use Rattle.tw_machine.specs.Machine.{at_value, offered, offered_each}
use Rattle.tw_machine.proofs.Takes.{take_again, nothing_more}
use Rattle.tw_machine.proofs.sending.offer_each.Goals as goal

each-more : (o : Output) (numbers : List ℤ) (i : Input) (m : MemoryValue) (k : ℕ) (xs : List ℤ) (v : ℤ)
    → offered_each o numbers i m k (xs ++ v ∷ []) ≡ offered_each o numbers i m k xs ++ offered o numbers (at_value i (k + length xs) v) m
each-more o numbers i m k [] v =
    append-nil (offered o numbers (at_value i k v) m) ∙ ap (λ n. offered o numbers (at_value i n v) m) (omega arith)
each-more o numbers i m k (x ∷ xs) v =
    ap (λ ys. offered o numbers (at_value i k x) m ++ ys) (each-more o numbers i m (suc k) xs v ∙ ap (λ n. offered_each o numbers i m (suc k) xs ++ offered o numbers (at_value i n v) m) (omega arith))
    ∙ sym (append_assoc (offered o numbers (at_value i k x) m) (offered_each o numbers i m (suc k) xs) (offered o numbers (at_value i (k + length (x ∷ xs)) v) m))

pub loop-place-init : goal.loop-place-init
loop-place-init c = nothing_more c.args.outbox.now.items [] c.few.ensures refl

pub loop-place-preserved : goal.loop-place-preserved
loop-place-preserved c =
    let o = c.args.output.now in
    let n = c.args.numbers.now in
    let i = c.args.input.now in
    let m = c.args.memory.now in
    let k = c.loop-place.place in
    let values = c.args.values.now in
    let v = get_or values k (pos 0) in
    let old = c.args.outbox.now.items in
    let sent = offered_each o n i m 0 (take k values) in
    let one = offered o n (at_value i k v) m in
    let here : 0 + length (take k values) ≡ k = ap (λ j. 0 + j) (length-take-le k values (omega arith)) ∙ omega arith in
    c.offer.ensures
    ∙ ap₂ (λ (xs : Bag) (j : Input). take 64 (xs ++ offered o n j m)) c.loop-place.invariant c.at_value-input.ensures
    ∙ take_again 64 (old ++ sent) one
    ∙ ap (take 64) (append_assoc old sent one
    ∙ ap (λ xs. old ++ xs) (ap (λ j. sent ++ offered o n (at_value i j v) m) (sym here) ∙ sym (each-more o n i m 0 (take k values) v) ∙ ap (offered_each o n i m 0) (sym (take_more values k (pos 0) c.loop-place-test.true))))
