-- What one more output sends comes behind what the others send.
use Rattle.std.proofs.Common.{◌≡◌, ℤ, ◌+◌, List, [], ◌∷◌, ◌++◌, take, ap, ◌∙◌, sym, append_assoc}
use Rattle.std.specs.List.{flat_map}
use Rattle.std.proofs.lemmas.List.{take_more, append-nil}
use Rattle.tw_atomic.specs.Atomic.{Bag}
use Rattle.tw_machine.specs.declared.language.Output.{Output}
use Rattle.tw_machine.specs.declared.memory.Input.{Input}
use Rattle.tw_machine.specs.Memory.{MemoryValue}
use Rattle.tw_machine.specs.Machine.{given}
use Rattle.tw_machine.proofs.Takes.{take_again}
use Rattle.tw_machine.proofs.sending.send_all.Goals as goal

abbrev all : List Output → List ℤ → Input → MemoryValue → Bag
all outputs numbers i m = flat_map (λ o. given o numbers i m) outputs

all-more : (xs : List Output) (o : Output) (numbers : List ℤ) (i : Input) (m : MemoryValue) → all (xs ++ o ∷ []) numbers i m ≡ all xs numbers i m ++ given o numbers i m
all-more [] o numbers i m = append-nil (given o numbers i m)
all-more (x ∷ xs) o numbers i m =
    ap (λ ys. given x numbers i m ++ ys) (all-more xs o numbers i m) ∙ sym (append_assoc (given x numbers i m) (all xs numbers i m) (given o numbers i m))

pub loop-output-preserved : goal.loop-output-preserved
loop-output-preserved c =
    let n = c.args.numbers.now in
    let i = c.args.input.now in
    let m = c.args.memory.now in
    let k = c.loop-output.output-index in
    let outputs = c.args.outputs.now in
    let o = c.output-item.result in
    let more : take (k + 1) outputs ≡ take k outputs ++ o ∷ [] = take_more outputs k o c.loop-output-test.true ∙ ap (λ x. take k outputs ++ x ∷ []) (sym c.output-item.is) in
    c.give.ensures
    ∙ ap (λ (xs : Bag). take 64 (xs ++ given o n i m)) c.loop-output.invariant
    ∙ take_again 64 (all (take k outputs) n i m) (given o n i m)
    ∙ ap (take 64) (sym (all-more (take k outputs) o n i m) ∙ ap (λ xs. all xs n i m) (sym more))
