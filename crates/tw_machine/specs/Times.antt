-- No statement changes the time.
use Rattle.std.specs.Prelude.{◌≡◌, ℕ, zero, suc, ℤ, pos, Bool, true, false, List, [], ◌∷◌, refl, if◌then◌else◌}
use Rattle.std.proofs.Common.{◌∙◌}
use Rattle.tw_atomic.specs.Atomic.{Bag}
use Rattle.tw_machine.specs.declared.language.Statement.{Statement}
use Rattle.tw_machine.specs.declared.language.Statement.TheVariants.{Skip, Then', Block', Set, Alter, Put, Take, Clear, Draw, If', Repeat', Wait, Passivate}
use Rattle.tw_machine.specs.declared.memory.Input.{Input}
use Rattle.tw_machine.specs.declared.memory.State.{State}
use Rattle.tw_machine.specs.Values.{is_set, value_of}
use Rattle.tw_machine.specs.Running.{at_turn, turns, run}
use Rattle.tw_machine.specs.Machine.{item_input, run_all}

turns-time : (n : ℕ) (f : ℕ → State → State) (s : State) → ((k : ℕ) (r : State) → (f k r).time ≡ r.time) → (turns n f s).time ≡ s.time
turns-time zero f s each = refl
turns-time (suc n) f s each = each n (turns n f s) ∙ turns-time n f s each

branch-time : (b : Bool) (s r : State) (t : ℕ) → s.time ≡ t → r.time ≡ t → (if b then s else r).time ≡ t
branch-time true s r t e f = e
branch-time false s r t e f = f

pub run-time : (a : Statement) (numbers : List ℤ) (i : Input) (s : State) → (run a numbers i s).time ≡ s.time
run-time Skip numbers i s = refl
run-time (Then' p a q b) numbers i s = run-time b numbers i (run a numbers i s) ∙ run-time a numbers i s
run-time (Block' p a) numbers i s = run-time a numbers i s
run-time (Set t e) numbers i s = refl
run-time (Alter change t e) numbers i s = refl
run-time (Put t w e) numbers i s = refl
run-time (Take t w) numbers i s = refl
run-time (Clear t n) numbers i s = refl
run-time Draw numbers i s = refl
run-time (If' e p a q b) numbers i s = branch-time (is_set (value_of e numbers i s.memory)) (run a numbers i s) (run b numbers i s) s.time (run-time a numbers i s) (run-time b numbers i s)
run-time (Repeat' n p a) numbers i s = turns-time n (λ k r. run a numbers (at_turn i k) r) s (λ k r. run-time a numbers (at_turn i k) r)
run-time (Wait e) numbers i s = refl
run-time Passivate numbers i s = refl

pub run_all-time : (a : Statement) (numbers : List ℤ) (elapsed left tick : ℤ) (bag : Bag) (s : State) → (run_all a numbers elapsed left tick bag s).time ≡ s.time
run_all-time a numbers elapsed left tick [] s = refl
run_all-time a numbers elapsed left tick (item ∷ items) s =
    run_all-time a numbers (pos 0) left tick items (run a numbers (item_input elapsed left tick item) s) ∙ run-time a numbers (item_input elapsed left tick item) s
