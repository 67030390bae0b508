use Rattle.std.proofs.Common.{◌≡◌, ℕ, zero, suc, ℤ, ◌≤◌, List, [], ◌∷◌, length, drop, refl, ap, arith}
use Rattle.tw_machine.specs.Memory.{queue, with_queue}
use Rattle.tw_machine.specs.FitsLaws.{queue-fits}
use Rattle.tw_machine_laws.proofs.clear_law.Goals as goal

nothing-left : (n : ℕ) (items : List ℤ) → length items ≤ n → drop n items ≡ []
nothing-left zero [] few = refl
nothing-left zero (v ∷ vs) few = absurd (omega (arith, few))
nothing-left (suc n) [] few = refl
nothing-left (suc n) (v ∷ vs) few = nothing-left n vs (omega (arith, few))

pub returns : goal.returns
returns c = λ m q room fits enough.
    let within = (queue-fits m.queues q fits.queues).within in
    ap (with_queue m q) (nothing-left room (queue m q).items (omega (arith, within, enough)))
