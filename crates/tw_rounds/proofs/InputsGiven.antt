-- Inputs given in order.
use Rattle.std.proofs.Common.{◌≡◌, ℕ, ◌+◌, ◌-◌, ◌<◌, ◌≤◌, ◌==◌, List, [], ◌∷◌, length, drop, true, nat_lt, refl, sym, ap, ◌∙◌, arith, lt-ltb, le-ltb, ne_eqb, slice_index_or}
use Rattle.std.proofs.lemmas.List.{drop_more}
use Rattle.std.proofs.lemmas.Bool.{cond-true, cond-false, cond_both, eqb-true}
use Rattle.tw_msgs.specs.declared.message.Message.{Message}
use Rattle.tw_theory.specs.Bundles.{first_stamp, Ascending}
use Rattle.tw_theory.specs.Simulator.{with_stamp, past_stamp, least_input}

-- an input of the stamp is not among those past it
pub past_taken : (s i : ℕ) (inputs rest : List Message) (m : Message) → i < length inputs → m ≡ slice_index_or inputs i m → true ≡ (m.stamp == s) → past_stamp s (drop i inputs) ≡ rest → past_stamp s (drop (i + 1) inputs) ≡ rest
past_taken s i inputs rest m l at e h =
    let more = drop (i + 1) inputs in
    let same : m.stamp ≡ s = eqb-true m.stamp s (sym e) in
    let split : past_stamp s (drop i inputs) ≡ past_stamp s more =
    ap (past_stamp s) (drop_more inputs i m l ∙ ap (λ x. x ∷ more) (sym at)) ∙ cond-false (nat_lt s m.stamp) (m ∷ past_stamp s more) (past_stamp s more) (le-ltb s m.stamp (omega (arith, same))) in
    sym split ∙ h

-- in order, all inputs are of a later stamp than s where the first is
pub later_none : (s : ℕ) (ms : List Message) → Ascending ms → s < first_stamp ms → with_stamp s ms ≡ []
later_none s [] up l = refl
later_none s (m ∷ ms) up l =
    let next = up.0 in
    cond-false (m.stamp == s) (m ∷ with_stamp s ms) (with_stamp s ms) (ne_eqb m.stamp s (λ e. omega (arith, e, l))) ∙ later_none s ms up.1 (omega (arith, next, l))

pub later_all : (s : ℕ) (ms : List Message) → Ascending ms → s < first_stamp ms → past_stamp s ms ≡ ms
later_all s [] up l = refl
later_all s (m ∷ ms) up l =
    let next = up.0 in
    cond-true (nat_lt s m.stamp) (m ∷ past_stamp s ms) (past_stamp s ms) (lt-ltb s m.stamp l) ∙ ap (λ l. m ∷ l) (later_all s ms up.1 (omega (arith, next, l)))

-- those past a stamp are in order too
first_past : (s k : ℕ) (ms : List Message) → Ascending ms → k ≤ first_stamp ms → k ≤ first_stamp (past_stamp s ms)
first_past s k [] up l = l
first_past s k (m ∷ ms) up l =
    let next = up.0 in
    let rest = first_past s k ms up.1 (omega (arith, next, l)) in
    cond_both (nat_lt s m.stamp) (m ∷ past_stamp s ms) (past_stamp s ms) (λ xs. k ≤ first_stamp xs) (λ e. l) (λ e. rest)

pub past_ascending : (s : ℕ) (ms : List Message) → Ascending ms → Ascending (past_stamp s ms)
past_ascending s [] up = tt
past_ascending s (m ∷ ms) up =
    let rest = past_ascending s ms up.1 in
    cond_both (nat_lt s m.stamp) (m ∷ past_stamp s ms) (past_stamp s ms) Ascending (λ e. (first_past s m.stamp ms up.1 up.0, rest)) (λ e. rest)

-- the least time is the first input's
least_from : (ms : List Message) → Ascending ms → first_stamp ms - 1 ≤ least_input ms
least_from [] up = omega arith
least_from (m ∷ ms) up = let next = up.0 in let rest = least_from ms up.1 in omega (arith, next, rest)

pub least_first : (m : Message) (ms : List Message) → Ascending (m ∷ ms) → least_input (m ∷ ms) ≡ m.stamp - 1
least_first m ms up = let next = up.0 in let rest = least_from ms up.1 in omega (arith, next, rest)
