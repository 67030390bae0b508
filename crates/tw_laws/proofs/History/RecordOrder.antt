-- The records of rounds are in the order of a trace.
use Rattle.std.proofs.Common.{◌≡◌, ℕ, suc, ◌<◌, ◌≤◌, ◌==◌, List, [], ◌∷◌, ◌++◌, refl, sym, ◌∙◌, arith, inl, inr}
use Rattle.std.specs.List.{AllByRecursion as Each}
use Rattle.std.proofs.lemmas.Bool.{cond_both}
use Rattle.tw_msgs.specs.declared.record.Record.{Record}
use Rattle.tw_theory.specs.Network.{Network}
use Rattle.tw_theory.specs.Simulator.{RoundTurn, Stays, Moves, Stops, outputs, turn_records}
use Rattle.tw_theory.specs.Traces.{Precedes, IsTrace}
use Rattle.tw_theory.specs.Transitions.{Moment, output}
use Rattle.tw_theory.proofs.Elements.{each-append, each_weaker}
use Rattle.tw_laws.proofs.History.RoundTurns.{MadeFrom}

-- of one stamp, from component b on
pub record IsAt (s b : ℕ) (r : Record) : Type 0 where
  pub stamp : r.stamp ≡ s
  pub component : b ≤ r.component

higher : (s b : ℕ) (rs : List Record) → Each (IsAt s (suc b)) rs → Each (IsAt s b) rs
higher s b rs h = each_weaker (IsAt s (suc b)) (IsAt s b) (λ r k. record { stamp = k.stamp; component = let l = k.component in omega arith }) rs h

first_at : (s b : ℕ) (x : Record) (rs : List Record) → x.stamp ≡ s → x.component ≡ b → Each (IsAt s (suc b)) rs → Each (Precedes x) rs
first_at s b x rs e f h = each_weaker (IsAt s (suc b)) (Precedes x) (λ r k. inr (e ∙ sym k.stamp, (let l = k.component in omega arith))) rs h

pub outputs_trace : {S : Type 0} (net : Network S) (t b : ℕ) (nows : List (Moment S))
    → IsTrace (outputs net t b nows) × Each (IsAt t b) (outputs net t b nows)
unfolding output
outputs_trace net t b [] = (tt, tt)
outputs_trace net t b (now ∷ nows) =
    let rest = outputs_trace net t (suc b) nows in
    let x = (output net b now t).entry in
    cond_both (now.due == t) (x ∷ outputs net t (suc b) nows) (outputs net t (suc b) nows) (λ rs. IsTrace rs × Each (IsAt t b) rs)
    (λ e. ((first_at t b x (outputs net t (suc b) nows) refl refl rest.1, rest.0), (record { stamp = refl; component = omega arith }, higher t b (outputs net t (suc b) nows) rest.1)))
    (λ e. (rest.0, higher t b (outputs net t (suc b) nows) rest.1))

pub turns_trace : {S : Type 0} (s b : ℕ) (ts : List (RoundTurn S)) → MadeFrom b s ts → IsTrace (turn_records ts) × Each (IsAt s b) (turn_records ts)
turns_trace s b [] m = (tt, tt)
turns_trace s b (Stays ∷ ts) m = let rest = turns_trace s (suc b) ts m.1 in (rest.0, higher s b (turn_records ts) rest.1)
turns_trace s b (Stops limit ∷ ts) m = let rest = turns_trace s (suc b) ts m.1 in (rest.0, higher s b (turn_records ts) rest.1)
turns_trace s b (Moves move ∷ ts) m =
    let rest = turns_trace s (suc b) ts m.1 in
    let at : move.entry.component ≡ b = m.0.0 in
    let when : move.entry.stamp ≡ s = m.0.1 in
    ((first_at s b move.entry (turn_records ts) when at rest.1, rest.0), (record { stamp = when; component = omega arith }, higher s b (turn_records ts) rest.1))

-- records before a stamp, and then records from it on
pub trace-append : (s : ℕ) (xs ys : List Record) → IsTrace xs → Each (λ r. r.stamp < s) xs → IsTrace ys → Each (λ r. s ≤ r.stamp) ys
    → IsTrace (xs ++ ys)
trace-append s [] ys a b c d = c
trace-append s (x ∷ xs) ys a b c d =
    (each-append (Precedes x) xs ys a.0 (each_weaker (λ r. s ≤ r.stamp) (Precedes x) (λ r l. inl (let k = b.0 in omega arith)) ys d), trace-append s xs ys a.1 b.1 c d)

pub each_at : (s b : ℕ) (P : Record → Type 0) → ((r : Record) → r.stamp ≡ s → P r) → (rs : List Record) → Each (IsAt s b) rs → Each P rs
each_at s b P f rs h = each_weaker (IsAt s b) P (λ r k. f r k.stamp) rs h
