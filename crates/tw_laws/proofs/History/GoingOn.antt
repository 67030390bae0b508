-- Runs go on: what was made before a stamp stays, and what comes after it is at or after that stamp.
use Rattle.std.proofs.Common.{◌≡◌, ℕ, zero, suc, ◌+◌, ◌-◌, ◌<◌, ◌≤◌, ◌==◌, Bool, true, false, List, [], ◌∷◌, ◌++◌, refl, sym, ap, ◌∙◌, subst, arith, append_assoc, append-nil, Option, Some, None, Result, Ok, Err}
use Rattle.std.proofs.lemmas.Bool.{cond_both}
use Rattle.tw_atomic.specs.Atomic.{turned}
use Rattle.tw_msgs.specs.Bags.{Bag}
use Rattle.tw_msgs.specs.declared.message.Message.{Message}
use Rattle.tw_msgs.specs.declared.record.Record.{Record}
use Rattle.tw_msgs.specs.declared.record_kind.RecordKind.{RecordKind}
use Rattle.tw_vtime.specs.Stamps.{phase_of, tick_of}
use Rattle.tw_vtime.specs.declared.limits.Limit.{Limit}
use Rattle.tw_theory.specs.Network.{Network, model_of}
use Rattle.tw_theory.specs.Simulator.{RoundTurn, Stays, Moves, Stops, turn_of_result, take_turn}
use Rattle.tw_theory.specs.Transitions.{Moment, turn, output, moved, if_within, transition, kind_of}
use Rattle.tw_laws.proofs.History.Clock.{record_after, act, act_if, clock, clock_step, alone, alone_step, AllFrom, AllBefore}

pub from-append : (s : ℕ) (xs ys : List Record) → AllFrom s xs → AllFrom s ys → AllFrom s (xs ++ ys)
from-append s [] ys a b = b
from-append s (x ∷ xs) ys a b = (a.0, from-append s xs ys a.1 b)

pub from_weaken : (s t : ℕ) (xs : List Record) → t ≤ s → AllFrom s xs → AllFrom t xs
from_weaken s t [] h a = tt
from_weaken s t (x ∷ xs) h a = let l : s ≤ x.stamp = a.0 in (omega (arith, h, l), from_weaken s t xs h a.1)

pub before-append : (s : ℕ) (xs ys : List Record) → AllBefore s xs → AllBefore s ys → AllBefore s (xs ++ ys)
before-append s [] ys a b = b
before-append s (x ∷ xs) ys a b = (a.0, before-append s xs ys a.1 b)

pub before_weaken : (s t : ℕ) (xs : List Record) → s ≤ t → AllBefore s xs → AllBefore t xs
before_weaken s t [] h a = tt
before_weaken s t (x ∷ xs) h a = let l : x.stamp < s = a.0 in (omega (arith, h, l), before_weaken s t xs h a.1)

-- a step makes a record of its component and stamp
abbrev pub MadeAt : {S : Type 0} → ℕ → ℕ → RoundTurn S → Type 0
MadeAt c s Stays = Unit {0}
MadeAt c s (Moves move) = (move.entry.component ≡ c) × (move.entry.stamp ≡ s)
MadeAt c s (Stops limit) = Unit {0}

within_at : {S : Type 0} (net : Network S) (c s : ℕ) (kind : RecordKind) (bag : Bag) (state : S) (a : Result (Option ℕ) Limit)
    → MadeAt c s (turn_of_result (if_within (moved net c s kind bag state) a))
unfolding moved
within_at net c s kind bag state (Ok due) = (refl, refl)
within_at net c s kind bag state (Err limit) = tt

transition_at : {S : Type 0} (net : Network S) (c s : ℕ) (bag : Bag) (now : Moment S) → MadeAt c s (turn_of_result (transition net c now s bag))
unfolding transition
transition_at net c s bag now =
    within_at net c s (kind_of (turn (now.due == s) bag)) bag (turned (model_of net c now.state) (turn (now.due == s) bag) now.state (tick_of s - tick_of now.last) bag) _

pub turn_at : {S : Type 0} (net : Network S) (c s : ℕ) (b : Bool) (bag : Bag) (now : Moment S) → MadeAt c s (take_turn net c now s b bag)
turn_at net c s true bag now = transition_at net c s bag now
turn_at net c s false [] now = tt
turn_at net c s false (x ∷ xs) now = transition_at net c s (x ∷ xs) now

act_at : {S : Type 0} (net : Network S) (c s : ℕ) (bag : Bag) (now : Moment S) → MadeAt c s (act net c s bag now)
unfolding act output
act_at net c s bag now =
    cond_both (phase_of s == 0) _ _ (MadeAt c s)
    (λ _. cond_both (now.due == s) _ _ (MadeAt c s) (λ _. (refl, refl)) (λ _. tt))
    (λ _. turn_at net c s (now.due == s) bag now)

pub act_if_at : {S : Type 0} (net : Network S) (c s : ℕ) (bag : Bag) (o : Option (Moment S)) → MadeAt c s (act_if net c s bag o)
unfolding act_if
act_if_at net c s bag None = tt
act_if_at net c s bag (Some now) = act_at net c s bag now

from_made : {S : Type 0} (c s : ℕ) (a : RoundTurn S) → MadeAt c s a → AllFrom s (record_after a)
unfolding record_after
from_made c s Stays h = tt
from_made c s (Moves move) h = (omega (arith, h), tt)
from_made c s (Stops limit) h = tt

before_made : {S : Type 0} (c s : ℕ) (a : RoundTurn S) → MadeAt c s a → AllBefore (suc s) (record_after a)
unfolding record_after
before_made c s Stays h = tt
before_made c s (Moves move) h = (omega (arith, h), tt)
before_made c s (Stops limit) h = tt

-- what a list became, with the rest at or after a stamp
pub record GoesOn (s : ℕ) (old new : List Record) : Type 0 where
  pub more : List Record
  pub is : new ≡ old ++ more
  pub from : AllFrom s more

pub goes_on_refl : (s : ℕ) (xs : List Record) → GoesOn s xs xs
goes_on_refl s xs = record { more = []; is = sym (append-nil xs); from = tt }

pub goes_on_by : (s t : ℕ) (xs ys zs : List Record) → GoesOn s xs ys → s ≤ t → AllFrom t zs → GoesOn s xs (ys ++ zs)
goes_on_by s t xs ys zs g h a =
    record {
      more = g.more ++ zs;
      is = ap (λ l. l ++ zs) g.is ∙ append_assoc xs g.more zs;
      from = from-append s g.more zs g.from (from_weaken t s zs h a);
    }

pub clock_goes_on : {S : Type 0} (net : Network S) (c s j : ℕ) → GoesOn s ((clock net s).records c) ((clock net (s + j)).records c)
unfolding clock
clock_goes_on net c s zero =
    let e : s ≡ s + zero = omega arith in
    subst (λ n. GoesOn s ((clock net s).records c) ((clock net n).records c)) e (goes_on_refl s ((clock net s).records c))
clock_goes_on net c s (suc j) =
    let step : GoesOn s ((clock net s).records c) ((clock net (suc (s + j))).records c) =
    goes_on_by s (s + j) ((clock net s).records c) ((clock net (s + j)).records c) (record_after (clock_step net c (s + j))) (clock_goes_on net c s j) (omega arith)
    (from_made c (s + j) (clock_step net c (s + j)) (act_if_at net c (s + j) _ _)) in
    let e : suc (s + j) ≡ s + suc j = omega arith in
    subst (λ n. GoesOn s ((clock net s).records c) ((clock net n).records c)) e step

pub clock_before : {S : Type 0} (net : Network S) (c s : ℕ) → AllBefore s ((clock net s).records c)
unfolding clock
clock_before net c zero = tt
clock_before net c (suc s) =
    before-append (suc s) ((clock net s).records c) (record_after (clock_step net c s))
    (before_weaken s (suc s) ((clock net s).records c) (omega arith) (clock_before net c s))
    (before_made c s (clock_step net c s) (act_if_at net c s _ _))

pub alone_goes_on : {S : Type 0} (net : Network S) (c : ℕ) (heard : List Message) (p : Option (Moment S)) (line k j : ℕ)
    → GoesOn (line + k) (alone net c heard p line k).records (alone net c heard p line (k + j)).records
unfolding alone
alone_goes_on net c heard p line k zero =
    let e : k ≡ k + zero = omega arith in
    subst (λ n. GoesOn (line + k) (alone net c heard p line k).records (alone net c heard p line n).records) e (goes_on_refl (line + k) (alone net c heard p line k).records)
alone_goes_on net c heard p line k (suc j) =
    let a = alone net c heard p line (k + j) in
    let step : GoesOn (line + k) (alone net c heard p line k).records (alone net c heard p line (suc (k + j))).records =
    goes_on_by (line + k) (line + (k + j)) (alone net c heard p line k).records a.records (record_after (alone_step net c heard (line + (k + j)) a)) (alone_goes_on net c heard p line k j) (omega arith)
    (from_made c (line + (k + j)) (alone_step net c heard (line + (k + j)) a) (act_if_at net c (line + (k + j)) _ _)) in
    let e : suc (k + j) ≡ k + suc j = omega arith in
    subst (λ n. GoesOn (line + k) (alone net c heard p line k).records (alone net c heard p line n).records) e step
