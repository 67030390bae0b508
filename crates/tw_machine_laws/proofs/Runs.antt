-- Two networks whose models cannot be told apart run alike.
use Rattle.std.proofs.Common.{◌≡◌, ◌≢◌, ℕ, zero, suc, ◌+◌, ◌-◌, ◌<◌, ◌≤◌, ◌==◌, min, List, [], ◌∷◌, ◌++◌, length, map, Bool, true, false, Option, Some, None, Result, Ok, Err, nat_lt, refl, ap, sym, subst, arith, ◌∙◌, if◌then◌else◌}
use Rattle.std.specs.Prelude.{slice_index_or, ◌⊎◌, ⊤}
use Rattle.std.proofs.Common.{inl, inr}
use Rattle.std.proofs.lemmas.Bool.{eqb-true, eq-eqb, ltb-true}
use Rattle.std.proofs.lemmas.List.{map-append}
use Rattle.tw_atomic.specs.Atomic.{Bag, Meaning, turned}
use Rattle.tw_msgs.specs.Bags.{sorted_bag}
use Rattle.tw_msgs.specs.declared.message.Message.{Message}
use Rattle.tw_msgs.specs.declared.record.Record.{Record}
use Rattle.tw_msgs.specs.declared.record_kind.RecordKind.{RecordKind}
use Rattle.tw_msgs.specs.declared.record_kind.RecordKind.TheVariants.{Out, Int, Ext, Con}
use Rattle.tw_vtime.specs.Advance.{advanced}
use Rattle.tw_vtime.specs.Stamps.{max_tick, stamp, never, tick_of}
use Rattle.tw_vtime.specs.declared.limits.Limit.{Limit}
use Rattle.tw_actions.specs.declared.fault.Fault.{Fault}
use Rattle.tw_theory.specs.Bundles.{items_of, addressed}
use Rattle.tw_theory.specs.Network.{Network, Coupling, absent, copies, destinations, model_of, routed}
use Rattle.tw_theory.specs.Simulator.{Run, RoundTurn, Stays, Moves, Stops, after_output, all_sent, first_stop, least_due, least_input, outputs, past_stamp, round, round_end, round_time, rounds, rounds_from, sent_in, sequential, start_run, take_turn, turn_of_result, turn_records, turned_moments, turns, with_stamp}
use Rattle.tw_theory.specs.Transitions.{Moment, Move, due_of, first_due, if_within, kind_of, moved, output, start_moment, transition, turn}
use Rattle.tw_machine_laws.specs.Bisimulation.{IsBisimulation}
use Rattle.tw_machine_laws.specs.Networks.{AreBisimilar, AreShownAlike, shown}

-- ---- models by their place

same-default : {A : Type 0} (xs : List A) (k : ℕ) (a b : A) → k < length xs → slice_index_or xs k a ≡ slice_index_or xs k b
same-default [] k a b h = absurd (omega (arith, h))
same-default (x ∷ xs) zero a b h = refl
same-default (x ∷ xs) (suc k) a b h = same-default xs k a b (omega (arith, h))

bisimilar-at : {S T : Type 0} (R : ℕ → S → T → Type 0) (ms : List (Meaning S)) (ns : List (Meaning T)) (c k j : ℕ) → j ≡ c + k → AreBisimilar R c ms ns → k < length ms → (m : Meaning S) (n : Meaning T)
    → IsBisimulation (R j) (slice_index_or ms k m) (slice_index_or ns k n)
bisimilar-at R [] ns c k j e all h m n = absurd (omega (arith, h))
bisimilar-at R (x ∷ ms) [] c k j e all h m n = absurd all
bisimilar-at R (x ∷ ms) (y ∷ ns) c zero j e all h m n = let same : c ≡ j = omega (arith, e) in subst (λ (d : ℕ). IsBisimulation (R d) x y) same all.0
bisimilar-at R (x ∷ ms) (y ∷ ns) c (suc k) j e all h m n = bisimilar-at R ms ns (suc c) k j (omega (arith, e)) all.1 (omega (arith, h)) m n

same-length : {S T : Type 0} (R : ℕ → S → T → Type 0) (c : ℕ) (ms : List (Meaning S)) (ns : List (Meaning T)) → AreBisimilar R c ms ns → length ns ≡ length ms
same-length R c [] [] all = refl
same-length R c [] (n ∷ ns) all = absurd all
same-length R c (m ∷ ms) [] all = absurd all
same-length R c (m ∷ ms) (n ∷ ns) all = ap suc (same-length R (suc c) ms ns all.1)

abbrev due-in : Result (Option ℕ) Limit → Option ℕ
due-in (Ok due) = due
due-in (Err limit) = None

if-same : {A : Type 0} (x : Bool) (a b : A) (olds news : List A) → (x ≡ true → b ≡ a) → news ≡ olds → (if x then b ∷ news else news) ≡ (if x then a ∷ olds else olds)
if-same true a b olds news head rest = λ i. head refl i ∷ rest i
if-same false a b olds news head rest = rest

-- ---- runs

module _ {S T : Type 0} (R : ℕ → S → T → Type 0) (ms : List (Meaning S)) (ns : List (Meaning T)) (ks : List Coupling) (given : List Message) (limit : ℕ) (alike : AreBisimilar R 0 ms ns) where
  abbrev net : Network S
  net = record { models = ms; couplings = ks; inputs = given; micro_limit = limit }

  abbrev other : Network T
  other = record { models = ns; couplings = ks; inputs = given; micro_limit = limit }

  bisimilar : (c : ℕ) → c < length ms → (s : S) (t : T) → IsBisimulation (R c) (model_of net c s) (model_of other c t)
  bisimilar c h s t = bisimilar-at R ms ns 0 c c (omega arith) alike h (absent s) (absent t)

  -- ---- where components stand

  record Same (c : ℕ) (a : Moment S) (b : Moment T) : Type 0 where
    pub within : c < length ms
    pub states : R c a.state b.state
    pub last : b.last ≡ a.last
    pub due : b.due ≡ a.due
    pub waits : a.due ≢ never → (elapsed : ℕ) × ((model_of net c a.state).ta a.state ≡ Some elapsed)

  abbrev AllSame : ℕ → List (Moment S) → List (Moment T) → Type 0
  AllSame c [] [] = ⊤
  AllSame c (a ∷ olds) (b ∷ news) = Same c a b × AllSame (suc c) olds news
  AllSame c [] (b ∷ news) = ⊥
  AllSame c (a ∷ olds) [] = ⊥

  first-due-waits : (ta : Option ℕ) → first_due ta ≢ never → (elapsed : ℕ) × (ta ≡ Some elapsed)
  first-due-waits None h = absurd (h refl)
  first-due-waits (Some d) h = (d, refl)

  -- the models from component c on are the last ones of all
  abbrev EndsWith : ℕ → List (Meaning S) → Type 0
  EndsWith c xs = (s : S) (k j : ℕ) → j ≡ c + k → k < length xs → slice_index_or ms j (absent s) ≡ slice_index_or xs k (absent s)

  start-same : (c : ℕ) (xs : List (Meaning S)) (ys : List (Meaning T)) → c + length xs ≡ length ms → EndsWith c xs → AreBisimilar R c xs ys → AllSame c (map start_moment xs) (map start_moment ys)
  start-same c [] [] count ends all = tt
  start-same c [] (y ∷ ys) count ends all = absurd all
  start-same c (x ∷ xs) [] count ends all = absurd all
  start-same c (x ∷ xs) (y ∷ ys) count ends all =
      let model : model_of net c x.start ≡ x = ends x.start 0 c (omega arith) (omega arith) in (
        record {
          within = omega (arith, count);
          states = all.0.start;
          last = refl;
          due = ap first_due (all.0.waits x.start y.start all.0.start);
          waits = λ h. subst (λ (m : Meaning S). (elapsed : ℕ) × (m.ta x.start ≡ Some elapsed)) (sym model) (first-due-waits (x.ta x.start) h);
        },
        start-same (suc c) xs ys (omega (arith, count)) (λ s k j e h. ends s (suc k) j (omega (arith, e)) (omega (arith, h))) all.1,
      )

  -- ---- outputs

  -- where a component is imminent before the end, both send the same
  sends-same : (c : ℕ) (a : Moment S) (b : Moment T) → Same c a b → a.due ≢ never → (model_of other c b.state).out b.state ≡ (model_of net c a.state).out a.state
  sends-same c a b same before =
      let due = same.waits before in
      (bisimilar c same.within a.state b.state).sends a.state b.state same.states due.0 due.1

  output-same : (c t : ℕ) (a : Moment S) (b : Moment T) → Same c a b → a.due ≢ never → (output other c b t).entry ≡ (output net c a t).entry
  unfolding output
  output-same c t a b same before =
      ap (λ (bag : Bag). record { component = c; stamp = t; kind = Out; bag = sorted_bag bag; words = [] }) (sends-same c a b same before)

  outputs-same : (t c : ℕ) (olds : List (Moment S)) (news : List (Moment T)) → t ≢ never → AllSame c olds news → outputs other t c news ≡ outputs net t c olds
  outputs-same t c [] [] before all = refl
  outputs-same t c [] (b ∷ news) before all = absurd all
  outputs-same t c (a ∷ olds) [] before all = absurd all
  outputs-same t c (a ∷ olds) (b ∷ news) before all =
      ap (λ (due : ℕ). if due == t then (output other c b t).entry ∷ outputs other t (suc c) news else outputs other t (suc c) news) all.0.due
      ∙ if-same (a.due == t) (output net c a t).entry (output other c b t).entry (outputs net t (suc c) olds) (outputs other t (suc c) news)
      (λ e. output-same c t a b all.0 (λ n. before (sym (eqb-true a.due t e) ∙ n)))
      (outputs-same t (suc c) olds news before all.1)

  -- ---- transitions

  abbrev SameMove : ℕ → Move S → Move T → Type 0
  SameMove c a b = (shown b.entry ≡ shown a.entry) × Same c a.after b.after

  abbrev SameResult : ℕ → Result (Move S) Limit → Result (Move T) Limit → Type 0
  SameResult c (Ok a) (Ok b) = SameMove c a b
  SameResult c (Err a) (Err b) = b ≡ a
  SameResult c (Ok a) (Err b) = ⊥
  SameResult c (Err a) (Ok b) = ⊥

  turned-same : (c : ℕ) (m : Meaning S) (n : Meaning T) → IsBisimulation (R c) m n → (imminent : Bool) (bag : Bag) → (bag ≢ []) ⊎ (imminent ≡ true) → (s : S) (t : T) (elapsed : ℕ) → R c s t
      → R c (turned m (turn imminent bag) s elapsed bag) (turned n (turn imminent bag) t elapsed bag)
  turned-same c m n same true [] some s t elapsed r = same.int s t r
  turned-same c m n same true (x ∷ xs) some s t elapsed r = same.con s t r elapsed (x ∷ xs) (λ e. absurd (cc e))
  turned-same c m n same false (x ∷ xs) some s t elapsed r = same.ext s t r elapsed (x ∷ xs) (λ e. absurd (cc e))
  turned-same c m n same false [] (inl some) s t elapsed r = absurd (some refl)
  turned-same c m n same false [] (inr e) s t elapsed r = absurd (cc e)

  due-waits : (at : ℕ) (ta : Option ℕ) (due : Option ℕ) → advanced at ta limit ≡ Ok due → due_of due ≢ never → (elapsed : ℕ) × (ta ≡ Some elapsed)
  due-waits at None due e h = absurd (h (ap due_of (sym (ap due-in e))))
  due-waits at (Some d) due e h = (d, refl)

  moved-same : (c : ℕ) (at : ℕ) (before : S) (bag : Bag) (imminent : Bool) (s : S) (t : T) → c < length ms → R c s t
      → SameResult c (if_within (moved net c at (kind_of (turn imminent bag)) bag s) (advanced at ((model_of net c before).ta s) limit)) (if_within (moved other c at (kind_of (turn imminent bag)) bag t) (advanced at ((model_of net c before).ta s) limit))
  unfolding moved
  moved-same c at before bag imminent s t within r = by (advanced at ((model_of net c before).ta s) limit) refl
    where
      by : (o : Result (Option ℕ) Limit) → advanced at ((model_of net c before).ta s) limit ≡ o
          → SameResult c (if_within (moved net c at (kind_of (turn imminent bag)) bag s) o) (if_within (moved other c at (kind_of (turn imminent bag)) bag t) o)
      by (Ok due) e = (
        ap (λ (words : List ℕ). record { component = c; stamp = at; kind = kind_of (turn imminent bag); bag = bag; words = words }) ((bisimilar c within s t).shows s t r),
        record {
          within = within;
          states = r;
          last = refl;
          due = refl;
          waits = λ h.
              subst (λ (m : Meaning S). (elapsed : ℕ) × (m.ta s ≡ Some elapsed)) (same-default ms c (absent before) (absent s) within)
              (due-waits at ((model_of net c before).ta s) due e h);
        },
      )
      by (Err l) e = refl

  transition-same : (c at : ℕ) (a : Moment S) (b : Moment T) (bag : Bag) → Same c a b → (bag ≢ []) ⊎ ((a.due == at) ≡ true) → SameResult c (transition net c a at bag) (transition other c b at bag)
  unfolding transition
  transition-same c at a b bag same some =
      let m = model_of net c a.state in
      let n = model_of other c b.state in
      let alike = bisimilar c same.within a.state b.state in
      let elapsed = tick_of at - tick_of a.last in
      let taken = turn (a.due == at) bag in
      let after = turned-same c m n alike (a.due == at) bag some a.state b.state elapsed same.states in
      let s = turned m taken a.state elapsed bag in
      let t = turned n taken b.state elapsed bag in
      let one = moved-same c at a.state bag (a.due == at) s t same.within after in
      let two = subst (λ (ta : Option ℕ). SameResult c (if_within (moved net c at (kind_of taken) bag s) (advanced at (m.ta s) limit)) (if_within (moved other c at (kind_of taken) bag t) (advanced at ta limit)))
      (sym (alike.waits s t after)) one in
      subst (λ (due : ℕ). SameResult c (transition net c a at bag) (transition other c (record { state = b.state; last = b.last; due = due }) at bag)) (sym same.due)
      (subst (λ (last : ℕ). SameResult c (transition net c a at bag) (transition other c (record { state = b.state; last = last; due = a.due }) at bag)) (sym same.last) two)

  -- ---- turns

  abbrev SameTurn : ℕ → RoundTurn S → RoundTurn T → Type 0
  SameTurn c Stays Stays = ⊤
  SameTurn c (Moves m) (Moves n) = SameMove c m n
  SameTurn c (Stops l) (Stops k) = k ≡ l
  SameTurn c Stays (Moves n) = ⊥
  SameTurn c Stays (Stops k) = ⊥
  SameTurn c (Moves m) Stays = ⊥
  SameTurn c (Moves m) (Stops k) = ⊥
  SameTurn c (Stops l) Stays = ⊥
  SameTurn c (Stops l) (Moves n) = ⊥

  result-turn : (c : ℕ) (r : Result (Move S) Limit) (q : Result (Move T) Limit) → SameResult c r q → SameTurn c (turn_of_result r) (turn_of_result q)
  result-turn c (Ok m) (Ok n) same = same
  result-turn c (Ok m) (Err l) same = absurd same
  result-turn c (Err l) (Ok n) same = absurd same
  result-turn c (Err l) (Err k) same = same

  -- a component after its output is due at the transition
  sent-same : (c t : ℕ) (a : Moment S) (b : Moment T) → t ≢ never → a.due ≡ t → Same c a b → Same c (output net c a t).after (output other c b t).after
  unfolding output
  sent-same c t a b before is same =
      record {
        within = same.within;
        states = same.states;
        last = same.last;
        due = refl;
        waits = λ h. same.waits (λ n. before (sym is ∙ n));
      }

  due-then : (c : ℕ) (a : Moment S) (t : ℕ) → ((output net c a t).after.due == (t + 1)) ≡ true
  unfolding output
  due-then c a t = eq-eqb (t + 1) (t + 1) refl

  turn-same : (c t : ℕ) (a : Moment S) (b : Moment T) (bag : Bag) → t ≢ never → Same c a b
      → SameTurn c (take_turn net c (after_output net c a t) (t + 1) (a.due == t) bag) (take_turn other c (after_output other c b t) (t + 1) (b.due == t) bag)
  turn-same c t a b bag before same =
      subst (λ (due : ℕ). SameTurn c (take_turn net c (after_output net c a t) (t + 1) (a.due == t) bag) (take_turn other c (if due == t then (output other c b t).after else b) (t + 1) (due == t) bag))
      (sym same.due) (by (a.due == t) refl bag)
    where
      by : (imminent : Bool) → (a.due == t) ≡ imminent → (bag : Bag)
          → SameTurn c (take_turn net c (if imminent then (output net c a t).after else a) (t + 1) imminent bag) (take_turn other c (if imminent then (output other c b t).after else b) (t + 1) imminent bag)
      by false e [] = tt
      by false e (x ∷ xs) = result-turn c (transition net c a (t + 1) (x ∷ xs)) (transition other c b (t + 1) (x ∷ xs)) (transition-same c (t + 1) a b (x ∷ xs) same (inl (λ none. absurd (cc none))))
      by true e bag =
          let is = eqb-true a.due t e in
          let after = sent-same c t a b before is same in
          result-turn c (transition net c (output net c a t).after (t + 1) bag) (transition other c (output other c b t).after (t + 1) bag)
          (transition-same c (t + 1) (output net c a t).after (output other c b t).after bag after (inr (due-then c a t)))

  -- one turn in front of others

  stop-in-front : (c d : ℕ) (x : RoundTurn S) (y : RoundTurn T) (xs : List (RoundTurn S)) (ys : List (RoundTurn T)) → SameTurn c x y → first_stop (suc d) ys ≡ first_stop (suc d) xs
      → first_stop d (y ∷ ys) ≡ first_stop d (x ∷ xs)
  stop-in-front c d Stays Stays xs ys same rest = rest
  stop-in-front c d (Moves m) (Moves n) xs ys same rest = rest
  stop-in-front c d (Stops l) (Stops k) xs ys same rest = ap (λ (limit : Limit). Some (d, limit)) same
  stop-in-front c d Stays (Moves n) xs ys same rest = absurd same
  stop-in-front c d Stays (Stops k) xs ys same rest = absurd same
  stop-in-front c d (Moves m) Stays xs ys same rest = absurd same
  stop-in-front c d (Moves m) (Stops k) xs ys same rest = absurd same
  stop-in-front c d (Stops l) Stays xs ys same rest = absurd same
  stop-in-front c d (Stops l) (Moves n) xs ys same rest = absurd same

  record-in-front : (c : ℕ) (x : RoundTurn S) (y : RoundTurn T) (xs : List (RoundTurn S)) (ys : List (RoundTurn T)) → SameTurn c x y → AreShownAlike (turn_records xs) (turn_records ys)
      → AreShownAlike (turn_records (x ∷ xs)) (turn_records (y ∷ ys))
  record-in-front c Stays Stays xs ys same rest = rest
  record-in-front c (Moves m) (Moves n) xs ys same rest = λ i. same.0 i ∷ rest i
  record-in-front c (Stops l) (Stops k) xs ys same rest = rest
  record-in-front c Stays (Moves n) xs ys same rest = absurd same
  record-in-front c Stays (Stops k) xs ys same rest = absurd same
  record-in-front c (Moves m) Stays xs ys same rest = absurd same
  record-in-front c (Moves m) (Stops k) xs ys same rest = absurd same
  record-in-front c (Stops l) Stays xs ys same rest = absurd same
  record-in-front c (Stops l) (Moves n) xs ys same rest = absurd same

  moment-in-front : (c : ℕ) (a : Moment S) (b : Moment T) (olds : List (Moment S)) (news : List (Moment T)) (x : RoundTurn S) (y : RoundTurn T) (xs : List (RoundTurn S)) (ys : List (RoundTurn T))
      → Same c a b → SameTurn c x y → AllSame (suc c) (turned_moments olds xs) (turned_moments news ys)
      → AllSame c (turned_moments (a ∷ olds) (x ∷ xs)) (turned_moments (b ∷ news) (y ∷ ys))
  moment-in-front c a b olds news Stays Stays xs ys stays same rest = (stays, rest)
  moment-in-front c a b olds news (Moves m) (Moves n) xs ys stays same rest = (same.1, rest)
  moment-in-front c a b olds news (Stops l) (Stops k) xs ys stays same rest = (stays, rest)
  moment-in-front c a b olds news Stays (Moves n) xs ys stays same rest = absurd same
  moment-in-front c a b olds news Stays (Stops k) xs ys stays same rest = absurd same
  moment-in-front c a b olds news (Moves m) Stays xs ys stays same rest = absurd same
  moment-in-front c a b olds news (Moves m) (Stops k) xs ys stays same rest = absurd same
  moment-in-front c a b olds news (Stops l) Stays xs ys stays same rest = absurd same
  moment-in-front c a b olds news (Stops l) (Moves n) xs ys stays same rest = absurd same

  -- all turns of a round
  record SameTurns (c d : ℕ) (olds : List (Moment S)) (news : List (Moment T)) (xs : List (RoundTurn S)) (ys : List (RoundTurn T)) : Type 0 where
    pub stop : first_stop d ys ≡ first_stop d xs
    pub records : AreShownAlike (turn_records xs) (turn_records ys)
    pub moments : AllSame c (turned_moments olds xs) (turned_moments news ys)

  turns-same : (t : ℕ) (messages : List Message) (c d : ℕ) (olds : List (Moment S)) (news : List (Moment T)) → t ≢ never → AllSame c olds news
      → SameTurns c d olds news (turns net t messages c olds) (turns other t messages c news)
  turns-same t messages c d [] [] before all = record { stop = refl; records = refl; moments = tt }
  turns-same t messages c d [] (b ∷ news) before all = absurd all
  turns-same t messages c d (a ∷ olds) [] before all = absurd all
  turns-same t messages c d (a ∷ olds) (b ∷ news) before all =
      let bag = sorted_bag (items_of (addressed c messages)) in
      let x = take_turn net c (after_output net c a t) (t + 1) (a.due == t) bag in
      let y = take_turn other c (after_output other c b t) (t + 1) (b.due == t) bag in
      let xs = turns net t messages (suc c) olds in
      let ys = turns other t messages (suc c) news in
      let one = turn-same c t a b bag before all.0 in
      let rest = turns-same t messages (suc c) (suc d) olds news before all.1 in
      record {
        stop = stop-in-front c d x y xs ys one rest.stop;
        records = record-in-front c x y xs ys one rest.records;
        moments = moment-in-front c a b olds news x y xs ys all.0 one rest.moments;
      }

  -- ---- what is sent

  routed-same : (c s : ℕ) (bag : Bag) → routed other c s bag ≡ routed net c s bag
  routed-same c s [] = refl
  routed-same c s (item ∷ items) = ap (λ (sent : List Message). copies s item.1 (destinations c item.0 ks) ++ sent) (routed-same c s items)

  sent-in-same : (r : Record) → sent_in other r ≡ sent_in net r
  sent-in-same r = go r.kind
    where
      go : (kind : RecordKind) → sent_in other (record r { kind = kind }) ≡ sent_in net (record r { kind = kind })
      go Out = routed-same r.component (r.stamp + 1) r.bag
      go Int = refl
      go Ext = refl
      go Con = refl

  all-sent-same : (rs : List Record) → all_sent other rs ≡ all_sent net rs
  all-sent-same [] = refl
  all-sent-same (r ∷ rs) = λ i. sent-in-same r i ++ all-sent-same rs i

  -- ---- rounds

  record SameRun (a : Run S) (b : Run T) : Type 0 where
    pub moments : AllSame 0 a.at.moments b.at.moments
    pub inputs : b.at.inputs ≡ a.at.inputs
    pub records : AreShownAlike a.records b.records
    pub fault : b.fault ≡ a.fault

  shown-append : (olds news cs ds : List Record) → AreShownAlike olds news → AreShownAlike cs ds → AreShownAlike (olds ++ cs) (news ++ ds)
  shown-append olds news cs ds first second = map-append shown news ds ∙ (λ i. first i ++ second i) ∙ sym (map-append shown olds cs)

  end-same : (a : Run S) (b : Run T) (t : ℕ) (outs : List Record) (xs : List (RoundTurn S)) (ys : List (RoundTurn T)) → SameRun a b → SameTurns 0 0 a.at.moments b.at.moments xs ys
      → (stop : Option (ℕ × Limit)) → SameRun (round_end a t outs xs stop) (round_end b t outs ys stop)
  end-same a b t outs xs ys run all None =
      record {
        moments = all.moments;
        inputs = ap (past_stamp (t + 1)) run.inputs;
        records = shown-append a.records b.records (outs ++ turn_records xs) (outs ++ turn_records ys) run.records (shown-append outs outs (turn_records xs) (turn_records ys) refl all.records);
        fault = refl;
      }
  end-same a b t outs xs ys run all (Some stop) =
      record {
        moments = run.moments;
        inputs = run.inputs;
        records = shown-append a.records b.records outs outs run.records refl;
        fault = refl;
      }

  round-same : (a : Run S) (b : Run T) (t : ℕ) → t ≢ never → SameRun a b → SameRun (round net a t) (round other b t)
  unfolding round
  round-same a b t before run =
      let outs = outputs net t 0 a.at.moments in
      let messages = all_sent net outs ++ with_stamp (t + 1) a.at.inputs in
      let outs_same : outputs other t 0 b.at.moments ≡ outs = outputs-same t 0 a.at.moments b.at.moments before run.moments in
      let messages_same : all_sent other (outputs other t 0 b.at.moments) ++ with_stamp (t + 1) b.at.inputs ≡ messages =
      λ i. (ap (all_sent other) outs_same ∙ all-sent-same outs) i ++ with_stamp (t + 1) (run.inputs i) in
      let all = turns-same t messages 0 0 a.at.moments b.at.moments before run.moments in
      let xs = turns net t messages 0 a.at.moments in
      let ys = turns other t messages 0 b.at.moments in
      let ended = end-same a b t outs xs ys run all (first_stop 0 xs) in
      let stopped = subst (λ (stop : Option (ℕ × Limit)). SameRun (round_end a t outs xs (first_stop 0 xs)) (round_end b t outs ys stop)) (sym all.stop) ended in
      let turned = subst (λ (sent : List Message). SameRun (round_end a t outs xs (first_stop 0 xs)) (round_end b t outs (turns other t sent 0 b.at.moments) (first_stop 0 (turns other t sent 0 b.at.moments)))) (sym messages_same) stopped in
      subst (λ (records : List Record). SameRun (round_end a t outs xs (first_stop 0 xs)) (round_end b t records (turns other t (all_sent other (outputs other t 0 b.at.moments) ++ with_stamp (t + 1) b.at.inputs) 0 b.at.moments) (first_stop 0 (turns other t (all_sent other (outputs other t 0 b.at.moments) ++ with_stamp (t + 1) b.at.inputs) 0 b.at.moments)))) (sym outs_same) turned

  least-same : (c : ℕ) (olds : List (Moment S)) (news : List (Moment T)) → AllSame c olds news → least_due news ≡ least_due olds
  least-same c [] [] all = refl
  least-same c [] (b ∷ news) all = absurd all
  least-same c (a ∷ olds) [] all = absurd all
  least-same c (a ∷ olds) (b ∷ news) all = λ i. min (all.0.due i) (least-same (suc c) olds news all.1 i)

  time-same : (a : Run S) (b : Run T) → SameRun a b → round_time b.at ≡ round_time a.at
  time-same a b run = λ i. min (least-same 0 a.at.moments b.at.moments run.moments i) (least_input (run.inputs i))

  -- from runs that are alike to runs that are alike some rounds later
  abbrev Goes : ℕ → ℕ → Type 0
  Goes bound n = (a : Run S) (b : Run T) → SameRun a b → SameRun (rounds_from net bound n a a.fault) (rounds_from other bound n b b.fault)

  one-more : (bound n : ℕ) → bound ≤ never → Goes bound n → Goes bound (suc n)
  one-more bound n most later a b run =
      subst (λ (fault : Option Fault). SameRun (rounds_from net bound (suc n) a a.fault) (rounds_from other bound (suc n) b fault)) (sym run.fault) (by a.fault)
    where
      at-time : (is : Bool) → nat_lt (round_time a.at) bound ≡ is
          → SameRun (if is then rounds_from net bound n (round net a (round_time a.at)) (round net a (round_time a.at)).fault else a) (if is then rounds_from other bound n (round other b (round_time a.at)) (round other b (round_time a.at)).fault else b)
      at-time false e = run
      at-time true e =
          let before : round_time a.at ≢ never = λ n. absurd (omega (arith, n, ltb-true (round_time a.at) bound e, most)) in
          later (round net a (round_time a.at)) (round other b (round_time a.at)) (round-same a b (round_time a.at) before run)

      by : (fault : Option Fault) → SameRun (rounds_from net bound (suc n) a fault) (rounds_from other bound (suc n) b fault)
      by (Some met) = run
      by None =
          subst (λ (t : ℕ). SameRun (rounds_from net bound (suc n) a None) (if nat_lt t bound then rounds_from other bound n (round other b t) (round other b t).fault else b)) (sym (time-same a b run))
          (at-time (nat_lt (round_time a.at) bound) refl)

  rounds-same : (bound n : ℕ) → bound ≤ never → Goes bound n
  rounds-same bound zero most a b run = run
  rounds-same bound (suc n) most a b run = one-more bound n most (rounds-same bound n most) a b run

  start-run-same : SameRun (start_run net) (start_run other)
  start-run-same =
      record {
        moments = start-same 0 ms ns (omega arith) (λ s k j e h. ap (λ (n : ℕ). slice_index_or ms n (absent s)) (omega (arith, e))) alike;
        inputs = refl;
        records = refl;
        fault = refl;
      }

  pub run_same : (until : ℕ) → until ≤ max_tick → AreShownAlike (sequential net until).records (sequential other until).records × ((sequential other until).fault ≡ (sequential net until).fault)
  unfolding rounds sequential
  run_same until within =
      let bound = stamp until 0 0 in
      let run = rounds-same bound bound (omega (arith, within)) (start_run net) (start_run other) start-run-same in
      (run.records, run.fault)
