-- A run of models that always wait, and that ends early enough, meets no limit.
use Rattle.std.proofs.Common.{◌≡◌, ℕ, zero, suc, ◌+◌, ◌-◌, ◌<◌, ◌≤◌, ◌==◌, ◌⊎◌, inl, inr, min, List, [], ◌∷◌, ◌++◌, map, Bool, true, false, nat_lt, nat_le, Option, Some, None, Result, Ok, Err, slice_get, refl, sym, ap, ◌∙◌, subst, ⊎_elim, arith}
use Rattle.std.specs.List.{AllByRecursion as Each}
use Rattle.std.specs.Prelude.{⊤}
use Rattle.std.proofs.lemmas.Option.{get_or_from_slice_get}
use Rattle.std.proofs.lemmas.Bool.{cases_Bool, cases_lt, cond-true, cond-false, eqb-false, ne_eqb, le-leb, ltb-true}
use Rattle.tw_atomic.specs.Atomic.{Bag, Meaning, turned}
use Rattle.tw_msgs.specs.Bags.{sorted_bag}
use Rattle.tw_msgs.specs.declared.message.Message.{Message}
use Rattle.tw_msgs.specs.declared.record_kind.RecordKind.{RecordKind}
use Rattle.tw_theory.specs.Bundles.{items_of, addressed}
use Rattle.tw_theory.specs.Network.{Network, Fits, model_of, absent}
use Rattle.tw_theory.specs.Simulator.{RoundTurn, Stays, Moves, Stops, Run, take_turn, turn_of_result, after_output, turns, first_stop, turned_moments, outputs, all_sent, with_stamp, round, round_end, round_time, rounds_from, rounds, sequential, start_run, least_due, least_input}
use Rattle.tw_theory.specs.Transitions.{Moment, Move, start_moment, first_due, output, transition, moved, turn, kind_of, due_of, if_within}
use Rattle.tw_vtime.specs.Advance.{advanced, next_microstep, later_tick}
use Rattle.tw_vtime.specs.Stamps.{max_tick, never, stamp, tick_of, micro_of, phase_of}
use Rattle.tw_vtime.specs.declared.limits.Limit.{Limit}
use Rattle.tw_theory.proofs.Elements.{each-filter, each_weaker}
use Rattle.tw_atomic.specs.Waiting.{Waits, ComesBefore, AlwaysWaits}
use Rattle.tw_rounds.specs.InTime.{EndsInTime}

-- ---- one component

-- the stamp of the next own step of a component that waits so long from a transition of a time
abbrev next_from : ℕ → Option ℕ → Option ℕ
next_from last None = None
next_from last (Some ta) = Some (stamp (tick_of last + ta) 0 0)

-- a wait that ends in time meets no limit
in_time : (s longest limit : ℕ) (ta : Option ℕ) → Waits longest ta → tick_of s + longest ≤ max_tick → advanced s ta limit ≡ Ok (next_from s ta)
in_time s longest limit None waits small = refl
in_time s longest limit (Some ta) waits small =
    let some = waits.0 in
    let most = waits.1 in
    cond-false (ta == 0) (next_microstep (tick_of s) (micro_of s) limit) (later_tick (tick_of s + ta)) (ne_eqb ta 0 (omega (arith, some)))
    ∙ cond-true (nat_le (tick_of s + ta) max_tick) (Ok (Some (stamp (tick_of s + ta) 0 0))) (Err _) (le-leb (tick_of s + ta) max_tick (omega (arith, small, most)))

-- component c stands so: its model always waits, and its next own step is due when it has waited
record Calm {S : Type 0} (net : Network S) (until c : ℕ) (now : Moment S) : Type 0 where
  model : Meaning S
  is : (s : S) → model_of net c s ≡ model
  longest : ℕ
  small : until + longest ≤ max_tick
  always : AlwaysWaits model longest
  waits : Waits longest (model.ta now.state)
  due : now.due ≡ due_of (next_from now.last (model.ta now.state))

-- a turn that meets no limit leaves a component that stands so
abbrev Settles : {S : Type 0} → Network S → ℕ → ℕ → RoundTurn S → Type 0
Settles net until c Stays = ⊤
Settles net until c (Moves move) = Calm net until c move.after
Settles net until c (Stops limit) = ⊥

-- it is due at an output, or never
due_when : (last : ℕ) (ta : Option ℕ) (due : ℕ) → due ≡ due_of (next_from last ta) → (phase_of due ≡ 0) ⊎ (due ≡ never)
due_when last None due e = inr e
due_when last (Some ta) due e = inl (omega (arith, e))

-- what comes before it is due comes before its wait is over
comes_before : (t longest last due : ℕ) (ta : Option ℕ) → Waits longest ta → due ≡ due_of (next_from last ta) → t + 1 < due → ComesBefore (tick_of (t + 1) - tick_of last) ta
comes_before t longest last due None waits e l = tt
comes_before t longest last due (Some ta) waits e l = let some = waits.0 in omega (arith, e, l, some)

module _ {S : Type 0} (net : Network S) (until c t : ℕ) (now : Moment S) (calm : Calm net until c now) (even : phase_of t ≡ 0) (from : t ≤ now.due) (before : t < stamp until 0 0) where
  -- the state after a transition of time t waits as long as one may
  waits_after : (b : Bool) (due : ℕ) (bag : Bag) → (due == t + 1) ≡ b → (b ≡ false → t + 1 < now.due) → Waits calm.longest (calm.model.ta (turned calm.model (turn b bag) now.state (tick_of (t + 1) - tick_of now.last) bag))
  waits_after true due [] e later = calm.always.int now.state calm.waits
  waits_after true due (x ∷ xs) e later = calm.always.con now.state (tick_of (t + 1) - tick_of now.last) (x ∷ xs) calm.waits
  waits_after false due bag e later =
      calm.always.ext now.state (tick_of (t + 1) - tick_of now.last) bag (comes_before t calm.longest now.last now.due (calm.model.ta now.state) calm.waits calm.due (later refl)) calm.waits

  -- the component after it
  calm_after : (state : S) → Waits calm.longest (calm.model.ta state) → (last : ℕ) → last ≡ t → Calm net until c (record { state = state; last = last; due = due_of (next_from (t + 1) (calm.model.ta state)) })
  calm_after state waits last e = record {
    model = calm.model;
    is = calm.is;
    longest = calm.longest;
    small = calm.small;
    always = calm.always;
    waits = waits;
    due = same_tick (calm.model.ta state);
  }
    where
      same_tick : (ta : Option ℕ) → due_of (next_from (t + 1) ta) ≡ due_of (next_from last ta)
      same_tick None = refl
      same_tick (Some ta) = omega (arith, e, even)

  moves_calm : (kind : RecordKind) (bag : Bag) (state : S) → Waits calm.longest (calm.model.ta state) → Calm net until c (moved net c (t + 1) kind bag state (due_of (next_from (t + 1) (calm.model.ta state)))).after
  unfolding moved
  moves_calm kind bag state waits = calm_after state waits (t + 1 - 1) (omega arith)

  settles : (kind : RecordKind) (bag : Bag) (state : S) → Waits calm.longest (calm.model.ta state) → Settles net until c (turn_of_result (if_within (moved net c (t + 1) kind bag state) (advanced (t + 1) (calm.model.ta state) net.micro_limit)))
  settles kind bag state waits =
      let small = calm.small in
      subst (λ r. Settles net until c (turn_of_result (if_within (moved net c (t + 1) kind bag state) r)))
      (sym (in_time (t + 1) calm.longest net.micro_limit (calm.model.ta state) waits (omega (arith, small, before, even))))
      (moves_calm kind bag state waits)

  -- a transition by its parts
  abbrev parts : ℕ → Meaning S → Bag → Result (Move S) Limit
  parts due model bag =
      let taken = turn (due == t + 1) bag in
      let state = turned model taken now.state (tick_of (t + 1) - tick_of now.last) bag in
      if_within (moved net c (t + 1) (kind_of taken) bag state) (advanced (t + 1) (model.ta state) net.micro_limit)

  by_parts : (due : ℕ) (bag : Bag) → transition net c (record { state = now.state; last = now.last; due = due }) (t + 1) bag ≡ parts due (model_of net c now.state) bag
  unfolding transition
  by_parts due bag = refl

  -- a transition of time t meets no limit
  goes : (due : ℕ) (bag : Bag) → ((due == t + 1) ≡ false → t + 1 < now.due) → Settles net until c (turn_of_result (transition net c (record { state = now.state; last = now.last; due = due }) (t + 1) bag))
  goes due bag later =
      subst (λ r. Settles net until c (turn_of_result r)) (sym (by_parts due bag ∙ ap (λ m. parts due m bag) (calm.is now.state)))
      (settles (kind_of (turn (due == t + 1) bag)) bag (turned calm.model (turn (due == t + 1) bag) now.state (tick_of (t + 1) - tick_of now.last) bag) (waits_after (due == t + 1) due bag refl later))

  -- it is not imminent: it is due after this time's transitions, or at them
  due_later : (now.due == t) ≡ false → (now.due == t + 1) ≡ false → t + 1 < now.due
  due_later e f = let a = eqb-false now.due t e in let b = eqb-false now.due (t + 1) f in omega (arith, from, a, b)

  abbrev after_here : (b : Bool) → (now.due == t) ≡ b → Moment S
  after_here true e = record { state = now.state; last = now.last; due = t + 1 }
  after_here false e = now

  after_is : (b : Bool) (e : (now.due == t) ≡ b) → after_output net c now t ≡ after_here b e
  unfolding output
  after_is true e = cond-true (now.due == t) (output net c now t).after now e
  after_is false e = cond-false (now.due == t) (output net c now t).after now e

  takes : (b : Bool) (e : (now.due == t) ≡ b) (bag : Bag) → Settles net until c (take_turn net c (after_here b e) (t + 1) b bag)
  takes false e [] = tt
  takes false e (x ∷ xs) = goes now.due (x ∷ xs) (due_later e)
  takes true e bag = goes (t + 1) bag (λ f. absurd (eqb-false (t + 1) (t + 1) f refl))

  -- what it does in the round of this time
  turn_settles : (bag : Bag) → Settles net until c (take_turn net c (after_output net c now t) (t + 1) (now.due == t) bag)
  turn_settles bag = subst (λ at. Settles net until c (take_turn net c at (t + 1) (now.due == t) bag)) (sym (after_is (now.due == t) refl)) (takes (now.due == t) refl bag)

-- ---- all components

-- each of these components stands so, where c is the number of the first
abbrev AllCalm : {S : Type 0} → Network S → ℕ → ℕ → List (Moment S) → Type 0
AllCalm net until c [] = ⊤
AllCalm net until c (now ∷ moments) = Calm net until c now × AllCalm net until (suc c) moments

-- after turns that meet no limit
record AllSettle {S : Type 0} (net : Network S) (until c : ℕ) (moments : List (Moment S)) (turns : List (RoundTurn S)) : Type 0 where
  none : (n : ℕ) → first_stop n turns ≡ None
  calm : AllCalm net until c (turned_moments moments turns)

one_more : {S : Type 0} (net : Network S) (until c : ℕ) (now : Moment S) (moments : List (Moment S)) (what : RoundTurn S) (turns : List (RoundTurn S)) → Calm net until c now → Settles net until c what → AllSettle net until (suc c) moments turns → AllSettle net until c (now ∷ moments) (what ∷ turns)
one_more net until c now moments Stays turns calm settles rest = record { none = λ n. rest.none (suc n); calm = (calm, rest.calm) }
one_more net until c now moments (Moves move) turns calm settles rest = record { none = λ n. rest.none (suc n); calm = (settles, rest.calm) }
one_more net until c now moments (Stops limit) turns calm settles rest = absurd settles

all_settle : {S : Type 0} (net : Network S) (until t : ℕ) (messages : List Message) (c : ℕ) (moments : List (Moment S)) → phase_of t ≡ 0 → t ≤ least_due moments → t < stamp until 0 0 → AllCalm net until c moments → AllSettle net until c moments (turns net t messages c moments)
all_settle net until t messages c [] even from before calm = record { none = λ n. refl; calm = tt }
all_settle net until t messages c (now ∷ moments) even from before calm =
    one_more net until c now moments _ _ calm.0
    (turn_settles net until c t now calm.0 even (omega (arith, from)) before (sorted_bag (items_of (addressed c messages))))
    (all_settle net until t messages (suc c) moments even (omega (arith, from)) before calm.1)

-- ---- rounds

-- a run without a fault, all of whose components stand so
record CalmRun {S : Type 0} (net : Network S) (until : ℕ) (run : Run S) : Type 0 where
  calm : AllCalm net until 0 run.at.moments
  inputs : Each (λ m. phase_of m.stamp ≡ 1) run.at.inputs
  going : run.fault ≡ None

abbrev IsTime : ℕ → Type 0
IsTime t = (phase_of t ≡ 0) ⊎ (t ≡ never)

time_of_two : (a b : ℕ) → IsTime a → IsTime b → IsTime (min a b)
time_of_two a b p q = ⊎_elim (λ l. let e : a ≡ min a b = omega (arith, l) in subst IsTime e p) (λ l. let e : b ≡ min a b = omega (arith, l) in subst IsTime e q) (cases_lt a b)

due_time : {S : Type 0} (net : Network S) (until c : ℕ) (moments : List (Moment S)) → AllCalm net until c moments → IsTime (least_due moments)
due_time net until c [] calm = inr refl
due_time net until c (now ∷ moments) calm = time_of_two now.due (least_due moments) (due_when now.last (calm.0.model.ta now.state) now.due calm.0.due) (due_time net until (suc c) moments calm.1)

input_time : (ms : List Message) → Each (λ m. phase_of m.stamp ≡ 1) ms → IsTime (least_input ms)
input_time [] h = inr refl
input_time (m ∷ ms) h = let p = h.0 in time_of_two (m.stamp - 1) (least_input ms) (inl (omega (arith, p))) (input_time ms h.1)

module _ {S : Type 0} (net : Network S) (until : ℕ) (small : until ≤ max_tick) where
  calm_round : (run : Run S) → CalmRun net until run → round_time run.at < stamp until 0 0 → CalmRun net until (round net run (round_time run.at))
  unfolding round
  calm_round run h before =
      let t = round_time run.at in
      let whole = time_of_two (least_due run.at.moments) (least_input run.at.inputs) (due_time net until 0 run.at.moments h.calm) (input_time run.at.inputs h.inputs) in
      let even : phase_of t ≡ 0 = ⊎_elim (λ e. e) (λ n. absurd (omega (arith, n, before, small))) whole in
      let outs = outputs net t 0 run.at.moments in
      let all = turns net t (all_sent net outs ++ with_stamp (t + 1) run.at.inputs) 0 run.at.moments in
      let settled = all_settle net until t (all_sent net outs ++ with_stamp (t + 1) run.at.inputs) 0 run.at.moments even (omega arith) before h.calm in
      subst (λ stop. CalmRun net until (round_end run t outs all stop)) (sym (settled.none 0))
      (record { calm = settled.calm; inputs = each-filter (λ m. phase_of m.stamp ≡ 1) (λ m. nat_lt (t + 1) m.stamp) run.at.inputs h.inputs; going = refl })

  calm_rounds : (n : ℕ) (run : Run S) → CalmRun net until run → (rounds_from net (stamp until 0 0) n run None).fault ≡ None
  calm_rounds zero run h = h.going
  calm_rounds (suc n) run h =
      let t = round_time run.at in
      let next = round net run t in
      let on = rounds_from net (stamp until 0 0) n next next.fault in
      ⊎_elim
      (λ e. let after = calm_round run h (ltb-true t (stamp until 0 0) e) in
      ap (λ r. r.fault) (cond-true (nat_lt t (stamp until 0 0)) on run e) ∙ ap (λ f. (rounds_from net (stamp until 0 0) n next f).fault) after.going ∙ calm_rounds n next after)
      (λ e. ap (λ r. r.fault) (cond-false (nat_lt t (stamp until 0 0)) on run e) ∙ h.going)
      (cases_Bool (nat_lt t (stamp until 0 0)))

-- ---- the start

-- the models from number c on
starts_calm : {S : Type 0} (net : Network S) (until c : ℕ) (models : List (Meaning S)) → ((i : ℕ) (m : Meaning S) → slice_get models i ≡ Some m → (s : S) → model_of net (c + i) s ≡ m) → Each (EndsInTime until) models → AllCalm net until c (map start_moment models)
starts_calm net until c [] there h = tt
starts_calm net until c (m ∷ models) there h = (
  record {
    model = m;
    is = λ s. (let z : c + 0 ≡ c = omega arith in subst (λ k. model_of net k s ≡ m) z (there 0 m refl s));
    longest = h.0.0;
    small = h.0.1;
    always = h.0.2;
    waits = h.0.2.start;
    due = first_is (m.ta m.start);
  },
  starts_calm net until (suc c) models (λ i x e s. let z : c + suc i ≡ suc c + i = omega arith in subst (λ k. model_of net k s ≡ x) z (there (suc i) x e s)) h.1,
)
  where
    first_is : (ta : Option ℕ) → first_due ta ≡ due_of (next_from (stamp 0 0 0) ta)
    first_is None = refl
    first_is (Some ta) = omega arith

pub no_limit_met : {S : Type 0} (net : Network S) (until : ℕ) → until ≤ max_tick → Each (Fits net) net.inputs → Each (EndsInTime until) net.models → (sequential net until).fault ≡ None
unfolding sequential rounds
no_limit_met net until small inputs h = calm_rounds net until small (stamp until 0 0) (start_run net) (record {
  calm = starts_calm net until 0 net.models (λ i m e s. let z : 0 + i ≡ i = omega arith in subst (λ k. model_of net k s ≡ m) (sym z) (get_or_from_slice_get net.models i m (absent s) e)) h;
  inputs = each_weaker (Fits net) (λ m. phase_of m.stamp ≡ 1) (λ m f. f.phase) net.inputs inputs;
  going = refl;
})
