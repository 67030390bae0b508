-- The fault that the processes show is the simulator's.
use Rattle.std.proofs.Common.{◌≡◌, ℕ, suc, ◌+◌, ◌-◌, ◌<◌, ◌≤◌, ◌⊎◌, ◌==◌, nat_le, false, length, List, [], ◌∷◌, drop, sym, ap, ◌∙◌, subst, ⊎_elim, arith, ne_eqb, Some, Result, Ok, Err}
use Rattle.std.proofs.lemmas.Bool.{cases_lt, cases_order, cond-false, eqb-false, lt-leb}
use Rattle.tw_msgs.specs.Bags.{sorted_bag}
use Rattle.tw_msgs.specs.declared.message.Message.{Message}
use Rattle.tw_vtime.specs.Stamps.{never, stamp, max_tick, phase_of}
use Rattle.tw_vtime.specs.declared.limits.Limit.{Limit}
use Rattle.tw_theory.specs.Balance.{all_consumed}
use Rattle.tw_theory.specs.Bundles.{items_of, front}
use Rattle.tw_theory.specs.Contents.{before_all, steps_before, records_of, sent_by}
use Rattle.tw_theory.specs.LocalRun.{Step, OverLimit, transition_made, if_moved, next_of, step_at, local_step, Leads}
use Rattle.tw_theory.specs.Network.{Network}
use Rattle.tw_theory.specs.Simulator.{RoundTurn, Stays, Moves, Stops, turn_of_result, all_sent, sequential}
use Rattle.tw_theory.specs.Transitions.{Moment, Move, transition}
use Rattle.tw_laws.specs.History.{count, Holdings, StandsTo, sent_count, IsRunTo, IsFaulting}
use Rattle.tw_laws.proofs.History.Agreement.{made, Follows, clocked_law, bag_at}
use Rattle.tw_laws.proofs.History.Clock.{bag_of, act, act_if, NoLimit, sent_below, sent_in_all, clock, clock_step}
use Rattle.tw_laws.proofs.History.Committed.{Extent, extent, kept, ready, local_of, line_moment, ahead_of, facts_at, made_count}
use Rattle.tw_laws.proofs.History.Counts.{count-append}
use Rattle.tw_laws.proofs.History.Rounds.{met_by}
use Rattle.tw_laws.proofs.History.LocalRuns.{Ahead, RunRest, leads_rest, leads_later, act_idle, bag_idle, arrived_front, front_sorted, turn_is, front_some, step_taken}

-- ---- one component at g

-- a step at g of phase 1 is the transition
at_odd : {S : Type 0} (net : Network S) (c g : ℕ) (now : Moment S) (pending : List Message) → phase_of g ≡ 1 → g < never
    → step_at net c now pending g ≡ if_moved (transition_made now pending g) (transition net c now g (items_of (front g pending)))
unfolding step_at
at_odd net c g now pending p n = cond-false (nat_le never g) _ _ (lt-leb never g n) ∙ cond-false (phase_of g == 0) _ _ (ne_eqb (phase_of g) 0 (λ e. omega (arith, e, p)))

-- so is the clock's
act_odd : {S : Type 0} (net : Network S) (c g : ℕ) (now : Moment S) (pending : List Message) → phase_of g ≡ 1 → g < never → g ≡ next_of now pending
    → act net c g (items_of (front g pending)) now ≡ turn_of_result (transition net c now g (items_of (front g pending)))
unfolding act
act_odd net c g now pending p n next =
    let some : now.due == g ≡ false → items_of (front g pending) ≡ [] → ⊥ = λ d. front_some g pending (let k = eqb-false now.due g d in omega (arith, next, k)) n in
    cond-false (phase_of g == 0) _ _ (ne_eqb (phase_of g) 0 (λ e. omega (arith, e, p))) ∙ turn_is net c g (now.due == g) (items_of (front g pending)) now some

err_stops : {S : Type 0} (now : Moment S) (pending : List Message) (g : ℕ) (r : Result (Move S) Limit) (limit : Limit)
    → if_moved (transition_made now pending g) r ≡ Err (OverLimit limit) → turn_of_result r ≡ Stops limit
err_stops now pending g (Ok move) limit e = absurd (cc e)
err_stops now pending g (Err l) limit e = let q : l ≡ limit = cc e in ap Stops q

stops_err : {S : Type 0} (now : Moment S) (pending : List Message) (g : ℕ) (r : Result (Move S) Limit) (limit : Limit)
    → turn_of_result r ≡ Stops limit → if_moved (transition_made now pending g) r ≡ Err (OverLimit limit)
stops_err now pending g (Ok move) limit e = absurd (cc e)
stops_err now pending g (Err l) limit e = let q : l ≡ limit = cc e in ap (λ x. Err (OverLimit x)) q

bag_front : {S : Type 0} (c : ℕ) (heard : List Message) (g : ℕ) (now : Moment S) (pending : List Message) → Ahead c heard g now pending → g < never
    → bag_of c g heard ≡ items_of (front g pending)
bag_front c heard g now pending a n =
    a.same g (omega arith) ∙ ap (λ x. sorted_bag (items_of x)) (arrived_front c g pending a.are a.first n) ∙ front_sorted c g pending a.are

-- where the next step is at g, no step was made at or after g
none_left : {S : Type 0} (net : Network S) (c : ℕ) (heard : List Message) (g : ℕ) (steps : List (Step S)) (now : Moment S) (pending : List Message) (now' : Moment S) (pending' : List Message)
    → Ahead c heard g now pending → Leads net c now pending steps now' pending' → next_of now' pending' ≡ g → (now ≡ now') × (pending ≡ pending')
none_left net c heard g [] now pending now' pending' a leads e = leads
none_left net c heard g (step ∷ steps) now pending now' pending' a leads e =
    let made = leads.0 in
    let taken = step_taken net c heard g now pending made a leads.1 in
    let later = leads_later net c heard steps (suc (next_of now pending)) made.after made.left now' pending' taken.0.ahead leads.3 in
    let d = a.due in
    let f = a.first in
    absurd (omega (arith, later, d, f, e))

-- a step that meets a limit stops the clock
meets_stops : {S : Type 0} (net : Network S) (c : ℕ) (heard : List Message) (g : ℕ) (steps : List (Step S)) (now : Moment S) (pending : List Message) (now' : Moment S) (pending' : List Message) (limit : Limit)
    → Ahead c heard g now pending → Leads net c now pending steps now' pending' → phase_of g ≡ 1 → g < never → next_of now' pending' ≡ g
    → local_step net c now' pending' ≡ Err (OverLimit limit) → act net c g (bag_of c g heard) now ≡ Stops limit
unfolding local_step
meets_stops net c heard g steps now pending now' pending' limit a leads p n e meets =
    let same = none_left net c heard g steps now pending now' pending' a leads e in
    let next : next_of now pending ≡ g = ap (λ x. next_of x pending) same.0 ∙ ap (next_of now') same.1 ∙ e in
    let here : local_step net c now pending ≡ Err (OverLimit limit) = ap (λ x. local_step net c x pending) same.0 ∙ ap (local_step net c now') same.1 ∙ meets in
    let there : step_at net c now pending g ≡ Err (OverLimit limit) = ap (step_at net c now pending) (sym next) ∙ here in
    ap (λ b. act net c g b now) (bag_front c heard g now pending a n) ∙ act_odd net c g now pending p n (sym next)
    ∙ err_stops now pending g (transition net c now g (items_of (front g pending))) limit (sym (at_odd net c g now pending p n) ∙ there)

-- and the other way round
record Stopped {S : Type 0} (net : Network S) (c g : ℕ) (now' : Moment S) (pending' : List Message) (limit : Limit) : Type 0 where
  at : next_of now' pending' ≡ g
  meets : local_step net c now' pending' ≡ Err (OverLimit limit)

next_here : {S : Type 0} (net : Network S) (c : ℕ) (heard : List Message) (g : ℕ) (now : Moment S) (pending : List Message) (limit : Limit)
    → Ahead c heard g now pending → g < never → act net c g (bag_of c g heard) now ≡ Stops limit → next_of now pending ≡ g
next_here {S} net c heard g now pending limit a n stops =
    let d = a.due in
    let f = a.first in
    ⊎_elim (λ l. absurd (idle l)) (λ l. omega (arith, l, d, f)) (cases_lt g (next_of now pending))
  where
    no_stay : ◌≡◌ {A = RoundTurn S} Stays (Stops limit) → ⊥
    no_stay e = cc e

    idle : g < next_of now pending → ⊥
    idle l =
        let still = ap (λ b. act net c g b now) (bag_idle c heard g now pending a (omega (arith, l)) n) ∙ act_idle net c g now (λ e. omega (arith, l, e)) in
        no_stay (sym still ∙ stops)

stops_meets : {S : Type 0} (net : Network S) (c : ℕ) (heard : List Message) (g : ℕ) (steps : List (Step S)) (now : Moment S) (pending : List Message) (now' : Moment S) (pending' : List Message) (limit : Limit)
    → Ahead c heard g now pending → Leads net c now pending steps now' pending' → phase_of g ≡ 1 → g < never
    → act net c g (bag_of c g heard) now ≡ Stops limit → Stopped net c g now' pending' limit
unfolding local_step
stops_meets net c heard g [] now pending now' pending' limit a leads p n stops =
    let next = next_here net c heard g now pending limit a n stops in
    let turned : turn_of_result (transition net c now g (items_of (front g pending))) ≡ Stops limit =
    sym (act_odd net c g now pending p n (sym next)) ∙ ap (λ b. act net c g b now) (sym (bag_front c heard g now pending a n)) ∙ stops in
    let there : step_at net c now pending g ≡ Err (OverLimit limit) = at_odd net c g now pending p n ∙ stops_err now pending g (transition net c now g (items_of (front g pending))) limit turned in
    let here : local_step net c now pending ≡ Err (OverLimit limit) = ap (step_at net c now pending) next ∙ there in
    record {
      at = sym (ap (λ x. next_of x pending) leads.0 ∙ ap (next_of now') leads.1) ∙ next;
      meets = sym (ap (λ x. local_step net c x pending) leads.0 ∙ ap (local_step net c now') leads.1) ∙ here;
    }
stops_meets {S} net c heard g (step ∷ steps) now pending now' pending' limit a leads p n stops =
    let next = next_here net c heard g now pending limit a n stops in
    let taken = step_taken net c heard g now pending leads.0 a leads.1 in
    let one = taken.0 in
    let acts : act net c g (items_of (front g pending)) now ≡ Moves one.move = ap (λ s. act net c s (items_of (front s pending)) now) (sym next) ∙ one.acts in
    absurd (no_move one.move (sym acts ∙ ap (λ b. act net c g b now) (sym (bag_front c heard g now pending a n)) ∙ stops))
  where
    no_move : (move : Move S) → ◌≡◌ {A = RoundTurn S} (Moves move) (Stops limit) → ⊥
    no_move move e = cc e

-- ---- the law

-- component c at g: where it stands, what it hears, and what the network does there
record AtG {S : Type 0} (net : Network S) (g : ℕ) (heard : List Message) (c : ℕ) (steps : List (Step S)) (now' : Moment S) (pending' : List Message) : Type 0 where
  rest : RunRest net c heard g steps now' pending'
  step : clock_step net c g ≡ act net c g (bag_of c g heard) (before_all (drop (steps_before g steps) steps) now')

at_g : {S : Type 0} (net : Network S) (until g e : ℕ) (h : Holdings S) → (m : until ≤ max_tick) → (run_to : IsRunTo net until g h)
    → (x : Extent net until e) → Follows net g (kept h)
    → ((y : Message) → y.to < length net.models → y.stamp ≡ g → sent_count net h y + count y (h.waiting y.to) ≡ count y (all_consumed (h.column y.to)) + count y (h.inputs y.to))
    → ((y : Message) → y.to < length net.models → y.stamp ≡ g → (count y (h.waiting y.to) ≡ 0) ⊎ (count y (h.inputs y.to) ≡ 0)) → (c : ℕ)
    → (p : c < length net.models) → AtG net g (h.inputs c) c (h.history c) (run_to.stands c p).now (run_to.stands c p).pending
unfolding act_if
at_g {S} net until g e h m run_to x follows balance apart c p = record { rest = rest; step = step }
  where
    stand : StandsTo net until g h c
    stand = run_to.stands c p

    rest : RunRest net c (h.inputs c) g (h.history c) (run_to.stands c p).now (run_to.stands c p).pending
    rest =
        leads_rest net c (h.inputs c) g (h.history c) (h.line c) stand.from (h.inputs c) stand.now stand.pending (run_to.lines c p)
        (ahead_of net until g h c (h.line c) (line_moment net until g e h run_to m x c p) (run_to.inputs c p) stand (omega arith) (follows.ahead c p)) stand.runs stand.next

    k : ℕ
    k = g - h.line c

    reach : h.line c + (g - h.line c) ≡ g
    reach = let l = run_to.lines c p in omega (arith, l)

    place : (clock net g).place c ≡ Some (before_all (drop (steps_before g (h.history c)) (h.history c)) (run_to.stands c p).now)
    place =
        let l = local_of net until g e h run_to m x c (g - h.line c) p (follows.ahead c p) reach stand in
        sym (follows.place c (g - h.line c) p reach) ∙ l.come.place

    sent : (d : ℕ) → d < length net.models → sent_by (h.history d) ≡ all_sent net (records_of (h.history d))
    sent d q = (facts_at net until g e h run_to m x d 0 q (omega arith) (omega arith)).sent

    balance_at : (y : Message) → y.to < length net.models → y.stamp ≡ g
        → count y (sent_in_all net (made (kept h))) + count y (h.waiting y.to) ≡ count y (all_consumed (h.column y.to)) + count y (h.inputs y.to)
    balance_at y q l =
        let a = count-append y net.inputs (sent_below net (made (kept h)) (length net.models)) in
        let b = made_count net h y sent (length net.models) (omega arith) in
        let d = balance y q l in
        omega (arith, a, b, d)

    bag : bag_of c g (sent_in_all net (clock net g).records) ≡ bag_of c g (h.inputs c)
    bag = bag_at net g (kept h) (ready net until g e h run_to m x) balance_at apart c p

    step : clock_step net c g ≡ act net c g (bag_of c g (h.inputs c)) (before_all (drop (steps_before g (h.history c)) (h.history c)) (run_to.stands c p).now)
    step = ap (λ b. act_if net c g b ((clock net g).place c)) bag ∙ ap (act_if net c g (bag_of c g (h.inputs c))) place

pub fault_law : {S : Type 0} (net : Network S) (until g : ℕ) (h : Holdings S) → until ≤ max_tick → (run_to : IsRunTo net until g h)
    → (c : ℕ) (limit : Limit) → IsFaulting net until g h run_to c limit → (sequential net until).fault ≡ Some (met_by c g limit)
unfolding NoLimit
fault_law {S} net until g h m run_to c limit is =
    let x = extent net until run_to.given m in
    by x.0 x.1 (clocked_law net g (kept h) (ready net until g x.0 h run_to m x.1))
  where
    top : g < never
    top = let b = is.before in omega (arith, b, m)

    by : (e : ℕ) → Extent net until e → Follows net g (kept h) → (sequential net until).fault ≡ Some (met_by c g limit)
    by e x follows = ⊎_elim whole (λ f. found f.0 f.1 f.2) x.ends
      where
        here : (d : ℕ) → (p : d < length net.models) → AtG net g (h.inputs d) d (h.history d) (run_to.stands d p).now (run_to.stands d p).pending
        here d p = at_g net until g e h m run_to x follows is.balance is.apart d p

        stops : clock_step net c g ≡ Stops limit
        stops =
            let a = here c is.below in
            let stand = run_to.stands c is.below in
            a.step ∙ meets_stops net c (h.inputs c) g _ _ a.rest.pending stand.now stand.pending limit a.rest.ahead a.rest.leads is.odd top is.meets.at is.meets.meets

        not_calm : NoLimit (clock_step net c g) → ⊥
        not_calm n = subst NoLimit stops n

        low : e ≤ g
        low = ⊎_elim (λ l. absurd (not_calm (x.calm c g l))) (λ l. l) (cases_lt g e)

        whole : e ≡ stamp until 0 0 → (sequential net until).fault ≡ Some (met_by c g limit)
        whole q = let b = is.before in let l = low in absurd (omega (arith, q, b, l))

        found : (b : ℕ) (other : Limit) → (sequential net until).fault ≡ Some (met_by b e other) → (sequential net until).fault ≡ Some (met_by c g limit)
        found b other fault =
            let f = x.fault (met_by b e other) fault in
            let high : g ≤ e = ⊎_elim (λ l. absurd (subst NoLimit f.2 (follows.unstopped b e f.1 l))) (λ l. l) (cases_lt e g) in
            let under = low in
            let same : e ≡ g = omega (arith, high, under) in
            let its : clock_step net b g ≡ Stops other = ap (clock_step net b) (sym same) ∙ f.2 in
            ⊎_elim (equal b other same fault its)
            (⊎_elim
            (λ l. absurd (less b f.1 other l its))
            (λ l. absurd (not_calm (subst (λ n. NoLimit (clock_step net c n)) same (f.3 c l)))))
            (cases_order b c)
          where
            less : (b : ℕ) → (p : b < length net.models) → (other : Limit) → b < c → clock_step net b g ≡ Stops other → ⊥
            less b p other l its =
                let a = here b p in
                let stand = run_to.stands b p in
                let at = stops_meets net b (h.inputs b) g _ _ a.rest.pending stand.now stand.pending other a.rest.ahead a.rest.leads is.odd top (sym a.step ∙ its) in
                is.least b p other l (record { at = at.at; meets = at.meets })

            equal : (b : ℕ) (other : Limit) → e ≡ g → (sequential net until).fault ≡ Some (met_by b e other) → clock_step net b g ≡ Stops other → b ≡ c
                → (sequential net until).fault ≡ Some (met_by c g limit)
            equal b other same fault its q =
                let both : ◌≡◌ {A = RoundTurn S} (Stops other) (Stops limit) = sym its ∙ ap (λ d. clock_step net d g) q ∙ stops in
                let limits : other ≡ limit = cc both in
                fault ∙ (λ i. Some (met_by (q i) (same i) (limits i)))
