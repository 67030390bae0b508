-- One round is two stamps of the clock.
use Rattle.std.proofs.Common.{◌≡◌, ℕ, zero, suc, ◌+◌, ◌<◌, ◌==◌, length, List, [], ◌∷◌, ◌++◌, refl, sym, ap, ◌∙◌, subst, ⊎_elim, arith, eq-eqb, Option, Some, None, slice_get, if◌then◌else◌}
use Rattle.std.proofs.lemmas.Bool.{cases_Bool, cond-true, cond-false, cond_both}
use Rattle.tw_msgs.specs.Bags.{Bag, sorted_bag}
use Rattle.tw_msgs.specs.declared.message.Message.{Message}
use Rattle.tw_msgs.specs.declared.record.Record.{Record}
use Rattle.tw_vtime.specs.Stamps.{phase_of}
use Rattle.tw_theory.specs.Bundles.{items_of, addressed}
use Rattle.tw_theory.specs.Network.{Network}
use Rattle.tw_theory.specs.Simulator.{Stays, Moves, after_output, outputs, all_sent, with_stamp}
use Rattle.tw_theory.specs.Transitions.{Moment, output}
use Rattle.tw_laws.specs.History.{count, sum_below}
use Rattle.tw_laws.proofs.History.Bags.{bag_same}
use Rattle.tw_laws.proofs.History.Clock.{bag_of, act, act_if, place_after, moment_after, record_after, NoLimit, sent_below, sent_in_all, clock, clock_step}
use Rattle.tw_laws.proofs.History.Components.{sum_same, sum_front, own, own_take, own_skip, at-append, outputs_at, with_stamp_at, addressed_at, count-with_stamp}
use Rattle.tw_laws.proofs.History.Counts.{count-append, all_sent-append, sent_early}
use Rattle.tw_laws.proofs.History.GoingOn.{clock_before}

-- ---- outputs

-- what a component puts out at t
abbrev pub out_of : {S : Type 0} → Network S → ℕ → ℕ → Option (Moment S) → List Record
out_of net t c None = []
out_of net t c (Some now) = if now.due == t then (output net c now t).entry ∷ [] else []

abbrev pub after_out : {S : Type 0} → Network S → ℕ → ℕ → Option (Moment S) → Option (Moment S)
after_out net t c None = None
after_out net t c (Some now) = Some (after_output net c now t)

outs_past : {S : Type 0} (net : Network S) (t b c : ℕ) (nows : List (Moment S)) → c < b → own c (outputs net t b nows) ≡ []
unfolding output
outs_past net t b c [] l = refl
outs_past net t b c (now ∷ nows) l =
    let ih = outs_past net t (suc b) c nows (omega (arith, l)) in
    cond_both (now.due == t) _ _ (λ r. own c r ≡ []) (λ _. own_skip c (output net b now t).entry (outputs net t (suc b) nows) (λ e. omega (arith, e, l)) ∙ ih) (λ _. ih)

pub outs_own : {S : Type 0} (net : Network S) (t b : ℕ) (nows : List (Moment S)) (i : ℕ)
    → own (b + i) (outputs net t b nows) ≡ out_of net t (b + i) (slice_get nows i)
unfolding output
outs_own net t b [] i = refl
outs_own net t b (now ∷ nows) zero = first (b + zero) (omega arith)
  where
    first : (c : ℕ) → c ≡ b → own c (outputs net t b (now ∷ nows)) ≡ out_of net t c (Some now)
    first c e =
        subst (λ d. own d (outputs net t b (now ∷ nows)) ≡ out_of net t d (Some now)) (sym e)
        (⊎_elim
        (λ p. ap (own b) (cond-true (now.due == t) _ _ p) ∙ own_take b (output net b now t).entry (outputs net t (suc b) nows) refl ∙ ap (λ l. (output net b now t).entry ∷ l) (outs_past net t (suc b) b nows (omega arith)) ∙ sym (cond-true (now.due == t) _ _ p))
        (λ p. ap (own b) (cond-false (now.due == t) _ _ p) ∙ outs_past net t (suc b) b nows (omega arith) ∙ sym (cond-false (now.due == t) _ _ p))
        (cases_Bool (now.due == t)))
outs_own net t b (now ∷ nows) (suc i) =
    let ih = outs_own net t (suc b) nows i in
    let e : suc b + i ≡ b + suc i = omega arith in
    let ih' = subst (λ c. own c (outputs net t (suc b) nows) ≡ out_of net t c (slice_get nows i)) e ih in
    cond_both (now.due == t) _ _ (λ r. own (b + suc i) r ≡ out_of net t (b + suc i) (slice_get nows i)) (λ _. own_skip (b + suc i) (output net b now t).entry (outputs net t (suc b) nows) (λ q. omega (arith, q)) ∙ ih') (λ _. ih')

-- the clock at phase 0
act_even : {S : Type 0} (net : Network S) (c t : ℕ) (bag : Bag) (now : Moment S) → phase_of t ≡ 0
    → act net c t bag now ≡ (if now.due == t then Moves (output net c now t) else Stays)
unfolding act
act_even net c t bag now p = cond-true (phase_of t == 0) _ _ (eq-eqb (phase_of t) 0 p)

pub even_record : {S : Type 0} (net : Network S) (c t : ℕ) (bag : Bag) (o : Option (Moment S)) → phase_of t ≡ 0
    → record_after (act_if net c t bag o) ≡ out_of net t c o
unfolding act_if record_after
even_record net c t bag None p = refl
even_record net c t bag (Some now) p =
    ap record_after (act_even net c t bag now p)
    ∙ ⊎_elim
    (λ q. ap record_after (cond-true (now.due == t) _ _ q) ∙ sym (cond-true (now.due == t) _ _ q))
    (λ q. ap record_after (cond-false (now.due == t) _ _ q) ∙ sym (cond-false (now.due == t) _ _ q))
    (cases_Bool (now.due == t))

pub even_place : {S : Type 0} (net : Network S) (c t : ℕ) (bag : Bag) (o : Option (Moment S)) → phase_of t ≡ 0
    → place_after o (act_if net c t bag o) ≡ after_out net t c o
unfolding act_if place_after moment_after
even_place net c t bag None p = refl
even_place net c t bag (Some now) p =
    ap (λ a. Some (moment_after now a)) (act_even net c t bag now p)
    ∙ ap Some
    (⊎_elim
    (λ q. ap (moment_after now) (cond-true (now.due == t) _ _ q) ∙ sym (cond-true (now.due == t) _ _ q))
    (λ q. ap (moment_after now) (cond-false (now.due == t) _ _ q) ∙ sym (cond-false (now.due == t) _ _ q))
    (cases_Bool (now.due == t)))

-- no limit is met at an output stamp
pub even_quiet : {S : Type 0} (net : Network S) (c t : ℕ) (bag : Bag) (o : Option (Moment S)) → phase_of t ≡ 0 → NoLimit (act_if net c t bag o)
unfolding act_if NoLimit
even_quiet net c t bag None p = tt
even_quiet net c t bag (Some now) p = subst NoLimit (sym (act_even net c t bag now p)) (cond_both (now.due == t) _ _ NoLimit (λ _. tt) (λ _. tt))

-- ---- what the outputs send

outs_sent : {S : Type 0} (net : Network S) (x : Message) (t b : ℕ) (nows : List (Moment S))
    → count x (all_sent net (outputs net t b nows)) ≡ sum_below (λ i. count x (all_sent net (out_of net t (b + i) (slice_get nows i)))) (length nows)
unfolding sum_below
outs_sent net x t b [] = refl
outs_sent net x t b (now ∷ nows) =
    let ih = outs_sent net x t (suc b) nows in
    let f = λ (i : ℕ). count x (all_sent net (out_of net t (b + i) (slice_get (now ∷ nows) i))) in
    let g = λ (i : ℕ). count x (all_sent net (out_of net t (suc b + i) (slice_get nows i))) in
    let shift : sum_below g (length nows) ≡ sum_below (λ i. f (suc i)) (length nows) =
    sum_same g (λ i. f (suc i)) (length nows) (λ i l. let e : suc b + i ≡ b + suc i = omega arith in ap (λ c. count x (all_sent net (out_of net t c (slice_get nows i)))) e) in
    let front = sum_front f (length nows) in
    let e : b ≡ b + 0 = omega arith in
    let here : count x (all_sent net (outputs net t b (now ∷ nows))) ≡ f 0 + count x (all_sent net (outputs net t (suc b) nows)) =
    subst (λ c. count x (all_sent net (outputs net t b (now ∷ nows))) ≡ count x (all_sent net (out_of net t c (Some now))) + count x (all_sent net (outputs net t (suc b) nows))) e (one now) in
    omega (arith, ih, shift, front, here)
  where
    one : (now : Moment _)
        → count x (all_sent net (outputs net t b (now ∷ nows))) ≡ count x (all_sent net (out_of net t b (Some now))) + count x (all_sent net (outputs net t (suc b) nows))
    one now =
        ⊎_elim
        (λ q.
        let a = count-append x (all_sent net ((output net b now t).entry ∷ [])) (all_sent net (outputs net t (suc b) nows)) in
        let l = all_sent-append net ((output net b now t).entry ∷ []) (outputs net t (suc b) nows) in
        ap (λ r. count x (all_sent net r)) (cond-true (now.due == t) _ _ q) ∙ ap (count x) l ∙ a ∙ ap (λ r. count x (all_sent net r) + count x (all_sent net (outputs net t (suc b) nows))) (sym (cond-true (now.due == t) ((output net b now t).entry ∷ []) [] q)))
        (λ q.
        ap (λ r. count x (all_sent net r)) (cond-false (now.due == t) _ _ q) ∙ sym (ap (λ r. count x (all_sent net r) + count x (all_sent net (outputs net t (suc b) nows))) (cond-false (now.due == t) ((output net b now t).entry ∷ []) [] q) ∙ omega arith))
        (cases_Bool (now.due == t))

clock_sent : {S : Type 0} (net : Network S) (x : Message) (t : ℕ) (nows : List (Moment S)) → phase_of t ≡ 0 → x.stamp ≡ t + 1
    → ((c : ℕ) → slice_get nows c ≡ (clock net t).place c) → (n : ℕ)
    → count x (sent_below net (clock net (suc t)).records n) ≡ sum_below (λ c. count x (all_sent net (out_of net t c (slice_get nows c)))) n
unfolding sent_below sum_below clock
clock_sent net x t nows p e same zero = refl
clock_sent net x t nows p e same (suc n) =
    let ih = clock_sent net x t nows p e same n in
    let old = (clock net t).records n in
    let new = record_after (clock_step net n t) in
    let early = sent_early net x t old (omega (arith, e)) (clock_before net n t) in
    let split = count-append x (all_sent net old) (all_sent net new) in
    let joined = all_sent-append net old new in
    let made : new ≡ out_of net t n (slice_get nows n) = even_record net n t _ _ p ∙ ap (out_of net t n) (sym (same n)) in
    let last : count x (all_sent net (old ++ new)) ≡ count x (all_sent net (out_of net t n (slice_get nows n))) =
    ap (count x) joined ∙ split ∙ omega (arith, early) ∙ ap (λ l. count x (all_sent net l)) made in
    let both = count-append x (sent_below net (clock net (suc t)).records n) (all_sent net (old ++ new)) in
    omega (arith, ih, last, both)

-- the round's bag is the clock's
pub round_bag : {S : Type 0} (net : Network S) (t c : ℕ) (nows : List (Moment S)) (inputs : List Message) → phase_of t ≡ 0
    → length nows ≡ length net.models → ((d : ℕ) → slice_get nows d ≡ (clock net t).place d)
    → ((x : Message) → t < x.stamp → count x inputs ≡ count x net.inputs)
    → bag_of c (t + 1) (sent_in_all net (clock net (suc t)).records) ≡ sorted_bag (items_of (addressed c (all_sent net (outputs net t 0 nows) ++ with_stamp (t + 1) inputs)))
round_bag net t c nows inputs p size same given =
    bag_same c (t + 1) (sent_in_all net (clock net (suc t)).records) msgs each
    ∙ ap (λ l. sorted_bag (items_of l)) (addressed_at c (t + 1) msgs (at-append (t + 1) (all_sent net (outputs net t 0 nows)) (with_stamp (t + 1) inputs) (outputs_at net t 0 nows) (with_stamp_at (t + 1) inputs)))
  where
    msgs : List Message
    msgs = all_sent net (outputs net t 0 nows) ++ with_stamp (t + 1) inputs

    each : (x : Message) → x.to ≡ c → x.stamp ≡ t + 1
        → count x (sent_in_all net (clock net (suc t)).records) ≡ count x (all_sent net (outputs net t 0 nows) ++ with_stamp (t + 1) inputs)
    each x q e =
        let a = count-append x net.inputs (sent_below net (clock net (suc t)).records (length net.models)) in
        let b = clock_sent net x t nows p e same (length net.models) in
        let d = outs_sent net x t 0 nows in
        let zero_add : sum_below (λ i. count x (all_sent net (out_of net t (0 + i) (slice_get nows i)))) (length nows) ≡ sum_below (λ i. count x (all_sent net (out_of net t i (slice_get nows i)))) (length net.models) =
        sum_same _ _ (length nows) (λ i l. let z : 0 + i ≡ i = omega arith in ap (λ k. count x (all_sent net (out_of net t k (slice_get nows i)))) z) ∙ ap (λ n. sum_below (λ i. count x (all_sent net (out_of net t i (slice_get nows i)))) n) size in
        let f = count-append x (all_sent net (outputs net t 0 nows)) (with_stamp (t + 1) inputs) in
        let g = given x (omega (arith, e)) in
        let h : count x (with_stamp (t + 1) inputs) ≡ count x inputs = ap (λ s. count x (with_stamp s inputs)) (sym e) ∙ count-with_stamp x inputs in
        omega (arith, a, b, d, zero_add, f, g, h)
