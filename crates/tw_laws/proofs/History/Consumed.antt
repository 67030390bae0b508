-- What the network's run consumed at a stamp is all that was sent of it.
use Rattle.std.proofs.Common.{◌≡◌, ℕ, zero, suc, ◌+◌, ◌-◌, ◌==◌, true, false, [], ◌∷◌, ◌++◌, refl, sym, ap, ◌∙◌, subst, arith, Bool, ne_eqb, Option, Some, None, Result, Ok, Err, append-nil}
use Rattle.std.proofs.lemmas.Bool.{cond-false}
use Rattle.tw_atomic.specs.Atomic.{turned}
use Rattle.tw_msgs.specs.Bags.{Bag}
use Rattle.tw_msgs.specs.declared.message.Message.{Message}
use Rattle.tw_vtime.specs.Stamps.{phase_of, tick_of}
use Rattle.tw_vtime.specs.declared.limits.Limit.{Limit}
use Rattle.tw_theory.specs.Balance.{consumed_in, all_consumed}
use Rattle.tw_theory.specs.Bundles.{items_of}
use Rattle.tw_theory.specs.Network.{Network, model_of}
use Rattle.tw_theory.specs.Simulator.{turn_of_result, take_turn}
use Rattle.tw_theory.specs.Transitions.{Moment, moved, if_within, transition, turn, due_of, kind_of}
use Rattle.tw_laws.specs.History.{count}
use Rattle.tw_laws.proofs.History.Bags.{item_count, items_count, sorted_count, messages_count}
use Rattle.tw_laws.proofs.History.Clock.{arrived, bag_of, act, act_if, place_after, record_after, NoLimit, sent_in_all, clock, clock_step}
use Rattle.tw_laws.proofs.History.Counts.{count-append, consumed_before, consumed_after, all_consumed-append}
use Rattle.tw_laws.proofs.History.GoingOn.{GoesOn, clock_goes_on, clock_before}

moved_consumes : {S : Type 0} (net : Network S) (x : Message) (c s : ℕ) (b : Bool) (bag : Bag) (state : S) (due : ℕ) → x.to ≡ c → x.stamp ≡ s
    → count x (consumed_in (moved net c s (kind_of (turn b bag)) bag state due).entry) ≡ item_count (x.port, x.value) bag
unfolding moved
moved_consumes net x c s true [] state due p q = refl
moved_consumes net x c s true (i ∷ is) state due p q = messages_count x c s (i ∷ is) p q
moved_consumes net x c s false bag state due p q = messages_count x c s bag p q

within_consumes : {S : Type 0} (net : Network S) (x : Message) (c s : ℕ) (b : Bool) (bag : Bag) (state : S) (a : Result (Option ℕ) Limit) → x.to ≡ c
    → x.stamp ≡ s → NoLimit (turn_of_result (if_within (moved net c s (kind_of (turn b bag)) bag state) a))
    → count x (all_consumed (record_after (turn_of_result (if_within (moved net c s (kind_of (turn b bag)) bag state) a)))) ≡ item_count (x.port, x.value) bag
unfolding record_after NoLimit
within_consumes net x c s b bag state (Err limit) p q l = absurd l
within_consumes net x c s b bag state (Ok due) p q l = ap (count x) (append-nil (consumed_in (moved net c s (kind_of (turn b bag)) bag state (due_of due)).entry)) ∙ moved_consumes net x c s b bag state (due_of due) p q

transition_consumes : {S : Type 0} (net : Network S) (x : Message) (c s : ℕ) (bag : Bag) (now : Moment S) → x.to ≡ c → x.stamp ≡ s
    → NoLimit (turn_of_result (transition net c now s bag))
    → count x (all_consumed (record_after (turn_of_result (transition net c now s bag)))) ≡ item_count (x.port, x.value) bag
unfolding transition
transition_consumes net x c s bag now p q l = within_consumes net x c s (now.due == s) bag (turned (model_of net c now.state) (turn (now.due == s) bag) now.state (tick_of s - tick_of now.last) bag) _ p q l

turn_consumes : {S : Type 0} (net : Network S) (x : Message) (c s : ℕ) (b : Bool) (bag : Bag) (now : Moment S) → x.to ≡ c → x.stamp ≡ s
    → NoLimit (take_turn net c now s b bag) → count x (all_consumed (record_after (take_turn net c now s b bag))) ≡ item_count (x.port, x.value) bag
unfolding record_after
turn_consumes net x c s true bag now p q l = transition_consumes net x c s bag now p q l
turn_consumes net x c s false [] now p q l = refl
turn_consumes net x c s false (i ∷ is) now p q l = transition_consumes net x c s (i ∷ is) now p q l

-- at phase 1 a component that is there consumes its bag
act_consumes : {S : Type 0} (net : Network S) (x : Message) (c s : ℕ) (bag : Bag) (o : Option (Moment S)) (now : Moment S) → o ≡ Some now
    → phase_of s ≡ 1 → x.to ≡ c → x.stamp ≡ s → NoLimit (act_if net c s bag o)
    → count x (all_consumed (record_after (act_if net c s bag o))) ≡ item_count (x.port, x.value) bag
unfolding act_if act
act_consumes net x c s bag None now e odd p q l = absurd (cc e)
act_consumes net x c s bag (Some here) now e odd p q l =
    let turns : act net c s bag here ≡ take_turn net c here s (here.due == s) bag = cond-false (phase_of s == 0) _ _ (ne_eqb (phase_of s) 0 (λ z. omega (arith, z, odd))) in
    ap (λ t. count x (all_consumed (record_after t))) turns ∙ turn_consumes net x c s (here.due == s) bag here p q (subst NoLimit turns l)

-- a component that is there later was there before
place_stays : {S : Type 0} (net : Network S) (c s j : ℕ) → (clock net s).place c ≡ None → (clock net (s + j)).place c ≡ None
unfolding clock place_after
place_stays net c s zero e = let z : s + zero ≡ s = omega arith in ap (λ n. (clock net n).place c) z ∙ e
place_stays net c s (suc j) e =
    let ih = place_stays net c s j e in
    let z : s + suc j ≡ suc (s + j) = omega arith in
    ap (λ n. (clock net n).place c) z ∙ ap (λ o. place_after o (clock_step net c (s + j))) ih

place_there : {S : Type 0} (net : Network S) (c s j : ℕ) (from : Moment S) → (clock net (s + j)).place c ≡ Some from
    → (now : Moment S) × ((clock net s).place c ≡ Some now)
place_there {S} net c s j from e = by ((clock net s).place c) refl
  where
    by : (o : Option (Moment S)) → (clock net s).place c ≡ o → (now : Moment S) × ((clock net s).place c ≡ Some now)
    by None q = absurd (none (sym (place_stays net c s j q) ∙ e))
      where
        none : None ≡ Some from → ⊥
        none z = cc z
    by (Some now) q = (now, q)

-- a column that has passed a stamp consumed all that was sent of it
pub column_consumes : {S : Type 0} (net : Network S) (x : Message) (c s j : ℕ) (from : Moment S) → (clock net (s + suc j)).place c ≡ Some from
    → phase_of s ≡ 1 → x.to ≡ c → x.stamp ≡ s → NoLimit (clock_step net c s)
    → count x (all_consumed ((clock net (s + suc j)).records c)) ≡ count x (sent_in_all net (clock net s).records)
unfolding clock
column_consumes net x c s j from place odd p q calm =
    let there = place_there net c s (suc j) from place in
    let z : suc s + j ≡ s + suc j = omega arith in
    let on = subst (λ n. GoesOn (suc s) ((clock net (suc s)).records c) ((clock net n).records c)) z (clock_goes_on net c (suc s) j) in
    let old = (clock net s).records c in
    let new = record_after (clock_step net c s) in
    let whole : count x (all_consumed ((clock net (s + suc j)).records c)) ≡ count x (all_consumed (old ++ new)) + count x (all_consumed on.more) =
    ap (λ l. count x (all_consumed l)) on.is ∙ ap (count x) (all_consumed-append (old ++ new) on.more) ∙ count-append x (all_consumed (old ++ new)) (all_consumed on.more) in
    let front : count x (all_consumed (old ++ new)) ≡ count x (all_consumed old) + count x (all_consumed new) =
    ap (count x) (all_consumed-append old new) ∙ count-append x (all_consumed old) (all_consumed new) in
    let early = consumed_before x s old (omega (arith, q)) (clock_before net c s) in
    let late = consumed_after x s on.more (omega (arith, q)) on.from in
    let sent = sent_in_all net (clock net s).records in
    let here = act_consumes net x c s (bag_of c s sent) ((clock net s).place c) there.0 there.1 odd p q calm in
    let bag : item_count (x.port, x.value) (bag_of c s sent) ≡ count x sent =
    sorted_count (x.port, x.value) (items_of (arrived c s sent)) ∙ ap (λ n. item_count (x.port, x.value) (items_of (arrived n s sent))) (sym p) ∙ ap (λ n. item_count (x.port, x.value) (items_of (arrived x.to n sent))) (sym q) ∙ items_count x sent in
    omega (arith, whole, front, early, late, here, bag)
