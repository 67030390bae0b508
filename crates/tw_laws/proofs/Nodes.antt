-- What actions do to the nodes that a process holds.
use Rattle.std.proofs.Common.{◌≡◌, ℕ, ◌+◌, ◌≤◌, List, [], ◌∷◌, ◌++◌, length, length-append, take, drop, take-append-drop, Option, Some, None, Result, Ok, Err, refl, sym, ap, ◌∙◌, subst, arith, slice_get, ⊎_elim}
use Rattle.std.specs.Prelude.{◌==◌, nat_lt, slice_set}
use Rattle.std.proofs.lemmas.Bool.{cond_both, cases_lt}
use Rattle.std.proofs.lemmas.List.{length-map}
use Rattle.tw_msgs.specs.Messages.{has, place, without, at_or_before, same_message}
use Rattle.tw_msgs.specs.declared.message.Item.{Item}
use Rattle.tw_msgs.specs.declared.message.Message.{Message}
use Rattle.tw_msgs.specs.declared.message.Sign.{Sign}
use Rattle.tw_msgs.specs.declared.message.Sign.TheVariants.{Positive, Anti}
use Rattle.tw_vtime.specs.Stamps.{stamp}
use Rattle.tw_theory.specs.Bundles.{positive, positives, anti, antis, overdue}
use Rattle.tw_theory.specs.Contents.{Process, consumed_by, next, sent_by, sent_out, owed_after, unsent_by, Cancel, Aggressive, Lazy, with_step, settled_as, settle, back_to_first, steps_before, steps_from, cut, with_outgoing, Received, receive, receive_signed, harvested}
use Rattle.tw_theory.specs.Executive.{World, Action, Step, Post, Deliver, Back, Raise, Harvest, Answer, act, act_step, if_made, act_post, act_deliver, act_back, act_harvest, mail_of}
use Rattle.tw_theory.specs.LocalRun.{Made, NoStep, local_step}
use Rattle.tw_theory.specs.Memory.{max_nodes, live, need_of_step, need_of_received, need_if_made, need_if_there, need, component_of}
use Rattle.tw_theory.specs.Network.{Network}
use Rattle.tw_theory.proofs.Cuts.{inputs_of_cut}
use Rattle.tw_theory.proofs.Owing.{length-undone, length-unsent, length-overdue, total-out}
use Rattle.tw_theory.proofs.Steps.{local_step_follows}
use Rattle.tw_theory.proofs.TakingBack.{sent_by-append, consumed_by-append}
use Rattle.tw_laws.specs.Memory.{MemoryLaw}
use Rattle.tw_laws.proofs.Inverse.{set_here}
use Rattle.tw_laws.proofs.Sweeping.{one_each}

-- ---- a step

module _ {S : Type 0} (net : Network S) (c : ℕ) where
  pub step_live : (p : Process S) (made : Made S) → local_step net c p.now p.pending ≡ Ok made → live (with_step p made) ≡ live p + need_of_step p made
  step_live p made e =
      let f = local_step_follows net c p.now p.pending made e in
      let step = made.step in
      let sent = step.sent in
      let out = sent_out p.cancel p.owed sent in
      let consumed = ap length (consumed_by-append p.history (step ∷ [])) ∙ length-append (consumed_by p.history) (step.consumed ++ []) in
      let mine = length-append step.consumed [] in
      let pending = ap length (sym f.messages) ∙ length-append step.consumed made.left in
      let old = length-append (consumed_by p.history) p.pending in
      let new = length-append (consumed_by (p.history ++ step ∷ [])) made.left in
      let all_sent = ap length (sent_by-append p.history (step ∷ [])) ∙ length-append (sent_by p.history) (sent ++ []) in
      let my_sent = length-append sent [] in
      let outgoing = length-append p.outgoing (positives out) in
      let owed = total-out (λ m. 1) p.cancel p.owed sent in
      omega (
        arith,
        consumed,
        mine,
        pending,
        old,
        new,
        all_sent,
        my_sent,
        outgoing,
        length-map out positive,
        owed,
        one_each out,
        one_each p.owed,
        one_each (owed_after p.cancel p.owed sent),
        one_each sent,
      )

-- ---- steps taken back, and messages owed

pub cut_live : {S : Type 0} (s : ℕ) (p : Process S) → live (cut s p) ≡ live p
unfolding back_to_first
cut_live s p =
    let xs = take (steps_before s p.history) p.history in
    let ys = drop (steps_before s p.history) p.history in
    let sent = ap (λ steps. length (sent_by steps)) (sym (take-append-drop (steps_before s p.history) p.history)) ∙ ap length (sent_by-append xs ys) ∙ length-append (sent_by xs) (sent_by ys) in
    let held = ap length (inputs_of_cut (steps_before s p.history) p) in
    omega (arith, sent, held, length-undone p.cancel p.outgoing p.owed (unsent_by ys), length-unsent ys)

settled_live : {S : Type 0} (k : Cancel) (p : Process S) → live (settled_as k p) ≡ live p
settled_live Aggressive p = refl
settled_live Lazy p =
    let due = overdue (next p) p.owed in
    omega (arith, length-append p.outgoing (antis due), length-map due anti, length-overdue (next p) p.owed)

pub settle_live : {S : Type 0} (p : Process S) → live (settle p) ≡ live p
settle_live p = settled_live p.cancel p

pub harvest_live : {S : Type 0} (g : ℕ) (p : Process S) → live (harvested g p) ≤ live p
harvest_live g p =
    let n = steps_before g p.history in
    let xs = take n p.history in
    let ys = drop n p.history in
    let whole = take-append-drop n p.history in
    let sent = ap (λ steps. length (sent_by steps)) (sym whole) ∙ ap length (sent_by-append xs ys) ∙ length-append (sent_by xs) (sent_by ys) in
    let consumed = ap (λ steps. length (consumed_by steps)) (sym whole) ∙ ap length (consumed_by-append xs ys) ∙ length-append (consumed_by xs) (consumed_by ys) in
    omega (arith, sent, consumed, length-append (consumed_by p.history) p.pending, length-append (consumed_by ys) p.pending)

-- ---- a receipt

length-place : (m : Message) (ms : List Message) → length (place m ms) ≡ length ms + 1
length-place m [] = refl
length-place m (n ∷ ns) = cond_both (at_or_before m n) (m ∷ n ∷ ns) (n ∷ place m ns) (λ l. length l ≡ length (n ∷ ns) + 1) (λ e. omega arith) (λ e. omega (arith, length-place m ns))

length-without : (m : Message) (ms : List Message) → length (without m ms) ≤ length ms
length-without m [] = omega arith
length-without m (n ∷ ns) = cond_both (same_message m n) ns (n ∷ without m ns) (λ l. length l ≤ length (n ∷ ns)) (λ e. omega arith) (λ e. omega (arith, length-without m ns))

module _ {S : Type 0} (p : Process S) (m : Message) where
  abbrev Within : Received × Process S → Type 0
  Within r = live r.1 ≤ live p + need_of_received r.0

  received_live : (sign : Sign) → Within (receive_signed p sign m)
  received_live Positive =
      cond_both (has m p.waiting) _ _ Within (λ e. omega (arith, length-without m p.waiting))
      (λ e. cond_both (steps_from m.stamp p == 0) _ _ Within
      (λ d. omega (arith, length-place m p.pending, length-append (consumed_by p.history) p.pending, length-append (consumed_by p.history) (place m p.pending)))
      (λ d. let q = cut m.stamp p in omega (arith, cut_live m.stamp p, length-place m q.pending, length-append (consumed_by q.history) q.pending, length-append (consumed_by q.history) (place m q.pending))))
  received_live Anti =
      cond_both (has m p.pending) _ _ Within
      (λ e. omega (arith, length-without m p.pending, length-append (consumed_by p.history) p.pending, length-append (consumed_by p.history) (without m p.pending)))
      (λ e. cond_both (has m (consumed_by p.history)) _ _ Within
      (λ d. let q = cut m.stamp p in omega (arith, cut_live m.stamp p, length-without m q.pending, length-append (consumed_by q.history) q.pending, length-append (consumed_by q.history) (without m q.pending)))
      (λ d. omega (arith, length-append p.waiting (m ∷ []))))

pub receive_live : {S : Type 0} (p : Process S) (item : Item) → live (receive p item).1 ≤ live p + need_of_received (receive p item).0
receive_live p item = received_live p item.message item.sign

-- ---- an action

module _ {S : Type 0} (net : Network S) (until : ℕ) (w : World S) (c : ℕ) (p : Process S) (at : slice_get w.processes c ≡ Some p) where
  -- what has process c within so many nodes more
  abbrev Keeps : ℕ → Answer × World S → Type 0
  Keeps n r = (q : Process S) → slice_get r.1.processes c ≡ Some q → live q ≤ live p + n

  same : (x q : Process S) (n : ℕ) → slice_get w.processes c ≡ Some q → live q ≤ live p + n
  same x q n is = let e : Some q ≡ Some p = sym is ∙ at in let s : q ≡ p = cc e in omega (arith, ap (λ (y : Process S). live y) s)

  set : (x q : Process S) (n : ℕ) → live x ≤ live p + n → slice_get (slice_set w.processes c x) c ≡ Some q → live q ≤ live p + n
  set x q n le is = let e : Some q ≡ Some x = sym is ∙ set_here w.processes c p x at in let s : q ≡ x = cc e in omega (arith, le, ap (λ (y : Process S). live y) s)

  stepped : (r : Result (Made S) NoStep) → local_step net c p.now p.pending ≡ r → Keeps (need_if_made p r) (if_made w c p r)
  stepped (Ok made) e q is = set (with_step p made) q (need_of_step p made) (omega (arith, step_live net c p made e)) is
  stepped (Err why) e q is = same p q 0 is

  step_keeps : Keeps (need_if_made p (local_step net c p.now p.pending)) (act_step net until w c (Some p))
  step_keeps = cond_both (nat_lt (next p) (stamp until 0 0)) _ _ (Keeps (need_if_made p (local_step net c p.now p.pending))) (λ e. stepped (local_step net c p.now p.pending) refl) (λ e q is. same p q _ is)

  deliver_keeps : (i : ℕ) (item : Option Item) → Keeps (need_if_there p item) (act_deliver w c i (Some p) item)
  deliver_keeps i None q is = same p q 0 is
  deliver_keeps i (Some item) q is = set (receive p item).1 q (need_of_received (receive p item).0) (receive_live p item) is

  back_keeps : (s : ℕ) → Keeps 0 (act_back w c s (Some p))
  back_keeps s = cond_both (nat_lt s w.gvt) _ _ (Keeps 0) (λ e q is. same p q 0 is) (λ e q is. set (cut s p) q 0 (omega (arith, cut_live s p)) is)

  post_keeps : Keeps 0 (act_post w c (Some p))
  post_keeps q is = set (with_outgoing (settle p) []) q 0 (omega (arith, settle_live p)) is

  harvest_keeps : Keeps 0 (act_harvest w c (Some p))
  harvest_keeps q is = set (harvested w.gvt p) q 0 (omega (arith, harvest_live w.gvt p)) is

  pub act_live : (action : Action) (q : Process S) → component_of action ≡ Some c → slice_get (act net until w action).1.processes c ≡ Some q → live q ≤ live p + need net w p action
  unfolding act
  act_live (Step d) q of is =
      let k : c ≡ d = cc (sym of) in
      subst (λ x. slice_get (act_step net until w x (slice_get w.processes x)).1.processes c ≡ Some q → live q ≤ live p + need_if_made p (local_step net x p.now p.pending)) k
      (subst (λ (o : Option (Process S)). slice_get (act_step net until w c o).1.processes c ≡ Some q → live q ≤ live p + need_if_made p (local_step net c p.now p.pending)) (sym at) (step_keeps q)) is
  act_live (Post d) q of is =
      let k : c ≡ d = cc (sym of) in
      subst (λ x. slice_get (act_post w x (slice_get w.processes x)).1.processes c ≡ Some q → live q ≤ live p + 0) k
      (subst (λ (o : Option (Process S)). slice_get (act_post w c o).1.processes c ≡ Some q → live q ≤ live p + 0) (sym at) (post_keeps q)) is
  act_live (Deliver d i) q of is =
      let k : c ≡ d = cc (sym of) in
      subst (λ x. slice_get (act_deliver w x i (slice_get w.processes x) (slice_get (mail_of w.mail x) i)).1.processes c ≡ Some q → live q ≤ live p + need_if_there p (slice_get (mail_of w.mail x) i)) k
      (subst (λ (o : Option (Process S)). slice_get (act_deliver w c i o (slice_get (mail_of w.mail c) i)).1.processes c ≡ Some q → live q ≤ live p + need_if_there p (slice_get (mail_of w.mail c) i)) (sym at) (deliver_keeps i (slice_get (mail_of w.mail c) i) q)) is
  act_live (Back d s) q of is =
      let k : c ≡ d = cc (sym of) in
      subst (λ x. slice_get (act_back w x s (slice_get w.processes x)).1.processes c ≡ Some q → live q ≤ live p + 0) k
      (subst (λ (o : Option (Process S)). slice_get (act_back w c s o).1.processes c ≡ Some q → live q ≤ live p + 0) (sym at) (back_keeps s q)) is
  act_live Raise q of is = absurd (cc of)
  act_live (Harvest d) q of is =
      let k : c ≡ d = cc (sym of) in
      subst (λ x. slice_get (act_harvest w x (slice_get w.processes x)).1.processes c ≡ Some q → live q ≤ live p + 0) k
      (subst (λ (o : Option (Process S)). slice_get (act_harvest w c o).1.processes c ≡ Some q → live q ≤ live p + 0) (sym at) (harvest_keeps q)) is

pub memory_law : {S : Type 0} → MemoryLaw S
memory_law = record {
  step = λ net c p made e. step_live net c p made e;
  receive = receive_live;
  cut = cut_live;
  settle = settle_live;
  harvest = harvest_live;
  takes = λ net until w action c p q of at is. act_live net until w c p at action q of is;
  within = λ net until w action c p q of at is room.
      let more = act_live net until w c p at action q of is in
      ⊎_elim (λ over. absurd (room (record { component = c; of = of; process = p; at = at; passes = over }))) (λ le. omega (arith, more, le)) (cases_lt max_nodes (live p + need net w p action));
}
