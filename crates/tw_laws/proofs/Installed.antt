-- Installing a chain is making so many steps of its component.
use Rattle.std.proofs.Common.{◌≡◌, ℕ, zero, suc, ◌+◌, ◌<◌, ◌≤◌, List, [], ◌∷◌, ◌++◌, false, length, Ok, Some, refl, sym, ap, subst, ◌∙◌, arith, append_assoc}
use Rattle.std.specs.Prelude.{◌==◌, take, drop, slice_get, slice_set, Ok, Err}
use Rattle.std.specs.List.{AllByRecursion as Each}
use Rattle.std.proofs.lemmas.Bool.{cond-true, cond-false, cond_both, eqb-true, eqb-false, lt-ltb}
use Rattle.std.proofs.lemmas.List.{take-append-drop, length-take-le, set-set, append-nil}
use Rattle.tw_atomic.specs.Atomic.{Meaning}
use Rattle.tw_msgs.specs.declared.message.Message.{Message}
use Rattle.tw_vtime.specs.Stamps.{stamp, phase_of}
use Rattle.tw_theory.specs.Bundles.{first_stamp, front, behind, items_of, messages_for}
use Rattle.tw_theory.specs.Chains.{Start, SoloRun, IsSoloRun, IsHome, Agrees, alone, own_step, own_steps, sent_at, made_anew, taken_at, left_at}
use Rattle.tw_theory.specs.Contents.{Process, next, with_step, before_all, consumed_by}
use Rattle.tw_theory.specs.Executive.{World, Action, Answer, Stepped, with_process, act, act_step, if_made, replay, answers, NothingDue}
use Rattle.tw_theory.specs.Installing.{IsFresh, TakesFrom}
use Rattle.tw_theory.specs.LocalRun.{Step, Made, Leads, local_step}
use Rattle.tw_theory.specs.Network.{Network}
use Rattle.tw_theory.specs.Soundness.{AllBefore}
use Rattle.tw_theory.specs.Transitions.{Moment}
use Rattle.tw_theory.proofs.Agreeing.{step_taken, same_step, agrees_more, front_more}
use Rattle.tw_theory.proofs.Elements.{each_parts, set_same}
use Rattle.tw_theory.proofs.Steps.{front-behind}
use Rattle.tw_laws.specs.Chains.{steps_of_one, answers_of, IsStepped, InstallLaw}
use Rattle.tw_laws.proofs.Cutting.{all_before_parts}
use Rattle.tw_laws.proofs.Inverse.{set_here}
use Rattle.tw_laws.proofs.Runs.{leads_split}

-- messages to one component, of one stamp, with the same items are the same
front_is : (c s : ℕ) (ms : List Message) → Each (λ m. m.to ≡ c) ms → front s ms ≡ messages_for c s (items_of (front s ms))
front_is c s [] h = refl
front_is c s (m ∷ ms) h =
    cond_both (m.stamp == s) (m ∷ front s ms) [] (λ l. l ≡ messages_for c s (items_of l))
    (λ e. let stamp_is = eqb-true m.stamp s e in let rest = front_is c s ms h.1 in
    λ i. record { stamp = stamp_is i; port = m.port; value = m.value; to = h.0 i } ∷ rest i)
    (λ e. refl)

to_behind : (c s : ℕ) (ms : List Message) → Each (λ m. m.to ≡ c) ms → Each (λ m. m.to ≡ c) (behind s ms)
to_behind c s ms h = (each_parts (λ m. m.to ≡ c) (front s ms) (behind s ms) (subst (Each (λ m. m.to ≡ c)) (sym (front-behind s ms)) h)).1

to_left : (c s : ℕ) (ms : List Message) → Each (λ m. m.to ≡ c) ms → Each (λ m. m.to ≡ c) (left_at s ms)
to_left c s ms h = cond_both (phase_of s == 0) ms (behind s ms) (Each (λ m. m.to ≡ c)) (λ e. h) (λ e. to_behind c s ms h)

module _ {S : Type 0} (net : Network S) (until : ℕ) (model : Meaning S) (start : Start S) (home : IsHome net model start) where
  -- what is known of a step that a process takes of a chain
  record IsOwn (p : Process S) (messages : List Message) (lone made : Made S) : Type 0 where
    is : made ≡ made_anew net start.component p.pending lone
    consumed : Each (λ m. m.to ≡ start.component) messages → Each (λ m. m.to ≡ start.component) p.pending → made.step ≡ own_step net start.component lone.step
    left : Each (λ m. m.to ≡ start.component) p.pending → Each (λ m. m.to ≡ start.component) made.left
    lone_left : Each (λ m. m.to ≡ start.component) messages → Each (λ m. m.to ≡ start.component) lone.left

  is_own : (now : Moment S) (messages : List Message) (p : Process S) (lone made : Made S) → p.now ≡ now → local_step (alone model start) start.component now messages ≡ Ok lone
      → Agrees p.now p.pending lone.step → local_step net start.component p.now p.pending ≡ Ok made → IsOwn p messages lone made
  is_own now messages p lone made at e agrees f =
      let agrees' : Agrees now p.pending lone.step = subst (λ (n : Moment S). Agrees n p.pending lone.step) at agrees in
      let own = ap (λ (n : Moment S). local_step net start.component n p.pending) at ∙ same_step net model start home now messages p.pending lone e agrees' in
      let both : Ok made ≡ Ok (made_anew net start.component p.pending lone) = sym f ∙ own in
      let is : made ≡ made_anew net start.component p.pending lone = cc both in
      let t = step_taken (alone model start) start.component now messages lone e in
      let s = lone.step.entry.stamp in
      let same : Each (λ m. m.to ≡ start.component) messages → Each (λ m. m.to ≡ start.component) p.pending → taken_at s p.pending ≡ lone.step.consumed = λ to own_to.
      sym (t.consumed ∙ cond_both (phase_of s == 0) [] (front s messages) (λ l. l ≡ taken_at s p.pending)
      (λ even. sym (cond-true (phase_of s == 0) _ _ even))
      (λ odd. let one : phase_of s ≡ 1 = is_one s odd in
      front_is start.component s messages to ∙ ap (messages_for start.component s) (sym (t.bag one) ∙ sym (agrees.bag one)) ∙ sym (front_is start.component s p.pending own_to) ∙ sym (cond-false (phase_of s == 0) [] (front s p.pending) odd))) in
      record {
        is = is;
        consumed = λ to own_to. ap (λ (m : Made S). m.step) is ∙ (λ i. record { entry = lone.step.entry; before = lone.step.before; consumed = same to own_to i; sent = sent_at net start.component lone.step.entry });
        left = λ own_to. subst (λ (m : Made S). Each (λ m. m.to ≡ start.component) m.left) (sym is) (to_left start.component s p.pending own_to);
        lone_left = λ to. subst (Each (λ m. m.to ≡ start.component)) (sym t.left) (to_left start.component s messages to);
      }
    where
      is_one : (s : ℕ) → (phase_of s == 0) ≡ false → phase_of s ≡ 1
      is_one s odd = let n = eqb-false (phase_of s) 0 odd in omega (arith, n)

  -- one Step action
  step_is : (w : World S) (p : Process S) (made : Made S) → slice_get w.processes start.component ≡ Some p → next p < stamp until 0 0 → local_step net start.component p.now p.pending ≡ Ok made
      → act net until w (Action.Step start.component) ≡ (Ok (Stepped made.step.entry.stamp made.step.entry.kind), with_process w start.component (with_step p made))
  unfolding act
  step_is w p made at early e =
      ap (act_step net until w start.component) at
      ∙ cond-true _ (if_made w start.component p (local_step net start.component p.now p.pending)) (Err NothingDue, w) (lt-ltb (next p) (stamp until 0 0) early)
      ∙ ap (if_made w start.component p) e

  -- what comes of steps that a process takes
  record IsTakenAs (w : World S) (steps : List (Step S)) (after : Moment S) (messages : List Message) (p q : Process S) : Type 0 where
    world : replay net until w (steps_of_one start.component (length steps)) ≡ with_process w start.component q
    answers : answers net until w (steps_of_one start.component (length steps)) ≡ answers_of steps
    now : q.now ≡ after
    history : Each (λ m. m.to ≡ start.component) messages → Each (λ m. m.to ≡ start.component) p.pending → q.history ≡ p.history ++ own_steps net start.component steps

  taken_as : (bound : start.before ≤ stamp until 0 0) (n : ℕ) (steps : List (Step S)) (w : World S) (now : Moment S) (messages : List Message) (after : Moment S) (left : List Message) (p q : Process S)
      → Leads (alone model start) start.component now messages steps after left → AllBefore start.before steps → p.now ≡ now → slice_get w.processes start.component ≡ Some p
      → TakesFrom net start n steps p q → IsTakenAs w steps after messages p q
  taken_as bound n [] w now messages after left p q leads early at there is = record {
    world = λ i. record w { processes = (sym (set_same w.processes start.component p there) ∙ ap (slice_set w.processes start.component) (sym is)) i };
    answers = refl;
    now = ap (λ (x : Process S). x.now) is ∙ at ∙ leads.0;
    history = λ to own_to. ap (λ (x : Process S). x.history) is ∙ sym (append-nil p.history);
  }
  taken_as bound n (step ∷ steps) w now messages after left p q leads early at there takes =
      let lone = leads.0 in
      let made = takes.1.0 in
      let agrees : Agrees p.now p.pending lone.step = subst (λ (x : Step S). Agrees p.now p.pending x) (sym leads.2) takes.0.agrees in
      let own = is_own now messages p lone made at leads.1 agrees takes.1.1 in
      let stamp_is = agrees.stamp in
      let entry : made.step.entry ≡ step.entry = ap (λ (m : Made S). m.step.entry) own.is ∙ ap (λ (x : Step S). x.entry) leads.2 in
      let one = step_is w p made there (let l = early.0 in let e = ap (λ (x : Step S). x.entry.stamp) leads.2 in omega (arith, stamp_is, l, e, bound)) takes.1.1 in
      let w1 : World S = with_process w start.component (with_step p made) in
      let rest = taken_as bound (n + 1) steps w1 lone.after lone.left after left (with_step p made) q leads.3 early.1 (ap (λ (m : Made S). m.after) own.is) (set_here w.processes start.component p (with_step p made) there) takes.1.2 in
      record {
        world = ap (λ (r : Answer × World S). replay net until r.1 (steps_of_one start.component (length steps))) one ∙ rest.world ∙ (λ i. record w { processes = set-set w.processes start.component (with_step p made) q i });
        answers = ap (λ (r : Answer × World S). r.0 ∷ Rattle.tw_theory.specs.Executive.answers net until r.1 (steps_of_one start.component (length steps))) one
            ∙ (λ i. Ok (Stepped (entry i).stamp (entry i).kind) ∷ rest.answers i);
        now = rest.now;
        history = λ to own_to.
            rest.history (own.lone_left to) (own.left own_to)
            ∙ append_assoc p.history (made.step ∷ []) (own_steps net start.component steps)
            ∙ ap (λ (x : Step S). p.history ++ (x ∷ own_steps net start.component steps)) (own.consumed to own_to ∙ ap (own_step net start.component) leads.2);
      }

module _ {S : Type 0} (net : Network S) (until : ℕ) (model : Meaning S) (r : SoloRun S) (home : IsHome net model r.start) (run : IsSoloRun model r) where
  -- the beginning of a chain
  first_steps : (n : ℕ) → Leads (alone model r.start) r.start.component r.start.now r.start.messages (take n r.steps) (before_all (drop n r.steps) r.after) (consumed_by (drop n r.steps) ++ r.left)
      × AllBefore r.start.before (take n r.steps)
  first_steps n =
      let whole = take-append-drop n r.steps in (
        (leads_split (alone model r.start) r.start.component r.start.now r.start.messages (take n r.steps) (drop n r.steps) r.after r.left
            (subst (λ (steps : List (Step S)). Leads (alone model r.start) r.start.component r.start.now r.start.messages steps r.after r.left) (sym whole) run.leads)).0,
        (all_before_parts r.start.before (take n r.steps) (drop n r.steps) (subst (AllBefore r.start.before) (sym whole) run.before)).0,
      )

  is_stepped : (w : World S) (p q : Process S) (n : ℕ) → r.start.before ≤ stamp until 0 0 → slice_get w.processes r.start.component ≡ Some p → n ≤ length r.steps
      → TakesFrom net r.start 0 (take n r.steps) p q → IsStepped net until w r n p q
  is_stepped w p q zero bound there l takes = record {
    world = λ i. record w { processes = (sym (set_same w.processes r.start.component p there) ∙ ap (slice_set w.processes r.start.component) (sym takes)) i };
    answers = refl;
    now = λ some. absurd (omega (arith, some));
    history = λ to own_to. ap (λ (x : Process S). x.history) takes ∙ sym (append-nil p.history);
  }
  is_stepped w p q (suc n) bound there l takes =
      let first = first_steps (suc n) in
      let start_is : p.now ≡ r.start.now = begins r.steps l takes in
      let is = taken_as net until model r.start home bound 0 (take (suc n) r.steps) w r.start.now r.start.messages _ _ p q first.0 first.1 start_is there takes in
      let size = length-take-le (suc n) r.steps l in
      record {
        world = ap (λ k. replay net until w (steps_of_one r.start.component k)) (sym size) ∙ is.world;
        answers = ap (λ k. Rattle.tw_theory.specs.Executive.answers net until w (steps_of_one r.start.component k)) (sym size) ∙ is.answers;
        now = λ some. is.now;
        history = is.history;
      }
    where
      begins : (steps : List (Step S)) → suc n ≤ length steps → TakesFrom net r.start 0 (take (suc n) steps) p q → p.now ≡ r.start.now
      begins [] le h = absurd (omega (arith, le))
      begins (step ∷ steps) le h = h.0.begins refl

-- ---- a process that has not changed

module _ {S : Type 0} (net : Network S) (until : ℕ) (model : Meaning S) (start : Start S) (home : IsHome net model start) (later : List Message) (late : start.before ≤ first_stamp later) where
  stays_fresh : (m n : ℕ) (steps : List (Step S)) (now : Moment S) (messages : List Message) (after : Moment S) (left : List Message) (p q : Process S) (step : Step S)
      → Leads (alone model start) start.component now messages steps after left → AllBefore start.before steps → p.now ≡ now → p.pending ≡ messages ++ later
      → (m ≡ 0 → p.now ≡ start.now) → TakesFrom net start m (take n steps) p q → slice_get steps n ≡ Some step → IsFresh start (m + n) q step
  stays_fresh m n [] now messages after left p q step leads early at there begins takes is = absurd (none_there n step is)
    where
      none_there : (k : ℕ) (x : Step S) → slice_get [] k ≡ Some x → ⊥
      none_there k x e = cc e
  stays_fresh m zero (x ∷ steps) now messages after left p q step leads early at there begins takes is =
      let lone = leads.0 in
      let same : x ≡ step = cc is in
      let agrees = agrees_more net model start home now messages later start.before lone leads.1 (let l = early.0 in let e = ap (λ (y : Step S). y.entry.stamp) leads.2 in omega (arith, e, l)) late in
      let mine : Agrees p.now p.pending step = subst (λ (y : Step S). Agrees p.now p.pending y) (leads.2 ∙ same)
      (subst (λ (y : Moment S). Agrees y p.pending lone.step) (sym at) (subst (λ (ms : List Message). Agrees now ms lone.step) (sym there) agrees)) in
      record {
        begins = λ z. ap (λ (y : Process S). y.now) takes ∙ begins (omega (arith, z));
        agrees = subst (λ (y : Process S). Agrees y.now y.pending step) (sym takes) mine;
      }
  stays_fresh m (suc n) (x ∷ steps) now messages after left p q step leads early at there begins takes is =
      let lone = leads.0 in
      let made = takes.1.0 in
      let s = lone.step.entry.stamp in
      let agrees : Agrees p.now p.pending lone.step = subst (λ (y : Step S). Agrees p.now p.pending y) (sym leads.2) takes.0.agrees in
      let own = is_own net until model start home now messages p lone made at leads.1 agrees takes.1.1 in
      let t = step_taken (alone model start) start.component now messages lone leads.1 in
      let more = front_more s start.before messages later (let l = early.0 in let e = ap (λ (y : Step S). y.entry.stamp) leads.2 in omega (arith, e, l)) late in
      let left_is : made.left ≡ lone.left ++ later =
      ap (λ (y : Made S). y.left) own.is ∙ ap (left_at s) there ∙ left_more s messages more.1 ∙ ap (λ ms. ms ++ later) (sym t.left) in
      let rest = stays_fresh (m + 1) n steps lone.after lone.left after left (with_step p made) q step leads.3 early.1 (ap (λ (y : Made S). y.after) own.is) left_is (λ z. absurd (one_more m z)) takes.1.2 is in
      subst (λ k. IsFresh start k q step) (omega arith) rest
    where
      one_more : (k : ℕ) → k + 1 ≡ 0 → ⊥
      one_more k z = omega (arith, z)

      left_more : (s : ℕ) (ms : List Message) → behind s (ms ++ later) ≡ behind s ms ++ later → left_at s (ms ++ later) ≡ left_at s ms ++ later
      left_more s ms e = cond_both (phase_of s == 0) ms (behind s ms) (λ l. left_at s (ms ++ later) ≡ l ++ later) (λ p. cond-true (phase_of s == 0) _ _ p) (λ p. cond-false (phase_of s == 0) _ _ p ∙ e)

pub install_law : {S : Type 0} → InstallLaw S
install_law = record {
  steps = λ net until w model r cause p q finished home run bound there is. is_stepped net until model r home run w p q finished.installed bound there is.within is.takes;
  undisturbed = λ net model r n later p q step home run at there late takes is.
      let fresh = stays_fresh net 0 model r.start home later late 0 n r.steps r.start.now r.start.messages r.after r.left p q step run.leads run.before at there (λ z. at) takes is in
      subst (λ k. IsFresh r.start k q step) (omega arith) fresh;
}
