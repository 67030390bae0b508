-- Three refusals come exactly where the theory's do: of an action that was taken, of one that the theory refuses, and of one that is refused for want of memory or nodes, which the theory would take or stop at a limit.
use Rattle.std.proofs.Common.{◌≡◌, ℕ, ◌<◌, ◌≤◌, List, length, Option, None, Some, Result, Ok, Err, refl, sym, ap, ◌∙◌, subst, subst₂, arith}
use Rattle.std.specs.Prelude.{◌==◌, IfSome, IsErrOf, nat_le, nat_lt, slice_get}
use Rattle.std.proofs.lemmas.Bool.{cond-true, cond-false, cond_both, lt-leb, lt-ltb}
use Rattle.std.proofs.lemmas.Option.{none-some}
use Rattle.tw_atomic.specs.Atomic.{Meaning}
use Rattle.tw_exec.specs.Actions.{reason}
use Rattle.tw_exec.specs.Refusals.{of_pool, of_step}
use Rattle.tw_exec.specs.Running.{Running, AreExact, IsHeld, answer, shown}
use Rattle.tw_actions.specs.declared.action.Done.{Done}
use Rattle.tw_exec.specs.declared.refused.Refused.{Refused}
use Rattle.tw_exec.specs.declared.refused.Refused.TheVariants.{OutOfMemory, Full, NothingDue, OverLimit, NoSuch, BeforeGvt, Committed}
use Rattle.tw_exec.proofs.Kept.{step_refused}
use Rattle.tw_exec.proofs.Worlds.{process_at}
use Rattle.tw_msgs.specs.declared.message.Item.{Item}
use Rattle.tw_msgs.specs.declared.message.Message.{Message}
use Rattle.tw_msgs.specs.declared.record.Record.{Record}
use Rattle.tw_network.specs.Contents.{Contents, network_of}
use Rattle.tw_pool.specs.declared.refused.PoolRefused.{PoolRefused}
use Rattle.tw_pool.specs.declared.refused.PoolRefused.TheVariants.{Full as full, OutOfMemory as outofmemory}
use Rattle.tw_process.specs.Process.{Held, IsStop}
use Rattle.tw_process.specs.declared.refused.StepRefused.{StepRefused}
use Rattle.tw_theory.proofs.Elements.{present}
use Rattle.tw_theory.specs.Bundles.{front, items_of}
use Rattle.tw_theory.specs.Contents.{Process, next}
use Rattle.tw_theory.specs.Executive as theory
use Rattle.tw_theory.specs.Executive.{Deliver, Harvest, Post, Step, World, act, mail_of}
use Rattle.tw_theory.specs.LocalRun.{Made, NoStep, if_moved, local_step, next_of, step_at}
use Rattle.tw_theory.specs.Network.{Network}
use Rattle.tw_theory.specs.Transitions.{Moment, Move, transition}
use Rattle.tw_vtime.specs.Stamps.{max_tick, never, phase_of, stamp}
use Rattle.tw_vtime.specs.declared.limits.Limit.{Limit}

-- an answer that is none of these three refusals
abbrev pub IsOther : theory.Answer → Type 0
IsOther (Ok done) = Unit {0}
IsOther (Err theory.NothingDue) = ⊥
IsOther (Err (theory.OverLimit limit)) = Unit {0}
IsOther (Err theory.NoSuch) = ⊥
IsOther (Err theory.BeforeGvt) = ⊥
IsOther (Err theory.Committed) = Unit {0}

pub ok_err : {T E : Type 0} {x : T} {y : E} → ◌≡◌ {A = Result T E} (Ok x) (Err y) → ⊥
ok_err k = cc

pub same_Err : {T E : Type 0} (x y : E) → ◌≡◌ {A = Result T E} (Err x) (Err y) → x ≡ y
same_Err x y k = cc

module _ {M S : Type 0} (meaning : M → Meaning S) (action : theory.Action) (e : Running M S) where
  not_so : (r : theory.Refusal) → (IsOther (Err r) → ⊥) → IsOther (answer meaning action e) → answer meaning action e ≡ Err r → ⊥
  not_so r none other is = none (subst IsOther is other)

  -- what is none of the three comes of what is none of the three
  others : (r : Result Done Refused) → IsOther (answer meaning action e) → (IsErrOf r NoSuch → ⊥) → (IsErrOf r BeforeGvt → ⊥) → (IsErrOf r NothingDue → ⊥) → AreExact meaning action e r
  others r other a b c = record {
    no_such = (λ is. absurd (not_so theory.NoSuch (λ o. o) other is), λ is. absurd (a is));
    before_gvt = (λ is. absurd (not_so theory.BeforeGvt (λ o. o) other is), λ is. absurd (b is));
    nothing_due = (λ is. absurd (not_so theory.NothingDue (λ o. o) other is), λ is. absurd (c is));
  }

  pub exact_taken : (done : Done) → answer meaning action e ≡ Ok done → AreExact meaning action e (Ok done)
  exact_taken done is = others (Ok done) (subst IsOther (sym is) tt) (λ k. ok_err k) (λ k. ok_err k) (λ k. ok_err k)

  pub exact_refused : (why : Refused) → IfSome (reason why) (λ r. answer meaning action e ≡ Err r) → (reason why ≡ None → IsOther (answer meaning action e)) → AreExact meaning action e (Err why)
  exact_refused OutOfMemory known other = others (Err OutOfMemory) (other refl) (λ k. cc) (λ k. cc) (λ k. cc)
  exact_refused Full known other = others (Err Full) (other refl) (λ k. cc) (λ k. cc) (λ k. cc)
  exact_refused (OverLimit limit) known other = others (Err (OverLimit limit)) (subst IsOther (sym known) tt) (λ k. cc) (λ k. cc) (λ k. cc)
  exact_refused Committed known other = others (Err Committed) (subst IsOther (sym known) tt) (λ k. cc) (λ k. cc) (λ k. cc)
  exact_refused NoSuch known other = record {
    no_such = (λ is. refl, λ is. known);
    before_gvt = (λ is. absurd (let k = sym known ∙ is in cc), λ is. absurd cc);
    nothing_due = (λ is. absurd (let k = sym known ∙ is in cc), λ is. absurd cc);
  }
  exact_refused BeforeGvt known other = record {
    no_such = (λ is. absurd (let k = sym known ∙ is in cc), λ is. absurd cc);
    before_gvt = (λ is. refl, λ is. known);
    nothing_due = (λ is. absurd (let k = sym known ∙ is in cc), λ is. absurd cc);
  }
  exact_refused NothingDue known other = record {
    no_such = (λ is. absurd (let k = sym known ∙ is in cc), λ is. absurd cc);
    before_gvt = (λ is. absurd (let k = sym known ∙ is in cc), λ is. absurd cc);
    nothing_due = (λ is. refl, λ is. known);
  }

  -- as the theory refuses it
  pub exact_known : (why : Refused) (r : theory.Refusal) → reason why ≡ Some r → answer meaning action e ≡ Err r → AreExact meaning action e (Err why)
  exact_known why r is known =
      exact_refused why (subst (λ o. IfSome o (λ r. answer meaning action e ≡ Err r)) (sym is) known) (λ none. absurd (none-some r (sym none ∙ is)))

  -- for want of memory or nodes, of an action that the theory takes or stops at a limit
  exact_wanting : (why : Refused) → reason why ≡ None → IsOther (answer meaning action e) → AreExact meaning action e (Err why)
  exact_wanting why none other = exact_refused why (subst (λ o. IfSome o (λ r. answer meaning action e ≡ Err r)) (sym none) tt) (λ n. other)

-- ---- what the theory answers of a component and an item that are there

-- a step before never is made or stops at a limit
due_step : {S : Type 0} (net : Network S) (c : ℕ) (now : Moment S) (pending : List Message) (w : theory.World S) (p : Process S) → next_of now pending < never → IsOther (theory.if_made w c p (local_step net c now pending)).0
unfolding local_step step_at
due_step {S} net c now pending w p top =
    let s = next_of now pending in
    let IsFine : Result (Made S) NoStep → Type 0 = λ r. IsOther (theory.if_made w c p r).0 in
    subst IsFine (sym (cond-false (nat_le never s) _ _ (lt-leb never s top)))
    (cond_both (phase_of s == 0) _ _ IsFine (λ even. tt) (λ odd. moved _ (transition net c now s (items_of (front s pending)))))
  where
    moved : (f : Move S → Made S) (r : Result (Move S) Limit) → IsOther (theory.if_made w c p (if_moved f r)).0
    moved f (Ok move) = tt
    moved f (Err limit) = tt

module _ {M S : Type 0} (meaning : M → Meaning S) (n : Contents M) (until gvt : ℕ) (ps : List (Held M S)) (mail : List (List Item)) (columns : List (List Record)) where
  abbrev w : World S
  w = shown ps mail columns gvt

  abbrev net : Network S
  net = network_of meaning n

  step_other : (c : ℕ) (old : Held M S) → slice_get ps c ≡ Some old → next old.process < stamp until 0 0 → until ≤ max_tick → IsOther (act (network_of meaning n) until (shown ps mail columns gvt) (Step c)).0
  unfolding act
  step_other c old at early bound =
      subst (λ (r : theory.Answer × World S). IsOther r.0)
      (sym (ap (theory.act_step net until w c) (process_at ps mail columns gvt c old at) ∙ cond-true (nat_lt (next old.process) (stamp until 0 0)) _ _ (lt-ltb (next old.process) (stamp until 0 0) early)))
      (due_step net c old.process.now old.process.pending w old.process (omega (arith, early, bound)))

  post_other : (c : ℕ) → c < length ps → IsOther (act (network_of meaning n) until (shown ps mail columns gvt) (Post c)).0
  unfolding act
  post_other c near = let p = present ps c near in subst (λ (o : Option (Process S)). IsOther (theory.act_post w c o).0) (sym (process_at ps mail columns gvt c p.0 p.1)) tt

  deliver_other : (q i : ℕ) (old : Held M S) (item : Item) → slice_get ps q ≡ Some old → slice_get (mail_of mail q) i ≡ Some item → IsOther (act (network_of meaning n) until (shown ps mail columns gvt) (Deliver q i)).0
  unfolding act
  deliver_other q i old item at item_at =
      subst₂ (λ (o : Option (Process S)) (x : Option Item). IsOther (theory.act_deliver w q i o x).0) (sym (process_at ps mail columns gvt q old at)) (sym item_at) tt

  harvest_other : (c : ℕ) → c < length ps → IsOther (act (network_of meaning n) until (shown ps mail columns gvt) (Harvest c)).0
  unfolding act
  harvest_other c near = let p = present ps c near in subst (λ (o : Option (Process S)). IsOther (theory.act_harvest w c o).0) (sym (process_at ps mail columns gvt c p.0 p.1)) tt

module _ {M S : Type 0} {meaning : M → Meaning S} {n : Contents M} {until end gvt : ℕ} {ps : List (Held M S)} {mail : List (List Item)} {columns : List (List Record)} (h : IsHeld meaning n until end gvt ps mail columns) where
  pub step_exact : (c : ℕ) (old : Held M S) (e : StepRefused) → slice_get ps c ≡ Some old → next old.process < end → IsStop meaning old e
      → AreExact meaning (Step c) (record { network = n; until = until; world = shown ps mail columns gvt }) (Err (of_step e))
  step_exact c old e at early stop =
      exact_refused meaning (Step c) (record { network = n; until = until; world = shown ps mail columns gvt }) (of_step e) (step_refused h c old e at early stop)
      (λ none. step_other meaning n until gvt ps mail columns c old at (omega (arith, early, h.end_is)) h.bound)

  module _ (why : Refused) (none : reason why ≡ None) where
    pub post_exact : (c : ℕ) → c < length ps → AreExact meaning (Post c) (record { network = n; until = until; world = shown ps mail columns gvt }) (Err why)
    post_exact c near = exact_wanting meaning (Post c) (record { network = n; until = until; world = shown ps mail columns gvt }) why none (post_other meaning n until gvt ps mail columns c near)

    pub deliver_exact : (q i : ℕ) (old : Held M S) (item : Item) → slice_get ps q ≡ Some old → slice_get (mail_of mail q) i ≡ Some item → AreExact meaning (Deliver q i) (record { network = n; until = until; world = shown ps mail columns gvt }) (Err why)
    deliver_exact q i old item at item_at =
        exact_wanting meaning (Deliver q i) (record { network = n; until = until; world = shown ps mail columns gvt }) why none (deliver_other meaning n until gvt ps mail columns q i old item at item_at)

    pub harvest_exact : (c : ℕ) → c < length ps → AreExact meaning (Harvest c) (record { network = n; until = until; world = shown ps mail columns gvt }) (Err why)
    harvest_exact c near = exact_wanting meaning (Harvest c) (record { network = n; until = until; world = shown ps mail columns gvt }) why none (harvest_other meaning n until gvt ps mail columns c near)

pub none_of_pool : (e : PoolRefused) → reason (of_pool e) ≡ None
none_of_pool outofmemory = refl
none_of_pool full = refl
