-- What each action answers and makes of the world, where the code has found out what is the case.
use Rattle.std.proofs.Common.{◌≡◌, ℕ, ◌<◌, ◌≤◌, List, [], ◌++◌, length, take, Option, Some, None, Ok, Err, refl, sym, ap, ◌∙◌}
use Rattle.std.specs.Prelude.{slice_get, slice_set, remove, nat_lt, Ok, Err}
use Rattle.std.proofs.lemmas.Bool.{cond-true, cond-false, lt-ltb, le-ltb}
use Rattle.tw_atomic.specs.Atomic.{Meaning}
use Rattle.tw_exec.specs.Running.{shown, IsOwn}
use Rattle.tw_exec.proofs.Worlds.{process_at, process_none, changed}
use Rattle.tw_msgs.specs.declared.message.Item.{Item}
use Rattle.tw_msgs.specs.declared.record.Record.{Record}
use Rattle.tw_msgs.specs.declared.record_kind.RecordKind.{RecordKind}
use Rattle.tw_network.specs.Contents.{Contents, network_of}
use Rattle.tw_process.specs.Process.{Held, IsStepped, next_made, with_cut, with_harvested, with_spare}
use Rattle.tw_theory.proofs.Elements.{present}
use Rattle.tw_theory.specs.Contents.{Process, cut, harvested, next, receive, records_of, settle, steps_before, steps_from, with_outgoing, with_step}
use Rattle.tw_theory.specs.Executive.{Back, BeforeGvt, Deliver, Received, Harvest, Harvested, NoSuch, NothingDue, Post, Posted, Step, Stepped, Undone, World, act, act_back, act_deliver, act_harvest, act_post, act_step, column_of, if_made, mail_of, posted, refusal_of}
use Rattle.tw_theory.specs.LocalRun.{NoStep, local_step}
use Rattle.tw_theory.specs.Network.{Network}
use Rattle.tw_vtime.specs.Stamps.{stamp}

module _ {M S : Type 0} (meaning : M → Meaning S) (n : Contents M) (until gvt : ℕ) (ps : List (Held M S)) (mail : List (List Item)) (columns : List (List Record)) where
  abbrev w : World S
  w = shown ps mail columns gvt

  abbrev net : Network S
  net = network_of meaning n

  -- ---- refused

  pub step_none : (c : ℕ) → length ps ≤ c → act (network_of meaning n) until (shown ps mail columns gvt) (Step c) ≡ (Err NoSuch, shown ps mail columns gvt)
  unfolding act
  step_none c l = ap (act_step net until w c) (process_none ps mail columns gvt c l)

  pub post_none : (c : ℕ) → length ps ≤ c → act (network_of meaning n) until (shown ps mail columns gvt) (Post c) ≡ (Err NoSuch, shown ps mail columns gvt)
  unfolding act
  post_none c l = ap (act_post w c) (process_none ps mail columns gvt c l)

  pub back_none : (c s : ℕ) → length ps ≤ c → act (network_of meaning n) until (shown ps mail columns gvt) (Back c s) ≡ (Err NoSuch, shown ps mail columns gvt)
  unfolding act
  back_none c s l = ap (act_back w c s) (process_none ps mail columns gvt c l)

  pub harvest_none : (c : ℕ) → length ps ≤ c → act (network_of meaning n) until (shown ps mail columns gvt) (Harvest c) ≡ (Err NoSuch, shown ps mail columns gvt)
  unfolding act
  harvest_none c l = ap (act_harvest w c) (process_none ps mail columns gvt c l)

  pub deliver_none : (q i : ℕ) → length ps ≤ q → act (network_of meaning n) until (shown ps mail columns gvt) (Deliver q i) ≡ (Err NoSuch, shown ps mail columns gvt)
  unfolding act
  deliver_none q i l = ap (λ o. act_deliver w q i o (slice_get (mail_of mail q) i)) (process_none ps mail columns gvt q l)

  no_item : (q i : ℕ) (p : Option (Process S)) → act_deliver w q i p None ≡ (Err NoSuch, w)
  no_item q i None = refl
  no_item q i (Some p) = refl

  pub deliver_empty : (q i : ℕ) → slice_get (mail_of mail q) i ≡ None → act (network_of meaning n) until (shown ps mail columns gvt) (Deliver q i) ≡ (Err NoSuch, shown ps mail columns gvt)
  unfolding act
  deliver_empty q i e = ap (act_deliver w q i (slice_get w.processes q)) e ∙ no_item q i (slice_get w.processes q)

  pub step_late : (c : ℕ) (old : Held M S) → slice_get ps c ≡ Some old → stamp until 0 0 ≤ next old.process → act (network_of meaning n) until (shown ps mail columns gvt) (Step c) ≡ (Err NothingDue, shown ps mail columns gvt)
  unfolding act
  step_late c old at late =
      ap (act_step net until w c) (process_at ps mail columns gvt c old at)
      ∙ cond-false (nat_lt (next old.process) (stamp until 0 0)) _ _ (le-ltb (next old.process) (stamp until 0 0) late)

  pub step_stops : (c : ℕ) (old : Held M S) (why : NoStep) → slice_get ps c ≡ Some old → IsOwn n c old → next old.process < stamp until 0 0 → next_made meaning old ≡ Err why
      → act (network_of meaning n) until (shown ps mail columns gvt) (Step c) ≡ (Err (refusal_of why), shown ps mail columns gvt)
  unfolding act
  step_stops c old why at own early e =
      ap (act_step net until w c) (process_at ps mail columns gvt c old at)
      ∙ cond-true (nat_lt (next old.process) (stamp until 0 0)) _ _ (lt-ltb (next old.process) (stamp until 0 0) early)
      ∙ ap (if_made w c old.process) ((λ i. local_step (network_of meaning (sym own.network_is i)) (sym own.component_is i) old.process.now old.process.pending) ∙ e)

  pub back_early : (c s : ℕ) → c < length ps → s < gvt → act (network_of meaning n) until (shown ps mail columns gvt) (Back c s) ≡ (Err BeforeGvt, shown ps mail columns gvt)
  unfolding act
  back_early c s near early =
      let p = present ps c near in
      ap (act_back w c s) (process_at ps mail columns gvt c p.0 p.1) ∙ cond-true (nat_lt s gvt) _ _ (lt-ltb s gvt early)

  -- ---- taken

  pub step_acts : (c : ℕ) (old new : Held M S) (s : ℕ) (kind : RecordKind) → slice_get ps c ≡ Some old → IsOwn n c old → next old.process < stamp until 0 0 → IsStepped meaning old new s kind
      → act (network_of meaning n) until (shown ps mail columns gvt) (Step c) ≡ (Ok (Stepped s kind), shown (slice_set ps c new) mail columns gvt)
  unfolding act
  step_acts c old new s kind at own early stepped =
      let made : local_step net c old.process.now old.process.pending ≡ Ok stepped.made = (λ i. local_step (network_of meaning (sym own.network_is i)) (sym own.component_is i) old.process.now old.process.pending) ∙ stepped.is in
      let process : new.process ≡ with_step old.process stepped.made = ap (λ (x : Held M S). x.process) stepped.process in
      ap (act_step net until w c) (process_at ps mail columns gvt c old at)
      ∙ cond-true (nat_lt (next old.process) (stamp until 0 0)) _ _ (lt-ltb (next old.process) (stamp until 0 0) early)
      ∙ ap (if_made w c old.process) made
      ∙ (λ i. (Ok (Stepped (sym stepped.stamp_is i) (sym stepped.kind_is i)), record { processes = changed ps mail columns gvt c new (with_step old.process stepped.made) process i; mail = mail; columns = columns; gvt = gvt }))

  pub post_acts : (c : ℕ) (old new : Held M S) (mail' : List (List Item)) → slice_get ps c ≡ Some old → new.process ≡ with_outgoing (settle old.process) [] → mail' ≡ posted mail (settle old.process).outgoing
      → act (network_of meaning n) until (shown ps mail columns gvt) (Post c) ≡ (Ok (Posted (length (settle old.process).outgoing)), shown (slice_set ps c new) mail' columns gvt)
  unfolding act
  post_acts c old new mail' at new_is mail_is =
      ap (act_post w c) (process_at ps mail columns gvt c old at)
      ∙ (λ i. (Ok (Posted (length (settle old.process).outgoing)), record { processes = changed ps mail columns gvt c new (with_outgoing (settle old.process) []) new_is i; mail = sym mail_is i; columns = columns; gvt = gvt }))

  pub deliver_acts : (q k : ℕ) (old new : Held M S) (item : Item) → slice_get ps q ≡ Some old → slice_get (mail_of mail q) k ≡ Some item → new.process ≡ (receive old.process item).1
      → act (network_of meaning n) until (shown ps mail columns gvt) (Deliver q k) ≡ (Ok (Received (receive old.process item).0), shown (slice_set ps q new) (slice_set mail q (remove (mail_of mail q) k)) columns gvt)
  unfolding act
  deliver_acts q k old new item at item_at new_is =
      (λ i. act_deliver w q k (process_at ps mail columns gvt q old at i) (item_at i))
      ∙ (λ i. (Ok (Received (receive old.process item).0), record { processes = changed ps mail columns gvt q new (receive old.process item).1 new_is i; mail = slice_set mail q (remove (mail_of mail q) k); columns = columns; gvt = gvt }))

  pub back_acts : (c s : ℕ) (old new : Held M S) → slice_get ps c ≡ Some old → gvt ≤ s → new ≡ with_cut s old
      → act (network_of meaning n) until (shown ps mail columns gvt) (Back c s) ≡ (Ok (Undone (steps_from s old.process)), shown (slice_set ps c new) mail columns gvt)
  unfolding act
  back_acts c s old new at late new_is =
      ap (act_back w c s) (process_at ps mail columns gvt c old at)
      ∙ cond-false (nat_lt s gvt) _ _ (le-ltb s gvt late)
      ∙ (λ i. (Ok (Undone (steps_from s old.process)), record { processes = changed ps mail columns gvt c new (cut s old.process) (ap (λ (x : Held M S). x.process) new_is) i; mail = mail; columns = columns; gvt = gvt }))

  pub harvest_acts : (c : ℕ) (old new : Held M S) (column : List Record) → slice_get ps c ≡ Some old → new ≡ with_spare new.spare (with_harvested gvt old)
      → column ≡ column_of columns c ++ records_of (take (steps_before gvt old.process.history) old.process.history)
      → act (network_of meaning n) until (shown ps mail columns gvt) (Harvest c) ≡ (Ok (Harvested (steps_before gvt old.process.history)), shown (slice_set ps c new) mail (slice_set columns c column) gvt)
  unfolding act
  harvest_acts c old new column at new_is column_is =
      ap (act_harvest w c) (process_at ps mail columns gvt c old at)
      ∙ (λ i. (Ok (Harvested (steps_before gvt old.process.history)), record { processes = changed ps mail columns gvt c new (harvested gvt old.process) (ap (λ (x : Held M S). x.process) new_is) i; mail = mail; columns = slice_set columns c (sym column_is i); gvt = gvt }))
