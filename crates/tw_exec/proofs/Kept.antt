-- Every action makes another executive of an executive: what it makes of the world is `act`, so it is sound by the laws; and each process knows its network and component still.
use Rattle.std.proofs.Common.{◌≡◌, inl, inr, ℕ, ◌<◌, ◌≤◌, ◌-◌, List, [], ◌∷◌, length, Option, None, Some, Ok, refl, sym, ap, ◌∙◌, subst, subst₂, arith}
use Rattle.std.specs.List.{AllByRecursion as Each}
use Rattle.std.specs.Prelude.{IfSome, IsSomeAnd, nat_lt, slice_get, slice_set, Ok, Err}
use Rattle.std.proofs.lemmas.Bool.{cond_both}
use Rattle.std.proofs.lemmas.List.{length-map}
use Rattle.tw_atomic.specs.Atomic.{Meaning}
use Rattle.tw_exec.specs.Actions.{reason}
use Rattle.tw_exec.specs.Refusals.{of_step}
use Rattle.tw_exec.specs.Running.{shown, IsOwn, IsHeld, IsWanting}
use Rattle.tw_exec.proofs.Worlds.{process_at, unchanged}
use Rattle.tw_exec.proofs.Acts.{back_acts, post_acts, step_acts, step_late, step_stops}
use Rattle.tw_laws.proofs.Harvesting.{acts_soundly}
use Rattle.tw_msgs.specs.declared.message.Item.{Item}
use Rattle.tw_msgs.specs.declared.message.Message.{Message}
use Rattle.tw_msgs.specs.declared.record.Record.{Record}
use Rattle.tw_msgs.specs.declared.record_kind.RecordKind.{RecordKind}
use Rattle.tw_network.specs.Contents.{Contents, network_of}
use Rattle.tw_process.specs.Process.{Held, IsStepped, IsStop, with_cut, with_spare, with_settled, with_posted}
use Rattle.tw_process.specs.declared.refused.StepRefused.{StepRefused}
use Rattle.tw_process.specs.declared.refused.StepRefused.TheVariants.{OutOfMemory, Full, NothingDue, OverLimit}
use Rattle.tw_theory.proofs.Elements.{each-append, each-antis, each_weaker, get_of_set, present}
use Rattle.tw_theory.specs.Bundles.{antis, overdue}
use Rattle.tw_theory.specs.Contents.{Aggressive, Cancel, Lazy, Process, back_to_first, next, settle, settled_as, steps_from}
use Rattle.tw_theory.specs.Executive.{Action, Answer, Back, Post, Posted, Raise, Raised, Step, Stepped, Undone, act, column_of, least_of, posted}
use Rattle.tw_theory.specs.Executive as theory
use Rattle.tw_theory.specs.LocalRun as local
use Rattle.tw_theory.specs.LocalRun.{local_step}
use Rattle.tw_theory.specs.Memory.{need_if_made}
use Rattle.tw_theory.specs.Network.{Fits}
use Rattle.tw_theory.specs.Simulator.{records_before}
use Rattle.tw_theory.specs.Soundness.{IsSound}

-- the action gives this answer, and leaves this
pub record IsActed {M S : Type 0} (meaning : M → Meaning S) (n : Contents M) (until end gvt gvt' : ℕ) (ps ps' : List (Held M S)) (mail mail' : List (List Item)) (columns columns' : List (List Record)) (action : Action) (answer : Answer) : Type 0 where
  pub acts : act (network_of meaning n) until (shown ps mail columns gvt) action ≡ (answer, shown ps' mail' columns' gvt')
  pub held : IsHeld meaning n until end gvt' ps' mail' columns'

module _ {M S : Type 0} {meaning : M → Meaning S} {n : Contents M} {until end gvt : ℕ} {ps : List (Held M S)} {mail : List (List Item)} {columns : List (List Record)} (h : IsHeld meaning n until end gvt ps mail columns) where
  pub own_set : (c : ℕ) (new : Held M S) → IsOwn n c new → (d : ℕ) (p : Held M S) → slice_get (slice_set ps c new) d ≡ Some p → IsOwn n d p
  own_set c new is d p at = elim (get_of_set ps c d new p at) [
    | inl same ↦ subst₂ (IsOwn n) (sym same.0) (sym same.1) is
    | inr l ↦ h.own d p l.1
  ]

  pub acted_by : (gvt' : ℕ) (ps' : List (Held M S)) (mail' : List (List Item)) (columns' : List (List Record)) (action : Action) (answer : Answer)
      → act (network_of meaning n) until (shown ps mail columns gvt) action ≡ (answer, shown ps' mail' columns' gvt')
      → ((d : ℕ) (p : Held M S) → slice_get ps' d ≡ Some p → IsOwn n d p)
      → IsActed meaning n until end gvt gvt' ps ps' mail mail' columns columns' action answer
  acted_by gvt' ps' mail' columns' action answer acts own = record {
    acts = acts;
    held = record {
      network = h.network;
      bound = h.bound;
      end_is = h.end_is;
      sound = subst (IsSound (network_of meaning n) until) (ap (λ x. x.1) acts) (acts_soundly (network_of meaning n) until (shown ps mail columns gvt) h.network h.bound h.sound action);
      own = own;
    };
  }

  -- where a process is left as it was, but for room
  pub held_unchanged : (c : ℕ) (old new : Held M S) → slice_get ps c ≡ Some old → new ≡ with_spare new.spare old → IsHeld meaning n until end gvt (slice_set ps c new) mail columns
  held_unchanged c old new at same =
      let o = h.own c old at in
      record {
        network = h.network;
        bound = h.bound;
        end_is = h.end_is;
        sound = subst (IsSound (network_of meaning n) until) (sym (unchanged ps mail columns gvt c old new at same)) h.sound;
        own = own_set c new (subst (IsOwn n c) (sym same) (record { network_is = o.network_is; component_is = o.component_is; floor_le = o.floor_le }));
      }

  pub same_world : (c : ℕ) (old new : Held M S) → slice_get ps c ≡ Some old → new ≡ with_spare new.spare old → shown (slice_set ps c new) mail columns gvt ≡ shown ps mail columns gvt
  same_world c old new at same = unchanged ps mail columns gvt c old new at same

  -- as many columns and mailboxes as processes
  pub as_many_columns : length ps ≡ length columns
  as_many_columns = sym (length-map ps (λ (x : Held M S). x.process)) ∙ h.sound.processes ∙ sym h.sound.columns

  pub as_many_boxes : length ps ≡ length mail
  as_many_boxes = sym (length-map ps (λ (x : Held M S). x.process)) ∙ h.sound.processes ∙ sym h.sound.mail

  pub columns_of_models : length columns ≡ length n.models
  columns_of_models = h.sound.columns ∙ length-map n.models meaning

  -- a column is what the sequential simulator records before the line
  pub sequential : (c : ℕ) (column : List Record) → c < length ps → column ≡ column_of columns c
      → IsSomeAnd (slice_get (shown ps mail columns gvt).processes c) (λ p. column ≡ records_before (network_of meaning n) until c p.line)
  sequential c column near is =
      let there = present ps c near in
      let at = process_at ps mail columns gvt c there.0 there.1 in
      subst (λ o. IsSomeAnd o (λ p. column ≡ records_before (network_of meaning n) until c p.line)) (sym at) (is ∙ (h.sound.each c there.0.process at).column_is)

  -- ---- Step

  pub late_step : (c : ℕ) (old : Held M S) → slice_get ps c ≡ Some old → end ≤ next old.process → act (network_of meaning n) until (shown ps mail columns gvt) (Step c) ≡ (Err theory.NothingDue, shown ps mail columns gvt)
  late_step c old at late = step_late meaning n until gvt ps mail columns c old at (omega (arith, late, h.end_is))

  pub step_acted : (c : ℕ) (old new : Held M S) (s : ℕ) (kind : RecordKind) → slice_get ps c ≡ Some old → next old.process < end → IsStepped meaning old new s kind
      → IsActed meaning n until end gvt gvt ps (slice_set ps c new) mail mail columns columns (Step c) (Ok (Stepped s kind))
  step_acted c old new s kind at early stepped =
      let o = h.own c old at in
      acted_by gvt (slice_set ps c new) mail columns (Step c) (Ok (Stepped s kind))
      (step_acts meaning n until gvt ps mail columns c old new s kind at o (omega (arith, early, h.end_is)) stepped)
      (own_set c new (subst (IsOwn n c) (sym stepped.process) (record { network_is = o.network_is; component_is = o.component_is; floor_le = o.floor_le })))

  pub step_refused : (c : ℕ) (old : Held M S) (e : StepRefused) → slice_get ps c ≡ Some old → next old.process < end → IsStop meaning old e
      → IfSome (reason (of_step e)) (λ why. (act (network_of meaning n) until (shown ps mail columns gvt) (Step c)).0 ≡ Err why)
  step_refused c old OutOfMemory at early stop = tt
  step_refused c old Full at early stop = tt
  step_refused c old NothingDue at early stop = ap (λ x. x.0) (step_stops meaning n until gvt ps mail columns c old local.NothingDue at (h.own c old at) (omega (arith, early, h.end_is)) stop)
  step_refused c old (OverLimit limit) at early stop = ap (λ x. x.0) (step_stops meaning n until gvt ps mail columns c old (local.OverLimit limit) at (h.own c old at) (omega (arith, early, h.end_is)) stop)

  pub step_wants : (c : ℕ) (old : Held M S) (e : StepRefused) → slice_get ps c ≡ Some old → IsStop meaning old e → IsWanting meaning (Step c) (record { network = n; until = until; world = shown ps mail columns gvt }) (of_step e)
  step_wants c old OutOfMemory at stop = tt
  step_wants c old Full at stop =
      let o = h.own c old at in
      let made : local_step (network_of meaning n) c old.process.now old.process.pending ≡ Ok stop.made = (λ i. local_step (network_of meaning (sym o.network_is i)) (sym o.component_is i) old.process.now old.process.pending) ∙ stop.is in
      record {
        component = c;
        of = refl;
        process = old.process;
        at = process_at ps mail columns gvt c old at;
        passes = omega (arith, stop.passes, ap (need_if_made old.process) made);
      }
  step_wants c old NothingDue at stop = tt
  step_wants c old (OverLimit limit) at stop = tt

  -- ---- Back

  pub cut_own : (c s : ℕ) (old new : Held M S) → new ≡ with_cut s old → IsOwn n c old → IsOwn n c new
  unfolding back_to_first
  cut_own c s old new new_is o = subst (IsOwn n c) (sym new_is) (record { network_is = o.network_is; component_is = o.component_is; floor_le = o.floor_le })

  pub back_acted : (c s : ℕ) (old new : Held M S) → slice_get ps c ≡ Some old → gvt ≤ s → new ≡ with_cut s old
      → IsActed meaning n until end gvt gvt ps (slice_set ps c new) mail mail columns columns (Back c s) (Ok (Undone (steps_from s old.process)))
  back_acted c s old new at late new_is =
      acted_by gvt (slice_set ps c new) mail columns (Back c s) (Ok (Undone (steps_from s old.process)))
      (back_acts meaning n until gvt ps mail columns c s old new at late new_is)
      (own_set c new (cut_own c s old new new_is (h.own c old at)))

  -- ---- Raise

  pub raise_acted : (g : ℕ) → g ≡ least_of (shown ps mail columns gvt) → IsActed meaning n until end gvt g ps ps mail mail columns columns Raise (Ok (Raised g))
  unfolding act
  raise_acted g is = acted_by g ps mail columns Raise (Ok (Raised g)) (ap (λ (k : ℕ). (Ok (Raised k), shown ps mail columns k)) (sym is)) h.own

  -- ---- Post

  fit_settled : (way : Cancel) (p : Process S) → Each (λ i. Fits (network_of meaning n) i.message) p.outgoing → Each (Fits (network_of meaning n)) p.owed → Each (λ i. Fits (network_of meaning n) i.message) (settled_as way p).outgoing
  fit_settled Aggressive p outgoing owed = outgoing
  fit_settled Lazy p outgoing owed =
      each-append (λ (i : Item). Fits (network_of meaning n) i.message) p.outgoing (antis (overdue (next p) p.owed)) outgoing (each-antis (Fits (network_of meaning n)) (overdue (next p) p.owed) (each-overdue (next p) p.owed owed))
    where
      each-overdue : (s : ℕ) (ms : List Message) → Each (Fits (network_of meaning n)) ms → Each (Fits (network_of meaning n)) (overdue s ms)
      each-overdue s [] all = tt
      each-overdue s (m ∷ ms) all =
          cond_both (nat_lt (m.stamp - 1) s) (m ∷ overdue s ms) (overdue s ms) (Each (Fits (network_of meaning n)))
          (λ e. (all.0, each-overdue s ms all.1)) (λ e. each-overdue s ms all.1)

  -- what is posted is for mailboxes that are there
  pub all_near : (c : ℕ) (old : Held M S) → slice_get ps c ≡ Some old → Each (λ i. i.message.to < length mail) (settle old.process).outgoing
  all_near c old at =
      let sound = h.sound.each c old.process (process_at ps mail columns gvt c old at) in
      each_weaker (λ (i : Item). Fits (network_of meaning n) i.message) (λ (i : Item). i.message.to < length mail) (λ i f. omega (arith, f.to, h.sound.mail)) (settle old.process).outgoing (fit_settled old.process.cancel old.process sound.fit_outgoing sound.fit_owed)

  pub post_acted : (c : ℕ) (old settled new : Held M S) (mail' : List (List Item)) → slice_get ps c ≡ Some old → settled ≡ with_settled old → new ≡ with_spare new.spare (with_posted settled) → mail' ≡ posted mail (settle old.process).outgoing
      → IsActed meaning n until end gvt gvt ps (slice_set ps c new) mail mail' columns columns (Post c) (Ok (Posted (length (settle old.process).outgoing)))
  post_acted c old settled new mail' at settled_is new_is mail_is =
      let o = h.own c old at in
      let process : new ≡ with_spare new.spare (with_posted (with_settled old)) = new_is ∙ ap (λ x. with_spare new.spare (with_posted x)) settled_is in
      acted_by gvt (slice_set ps c new) mail' columns (Post c) (Ok (Posted (length (settle old.process).outgoing)))
      (post_acts meaning n until gvt ps mail columns c old new mail' at (ap (λ (x : Held M S). x.process) process) mail_is)
      (own_set c new (subst (IsOwn n c) (sym process) (record { network_is = o.network_is; component_is = o.component_is; floor_le = floor_settled old.process.cancel old.process old.floor o.floor_le })))
    where
      floor_settled : (way : Cancel) (p : Process S) (floor : ℕ) → floor ≤ p.line → floor ≤ (settled_as way p).line
      floor_settled Aggressive p floor l = l
      floor_settled Lazy p floor l = l
