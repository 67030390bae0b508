-- The steps of a chain that agree with a process, one after another, are its own next ones.
use Rattle.std.proofs.Common.{◌≡◌, ℕ, ◌+◌, ◌≤◌, ◌==◌, List, [], ◌∷◌, ◌++◌, true, false, cond, refl, sym, ap, subst, ◌∙◌, arith, ⊎_elim, length, append-nil, append_assoc}
use Rattle.std.proofs.lemmas.Bool.{cond-true, cond-false, eqb-false, cases_Bool}
use Rattle.tw_atomic.specs.Atomic.{Bag, Meaning, turned, CanTurn}
use Rattle.tw_atomic.specs.declared.Turn.{Turn}
use Rattle.tw_msgs.specs.declared.message.Message.{Message}
use Rattle.tw_msgs.specs.declared.record.Record.{Record}
use Rattle.tw_network.specs.Contents.{Contents as NetworkContents}
use Rattle.tw_theory.specs.Bundles.{front, items_of}
use Rattle.tw_theory.specs.Chains.{Start, IsHome, Agrees, alone, made_anew, sent_at, taken_at}
use Rattle.tw_theory.specs.Contents.{Cancel}
use Rattle.tw_theory.specs.Installing.{TakesFrom}
use Rattle.tw_theory.specs.LocalRun.{Step, Leads}
use Rattle.tw_theory.specs.Network.{Network}
use Rattle.tw_theory.specs.Transitions.{Moment}
use Rattle.tw_theory.proofs.Agreeing.{step_taken, same_step}
use Rattle.tw_vtime.specs.Stamps.{phase_of, max_microstep}
use Rattle.tw_chain.specs.Kept as chain
use Rattle.tw_chain.specs.Kept.{shown_all}
use Rattle.tw_step.specs.Steps.{state_before, Linked, AllLinked}
use Rattle.tw_step.specs.declared.step.Step.{Step as KeptStep}
use Rattle.tw_lists.specs.Lists.{Lists}
use Rattle.tw_process.specs.declared.entry.Entry.{Entry}
use Rattle.tw_process.specs.History.{seen, IsKeptBy}
use Rattle.tw_process.specs.Installing.{after_record, after_steps, AreNext, entry_of, entries_of, entries_with, sent_counts}
use Rattle.tw_process.proofs.Installs.{installed, installing, IsRow}
use Rattle.tw_lists.proofs.Loops.{items_length}

-- ---- one step of a chain in the history

-- the state after a step is the one before those behind it
state_next : {S R : Type 0} (lone : Network S) (c : ℕ) (now : Moment S) (ms : List Message) (es : List (KeptStep S R)) (after : Moment S) (left : List Message) → Leads lone c now ms (shown_all es) after left → now.state ≡ state_before es after.state
state_next lone c now ms [] after left leads = ap (λ (x : Moment _). x.state) leads.0
state_next lone c now ms (e ∷ es) after left leads =
    let t = step_taken lone c now ms leads.0 leads.1 in
    ap (λ (x : Moment _). x.state) (sym t.before ∙ ap (λ (s : Step _). s.before) leads.2)

counted : (s : ℕ) (bag : Bag) (pending : List Message) → (phase_of s ≡ 1 → items_of (front s pending) ≡ bag) → length (taken_at s pending) ≡ cond (phase_of s == 0) 0 (length bag)
counted s bag pending is =
    ⊎_elim
    (λ (b : (phase_of s == 0) ≡ true). ap length (cond-true (phase_of s == 0) [] (front s pending) b) ∙ sym (cond-true (phase_of s == 0) 0 (length bag) b))
    (λ (b : (phase_of s == 0) ≡ false).
    let odd : phase_of s ≡ 1 = let n = eqb-false (phase_of s) 0 b in omega (arith, n) in
    ap length (cond-false (phase_of s == 0) [] (front s pending) b) ∙ sym (items_length (front s pending)) ∙ ap length (is odd) ∙ sym (cond-false (phase_of s == 0) 0 (length bag) b))
    (cases_Bool (phase_of s == 0))

-- ---- several

module _ {M S R : Type 0} (net : Network S) (valid : S → Type 0) (m : Meaning S) (undone : Turn → S → ℕ → Bag → R → S) (start : Start S) (home : IsHome net m start) (small : net.micro_limit ≤ max_microstep)
    (stays : (tk : Turn) (state : S) (elapsed : ℕ) (bag : Bag) → CanTurn valid m tk state elapsed bag → valid (turned m tk state elapsed bag))
    (network : NetworkContents M) (line : ℕ) (way : Cancel) (floor : ℕ) where
  pub record AllMade (n : ℕ) (es : List (KeptStep S R)) (now after : Moment S) (hs : List (Entry S R)) (lists : Lists) : Type 0 where
    pub kept : IsKeptBy valid m undone start.component after floor (hs ++ entries_of net start.component es) (after_steps net start.component way es lists)
    pub takes : TakesFrom net start n (shown_all es) (seen network start.component now line way floor hs lists).process (seen network start.component after line way floor (hs ++ entries_of net start.component es) (after_steps net start.component way es lists)).process

  pub all_made : (n : ℕ) (es : List (KeptStep S R)) (now : Moment S) (ms : List Message) (after : Moment S) (left : List Message) (hs : List (Entry S R)) (lists : Lists)
      → Leads (alone m start) start.component now ms (shown_all es) after left → (n ≡ 0 → now ≡ start.now)
      → IsKeptBy valid m undone start.component now floor hs lists → AreNext net start.component way es lists → AllLinked undone es after.state
      → AllMade n es now after hs lists
  all_made n [] now ms after left hs lists leads begins kept next linked =
      record {
        kept = subst (λ h. IsKeptBy valid m undone start.component after floor h lists) (sym (append-nil hs)) (subst (λ (x : Moment S). IsKeptBy valid m undone start.component x floor hs lists) leads.0 kept);
        takes = λ i. (seen network start.component (sym leads.0 i) line way floor (append-nil hs i) lists).process;
      }
  all_made n (e ∷ es) now ms after left hs lists leads begins kept next linked =
      let c = start.component in
      let made = leads.0 in
      let is : made.step ≡ chain.shown e = leads.2 in
      let t = step_taken (alone m start) c now ms made leads.1 in
      let before_is : (chain.shown e).before ≡ now = sym (ap (λ (s : Step S). s.before) is) ∙ t.before in
      let agrees : Agrees now lists.pending made.step = subst (λ (x : Type 0). x) (λ i. Agrees (before_is i) lists.pending (sym is i)) next.0 in
      let made' = made_anew net c lists.pending made in
      let own = same_step net m start home now ms lists.pending made leads.1 agrees in
      let entry_is : made.step.entry ≡ e.done = ap (λ (s : Step S). s.entry) is in
      let entry = entry_of net c e in
      let row : IsRow net c valid m undone home.model_is small stays now lists entry made' = record {
        step = own;
        done_is = sym entry_is;
        before_is = before_is;
        consumed_is = ap (λ (r : Record). length (taken_at r.stamp lists.pending)) entry_is ∙ counted e.done.stamp e.done.bag lists.pending next.0.bag;
        sent_is = ap (λ (r : Record). length (sent_at net c r)) entry_is;
        link = subst (Linked undone e) (sym (state_next (alone m start) c made.after made.left es after left leads.3)) linked.0;
      } in
      let one = installed net c valid m undone home.model_is small stays network now line way floor hs lists entry made' kept row in
      let lists_is : installing way made' lists ≡ after_record net c way e.done lists = ap (λ (r : Record). after_record net c way r lists) entry_is in
      let later = after_record net c way e.done lists in
      let first = all_made (n + 1) es made.after made.left after left (hs ++ entry ∷ []) later leads.3 (λ z. absurd (omega (arith, z)))
      (subst (λ l. IsKeptBy valid m undone c made.after floor (hs ++ entry ∷ []) l) lists_is one.kept) next.1 linked.1 in
      let joined : (hs ++ entry ∷ []) ++ entries_of net c es ≡ hs ++ entry ∷ entries_of net c es = append_assoc hs (entry ∷ []) (entries_of net c es) in
      let last = after_steps net c way es later in
      record {
        kept = subst (λ h. IsKeptBy valid m undone c after floor h last) joined first.kept;
        takes = (
          record { begins = begins; agrees = subst (λ (x : Moment S). Agrees x lists.pending (chain.shown e)) before_is next.0 },
          (
            made',
            own,
            subst (λ (x : Type 0). x) (λ i. TakesFrom net start (n + 1) (shown_all es)
                ((ap (λ l. (seen network c made.after line way floor (hs ++ entry ∷ []) l).process) (sym lists_is) ∙ ap (λ p. p.process) one.seen_is) i)
                (seen network c after line way floor (joined i) last).process)
                first.takes,
          ),
        );
      }

-- ---- the counts of what they sent

pub entries_counted : {S R : Type 0} (net : Network S) (c : ℕ) (es : List (KeptStep S R)) → entries_with (sent_counts net c es) es ≡ entries_of net c es
entries_counted net c [] = refl
entries_counted net c (e ∷ es) = ap (λ l. entry_of net c e ∷ l) (entries_counted net c es)
