-- What installing a chain answers, from its parts.
use Rattle.std.proofs.Common.{◌≡◌, ℕ, zero, suc, ◌<◌, ◌≤◌, List, [], ◌∷◌, ◌++◌, Option, Some, None, refl, sym, ap, subst, ◌∙◌, arith, length, take, drop}
use Rattle.std.specs.Prelude.{slice_get, IfNone, IfSome}
use Rattle.std.specs.Option.{option_map, unwrap_or}
use Rattle.std.proofs.lemmas.List.{length-map, take-map}
use Rattle.std.proofs.lemmas.Option.{slice_get_within, slice_get-map}
use Rattle.tw_atomic.specs.Atomic.{Bag, Meaning, turned, CanTurn}
use Rattle.tw_atomic.specs.declared.Turn.{Turn}
use Rattle.tw_msgs.specs.declared.message.Message.{Message}
use Rattle.tw_msgs.specs.declared.record.Record.{Record}
use Rattle.tw_network.specs.Contents.{Contents as NetworkContents}
use Rattle.tw_theory.specs.Chains.{SoloRun, IsSoloRun, Cause, IsHome, Agrees, alone, made_anew, sent_at}
use Rattle.tw_theory.specs.Contents.{Process, Cancel, sent_out, before_all}
use Rattle.tw_theory.specs.Installing.{IsInstalled, StopsAt, TakesFrom}
use Rattle.tw_theory.specs.LocalRun.{Step, Leads}
use Rattle.tw_theory.specs.Network.{Network}
use Rattle.tw_theory.specs.Transitions.{Moment}
use Rattle.tw_theory.proofs.Agreeing.{step_taken, same_step}
use Rattle.tw_theory.proofs.Elements.{head_same, tail_same}
use Rattle.tw_vtime.specs.Stamps.{max_microstep}
use Rattle.tw_chain.specs.Kept as chain
use Rattle.tw_chain.specs.Kept.{shown_all}
use Rattle.tw_step.specs.Steps.{AllLinked}
use Rattle.tw_step.specs.declared.step.Step.{Step as KeptStep}
use Rattle.tw_lists.specs.Lists.{Lists, with_room}
use Rattle.tw_process.specs.declared.entry.Entry.{Entry}
use Rattle.tw_actions.specs.declared.chain.Stop.{Stop}
use Rattle.tw_actions.specs.declared.chain.Stop.TheVariants.{Ended, Stale, OutOfMemory, Full}
use Rattle.tw_process.specs.History.{seen, IsKeptBy}
use Rattle.tw_process.specs.Installing.{after_record, after_steps, AreNext, WhyNot, entries_of, entries_with, sent_counts}
use Rattle.tw_process.proofs.Histories.{live_shown}
use Rattle.tw_process.proofs.Installations.{AllMade, all_made, entries_counted}
use Rattle.tw_process.proofs.Receipts.{others_kept}

-- ---- a run in two parts

pub record Split {S : Type 0} (net : Network S) (c n : ℕ) (now : Moment S) (ms : List Message) (steps : List (Step S)) (after : Moment S) (left : List Message) : Type 0 where
  pub mid : List Message
  pub first : Leads net c now ms (take n steps) (before_all (drop n steps) after) mid
  pub rest : Leads net c (before_all (drop n steps) after) mid (drop n steps) after left

pub split : {S : Type 0} (net : Network S) (c n : ℕ) (now : Moment S) (ms : List Message) (steps : List (Step S)) (after : Moment S) (left : List Message) → Leads net c now ms steps after left → Split net c n now ms steps after left
split net c zero now ms [] after left h = record { mid = ms; first = (h.0, refl); rest = (refl, h.1) }
split net c zero now ms (step ∷ steps) after left h =
    let begins : now ≡ step.before = sym (step_taken net c now ms h.0 h.1).before ∙ ap (λ (s : Step _). s.before) h.2 in
    record { mid = ms; first = (begins, refl); rest = subst (λ (x : Moment _). Leads net c x ms (step ∷ steps) after left) begins h }
split net c (suc n) now ms [] after left h = record { mid = left; first = h; rest = (refl, refl) }
split net c (suc n) now ms (step ∷ steps) after left h =
    let s = split net c n h.0.after h.0.left steps after left h.3 in
    record { mid = s.mid; first = (h.0, h.1, h.2, s.first); rest = s.rest }

-- ---- steps that are shown alike

pub record Alike {S R : Type 0} (net : Network S) (c : ℕ) (way : Cancel) (xs ys : List (KeptStep S R)) (lists : Lists) : Type 0 where
  pub next : AreNext net c way xs lists → AreNext net c way ys lists
  pub after : after_steps net c way xs lists ≡ after_steps net c way ys lists
  pub counts : sent_counts net c xs ≡ sent_counts net c ys

pub alike : {S R : Type 0} (net : Network S) (c : ℕ) (way : Cancel) (xs ys : List (KeptStep S R)) (lists : Lists) → shown_all xs ≡ shown_all ys → Alike net c way xs ys lists
alike net c way [] [] lists same = record { next = λ h. h; after = refl; counts = refl }
alike net c way [] (y ∷ ys) lists same = absurd (let l = ap length same in omega (arith, l))
alike net c way (x ∷ xs) [] lists same = absurd (let l = ap length same in omega (arith, l))
alike {S} {R} net c way (x ∷ xs) (y ∷ ys) lists same =
    let one : chain.shown x ≡ chain.shown y = head_same same in
    let done : x.done ≡ y.done = ap (λ (s : Step S). s.entry) one in
    let rest = alike net c way xs ys (after_record net c way x.done lists) (tail_same same) in
    record {
      next = λ h. (
        subst (λ (s : Step S). Agrees s.before lists.pending s) one h.0,
        subst (λ (r : Record). AreNext net c way ys (after_record net c way r lists)) done (rest.next h.1),
      );
      after = rest.after ∙ ap (λ (r : Record). after_steps net c way ys (after_record net c way r lists)) done;
      counts = (λ i. length (sent_at net c (done i)) ∷ rest.counts i);
    }

-- the step of a chain that is shown so
pub shown_at : {S R : Type 0} (es : List (KeptStep S R)) (n : ℕ) (step : Step S) → slice_get (shown_all es) n ≡ Some step → (e : KeptStep S R) × (slice_get es n ≡ Some e) × (chain.shown e ≡ step)
shown_at {S} {R} es n step is = go (slice_get es n) refl (sym (slice_get-map chain.shown es n) ∙ is)
  where
    go : (o : Option (KeptStep S R)) → slice_get es n ≡ o → option_map chain.shown o ≡ Some step → (e : KeptStep S R) × (slice_get es n ≡ Some e) × (chain.shown e ≡ step)
    go None at f = absurd (cc f)
    go (Some e) at f = (e, at, cc f)

drop_at : {A : Type 0} (xs : List A) (n : ℕ) (x : A) → slice_get xs n ≡ Some x → (rest : List A) × (drop n xs ≡ x ∷ rest)
drop_at [] n x is = absurd (cc is)
drop_at (y ∷ xs) zero x is = (xs, (let same : y ≡ x = cc is in ap (λ z. z ∷ xs) same))
drop_at (y ∷ xs) (suc n) x is = drop_at xs n x is

-- ---- the whole

module _ {M S R : Type 0} (net : Network S) (valid : S → Type 0) (m : Meaning S) (undone : Turn → S → ℕ → Bag → R → S) (r : SoloRun S) (home : IsHome net m r.start) (small : net.micro_limit ≤ max_microstep)
    (stays : (tk : Turn) (state : S) (elapsed : ℕ) (bag : Bag) → CanTurn valid m tk state elapsed bag → valid (turned m tk state elapsed bag))
    (network : NetworkContents M) (line : ℕ) (way : Cancel) (floor : ℕ) (run : IsSoloRun m r) where
  pub record MadeUpTo (n : ℕ) (now now' : Moment S) (hs : List (Entry S R)) (lists : Lists) (parts : List (KeptStep S R)) : Type 0 where
    pub all : AllMade net valid m undone r.start home small stays network line way floor 0 parts now now' hs lists
    pub begins : n ≡ 0 → now' ≡ r.start.now

  -- the first n steps, which are these parts, are made
  pub made : (n : ℕ) (now now' : Moment S) (hs : List (Entry S R)) (lists : Lists) (parts : List (KeptStep S R)) → now ≡ r.start.now → IsKeptBy valid m undone r.start.component now floor hs lists
      → shown_all parts ≡ take n r.steps → now' ≡ before_all (drop n r.steps) r.after → AreNext net r.start.component way parts lists → AllLinked undone parts now'.state
      → MadeUpTo n now now' hs lists parts
  made n now now' hs lists parts stands kept parts_is now_is next linked =
      let s = split (alone m r.start) r.start.component n r.start.now r.start.messages r.steps r.after r.left run.leads in
      let leads : Leads (alone m r.start) r.start.component now r.start.messages (shown_all parts) now' s.mid =
      subst (λ (x : Type 0). x) (λ i. Leads (alone m r.start) r.start.component (sym stands i) r.start.messages (sym parts_is i) (sym now_is i) s.mid) s.first in
      let z = split (alone m r.start) r.start.component 0 r.start.now r.start.messages r.steps r.after r.left run.leads in
      record {
        all = all_made net valid m undone r.start home small stays network line way floor 0 parts now r.start.messages now' s.mid hs lists leads (λ _. stands) kept next linked;
        begins = λ none. now_is ∙ ap (λ k. before_all (drop k r.steps) r.after) none ∙ sym z.first.0;
      }

  -- why the next one is not
  pub stops : (n : ℕ) (now' : Moment S) (hist : List (Entry S R)) (lists : Lists) (step : Step S) (e : KeptStep S R) (stop : Stop) → IsKeptBy valid m undone r.start.component now' floor hist lists
      → now' ≡ before_all (drop n r.steps) r.after → (n ≡ 0 → now' ≡ r.start.now) → slice_get r.steps n ≡ Some step → chain.shown e ≡ step → WhyNot net r.start.component way e lists stop
      → StopsAt net r n (seen network r.start.component now' line way floor hist lists).process step stop
  stops n now' hist lists step e (Ended cause) kept now_is begins at is why = absurd why
  stops n now' hist lists step e Stale kept now_is begins at is why =
      let d = drop_at r.steps n step at in
      let here : now' ≡ step.before = now_is ∙ ap (λ l. before_all l r.after) d.1 in
      λ fresh. why (subst (λ (x : Type 0). x) (λ i. Agrees ((here ∙ ap (λ (s : Step S). s.before) (sym is)) i) lists.pending (sym is i)) fresh.agrees)
  stops n now' hist lists step e OutOfMemory kept now_is begins at is why =
      let d = drop_at r.steps n step at in
      let here : now' ≡ step.before = now_is ∙ ap (λ l. before_all l r.after) d.1 in
      record { begins = begins; agrees = subst (λ (x : Type 0). x) (λ i. Agrees (sym (here ∙ ap (λ (s : Step S). s.before) (sym is)) i) lists.pending (is i)) why }
  stops n now' hist lists step e Full kept now_is begins at is why =
      let d = drop_at r.steps n step at in
      let here : now' ≡ step.before = now_is ∙ ap (λ l. before_all l r.after) d.1 in
      let agrees : Agrees now' lists.pending step = subst (λ (x : Type 0). x) (λ i. Agrees (sym (here ∙ ap (λ (s : Step S). s.before) (sym is)) i) lists.pending (is i)) why.0 in
      let s = split (alone m r.start) r.start.component n r.start.now r.start.messages r.steps r.after r.left run.leads in
      let rest : Leads (alone m r.start) r.start.component now' s.mid (step ∷ d.0) r.after r.left = subst (λ (x : Type 0). x) (λ i. Leads (alone m r.start) r.start.component (sym now_is i) s.mid (d.1 i) r.after r.left) s.rest in
      let own = same_step net m r.start home now' s.mid lists.pending rest.0 rest.1 (subst (λ (x : Step S). Agrees now' lists.pending x) (sym rest.2) agrees) in
      let sends = ap (λ (x : Step S). length (sent_out way lists.owed (sent_at net r.start.component x.entry))) (rest.2 ∙ sym is) in (
        record { begins = begins; agrees = agrees },
        record {
          made = made_anew net r.start.component lists.pending rest.0;
          is = own;
          passes = omega (arith, why.1, sends, live_shown valid m undone network r.start.component now' line way floor hist lists kept);
        },
      )

  pub record Whole (cause : Cause) (now now' : Moment S) (hs hist : List (Entry S R)) (lists lists' : Lists) (n : ℕ) (stop : Stop) : Type 0 where
    pub kept : IsKeptBy valid m undone r.start.component now' floor hist lists'
    pub is : IsInstalled net r cause (seen network r.start.component now line way floor hs lists).process (seen network r.start.component now' line way floor hist lists').process (record { installed = n; stop = stop })

  pub whole : (cause : Cause) (now now' : Moment S) (hs hist : List (Entry S R)) (lists lists' : Lists) (n : ℕ) (stop : Stop) (es parts : List (KeptStep S R)) (counts : List ℕ) (o : Option Stop) (k : Cause)
      → now ≡ r.start.now → IsKeptBy valid m undone r.start.component now floor hs lists → shown_all es ≡ r.steps → n ≤ length es
      → AreNext net r.start.component way (take n es) lists → lists' ≡ with_room lists'.room lists'.spare (after_steps net r.start.component way (take n es) lists) → counts ≡ sent_counts net r.start.component (take n es)
      → shown_all parts ≡ take n r.steps → now' ≡ before_all (drop n r.steps) r.after → AllLinked undone parts now'.state → hist ≡ hs ++ entries_with counts parts
      → IfNone o (n ≡ length es) → IfSome o (λ s. n < length es) → IfSome o (λ s. (e : KeptStep S R) → slice_get es n ≡ Some e → WhyNot net r.start.component way e lists' s)
      → stop ≡ unwrap_or o (Ended k) → k ≡ cause
      → Whole cause now now' hs hist lists lists' n stop
  whole cause now now' hs hist lists lists' n stop es parts counts o k stands kept es_is within next lists_is counts_is parts_is now_is linked hist_is all short why stop_is cause_is =
      let c = r.start.component in
      let firsts : shown_all (take n es) ≡ take n r.steps = sym (take-map (chain.shown {S = S} {R = R}) n es) ∙ ap (take n) es_is in
      let same = alike net c way (take n es) parts lists (firsts ∙ sym parts_is) in
      let mk = made n now now' hs lists parts stands kept parts_is now_is (same.next next) linked in
      let last = after_steps net c way parts lists in
      let lists_last : lists' ≡ with_room lists'.room lists'.spare last = lists_is ∙ ap (with_room lists'.room lists'.spare) same.after in
      let hist_last : hist ≡ hs ++ entries_of net c parts = hist_is ∙ ap (λ l. hs ++ entries_with l parts) (counts_is ∙ same.counts) ∙ ap (λ l. hs ++ l) (entries_counted net c parts) in
      let kept' : IsKeptBy valid m undone c now' floor hist lists' =
      subst (λ h. IsKeptBy valid m undone c now' floor h lists') (sym hist_last)
      (subst (λ l. IsKeptBy valid m undone c now' floor (hs ++ entries_of net c parts) l) (sym lists_last)
      (others_kept valid m undone c now' floor (hs ++ entries_of net c parts) last mk.all.kept last.waiting last.outgoing last.owed lists'.room lists'.spare)) in
      let p = (seen network c now line way floor hs lists).process in
      let q = (seen network c now' line way floor hist lists').process in
      let length_is : length es ≡ length r.steps = sym (length-map es (chain.shown {S = S} {R = R})) ∙ ap length es_is in
      record {
        kept = kept';
        is = record {
          within = omega (arith, within, length_is);
          takes = subst (λ x. TakesFrom net r.start 0 (take n r.steps) p x) (sym (λ i. (seen network c now' line way floor (hist_last i) (lists_last i)).process))
              (subst (λ l. TakesFrom net r.start 0 l p (seen network c now' line way floor (hs ++ entries_of net c parts) last).process) parts_is mk.all.takes);
          all = ends o short stop_is length_is;
          stops = λ step at. no_more kept' mk.begins length_is o all why stop_is step at;
        };
      }
    where
      ends : (o : Option Stop) → IfSome o (λ s. n < length es) → stop ≡ unwrap_or o (Ended k) → length es ≡ length r.steps → n ≡ length r.steps → stop ≡ Ended cause
      ends None short is long at = is ∙ ap Ended cause_is
      ends (Some s) short is long at = absurd (omega (arith, short, long, at))

      no_more : IsKeptBy valid m undone r.start.component now' floor hist lists' → (n ≡ 0 → now' ≡ r.start.now) → length es ≡ length r.steps
          → (o : Option Stop) → IfNone o (n ≡ length es) → IfSome o (λ s. (e : KeptStep S R) → slice_get es n ≡ Some e → WhyNot net r.start.component way e lists' s) → stop ≡ unwrap_or o (Ended k)
          → (step : Step S) → slice_get r.steps n ≡ Some step → StopsAt net r n (seen network r.start.component now' line way floor hist lists').process step stop
      no_more kept' begins long None all why is step at = absurd (let w = slice_get_within r.steps n step at in omega (arith, w, all, long))
      no_more kept' begins long (Some s) all why is step at =
          let e = shown_at es n step (ap (λ l. slice_get l n) es_is ∙ at) in
          subst (λ x. StopsAt net r n (seen network r.start.component now' line way floor hist lists').process step x) (sym is)
          (stops n now' hist lists' step e.0 s kept' now_is begins at e.2 (why e.0 e.1))

-- a chain that is not begun from here is stale, or has no steps
pub not_begun : {S : Type 0} (net : Network S) (r : SoloRun S) (cause : Cause) (p : Process S) (stop : Stop) → (p.now ≡ r.start.now → ⊥) → (length r.steps ≡ 0 → stop ≡ Ended cause) → (0 < length r.steps → stop ≡ Stale) → IsInstalled net r cause p p (record { installed = 0; stop = stop })
not_begun net r cause p stop away none some = record {
  within = omega arith;
  takes = refl;
  all = λ e. none (sym e);
  stops = λ step at. subst (λ x. StopsAt net r 0 p step x) (sym (some (slice_get_within r.steps 0 step at))) (λ fresh. away (fresh.begins refl));
}
