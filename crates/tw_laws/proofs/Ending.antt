-- How a sound executive shows the end of the run.
use Rattle.std.proofs.Common.{◌≡◌, ℕ, zero, suc, ◌+◌, ◌<◌, ◌≤◌, List, [], ◌∷◌, Bool, true, false, cond, not, ◌&&◌, true≢false, Option, Some, None, Result, Ok, Err, refl, sym, ap, ◌∙◌, subst, arith, ⊎_elim}
use Rattle.std.specs.Prelude.{slice_get, filter, ◌==◌, nat_lt, ◌≢◌}
use Rattle.std.specs.List.{AllByRecursion as Each}
use Rattle.std.proofs.lemmas.Bool.{and_parts, and_from, eq-eqb, eqb-true, ne_eqb, leb-true, le-leb, ltb-true, lt-ltb, cond_both, cases_Bool}
use Rattle.std.proofs.lemmas.Option.{same_Some, none-some}
use Rattle.tw_msgs.specs.declared.message.Message.{Message}
use Rattle.tw_vtime.specs.Stamps.{stamp, max_tick, phase_of}
use Rattle.tw_vtime.specs.declared.limits.Limit.{Limit}
use Rattle.tw_theory.specs.Contents.{Process, next}
use Rattle.tw_theory.specs.Exchange.{is_empty, all_empty}
use Rattle.tw_theory.specs.Executive.{World}
use Rattle.tw_theory.specs.LocalRun.{Made, NothingDue, OverLimit, local_step, NoStep}
use Rattle.tw_theory.specs.Network.{Network, IsNetwork}
use Rattle.tw_theory.specs.Outcomes.{RunState, Complete, Fault as InFault, Going, none_at, all_quiet, limit_of, fault_at, first_fault, all_past, state}
use Rattle.tw_theory.specs.Simulator.{Fault, sequential, up_to}
use Rattle.tw_theory.specs.Soundness.{IsSound}
use Rattle.tw_theory.proofs.Elements.{empty_is}
use Rattle.tw_theory.proofs.Mail.{empty_boxes, all_empty_is}
use Rattle.tw_laws.specs.Ending.{ShowsFault, AllPast, HasAll, EndingLaw, StateLaw}
use Rattle.tw_laws.proofs.History.Committed.{fault_stamp}
use Rattle.tw_laws.proofs.History.Faults.{fault_law}
use Rattle.tw_laws.proofs.History.Rounds.{met_by}
use Rattle.tw_laws.proofs.AtGvt.{held_by, run_to, faulting, all_phase_one, process_at}

module _ {S : Type 0} (net : Network S) (until : ℕ) (ok : IsNetwork net) (bound : until ≤ max_tick) (w : World S) (h : IsSound net until w) where
  fault_shown : (c : ℕ) (limit : Limit) → ShowsFault net until w c limit → (sequential net until).fault ≡ Some (met_by c w.gvt limit)
  fault_shown c limit shows =
      let before = shows.before in
      let same : up_to until w.gvt ≡ w.gvt = omega arith in
      fault_law net until (up_to until w.gvt) (held_by until w) bound (run_to net until ok w h) c limit (faulting net until ok w h c limit shows)
      ∙ ap (λ (g : ℕ). Some (met_by c g limit)) same

  no_fault : ((c : ℕ) (p : Process S) → slice_get w.processes c ≡ Some p → stamp until 0 0 ≤ p.line) → (f : Option Fault)
      → (sequential net until).fault ≡ f → f ≡ None
  no_fault past None e = refl
  no_fault past (Some f) e =
      let within = fault_stamp net until bound (all_phase_one net net.inputs ok.inputs) f e in
      let q = process_at net until ok w h f.component within.0 in
      let late = past f.component q.0 q.1 in
      let stops = (h.each f.component q.0 q.1).line_le_fault f e in
      let early = within.1 in
      absurd (omega arith)

  complete : AllPast (stamp until 0 0) w → ((sequential net until).fault ≡ None) × HasAll net until w
  complete past = (
    no_fault past (sequential net until).fault refl,
    λ c p at.
        let late = past c p at in
        let same : up_to until p.line ≡ up_to until (stamp until 0 0) = omega arith in
        (h.each c p at).column_is ∙ ap (λ n. filter (λ r. (r.component == c) && nat_lt r.stamp n) (sequential net until).records) same,
  )

pub ending_law : {S : Type 0} → EndingLaw S
ending_law = record {
  fault = λ net until w ok bound h c limit shows. fault_shown net until ok bound w h c limit shows;
  complete = λ net until w ok bound h past. complete net until ok bound w h past;
}

-- ---- what the state says

none_at_is : (s : ℕ) (ms : List Message) → none_at s ms ≡ true → Each (λ m. m.stamp ≢ s) ms
none_at_is s [] e = tt
none_at_is s (m ∷ ms) e =
    let parts = and_parts _ _ e in
    ((λ same. true≢false (sym (eq-eqb m.stamp s same) ∙ not-true (m.stamp == s) parts.0)), none_at_is s ms parts.1)
  where
    not-true : (b : Bool) → not b ≡ true → b ≡ false
    not-true true k = absurd (true≢false (sym k))
    not-true false k = refl

quiet_at : {S : Type 0} (g : ℕ) (ps : List (Process S)) → all_quiet g ps ≡ true → (d : ℕ) (q : Process S) → slice_get ps d ≡ Some q
    → (q.outgoing ≡ []) × Each (λ m. m.stamp ≢ g) q.owed
quiet_at g [] e d q at = absurd (none-some q at)
quiet_at {S} g (p ∷ ps) e zero q at =
    let parts = and_parts (is_empty p.outgoing && none_at g p.owed) (all_quiet g ps) e in
    let more = and_parts (is_empty p.outgoing) (none_at g p.owed) parts.0 in
    subst (λ (x : Process S). (x.outgoing ≡ []) × Each (λ m. m.stamp ≢ g) x.owed) (same_Some p q at) (empty_is p.outgoing more.0, none_at_is g p.owed more.1)
quiet_at g (p ∷ ps) e (suc d) q at = quiet_at g ps (and_parts (is_empty p.outgoing && none_at g p.owed) (all_quiet g ps) e).1 d q at

past_at : {S : Type 0} (end : ℕ) (ps : List (Process S)) → all_past end ps ≡ true → (d : ℕ) (q : Process S) → slice_get ps d ≡ Some q → end ≤ q.line
past_at end [] e d q at = absurd (none-some q at)
past_at {S} end (p ∷ ps) e zero q at = subst (λ (x : Process S). end ≤ x.line) (same_Some p q at) (leb-true end p.line (and_parts _ _ e).0)
past_at end (p ∷ ps) e (suc d) q at = past_at end ps (and_parts _ _ e).1 d q at

limit_is : {S : Type 0} (r : Result (Made S) NoStep) (limit : Limit) → limit_of r ≡ Some limit → r ≡ Err (OverLimit limit)
limit_is (Ok made) limit e = absurd (none-some limit e)
limit_is (Err (OverLimit other)) limit e = ap (λ l. Err (OverLimit l)) (same_Some other limit e)
limit_is (Err NothingDue) limit e = absurd (none-some limit e)

-- the first process of the list that meets a limit at g
record Found {S : Type 0} (net : Network S) (g b : ℕ) (ps : List (Process S)) (it : Fault) : Type 0 where
  place : ℕ
  is : it.component ≡ b + place
  stamp_is : it.stamp ≡ g
  process : Process S
  at : slice_get ps place ≡ Some process
  next_is : next process ≡ g
  meets : local_step net it.component process.now process.pending ≡ Err (OverLimit it.limit)
  least : (d : ℕ) (q : Process S) (other : Limit) → slice_get ps d ≡ Some q → d < place → next q ≡ g
      → local_step net (b + d) q.now q.pending ≡ Err (OverLimit other) → ⊥

module _ {S : Type 0} (net : Network S) (g : ℕ) where
  first_fault_is : (b : ℕ) (ps : List (Process S)) (it : Fault) → first_fault net g b ps ≡ InFault it → Found net g b ps it
  first_fault_is b [] it e = absurd (let bad : Going ≡ InFault it = e in cc)
  first_fault_is b (p ∷ ps) it e = go (λ k. first_fault_is (suc b) ps it k) (next p == g) refl e
    where
      later : ((other : Limit) → next p ≡ g → local_step net b p.now p.pending ≡ Err (OverLimit other) → ⊥) → Found net g (suc b) ps it
          → Found net g b (p ∷ ps) it
      later none f = record {
        place = suc f.place;
        is = let i = f.is in omega arith;
        stamp_is = f.stamp_is;
        process = f.process;
        at = f.at;
        next_is = f.next_is;
        meets = f.meets;
        least = rest;
      }
        where
          rest : (d : ℕ) (q : Process S) (other : Limit) → slice_get (p ∷ ps) d ≡ Some q → d < suc f.place → next q ≡ g
              → local_step net (b + d) q.now q.pending ≡ Err (OverLimit other) → ⊥
          rest zero q other at l n met =
              let same : p ≡ q = same_Some p q at in
              let here : b + 0 ≡ b = omega arith in
              none other (ap (λ (x : Process S). next x) same ∙ n) (ap (λ (x : Process S). local_step net b x.now x.pending) same ∙ ap (λ k. local_step net k q.now q.pending) (sym here) ∙ met)
          rest (suc d) q other at l n met =
              let here : suc b + d ≡ b + suc d = omega arith in
              f.least d q other at (omega arith) n (ap (λ k. local_step net k q.now q.pending) here ∙ met)

      met : (first_fault net g (suc b) ps ≡ InFault it → Found net g (suc b) ps it) → next p ≡ g → (o : Option Limit)
          → limit_of (local_step net b p.now p.pending) ≡ o → fault_at b g o (first_fault net g (suc b) ps) ≡ InFault it
          → Found net g b (p ∷ ps) it
      met ih n None q k = later (λ other m bad. none-some other (sym q ∙ ap (limit_of {S = S}) bad)) (ih k)
      met ih n (Some found) q k =
          let whole : InFault (met_by b g found) ≡ InFault it = k in
          let same : met_by b g found ≡ it = cc in
          let a : b ≡ it.component = ap (λ (x : Fault). x.component) same in
          let t : g ≡ it.stamp = ap (λ (x : Fault). x.stamp) same in
          let l : found ≡ it.limit = ap (λ (x : Fault). x.limit) same in
          record {
            place = 0;
            is = omega arith;
            stamp_is = sym t;
            process = p;
            at = refl;
            next_is = n;
            meets = subst (λ x. local_step net x p.now p.pending ≡ Err (OverLimit it.limit)) a (limit_is (local_step net b p.now p.pending) it.limit (q ∙ ap (λ (x : Limit). Some x) l));
            least = λ d r other at early. absurd (omega arith);
          }

      go : (first_fault net g (suc b) ps ≡ InFault it → Found net g (suc b) ps it) → (t : Bool) → (next p == g) ≡ t
          → fault_at b g (cond t (limit_of (local_step net b p.now p.pending)) None) (first_fault net g (suc b) ps) ≡ InFault it
          → Found net g b (p ∷ ps) it
      go ih true n k = met ih (eqb-true (next p) g n) _ refl k
      go ih false n k = later (λ other m bad. true≢false (sym (eq-eqb (next p) g m) ∙ n)) (ih k)

-- ---- and the other way round: what shows a fault is said to

none_at_all : (s : ℕ) (ms : List Message) → Each (λ m. m.stamp ≢ s) ms → none_at s ms ≡ true
none_at_all s [] h = refl
none_at_all s (m ∷ ms) h = and_from _ _ (ap not (ne_eqb m.stamp s h.0)) (none_at_all s ms h.1)

quiet_is : {S : Type 0} (g : ℕ) (ps : List (Process S)) → ((d : ℕ) (q : Process S) → slice_get ps d ≡ Some q → (q.outgoing ≡ []) × Each (λ m. m.stamp ≢ g) q.owed)
    → all_quiet g ps ≡ true
quiet_is g [] h = refl
quiet_is g (p ∷ ps) h = let here = h 0 p refl in and_from _ _ (and_from _ _ (ap is_empty here.0) (none_at_all g p.owed here.1)) (quiet_is g ps (λ d q at. h (suc d) q at))

-- where no line is before the end
pub all_past_is : {S : Type 0} (end : ℕ) (ps : List (Process S)) → ((d : ℕ) (q : Process S) → slice_get ps d ≡ Some q → end ≤ q.line) → all_past end ps ≡ true
all_past_is end [] h = refl
all_past_is end (p ∷ ps) h = and_from _ _ (le-leb end p.line (h 0 p refl)) (all_past_is end ps (λ d q at. h (suc d) q at))

not_past : {S : Type 0} (end : ℕ) (ps : List (Process S)) → (((d : ℕ) (q : Process S) → slice_get ps d ≡ Some q → end ≤ q.line) → ⊥) → all_past end ps ≡ false
not_past end ps going = ⊎_elim (λ e. absurd (going (λ d q at. past_at end ps e d q at))) (λ e. e) (cases_Bool (all_past end ps))

module _ {S : Type 0} (net : Network S) (g : ℕ) where
  first_fault_found : (b : ℕ) (ps : List (Process S)) (place : ℕ) (p : Process S) (limit : Limit) → slice_get ps place ≡ Some p → next p ≡ g
      → local_step net (b + place) p.now p.pending ≡ Err (OverLimit limit)
      → ((d : ℕ) (q : Process S) (other : Limit) → slice_get ps d ≡ Some q → d < place → next q ≡ g → local_step net (b + d) q.now q.pending ≡ Err (OverLimit other) → ⊥)
      → first_fault net g b ps ≡ InFault (met_by (b + place) g limit)
  first_fault_found b [] place p limit at n met least = absurd (none-some p at)
  first_fault_found b (x ∷ ps) zero p limit at n met least =
      let same : x ≡ p = same_Some x p at in
      let here : b + 0 ≡ b = omega arith in
      let rest = first_fault net g (suc b) ps in
      ap (λ t. fault_at b g (cond t (limit_of (local_step net b x.now x.pending)) None) rest) (eq-eqb (next x) g (ap (λ (y : Process S). next y) same ∙ n))
      ∙ ap (λ (r : Result (Made S) NoStep). fault_at b g (limit_of r) rest) (ap (λ (y : Process S). local_step net b y.now y.pending) same ∙ ap (λ k. local_step net k p.now p.pending) (sym here) ∙ met)
      ∙ ap (λ (k : ℕ). InFault (met_by k g limit)) (sym here)
  first_fault_found b (x ∷ ps) (suc place) p limit at n met least =
      let here : b + 0 ≡ b = omega arith in
      let more : (d : ℕ) → suc b + d ≡ b + suc d = λ d. omega arith in
      ap (λ o. fault_at b g o (first_fault net g (suc b) ps)) (none (next x == g) refl)
      ∙ first_fault_found (suc b) ps place p limit at n (ap (λ k. local_step net k p.now p.pending) (more place) ∙ met)
      (λ d q other at l is meets. least (suc d) q other at (omega arith) is (ap (λ k. local_step net k q.now q.pending) (sym (more d)) ∙ meets))
      ∙ ap (λ (k : ℕ). InFault (met_by k g limit)) (more place)
    where
      no_limit : next x ≡ g → (o : Option Limit) → limit_of (local_step net b x.now x.pending) ≡ o → o ≡ None
      no_limit is None e = refl
      no_limit is (Some other) e =
          let here : b + 0 ≡ b = omega arith in
          absurd (least 0 x other refl (omega arith) is (ap (λ k. local_step net k x.now x.pending) here ∙ limit_is (local_step net b x.now x.pending) other e))

      none : (t : Bool) → (next x == g) ≡ t → cond t (limit_of (local_step net b x.now x.pending)) None ≡ None
      none true e = no_limit (eqb-true (next x) g e) (limit_of (local_step net b x.now x.pending)) refl
      none false e = refl

module _ {S : Type 0} (net : Network S) (until : ℕ) (w : World S) where
  shows : (it : Fault)
      → (all_quiet w.gvt w.processes && all_empty w.mail && nat_lt w.gvt (stamp until 0 0) && (phase_of w.gvt == 1)) ≡ true
      → Found net w.gvt 0 w.processes it → ShowsFault net until w it.component it.limit
  shows it e f =
      let three = and_parts (all_quiet w.gvt w.processes && all_empty w.mail && nat_lt w.gvt (stamp until 0 0)) (phase_of w.gvt == 1) e in
      let two = and_parts (all_quiet w.gvt w.processes && all_empty w.mail) (nat_lt w.gvt (stamp until 0 0)) three.0 in
      let one = and_parts (all_quiet w.gvt w.processes) (all_empty w.mail) two.0 in
      let same : f.place ≡ it.component = let i = f.is in omega arith in
      record {
        before = ltb-true w.gvt (stamp until 0 0) two.1;
        odd = eqb-true (phase_of w.gvt) 1 three.1;
        outgoing = λ d q at. (quiet_at w.gvt w.processes one.0 d q at).0;
        mail = empty_boxes w.mail one.1;
        owed = λ d q at. (quiet_at w.gvt w.processes one.0 d q at).1;
        process = f.process;
        at = subst (λ k. slice_get w.processes k ≡ Some f.process) same f.at;
        next_is = f.next_is;
        meets = f.meets;
        least = λ d q other at l n met. let zero_d : 0 + d ≡ d = omega arith in f.least d q other at (omega arith) n (ap (λ k. local_step net k q.now q.pending) zero_d ∙ met);
      }

  state_fault : IsNetwork net → until ≤ max_tick → IsSound net until w → (it : Fault) → state net until w ≡ InFault it
      → (it.stamp ≡ w.gvt) × ((sequential net until).fault ≡ Some it)
  unfolding state
  state_fault ok bound h it =
      cond_both (all_past (stamp until 0 0) w.processes) _ _ (λ (x : RunState). x ≡ InFault it → (it.stamp ≡ w.gvt) × ((sequential net until).fault ≡ Some it))
      (λ e bad. absurd (let k : Complete ≡ InFault it = bad in cc))
      (λ e. cond_both (all_quiet w.gvt w.processes && all_empty w.mail && nat_lt w.gvt (stamp until 0 0) && (phase_of w.gvt == 1)) _ _ (λ (x : RunState). x ≡ InFault it → (it.stamp ≡ w.gvt) × ((sequential net until).fault ≡ Some it))
      (λ d k. let f = first_fault_is net w.gvt 0 w.processes it k in (f.stamp_is, fault_shown net until ok bound w h it.component it.limit (shows it d f) ∙ ap (λ (x : ℕ). Some (met_by it.component x it.limit)) (sym f.stamp_is)))
      (λ d bad. absurd (let k : Going ≡ InFault it = bad in cc)))

  not_complete : (ps : List (Process S)) (b : ℕ) → first_fault net w.gvt b ps ≡ Complete → ⊥
  not_complete [] b e = let k : Going ≡ Complete = e in cc
  not_complete (p ∷ ps) b e = go (λ k. not_complete ps (suc b) k) (cond (next p == w.gvt) (limit_of (local_step net b p.now p.pending)) None) e
    where
      go : (first_fault net w.gvt (suc b) ps ≡ Complete → ⊥) → (o : Option Limit) → fault_at b w.gvt o (first_fault net w.gvt (suc b) ps) ≡ Complete
          → ⊥
      go ih None k = ih k
      go ih (Some limit) k = let bad : InFault (met_by b w.gvt limit) ≡ Complete = k in cc

  complete_past : state net until w ≡ Complete → AllPast (stamp until 0 0) w
  unfolding state
  complete_past =
      cond_both (all_past (stamp until 0 0) w.processes) _ _ (λ (x : RunState). x ≡ Complete → AllPast (stamp until 0 0) w)
      (λ e k c p at. past_at (stamp until 0 0) w.processes e c p at)
      (λ e. cond_both (all_quiet w.gvt w.processes && all_empty w.mail && nat_lt w.gvt (stamp until 0 0) && (phase_of w.gvt == 1)) _ _ (λ (x : RunState). x ≡ Complete → AllPast (stamp until 0 0) w)
      (λ d k. absurd (not_complete w.processes 0 k))
      (λ d bad. absurd (let k : Going ≡ Complete = bad in cc)))

  past_complete : AllPast (stamp until 0 0) w → state net until w ≡ Complete
  unfolding state
  past_complete past =
      ap (λ b. cond b Complete (cond (all_quiet w.gvt w.processes && all_empty w.mail && nat_lt w.gvt (stamp until 0 0) && (phase_of w.gvt == 1)) (first_fault net w.gvt 0 w.processes) Going)) (all_past_is (stamp until 0 0) w.processes past)

  fault_shows : (it : Fault) → state net until w ≡ InFault it
      → (AllPast (stamp until 0 0) w → ⊥) × (it.stamp ≡ w.gvt) × ShowsFault net until w it.component it.limit
  unfolding state
  fault_shows it =
      cond_both (all_past (stamp until 0 0) w.processes) _ _ (λ (x : RunState). x ≡ InFault it → (AllPast (stamp until 0 0) w → ⊥) × (it.stamp ≡ w.gvt) × ShowsFault net until w it.component it.limit)
      (λ e bad. absurd (let k : Complete ≡ InFault it = bad in cc))
      (λ e. cond_both (all_quiet w.gvt w.processes && all_empty w.mail && nat_lt w.gvt (stamp until 0 0) && (phase_of w.gvt == 1)) _ _ (λ (x : RunState). x ≡ InFault it → (AllPast (stamp until 0 0) w → ⊥) × (it.stamp ≡ w.gvt) × ShowsFault net until w it.component it.limit)
      (λ d k. let f = first_fault_is net w.gvt 0 w.processes it k in ((λ past. true≢false (sym (all_past_is (stamp until 0 0) w.processes past) ∙ e)), f.stamp_is, shows it d f))
      (λ d bad. absurd (let k : Going ≡ InFault it = bad in cc)))

  shows_fault : (it : Fault) → (AllPast (stamp until 0 0) w → ⊥) → it.stamp ≡ w.gvt → ShowsFault net until w it.component it.limit → state net until w ≡ InFault it
  unfolding state
  shows_fault it going same f =
      let end = stamp until 0 0 in
      let calm = and_from _ _ (and_from _ _ (and_from _ _ (quiet_is w.gvt w.processes (λ d q at. (f.outgoing d q at, f.owed d q at))) (all_empty_is w.mail f.mail)) (lt-ltb w.gvt end f.before)) (eq-eqb (phase_of w.gvt) 1 f.odd) in
      let zero_c : 0 + it.component ≡ it.component = omega arith in
      ap (λ b. cond b Complete (cond (all_quiet w.gvt w.processes && all_empty w.mail && nat_lt w.gvt end && (phase_of w.gvt == 1)) (first_fault net w.gvt 0 w.processes) Going)) (not_past end w.processes going)
      ∙ ap (λ b. cond b (first_fault net w.gvt 0 w.processes) Going) calm
      ∙ first_fault_found net w.gvt 0 w.processes it.component f.process it.limit f.at f.next_is (ap (λ k. local_step net k f.process.now f.process.pending) zero_c ∙ f.meets)
      (λ d q other at l n met. let zero_d : 0 + d ≡ d = omega arith in f.least d q other at l n (sym (ap (λ k. local_step net k q.now q.pending) zero_d) ∙ met))
      ∙ ap (λ (x : ℕ). InFault (met_by x w.gvt it.limit)) zero_c ∙ ap (λ (x : ℕ). InFault (met_by it.component x it.limit)) (sym same)

pub state_law : {S : Type 0} → StateLaw S
state_law = record {
  past = λ net until w. (complete_past net until w, past_complete net until w);
  shows = λ net until w it. (fault_shows net until w it, λ h. shows_fault net until w it h.0 h.1 h.2);
  fault = λ net until w ok bound h. state_fault net until w ok bound h;
  complete = λ net until w ok bound h e. complete net until ok bound w h (complete_past net until w e);
}
