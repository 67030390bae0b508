-- A round of the code is the definition's, and what stays true from round to round.
use Rattle.std.proofs.Common.{◌≡◌, ℕ, zero, suc, ◌+◌, ◌-◌, ◌<◌, ◌≤◌, ◌==◌, ◌⊎◌, inl, inr, min, List, [], ◌∷◌, ◌++◌, length, Option, Some, None, nat_lt, replicate, slice_get, refl, sym, ap, ◌∙◌, subst, ⊎_elim, arith}
use Rattle.std.specs.List.{All, AllByRecursion as Each}
use Rattle.std.proofs.lemmas.List.{length-replicate}
use Rattle.std.proofs.lemmas.List.Elements.{All-nil, recursion_from_All}
use Rattle.std.proofs.lemmas.Option.{same_Some, none-some}
use Rattle.std.proofs.lemmas.Bool.{cond_both, cases_lt, ltb-true}
use Rattle.tw_atomic.specs.Atomic.{Meaning, FitsBag, FitsOutput}
use Rattle.tw_msgs.specs.Bags.{Bag, sorted_bag}
use Rattle.tw_msgs.specs.declared.message.Message.{Message}
use Rattle.tw_msgs.specs.declared.record.Record.{Record}
use Rattle.tw_network.specs.Contents.{Contents, network_of, IsCoupling}
use Rattle.tw_rounds.specs.Agenda.{IsDueAt}
use Rattle.tw_rounds.specs.Dealing.{dealt, Carried}
use Rattle.tw_rounds.specs.Invariant.{AllStand, IsToCome, IsUnderway}
use Rattle.tw_rounds.specs.Turning.{turns_with, all_outputs, all_turns}
use Rattle.tw_rounds.specs.Waking.{WakesAll}
use Rattle.tw_theory.specs.Bundles.{items_of, addressed}
use Rattle.tw_theory.specs.Transitions.{Moment, output}
use Rattle.tw_theory.specs.Network.{Network}
use Rattle.tw_theory.specs.Simulator.{take_turn, after_output, turns, first_stop, turn_records, turned_moments, outputs, all_sent, with_stamp, past_stamp, Run, round, round_end, round_time, least_due, least_input}
use Rattle.tw_vtime.specs.Stamps.{never, phase_of}
use Rattle.tw_vtime.specs.declared.limits.Limit.{Limit}
use Rattle.tw_rounds.proofs.SortedBags.{sorted_bag-FitsBag, FitsOutput-bag}
use Rattle.tw_rounds.proofs.CarriedFits.{sent_carried, none_fits, dealt_fits}
use Rattle.tw_rounds.proofs.Dealt.{dealt-append}
use Rattle.tw_rounds.proofs.RoundOutputs.{output_is}
use Rattle.tw_rounds.proofs.Between.{between_at}
use Rattle.tw_rounds.proofs.LeastTimes.{due_least}
use Rattle.tw_theory.proofs.Elements.{each-filter, each_weaker}

-- the turns with the bags that messages make
turns_dealt : {S : Type 0} (net : Network S) (t c : ℕ) (moments : List (Moment S)) (ms : List Message) → turns_with net t c moments (dealt c (replicate (length moments) []) ms) ≡ turns net t ms c moments
turns_dealt net t c [] ms = refl
turns_dealt net t c (now ∷ moments) ms =
    ap (λ ts. take_turn net c (after_output net c now t) (t + 1) (now.due == t) (sorted_bag (items_of (addressed c ms))) ∷ ts) (turns_dealt net t (suc c) moments ms)

pub round_by : {S : Type 0} (net : Network S) (t : ℕ) (run : Run S) (stop : Option (ℕ × Limit)) → stop ≡ first_stop 0 (all_turns net t run) → round_end run t (outputs net t 0 run.at.moments) (all_turns net t run) stop ≡ round net run t
unfolding round
round_by net t run stop e = ap (round_end run t (outputs net t 0 run.at.moments) (all_turns net t run)) e

module _ {S : Type 0} (net : Network S) (t : ℕ) (run : Run S) (stop : Option (ℕ × Limit)) (found : stop ≡ first_stop 0 (all_turns net t run)) where
  pub round_goes : (moments : List (Moment S)) (inputs : List Message) (records : List Record) → stop ≡ None → moments ≡ turned_moments run.at.moments (all_turns net t run) → inputs ≡ past_stamp (t + 1) run.at.inputs → records ≡ run.records ++ (outputs net t 0 run.at.moments ++ turn_records (all_turns net t run)) → record { at = record { moments = moments; inputs = inputs }; records = records; fault = None } ≡ round net run t
  round_goes moments inputs records none m i r =
      (λ k. record { at = record { moments = m k; inputs = i k }; records = r k; fault = None })
      ∙ ap (round_end run t (outputs net t 0 run.at.moments) (all_turns net t run)) (sym none) ∙ round_by net t run stop found

  pub round_none : stop ≡ None → ((round net run t).fault ≡ None) × ((round net run t).records ≡ run.records ++ (all_outputs net t run ++ turn_records (all_turns net t run)))
  round_none none =
      let is = sym (round_by net t run stop found) ∙ ap (round_end run t (all_outputs net t run) (all_turns net t run)) none in
      (ap (λ r. r.fault) is, ap (λ r. r.records) is)

  pub round_some : (at : ℕ × Limit) → stop ≡ Some at → ((round net run t).fault ≡ Some (record { component = at.0; stamp = t + 1; limit = at.1 })) × ((round net run t).records ≡ run.records ++ all_outputs net t run)
  round_some at some =
      let is = sym (round_by net t run stop found) ∙ ap (round_end run t (all_outputs net t run) (all_turns net t run)) some in
      (ap (λ r. r.fault) is, ap (λ r. r.records) is)

-- ---- what stays true

later_input : (n t : ℕ) (m : Message) → phase_of t ≡ 0 → t + 1 < m.stamp → IsToCome n t m → IsToCome n (t + 2) m
later_input n t m even l h = record {
  after = (let p = h.phase in omega (arith, even, l, p));
  phase = h.phase;
  before_end = h.before_end;
  to = h.to;
  carried = h.carried;
}

pub past_to_come : (n t : ℕ) (ms : List Message) → phase_of t ≡ 0 → Each (IsToCome n t) ms → Each (IsToCome n (t + 2)) (past_stamp (t + 1) ms)
past_to_come n t [] even h = tt
past_to_come n t (m ∷ ms) even h =
    let rest = past_to_come n t ms even h.1 in
    cond_both (nat_lt (t + 1) m.stamp) (m ∷ past_stamp (t + 1) ms) (past_stamp (t + 1) ms) (Each (IsToCome n (t + 2)))
    (λ e. (later_input n t m even (ltb-true (t + 1) m.stamp e) h.0, rest)) (λ e. rest)

inputs_at : (n s t : ℕ) (ms : List Message) → s ≤ t → t ≤ least_input ms → phase_of t ≡ 0 → Each (IsToCome n s) ms → Each (IsToCome n t) ms
inputs_at n s t [] l m even h = tt
inputs_at n s t (x ∷ ms) l m even h =
    let a = h.0.after in
    (record { after = omega (arith, a, m); phase = h.0.phase; before_end = h.0.before_end; to = h.0.to; carried = h.0.carried }, inputs_at n s t ms l (omega (arith, m)) even h.1)

pub underway_at : {M S : Type 0} (valid : M → S → Type 0) (meaning : M → Meaning S) (contents : Contents M) (s t : ℕ) (run : Run S) → s ≤ t → t ≤ round_time run.at → phase_of t ≡ 0 → IsUnderway valid meaning contents s run → IsUnderway valid meaning contents t run
underway_at valid meaning contents s t run l m even h =
    let due : t ≤ least_due run.at.moments = omega (arith, m) in
    record {
      even = even;
      moments = record {
        size = h.moments.size;
        each = λ c model now found e. let d = due_least run.at.moments c now e in between_at (valid model) (meaning model) s t now l (omega (arith, d, due)) (h.moments.each c model now found e);
      };
      inputs = inputs_at (length contents.models) s t run.at.inputs l (omega (arith, m)) even h.inputs;
      order = h.order;
    }

-- the time of the next round: an output's stamp, or never, and not before s
abbrev IsTime : ℕ → ℕ → Type 0
IsTime s t = (s ≤ t) × ((phase_of t ≡ 0) ⊎ (t ≡ never))

time_of_two : (s a b : ℕ) → IsTime s a → IsTime s b → IsTime s (min a b)
time_of_two s a b p q = ⊎_elim (λ l. let e : a ≡ min a b = omega (arith, l) in subst (IsTime s) e p) (λ l. let e : b ≡ min a b = omega (arith, l) in subst (IsTime s) e q) (cases_lt a b)

due_time : {S : Type 0} (s : ℕ) (moments : List (Moment S)) → s ≤ never → ((i : ℕ) (now : Moment S) → slice_get moments i ≡ Some now → IsTime s now.due) → IsTime s (least_due moments)
due_time s [] n h = (n, inr refl)
due_time s (now ∷ moments) n h = time_of_two s now.due (least_due moments) (h 0 now refl) (due_time s moments n (λ i x e. h (suc i) x e))

input_time : (n s : ℕ) (ms : List Message) → s ≤ never → Each (IsToCome n s) ms → IsTime s (least_input ms)
input_time n s [] l h = (l, inr refl)
input_time n s (m ∷ ms) l h =
    let a = h.0.after in let p = h.0.phase in
    time_of_two s (m.stamp - 1) (least_input ms) (omega (arith, a), inl (omega (arith, a, p))) (input_time n s ms l h.1)

-- a moment of a component has its model
model_there : {X Y : Type 0} (models : List X) (moments : List Y) (i : ℕ) (now : Y) → length moments ≡ length models → slice_get moments i ≡ Some now → (model : X) × (slice_get models i ≡ Some model)
model_there [] [] i now e g = absurd (cc g)
model_there [] (y ∷ moments) i now e g = absurd (omega (arith, e))
model_there (x ∷ models) [] i now e g = absurd (cc g)
model_there (x ∷ models) (y ∷ moments) zero now e g = (x, refl)
model_there (x ∷ models) (y ∷ moments) (suc i) now e g = model_there models moments i now (omega (arith, e)) g

pub next_round : {M S : Type 0} (valid : M → S → Type 0) (meaning : M → Meaning S) (contents : Contents M) (s : ℕ) (run : Run S) → s ≤ never → IsUnderway valid meaning contents s run → (s ≤ round_time run.at) × ((phase_of (round_time run.at) ≡ 0) ⊎ (round_time run.at ≡ never))
next_round valid meaning contents s run l h =
    time_of_two s (least_due run.at.moments) (least_input run.at.inputs)
    (due_time s run.at.moments l (λ i now e.
    let found = model_there contents.models run.at.moments i now h.moments.size e in
    let at = h.moments.each i found.0 now found.1 e in
    (at.stands.from, at.due_even)))
    (input_time (length contents.models) s run.at.inputs l h.inputs)

-- ---- when components are due

-- none is due before the round
pub not_before : {M S : Type 0} (valid : M → S → Type 0) (meaning : M → Meaning S) (models : List M) (t : ℕ) (moments : List (Moment S)) (s c : ℕ) → AllStand valid meaning models t moments → IsDueAt moments c s → t ≤ s
not_before valid meaning models t moments s c h at =
    let model = model_there models moments c at.0 h.size at.1 in
    let from = (h.each c model.0 at.0 model.1 at.1).stands.from in
    let due = at.2 in
    omega (arith, from, due)

-- ---- bags

empty_bag : (n c : ℕ) (bag : Bag) → slice_get (replicate n []) c ≡ Some bag → bag ≡ []
empty_bag zero c bag e = absurd (none-some bag e)
empty_bag (suc n) zero bag e = sym (same_Some [] bag e)
empty_bag (suc n) (suc c) bag e = empty_bag n c bag e

pub empty_size : (n : ℕ) (bags : List Bag) → bags ≡ replicate n [] → length bags ≡ n
empty_size n bags e = ap length e ∙ length-replicate n []

-- nothing comes to anybody
pub none_reached : (n : ℕ) (bags : List Bag) (awake : List ℕ) → bags ≡ replicate n [] → awake ≡ [] → WakesAll bags awake
none_reached n bags awake e f = record {
  each = subst (All (λ c. c < length bags)) (sym f) (All-nil (λ c. c < length bags));
  all = λ c r. absurd (r.2 (empty_bag n c r.0 (ap (λ bs. slice_get bs c) (sym e) ∙ r.1)));
}

-- ---- the round's calls, one after another

pub turns_here : {S : Type 0} (net : Network S) (t at : ℕ) (run : Run S) (for_outputs for_turns : List (Moment S)) (inputs : List Message) (room first bags : List Bag) →
    for_outputs ≡ run.at.moments → for_turns ≡ run.at.moments → inputs ≡ run.at.inputs → at ≡ t + 1 → room ≡ replicate (length run.at.moments) [] → first ≡ dealt 0 room (all_sent net (outputs net t 0 for_outputs)) → bags ≡ dealt 0 first (with_stamp at inputs) → turns_with net t 0 for_turns bags ≡ all_turns net t run
turns_here net t at run for_outputs for_turns inputs room first bags m m' i s f k b =
    let outs = all_sent net (outputs net t 0 run.at.moments) in
    let given = with_stamp (t + 1) run.at.inputs in
    let n = length run.at.moments in
    let first_is : first ≡ dealt 0 (replicate n []) outs = k ∙ (λ j. dealt 0 (f j) (all_sent net (outputs net t 0 (m j)))) in
    ap (λ ms. turns_with net t 0 ms bags) m'
    ∙ ap (turns_with net t 0 run.at.moments) (b ∙ (λ j. dealt 0 (first_is j) (with_stamp (s j) (i j))) ∙ sym (dealt-append 0 (replicate n []) outs given))
    ∙ turns_dealt net t 0 run.at.moments (outs ++ given)

-- all bags of the round fit
pub bags_fit : {M S : Type 0} (valid : M → S → Type 0) (meaning : M → Meaning S) (contents : Contents M) (t at : ℕ) (run : Run S) (for_outputs : List (Moment S)) (inputs : List Message) (room first bags : List Bag) →
    ((model : M) (s : S) → valid model s → FitsOutput ((meaning model).out s)) → All (IsCoupling (length contents.models)) contents.couplings → IsUnderway valid meaning contents t run →
    for_outputs ≡ run.at.moments → inputs ≡ run.at.inputs → room ≡ replicate (length run.at.moments) [] → first ≡ dealt 0 room (all_sent (network_of meaning contents) (outputs (network_of meaning contents) t 0 for_outputs)) → bags ≡ dealt 0 first (with_stamp at inputs) → Each FitsBag bags
bags_fit {M} {S} valid meaning contents t at run for_outputs inputs room first bags fits ports under m i f k b =
    let net : Network S = network_of meaning contents in
    let sent : Each Carried (all_sent net (outputs net t 0 run.at.moments)) =
    sent_carried net (each_weaker (IsCoupling (length contents.models)) (λ k. k.3 < 256) (λ k p. let q = p.destination_port in omega (arith, q)) contents.couplings (recursion_from_All (IsCoupling (length contents.models)) contents.couplings ports)) t 0 run.at.moments
    (λ c now e.
    let found = model_there contents.models run.at.moments c now under.moments.size e in
    let stands = under.moments.each c found.0 now found.1 e in
    let z : 0 + c ≡ c = omega arith in
    let bag = output_is meaning contents c t found.0 now (sorted_bag ((meaning found.0).out now.state)) found.1 refl in
    let out : FitsBag (sorted_bag ((meaning found.0).out now.state)) = sorted_bag-FitsBag ((meaning found.0).out now.state) (FitsOutput-bag ((meaning found.0).out now.state) (fits found.0 now.state stands.stands.valid)) in
    subst (λ d. FitsBag (output net d now t).entry.bag) (sym z) (subst (λ r. FitsBag r.bag) bag out)) in
    let given : Each Carried (with_stamp at inputs) =
    each-filter Carried (λ x. x.stamp == at) inputs (subst (Each Carried) (sym i) (each_weaker (IsToCome (length contents.models) t) Carried (λ x p. p.carried) run.at.inputs under.inputs)) in
    let started : Each FitsBag room = subst (Each FitsBag) (sym f) (none_fits (length run.at.moments)) in
    let second : Each FitsBag first = subst (Each FitsBag) (sym k) (dealt_fits 0 room (all_sent net (outputs net t 0 for_outputs)) started (subst (λ ms. Each Carried (all_sent net (outputs net t 0 ms))) (sym m) sent)) in
    subst (Each FitsBag) (sym b) (dealt_fits 0 first (with_stamp at inputs) second given)
