-- The outputs of a round, component by component.
use Rattle.std.proofs.Common.{◌≡◌, ℕ, suc, ◌+◌, ◌<◌, ◌≤◌, ◌==◌, List, [], ◌∷◌, ◌++◌, length, drop, refl, sym, ap, ne_eqb, ◌∙◌, arith, append_assoc, append-nil, add-one, slice_index_or, slice_get, Some, true, false, ℤ}
use Rattle.std.proofs.lemmas.Bool.{cond-true, cond-false}
use Rattle.std.proofs.lemmas.List.{drop_more, drop_all}
use Rattle.tw_atomic.specs.Atomic.{Meaning}
use Rattle.tw_msgs.specs.Bags.{Bag, sorted_bag}
use Rattle.tw_msgs.specs.declared.record.Record.{Record}
use Rattle.tw_msgs.specs.declared.record_kind.RecordKind.TheVariants.{Out}
use Rattle.tw_network.specs.Contents.{Contents, network_of}
use Rattle.tw_network.proofs.Places.{model_at}
use Rattle.std.proofs.lemmas.Option.{get_or_from_slice_get}
use Rattle.tw_rounds.specs.Agenda.{IsDueAt}
use Rattle.tw_rounds.specs.Dealing.{dealt}
use Rattle.tw_theory.specs.Transitions.{Moment, output}
use Rattle.tw_theory.specs.Network.{Network, routed}
use Rattle.tw_theory.specs.Simulator.{outputs, all_sent, sent_in}
use Rattle.tw_theory.proofs.Elements.{present}
use Rattle.tw_vtime.specs.Stamps.{stamp, tick_of, micro_of, phase_of}
use Rattle.tw_rounds.proofs.Dealt.{dealt-none, dealt-append}
use Rattle.tw_rounds.proofs.Sweeping.{along}

-- the transition of a time comes right after its output
pub transition_of : (t : ℕ) → phase_of t ≡ 0 → stamp (tick_of t) (micro_of t) 1 ≡ t + 1
transition_of t e = omega (arith, e)

pub output_is : {M S : Type 0} (meaning : M → Meaning S) (contents : Contents M) (c t : ℕ) (model : M) (now : Moment S) (bag : Bag) → slice_get contents.models c ≡ Some model → bag ≡ sorted_bag ((meaning model).out now.state) → record { component = c; stamp = t; kind = Out; bag = bag; words = [] } ≡ (output (network_of meaning contents) c now t).entry
unfolding output
output_is meaning contents c t model now bag e b =
    let here = b ∙ ap (λ m. sorted_bag (m.out now.state)) (sym (model_at meaning contents c model now.state e)) in
    λ i. record { component = c; stamp = t; kind = Out; bag = here i; words = [] }

outs_next : {S : Type 0} (net : Network S) (t i : ℕ) (moments : List (Moment S)) (now : Moment S) → i < length moments → now ≡ slice_index_or moments i now → outputs net t i (drop i moments) ≡ outputs net t i (now ∷ drop (i + 1) moments)
outs_next net t i moments now l e = ap (outputs net t i) (drop_more moments i now l ∙ ap (λ x. x ∷ drop (i + 1) moments) (sym e))

-- an imminent component gives its output
pub outs_given : {S : Type 0} (net : Network S) (t i : ℕ) (moments : List (Moment S)) (now : Moment S) → i < length moments → now ≡ slice_index_or moments i now → (now.due == t) ≡ true → outputs net t i (drop i moments) ≡ (output net i now t).entry ∷ outputs net t (i + 1) (drop (i + 1) moments)
outs_given net t i moments now l e due =
    outs_next net t i moments now l e
    ∙ rw add-one (cond-true (now.due == t) ((output net i now t).entry ∷ outputs net t (suc i) (drop (suc i) moments)) (outputs net t (suc i) (drop (suc i) moments)) due)

pub outs_kept : {S : Type 0} (net : Network S) (t i : ℕ) (moments : List (Moment S)) (now : Moment S) → i < length moments → now ≡ slice_index_or moments i now → (now.due == t) ≡ false → outputs net t i (drop i moments) ≡ outputs net t (i + 1) (drop (i + 1) moments)
outs_kept net t i moments now l e due =
    outs_next net t i moments now l e
    ∙ rw add-one (cond-false (now.due == t) ((output net i now t).entry ∷ outputs net t (suc i) (drop (suc i) moments)) (outputs net t (suc i) (drop (suc i) moments)) due)

-- components that are not imminent give none
pub outs_passed : {S : Type 0} (net : Network S) (t i j : ℕ) (moments : List (Moment S)) → i ≤ j → j ≤ length moments → ((c : ℕ) → i ≤ c → c < j → IsDueAt moments c t → ⊥) → outputs net t i (drop i moments) ≡ outputs net t j (drop j moments)
outs_passed net t i j moments l m none =
    along (λ k. outputs net t i (drop i moments) ≡ outputs net t k (drop k moments)) i j l
    (λ c from before h.
    let n : c < length moments = omega (arith, before, m) in
    let now = present moments c n in
    h ∙ outs_kept net t c moments now.0 n (sym (get_or_from_slice_get moments c now.0 now.0 now.1)) (ne_eqb now.0.due t (λ e. none c from before (now.0, now.1, e))))
    refl

-- a record more
pub record_more : (records all rest : List Record) (entry : Record) → records ++ (entry ∷ rest) ≡ all → (records ++ entry ∷ []) ++ rest ≡ all
record_more records all rest entry h = append_assoc records (entry ∷ []) rest ∙ h

pub records_all : {S : Type 0} (net : Network S) (t i : ℕ) (moments : List (Moment S)) (records all : List Record) → length moments ≤ i → records ++ outputs net t i (drop i moments) ≡ all → records ≡ all
records_all net t i moments records all l h = sym (append-nil records) ∙ ap (λ ms. records ++ outputs net t i ms) (sym (drop_all i moments l)) ∙ h

-- what an output sends
pub sent_more : {S : Type 0} (net : Network S) (bags after all : List Bag) (entry : Record) (rest : List Record) → after ≡ dealt 0 bags (sent_in net entry) → dealt 0 bags (all_sent net (entry ∷ rest)) ≡ all → dealt 0 after (all_sent net rest) ≡ all
sent_more net bags after all entry rest e h =
    ap (λ bs. dealt 0 bs (all_sent net rest)) e ∙ sym (dealt-append 0 bags (sent_in net entry) (all_sent net rest)) ∙ h

pub sent_all : {S : Type 0} (net : Network S) (t i : ℕ) (moments : List (Moment S)) (bags all : List Bag) → length moments ≤ i → dealt 0 bags (all_sent net (outputs net t i (drop i moments))) ≡ all → bags ≡ all
sent_all net t i moments bags all l h = sym (dealt-none 0 bags) ∙ ap (λ ms. dealt 0 bags (all_sent net (outputs net t i ms))) (sym (drop_all i moments l)) ∙ h

-- ---- one component of the loop: it gives its output

module _ {M S : Type 0} (meaning : M → Meaning S) (contents : Contents M) (t i : ℕ) (moments : List (Moment S)) (now : Moment S) (model : M) (bag : Bag)
    (l : i < length moments) (at : now ≡ slice_index_or moments i now) (due : (now.due == t) ≡ true) (found : slice_get contents.models i ≡ Some model) (given : bag ≡ sorted_bag ((meaning model).out now.state)) where
  pub output_recorded : (records all : List Record) (words : List ℤ) → words ≡ [] → records ++ outputs (network_of meaning contents) t i (drop i moments) ≡ all → (records ++ record { component = i; stamp = t; kind = Out; bag = bag; words = words } ∷ []) ++ outputs (network_of meaning contents) t (i + 1) (drop (i + 1) moments) ≡ all
  output_recorded records all words none h =
      let net = network_of meaning contents in
      let rest = outputs net t (i + 1) (drop (i + 1) moments) in
      let entry : record { component = i; stamp = t; kind = Out; bag = bag; words = words } ≡ (output net i now t).entry =
      (λ k. record { component = i; stamp = t; kind = Out; bag = bag; words = none k }) ∙ output_is meaning contents i t model now bag found given in
      ap (λ r. (records ++ r ∷ []) ++ rest) entry
      ∙ record_more records all rest ((output net i now t).entry) (ap (λ rs. records ++ rs) (sym (outs_given net t i moments now l at due)) ∙ h)

  pub output_sent : (bags after all : List Bag) → phase_of t ≡ 0 → after ≡ dealt 0 bags (routed (network_of meaning contents) i (stamp (tick_of t) (micro_of t) 1) bag) → dealt 0 bags (all_sent (network_of meaning contents) (outputs (network_of meaning contents) t i (drop i moments))) ≡ all → dealt 0 after (all_sent (network_of meaning contents) (outputs (network_of meaning contents) t (i + 1) (drop (i + 1) moments))) ≡ all
  output_sent bags after all even e h =
      let net = network_of meaning contents in
      let rest = outputs net t (i + 1) (drop (i + 1) moments) in
      let sent : routed net i (stamp (tick_of t) (micro_of t) 1) bag ≡ sent_in net (output net i now t).entry =
      ap (λ s. routed net i s bag) (transition_of t even) ∙ ap (sent_in net) (output_is meaning contents i t model now bag found given) in
      sent_more net bags after all (output net i now t).entry rest (e ∙ ap (dealt 0 bags) sent)
      (ap (λ rs. dealt 0 bags (all_sent net rs)) (sym (outs_given net t i moments now l at due)) ∙ h)
