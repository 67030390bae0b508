-- Messages dealt out to bags.
use Rattle.std.proofs.Common.{◌≡◌, ℕ, zero, suc, ◌+◌, ◌<◌, ◌≤◌, ◌==◌, List, [], ◌∷◌, ◌++◌, length, drop, refl, sym, ap, ◌∙◌, subst, ⊎_elim, arith, append_assoc, append-nil, eq-eqb, ne_eqb, slice_set, slice_index_or, ℤ, true}
use Rattle.std.specs.Prelude.{◌≢◌}
use Rattle.std.proofs.lemmas.Bool.{cases_eq, cond-true, cond-false, eqb-true}
use Rattle.std.proofs.lemmas.List.{drop_more, drop_all}
use Rattle.std.specs.List.{AllByRecursion as Each}
use Rattle.tw_msgs.specs.Bags.{Bag}
use Rattle.tw_msgs.specs.declared.message.Message.{Message}
use Rattle.tw_rounds.specs.Dealing.{dealt}
use Rattle.tw_theory.specs.Bundles.{items_of, addressed}
use Rattle.tw_theory.specs.Network.{Network, Destination, copies, routed, routes, IsNetwork, count_of}
use Rattle.tw_theory.specs.Simulator.{with_stamp}
use Rattle.tw_theory.proofs.Routes.{routes_lead}
use Rattle.tw_rounds.proofs.Places.{each_at}

pub addressed-own : (c : ℕ) (m : Message) (ms : List Message) → m.to ≡ c → addressed c (m ∷ ms) ≡ m ∷ addressed c ms
addressed-own c m ms e = cond-true (m.to == c) (m ∷ addressed c ms) (addressed c ms) (eq-eqb m.to c e)

pub addressed-other : (c : ℕ) (m : Message) (ms : List Message) → m.to ≢ c → addressed c (m ∷ ms) ≡ addressed c ms
addressed-other c m ms e = cond-false (m.to == c) (m ∷ addressed c ms) (addressed c ms) (ne_eqb m.to c e)

pub brought-append : (c : ℕ) (ms ns : List Message) → items_of (addressed c (ms ++ ns)) ≡ items_of (addressed c ms) ++ items_of (addressed c ns)
brought-append c [] ns = refl
brought-append c (m ∷ ms) ns =
    let ih = brought-append c ms ns in
    ⊎_elim
    (λ e. ap items_of (addressed-own c m (ms ++ ns) e) ∙ ap (λ l. (m.port, m.value) ∷ l) ih ∙ ap (λ l. items_of l ++ items_of (addressed c ns)) (sym (addressed-own c m ms e)))
    (λ e. ap items_of (addressed-other c m (ms ++ ns) e) ∙ ih ∙ ap (λ l. items_of l ++ items_of (addressed c ns)) (sym (addressed-other c m ms e)))
    (cases_eq m.to c)

pub dealt-none : (c : ℕ) (bags : List Bag) → dealt c bags [] ≡ bags
dealt-none c [] = refl
dealt-none c (bag ∷ bags) = λ i. append-nil bag i ∷ dealt-none (suc c) bags i

pub dealt-append : (c : ℕ) (bags : List Bag) (ms ns : List Message) → dealt c bags (ms ++ ns) ≡ dealt c (dealt c bags ms) ns
dealt-append c [] ms ns = refl
dealt-append c (bag ∷ bags) ms ns =
    let first : bag ++ items_of (addressed c (ms ++ ns)) ≡ (bag ++ items_of (addressed c ms)) ++ items_of (addressed c ns) =
    ap (λ l. bag ++ l) (brought-append c ms ns) ∙ sym (append_assoc bag (items_of (addressed c ms)) (items_of (addressed c ns))) in
    λ i. first i ∷ dealt-append (suc c) bags ms ns i

pub length-dealt : (c : ℕ) (bags : List Bag) (ms : List Message) → length (dealt c bags ms) ≡ length bags
length-dealt c [] ms = refl
length-dealt c (bag ∷ bags) ms = ap suc (length-dealt (suc c) bags ms)

dealt-other : (c : ℕ) (bags : List Bag) (m : Message) → m.to < c → dealt c bags (m ∷ []) ≡ bags
dealt-other c [] m l = refl
dealt-other c (bag ∷ bags) m l =
    let e : m.to ≢ c = omega (arith, l) in
    let first : bag ++ items_of (addressed c (m ∷ [])) ≡ bag = ap (λ l. bag ++ items_of l) (addressed-other c m [] e) ∙ append-nil bag in
    λ i. first i ∷ dealt-other (suc c) bags m (omega (arith, l)) i

-- one message goes into the bag of its receiver
pub dealt-one : (c i : ℕ) (bags : List Bag) (m : Message) (d : Bag) → m.to ≡ c + i → i < length bags → dealt c bags (m ∷ []) ≡ slice_set bags i (slice_index_or bags i d ++ (m.port, m.value) ∷ [])
dealt-one c i [] m d e l = absurd (omega (arith, l))
dealt-one c zero (bag ∷ bags) m d e l =
    let own : m.to ≡ c = omega (arith, e) in
    let first : bag ++ items_of (addressed c (m ∷ [])) ≡ bag ++ (m.port, m.value) ∷ [] = ap (λ l. bag ++ items_of l) (addressed-own c m [] own) in
    λ i. first i ∷ dealt-other (suc c) bags m (omega (arith, own)) i
dealt-one c (suc i) (bag ∷ bags) m d e l =
    let other : m.to ≢ c = omega (arith, e) in
    let first : bag ++ items_of (addressed c (m ∷ [])) ≡ bag = ap (λ l. bag ++ items_of l) (addressed-other c m [] other) ∙ append-nil bag in
    λ k. first k ∷ dealt-one (suc c) i bags m d (omega (arith, e)) (omega (arith, l)) k

-- a message more
pub dealt_next : (bags : List Bag) (m : Message) (ms : List Message) (all : List Bag) → dealt 0 bags (m ∷ ms) ≡ all → dealt 0 (dealt 0 bags (m ∷ [])) ms ≡ all
dealt_next bags m ms all e = sym (dealt-append 0 bags (m ∷ []) ms) ∙ e

-- ---- the inputs of a stamp

pub with_stamp-own : (s : ℕ) (m : Message) (ms : List Message) → m.stamp ≡ s → with_stamp s (m ∷ ms) ≡ m ∷ with_stamp s ms
with_stamp-own s m ms e = cond-true (m.stamp == s) (m ∷ with_stamp s ms) (with_stamp s ms) (eq-eqb m.stamp s e)

pub input_taken : (s i : ℕ) (inputs : List Message) (bags all : List Bag) (m : Message) → i < length inputs → m ≡ slice_index_or inputs i m → true ≡ (m.stamp == s) → dealt 0 bags (with_stamp s (drop i inputs)) ≡ all → dealt 0 (dealt 0 bags (m ∷ [])) (with_stamp s (drop (i + 1) inputs)) ≡ all
input_taken s i inputs bags all m l at e h =
    let rest = drop (i + 1) inputs in
    let split : with_stamp s (drop i inputs) ≡ m ∷ with_stamp s rest =
    ap (with_stamp s) (drop_more inputs i m l ∙ ap (λ x. x ∷ rest) (sym at)) ∙ with_stamp-own s m rest (eqb-true m.stamp s (sym e)) in
    dealt_next bags m (with_stamp s rest) all (ap (dealt 0 bags) (sym split) ∙ h)

pub inputs_all : (s i : ℕ) (inputs : List Message) (bags all : List Bag) → length inputs ≤ i → dealt 0 bags (with_stamp s (drop i inputs)) ≡ all → bags ≡ all
inputs_all s i inputs bags all l h = sym (dealt-none 0 bags) ∙ ap (λ ms. dealt 0 bags (with_stamp s ms)) (sym (drop_all i inputs l)) ∙ h

-- ---- where an output goes

abbrev pub copy_to : ℕ → ℤ → Destination → Message
copy_to s v place = record { stamp = s; port = place.1; value = v; to = place.0 }

pub place_taken : (s : ℕ) (v : ℤ) (i : ℕ) (destinations : List Destination) (bags all : List Bag) (d : Destination) → i < length destinations → dealt 0 bags (copies s v (drop i destinations)) ≡ all → dealt 0 (dealt 0 bags (copy_to s v (slice_index_or destinations i d) ∷ [])) (copies s v (drop (i + 1) destinations)) ≡ all
place_taken s v i destinations bags all d l h =
    dealt_next bags (copy_to s v (slice_index_or destinations i d)) (copies s v (drop (i + 1) destinations)) all (ap (λ ps. dealt 0 bags (copies s v ps)) (sym (drop_more destinations i d l)) ∙ h)

pub places_all : (s : ℕ) (v : ℤ) (i : ℕ) (destinations : List Destination) (bags all : List Bag) → length destinations ≤ i → dealt 0 bags (copies s v (drop i destinations)) ≡ all → bags ≡ all
places_all s v i destinations bags all l h = sym (dealt-none 0 bags) ∙ ap (λ ps. dealt 0 bags (copies s v ps)) (sym (drop_all i destinations l)) ∙ h

-- the destinations of an item more
pub item_taken : {S : Type 0} (net : Network S) (c s i : ℕ) (items : Bag) (bags after all : List Bag) (d : ℕ × ℤ) → i < length items → after ≡ dealt 0 bags (copies s (slice_index_or items i d).1 (routes net c (slice_index_or items i d).0)) → dealt 0 bags (routed net c s (drop i items)) ≡ all → dealt 0 after (routed net c s (drop (i + 1) items)) ≡ all
item_taken net c s i items bags after all d l e h =
    let item = slice_index_or items i d in
    ap (λ bs. dealt 0 bs (routed net c s (drop (i + 1) items))) e
    ∙ sym (dealt-append 0 bags (copies s item.1 (routes net c item.0)) (routed net c s (drop (i + 1) items)))
    ∙ ap (λ is. dealt 0 bags (routed net c s is)) (sym (drop_more items i d l)) ∙ h

pub items_all : {S : Type 0} (net : Network S) (c s i : ℕ) (items : Bag) (bags all : List Bag) → length items ≤ i → dealt 0 bags (routed net c s (drop i items)) ≡ all → bags ≡ all
items_all net c s i items bags all l h = sym (dealt-none 0 bags) ∙ ap (λ is. dealt 0 bags (routed net c s is)) (sym (drop_all i items l)) ∙ h

-- the receivers are components
pub place_leads : {S : Type 0} (net : Network S) (c port i : ℕ) (destinations : List Destination) (d : Destination) → IsNetwork net → destinations ≡ routes net c port → i < length destinations → (slice_index_or destinations i d).0 < count_of net
place_leads net c port i destinations d ok e l =
    each_at (λ place. place.0 < count_of net) destinations i d l (subst (Each (λ place. place.0 < count_of net)) (sym e) (routes_lead net ok c port))
