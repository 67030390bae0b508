-- The transitions of a round, component by component.
use Rattle.std.proofs.Common.{◌≡◌, ℕ, ℤ, suc, ◌+◌, ◌<◌, ◌≤◌, ◌==◌, inl, inr, false, append-nil, ne_eqb, List, [], ◌∷◌, ◌++◌, length, drop, take, Option, Some, slice_get, slice_set, slice_index, slice_index_or, replicate, refl, sym, ap, ap₂, ◌∙◌, subst, ⊎_elim, arith, add-one, append_assoc}
use Rattle.std.proofs.Math.Seq.{take-suc-set}
use Rattle.std.proofs.lemmas.List.{drop_more, drop-set-lt, set-get_or}
use Rattle.std.specs.Prelude.{◌≢◌}
use Rattle.std.proofs.lemmas.Option.{get_or_from_slice_get}
use Rattle.tw_atomic.specs.Atomic.{Meaning}
use Rattle.tw_msgs.specs.Bags.{Bag, sorted_bag}
use Rattle.tw_msgs.specs.declared.record.Record.{Record}
use Rattle.tw_network.specs.Contents.{Contents, network_of}
use Rattle.tw_rounds.specs.Invariant.{IsBetween, AllStand}
use Rattle.tw_rounds.specs.declared.turns.Taken.{Taken}
use Rattle.tw_rounds.specs.declared.turns.Taken.TheVariants as taken
use Rattle.tw_rounds.specs.Turning.{Part, Idle, Told, Limited, CanGoOn, part_of, seen, turns_with}
use Rattle.tw_rounds.specs.Waking.{HasTurn, IsInTurn}
use Rattle.tw_theory.specs.Transitions.{Moment}
use Rattle.tw_theory.specs.Network.{Network}
use Rattle.tw_theory.specs.Simulator.{RoundTurn, Stays, take_turn, after_output, turn_records, turned_moments, first_stop}
use Rattle.tw_vtime.specs.declared.limits.Limit.{Limit}
use Rattle.tw_theory.proofs.Elements.{get_of_set, present}
use Rattle.tw_vtime.specs.Stamps.{max_tick, tick_of, phase_of}
use Rattle.tw_rounds.proofs.Between.{stays_between}
use Rattle.tw_rounds.proofs.Sweeping.{along, onward, onward_within, onward_next, none_between, none_after}
use Rattle.tw_rounds.proofs.TurnsMade.{stays_turn}

same_head : {X : Type 0} (x y : X) (xs ys : List X) → x ∷ xs ≡ y ∷ ys → x ≡ y
same_head x y xs ys e = cc e

same_tail : {X : Type 0} (x y : X) (xs ys : List X) → x ∷ xs ≡ y ∷ ys → xs ≡ ys
same_tail x y xs ys e = cc e

-- of two lists that are the same from place i on
pub same_here : {X : Type 0} (xs ys : List X) (i : ℕ) (d : X) → drop i xs ≡ drop i ys → i < length xs → i < length ys → slice_index_or xs i d ≡ slice_index_or ys i d
same_here xs ys i d e l m = same_head _ _ _ _ (sym (drop_more xs i d l) ∙ e ∙ drop_more ys i d m)

pub same_later : {X : Type 0} (xs ys : List X) (i : ℕ) (d : X) → drop i xs ≡ drop i ys → i < length xs → i < length ys → drop (i + 1) xs ≡ drop (i + 1) ys
same_later xs ys i d e l m = same_tail _ _ _ _ (sym (drop_more xs i d l) ∙ e ∙ drop_more ys i d m)

-- a write at place i changes nothing after it
pub later_set : {X : Type 0} (xs ys : List X) (i : ℕ) (x d : X) → drop i xs ≡ drop i ys → i < length xs → i < length ys → drop (i + 1) (slice_set xs i x) ≡ drop (i + 1) ys
later_set xs ys i x d e l m = drop-set-lt (i + 1) xs i x (omega arith) ∙ same_later xs ys i d e l m

-- the turn of component i, and those after it
pub rest_next : {S : Type 0} (net : Network S) (t i : ℕ) (old : List (Moment S)) (bags : List Bag) (d : Moment S) (b : Bag) → i < length old → i < length bags → turns_with net t i (drop i old) (drop i bags) ≡ take_turn net i (after_output net i (slice_index_or old i d) t) (t + 1) ((slice_index_or old i d).due == t) (sorted_bag (slice_index_or bags i b)) ∷ turns_with net t (i + 1) (drop (i + 1) old) (drop (i + 1) bags)
rest_next net t i old bags d b l m =
    ap₂ (λ x y. turns_with net t i x y) (drop_more old i d l) (drop_more bags i b m)
    ∙ ap (λ n. take_turn net i (after_output net i (slice_index_or old i d) t) (t + 1) ((slice_index_or old i d).due == t) (sorted_bag (slice_index_or bags i b)) ∷ turns_with net t n (drop (i + 1) old) (drop (i + 1) bags)) (sym (add-one i))

-- it met no limit
abbrev pub GoesOn : Part → Type 0
GoesOn Idle = Unit {0}
GoesOn (Told entry) = Unit {0}
GoesOn (Limited limit) = ⊥

pub goes_on : (c s : ℕ) (bag : Bag) (words : List ℤ) (what : Taken) → CanGoOn what → GoesOn (part_of c s bag words what)
goes_on c s bag words taken.Stays h = tt
goes_on c s bag words (taken.Moves kind) h = tt
goes_on c s bag words (taken.Stops limit) h = absurd h

pub idle_stays : (c s : ℕ) (bag : Bag) (words : List ℤ) (what : Taken) → part_of c s bag words what ≡ Idle → what ≡ taken.Stays
idle_stays c s bag words taken.Stays e = refl
idle_stays c s bag words (taken.Moves kind) e = absurd (cc e)
idle_stays c s bag words (taken.Stops limit) e = absurd (cc e)

abbrev pub entries : Part → List Record
entries Idle = []
entries (Told entry) = entry ∷ []
entries (Limited limit) = []

pub stop_next : {S : Type 0} (i : ℕ) (what : Part) (new : Moment S) (ts : List (RoundTurn S)) → GoesOn what → first_stop (i + 1) ts ≡ first_stop i (seen what new ∷ ts)
stop_next i Idle new ts h = ap (λ n. first_stop n ts) (add-one i)
stop_next i (Told entry) new ts h = ap (λ n. first_stop n ts) (add-one i)
stop_next i (Limited limit) new ts h = absurd h

pub records_next : {S : Type 0} (what : Part) (new : Moment S) (ts : List (RoundTurn S)) → turn_records (seen what new ∷ ts) ≡ entries what ++ turn_records ts
records_next Idle new ts = refl
records_next (Told entry) new ts = refl
records_next (Limited limit) new ts = refl

pub turned_next : {S : Type 0} (what : Part) (new now : Moment S) (nows : List (Moment S)) (ts : List (RoundTurn S)) → GoesOn what → (what ≡ Idle → new ≡ now) → turned_moments (now ∷ nows) (seen what new ∷ ts) ≡ new ∷ turned_moments nows ts
turned_next Idle new now nows ts h k = ap (λ m. m ∷ turned_moments nows ts) (sym (k refl))
turned_next (Told entry) new now nows ts h k = refl
turned_next (Limited limit) new now nows ts h k = absurd h

-- one component more

module _ {S : Type 0} (net : Network S) (t i : ℕ) (old moments : List (Moment S)) (bags0 bags : List Bag) (d : Moment S) (b : Bag) (what : Part) (new : Moment S)
    (later : drop i moments ≡ drop i old) (dealt : drop i bags ≡ drop i bags0) (l : i < length moments) (l0 : i < length old) (m : i < length bags) (m0 : i < length bags0)
    (turn : seen what new ≡ take_turn net i (after_output net i (slice_index_or moments i d) t) (t + 1) ((slice_index_or moments i d).due == t) (sorted_bag (slice_index_or bags i b))) where
  pub rest_seen : turns_with net t i (drop i old) (drop i bags0) ≡ seen what new ∷ turns_with net t (i + 1) (drop (i + 1) old) (drop (i + 1) bags0)
  rest_seen =
      let rest = turns_with net t (i + 1) (drop (i + 1) old) (drop (i + 1) bags0) in
      let here = same_here moments old i d later l l0 in
      let bag = same_here bags bags0 i b dealt m m0 in
      rest_next net t i old bags0 d b l0 m0
      ∙ sym (ap (λ x. x ∷ rest) (turn ∙ (λ k. take_turn net i (after_output net i (here k) t) (t + 1) ((here k).due == t) (sorted_bag (bag k)))))

  pub stop_kept : GoesOn what → (all : Option (ℕ × Limit)) → first_stop i (turns_with net t i (drop i old) (drop i bags0)) ≡ all → first_stop (i + 1) (turns_with net t (i + 1) (drop (i + 1) old) (drop (i + 1) bags0)) ≡ all
  stop_kept h all e = stop_next i what new _ h ∙ ap (first_stop i) (sym rest_seen) ∙ e

  pub records_kept : (records all : List Record) → records ++ turn_records (turns_with net t i (drop i old) (drop i bags0)) ≡ all → (records ++ entries what) ++ turn_records (turns_with net t (i + 1) (drop (i + 1) old) (drop (i + 1) bags0)) ≡ all
  records_kept records all e =
      let rest = turns_with net t (i + 1) (drop (i + 1) old) (drop (i + 1) bags0) in
      append_assoc records (entries what) (turn_records rest)
      ∙ ap (λ rs. records ++ rs) (sym (ap turn_records rest_seen ∙ records_next what new rest)) ∙ e

  pub moments_kept : GoesOn what → (what ≡ Idle → new ≡ slice_index_or moments i d) → (all : List (Moment S)) → take i moments ++ turned_moments (drop i old) (turns_with net t i (drop i old) (drop i bags0)) ≡ all → take (i + 1) (slice_set moments i new) ++ turned_moments (drop (i + 1) old) (turns_with net t (i + 1) (drop (i + 1) old) (drop (i + 1) bags0)) ≡ all
  moments_kept h k all e =
      let rest = turns_with net t (i + 1) (drop (i + 1) old) (drop (i + 1) bags0) in
      let here = same_here moments old i d later l l0 in
      let turned : turned_moments (drop i old) (turns_with net t i (drop i old) (drop i bags0)) ≡ new ∷ turned_moments (drop (i + 1) old) rest =
      ap₂ (λ x y. turned_moments x y) (drop_more old i d l0) rest_seen
      ∙ turned_next what new (slice_index_or old i d) (drop (i + 1) old) rest h (λ s. k s ∙ here) in
      ap (λ xs. xs ++ turned_moments (drop (i + 1) old) rest) (ap (λ n. take n (slice_set moments i new)) (add-one i) ∙ take-suc-set moments i new l)
      ∙ append_assoc (take i moments) (new ∷ []) (turned_moments (drop (i + 1) old) rest)
      ∙ ap (λ xs. take i moments ++ xs) (sym turned) ∙ e

  pub stop_found : (limit : Limit) → what ≡ Limited limit → (all : Option (ℕ × Limit)) → first_stop i (turns_with net t i (drop i old) (drop i bags0)) ≡ all → Some (i, limit) ≡ all
  stop_found limit w all e =
      let rest = turns_with net t (i + 1) (drop (i + 1) old) (drop (i + 1) bags0) in
      ap (λ x. first_stop i (seen x new ∷ rest)) (sym w) ∙ ap (first_stop i) (sym rest_seen) ∙ e

-- all components before the next one stand
pub standing_next : {S : Type 0} (P : ℕ → Moment S → Type 0) (i : ℕ) (moments : List (Moment S)) (new : Moment S) → P i new → ((k : ℕ) (now : Moment S) → k < i → slice_get moments k ≡ Some now → P k now) → (k : ℕ) (now : Moment S) → k < i + 1 → slice_get (slice_set moments i new) k ≡ Some now → P k now
standing_next P i moments new here before k now l e =
    ⊎_elim
    (λ h. subst (λ n. P n now) (sym h.0) (subst (P i) (sym h.1) here))
    (λ h. let n = h.0 in before k now (omega (arith, l, n)) h.1)
    (get_of_set moments i k new now e)

-- ---- where a sweep stands before component i

no_bag : (bag : Bag) → (bag ≢ [] → ⊥) → bag ≡ []
no_bag [] h = refl
no_bag (x ∷ xs) h = absurd (h (λ e. cc e))

pub record Swept {M S : Type 0} (valid : M → S → Type 0) (meaning : M → Meaning S) (contents : Contents M) (t : ℕ) (old : List (Moment S)) (bags0 : List Bag) (start : List Record) (i : ℕ) (moments : List (Moment S)) (bags : List Bag) (records : List Record) : Type 0 where
  pub later : drop i moments ≡ drop i old
  pub to_come : drop i bags ≡ drop i bags0
  pub empty : (d : ℕ) (bag : Bag) → d < i → slice_get bags d ≡ Some bag → bag ≡ []
  pub stop : first_stop i (turns_with (network_of meaning contents) t i (drop i old) (drop i bags0)) ≡ first_stop 0 (turns_with (network_of meaning contents) t 0 old bags0)
  pub recorded : records ++ turn_records (turns_with (network_of meaning contents) t i (drop i old) (drop i bags0)) ≡ start ++ turn_records (turns_with (network_of meaning contents) t 0 old bags0)
  pub moved : take i moments ++ turned_moments (drop i old) (turns_with (network_of meaning contents) t i (drop i old) (drop i bags0)) ≡ turned_moments old (turns_with (network_of meaning contents) t 0 old bags0)
  pub standing : (d : ℕ) (model : M) (now : Moment S) → d < i → slice_get contents.models d ≡ Some model → slice_get moments d ≡ Some now → IsBetween (valid model) (meaning model) (t + 2) now

-- before the first component
pub swept_start : {M S : Type 0} (valid : M → S → Type 0) (meaning : M → Meaning S) (contents : Contents M) (t : ℕ) (old : List (Moment S)) (bags0 : List Bag) → Swept valid meaning contents t old bags0 [] 0 old bags0 []
swept_start valid meaning contents t old bags0 = record {
  later = refl;
  to_come = refl;
  empty = λ d bag l e. absurd (omega (arith, l));
  stop = refl;
  recorded = refl;
  moved = refl;
  standing = λ d model now l found e. absurd (omega (arith, l));
}

module _ {M S : Type 0} (valid : M → S → Type 0) (meaning : M → Meaning S) (contents : Contents M) (t : ℕ) (old : List (Moment S)) (bags0 : List Bag) (start : List Record)
    (i : ℕ) (moments : List (Moment S)) (bags : List Bag) (records : List Record) (swept : Swept valid meaning contents t old bags0 start i moments bags records)
    (l0 : i < length old) (m0 : i < length bags0) (l : i < length moments) (m : i < length bags) where
  -- component i takes its turn
  pub swept_turn : (d : Moment S) (b : Bag) (what : Part) (new : Moment S) →
      seen what new ≡ take_turn (network_of meaning contents) i (after_output (network_of meaning contents) i (slice_index_or moments i d) t) (t + 1) ((slice_index_or moments i d).due == t) (sorted_bag (slice_index_or bags i b)) →
      GoesOn what → (what ≡ Idle → new ≡ slice_index_or moments i d) →
      ((model : M) → slice_get contents.models i ≡ Some model → IsBetween (valid model) (meaning model) (t + 2) new) →
      Swept valid meaning contents t old bags0 start (i + 1) (slice_set moments i new) (slice_set bags i []) (records ++ entries what)
  swept_turn d b what new turn on kept stands =
      let net = network_of meaning contents in
      let P : ℕ → Moment S → Type 0 = λ k now. (model : M) → slice_get contents.models k ≡ Some model → IsBetween (valid model) (meaning model) (t + 2) now in
      let all = standing_next P i moments new stands (λ k now q e model found. swept.standing k model now q found e) in
      record {
        later = later_set moments old i new d swept.later l l0;
        to_come = later_set bags bags0 i [] b swept.to_come m m0;
        empty = λ k bag q e. ⊎_elim (λ h. h.1) (λ h. let n = h.0 in swept.empty k bag (omega (arith, q, n)) h.1) (get_of_set bags i k [] bag e);
        stop = stop_kept net t i old moments bags0 bags d b what new swept.later swept.to_come l l0 m m0 turn on _ swept.stop;
        recorded = records_kept net t i old moments bags0 bags d b what new swept.later swept.to_come l l0 m m0 turn records _ swept.recorded;
        moved = moments_kept net t i old moments bags0 bags d b what new swept.later swept.to_come l l0 m m0 turn on kept _ swept.moved;
        standing = λ k model now q found e. all k now q e model found;
      }

  -- component i has none
  pub swept_passed : AllStand valid meaning contents.models t old → phase_of t ≡ 0 → tick_of t < max_tick → (HasTurn t old bags0 i → ⊥) → Swept valid meaning contents t old bags0 start (i + 1) moments bags records
  swept_passed stand even small none =
      let net = network_of meaning contents in
      let now = present old i l0 in
      let bag = present bags0 i m0 in
      let idle : now.0.due ≢ t = λ e. none (inl (now.0, now.1, e)) in
      let nothing : bag.0 ≡ [] = no_bag bag.0 (λ n. none (inr (bag.0, bag.1, n))) in
      let here : slice_index_or moments i now.0 ≡ now.0 = same_here moments old i now.0 swept.later l l0 ∙ get_or_from_slice_get old i now.0 now.0 now.1 in
      let empty : slice_index_or bags i [] ≡ [] = same_here bags bags0 i [] swept.to_come m m0 ∙ get_or_from_slice_get bags0 i bag.0 [] bag.1 ∙ nothing in
      let waits : ((slice_index_or moments i now.0).due == t) ≡ false = ap (λ x. x.due == t) here ∙ ne_eqb now.0.due t idle in
      let turn : Stays ≡ take_turn net i (after_output net i (slice_index_or moments i now.0) t) (t + 1) ((slice_index_or moments i now.0).due == t) (sorted_bag (slice_index_or bags i [])) =
      sym (stays_turn net i (t + 1) (after_output net i (slice_index_or moments i now.0) t) ((slice_index_or moments i now.0).due == t) (sorted_bag (slice_index_or bags i [])) waits (ap sorted_bag empty)) in
      let stands : (model : M) → slice_get contents.models i ≡ Some model → IsBetween (valid model) (meaning model) (t + 2) (slice_index_or moments i now.0) =
      λ model found. subst (IsBetween (valid model) (meaning model) (t + 2)) (sym here) (stays_between (valid model) (meaning model) t now.0 (stand.each i model now.0 found now.1) idle even small) in
      let after = swept_turn now.0 [] Idle (slice_index_or moments i now.0) turn tt (λ e. refl) stands in
      let same_moments : slice_set moments i (slice_index_or moments i now.0) ≡ moments = set-get_or moments i now.0 in
      let same_bags : slice_set bags i [] ≡ bags = ap (slice_set bags i) (sym empty) ∙ set-get_or bags i [] in
      let same_records : records ++ entries Idle ≡ records = append-nil records in
      subst (λ rs. Swept valid meaning contents t old bags0 start (i + 1) moments bags rs) same_records
      (subst (λ bs. Swept valid meaning contents t old bags0 start (i + 1) moments bs (records ++ [])) same_bags
      (subst (λ ms. Swept valid meaning contents t old bags0 start (i + 1) ms (slice_set bags i []) (records ++ [])) same_moments after))

-- ---- from one component in turn to the next

module _ {M S : Type 0} (valid : M → S → Type 0) (meaning : M → Meaning S) (contents : Contents M) (t : ℕ) (old : List (Moment S)) (bags0 : List Bag) (start : List Record) (moments : List (Moment S)) (bags : List Bag) (records : List Record)
    (items : List ℕ) (listed : IsInTurn t old bags0 items) (size : length moments ≡ length old) (size' : length bags ≡ length bags0) (size0 : length bags0 ≡ length old)
    (stand : AllStand valid meaning contents.models t old) (even : phase_of t ≡ 0) (small : tick_of t < max_tick) where
  swept_to : (i j : ℕ) → i ≤ j → j ≤ length old → ((c : ℕ) → i ≤ c → c < j → HasTurn t old bags0 c → ⊥) → Swept valid meaning contents t old bags0 start i moments bags records → Swept valid meaning contents t old bags0 start j moments bags records
  swept_to i j le top none =
      along (λ k. Swept valid meaning contents t old bags0 start k moments bags records) i j le
      (λ c from before h.
      let l0 : c < length old = omega (arith, before, top) in
      swept_passed valid meaning contents t old bags0 start c moments bags records h l0 (omega (arith, l0, size0)) (omega (arith, l0, size)) (omega (arith, l0, size', size0)) stand even small (none c from before))

  pub turn_within : (k : ℕ) → k < length items → slice_index items k < length old
  turn_within k l = let h : slice_index items k < length bags0 = listed.each k 0 l in omega (arith, h, size0)

  pub at_turn : (k : ℕ) → k < length items → Swept valid meaning contents t old bags0 start (onward items k) moments bags records → Swept valid meaning contents t old bags0 start (slice_index items k) moments bags records
  at_turn k l = let h = turn_within k l in swept_to (onward items k) (slice_index items k) (onward_next items listed.rising k l) (omega (arith, h))
      (λ c from before turn. none_between items listed.rising k c l from before (listed.all c turn))

  pub at_end : (k : ℕ) → length items ≤ k → k ≤ length items → Swept valid meaning contents t old bags0 start (onward items k) moments bags records → Swept valid meaning contents t old bags0 start (length old) moments bags records
  at_end k l m = swept_to (onward items k) (length old) (onward_within items (length old) k (λ j d n. let h = listed.each j d n in omega (arith, h, size0)) m) (omega arith)
      (λ c from before turn. none_after items listed.rising k c l m from (listed.all c turn))

pub listed_as : {S : Type 0} (t : ℕ) (old : List (Moment S)) (bags bags' : List Bag) (items items' : List ℕ) → bags' ≡ bags → items' ≡ items → IsInTurn t old bags items → IsInTurn t old bags' items'
listed_as t old bags bags' items items' e f h = subst (λ bs. IsInTurn t old bs items') (sym e) (subst (IsInTurn t old bags) (sym f) h)

-- bags of which each is empty
pub all_empty : (bags : List Bag) → ((d : ℕ) (bag : Bag) → slice_get bags d ≡ Some bag → bag ≡ []) → bags ≡ replicate (length bags) []
all_empty [] h = refl
all_empty (bag ∷ bags) h = λ i. h 0 bag refl i ∷ all_empty bags (λ d b e. h (suc d) b e) i
