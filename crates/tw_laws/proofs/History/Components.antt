-- Sums over components, records of one component, and messages of one stamp.
use Rattle.std.proofs.Common.{◌≡◌, ℕ, zero, suc, ◌+◌, ◌<◌, ◌&&◌, ◌==◌, nat_lt, filter, List, [], ◌∷◌, ◌++◌, refl, sym, ap, ◌∙◌, ⊎_elim, arith, eq-eqb, eqb-true, lt-ltb, le-ltb, ne_eqb, ℤ}
use Rattle.std.proofs.lemmas.Bool.{cases_eq, cases_Bool, cond-true, cond-false, cond_both, and_from, and_left, and_right}
use Rattle.tw_msgs.specs.Bags.{Bag}
use Rattle.tw_msgs.specs.declared.message.Message.{Message}
use Rattle.tw_msgs.specs.declared.record.Record.{Record}
use Rattle.tw_theory.specs.Bundles.{addressed}
use Rattle.tw_theory.specs.Network.{Network, routed, copies, routes}
use Rattle.tw_theory.specs.Simulator.{outputs, sent_in, all_sent, with_stamp, past_stamp}
use Rattle.tw_theory.specs.Transitions.{Moment, output}
use Rattle.tw_laws.specs.History.{count, sum_below}
use Rattle.tw_laws.proofs.History.Clock.{arrived, AllFrom, AllBefore}
use Rattle.tw_laws.proofs.History.Counts.{count_skip}

pub sum_same : (f g : ℕ → ℕ) (n : ℕ) → ((c : ℕ) → c < n → f c ≡ g c) → sum_below f n ≡ sum_below g n
unfolding sum_below
sum_same f g zero h = refl
sum_same f g (suc n) h = let ih = sum_same f g n (λ c l. h c (omega (arith, l))) in let e = h n (omega arith) in omega (arith, ih, e)

pub sum_front : (f : ℕ → ℕ) (n : ℕ) → sum_below f (suc n) ≡ f 0 + sum_below (λ i. f (suc i)) n
unfolding sum_below
sum_front f zero = omega arith
sum_front f (suc n) = let ih = sum_front f n in omega (arith, ih)

-- the records of component c
abbrev pub own : ℕ → List Record → List Record
own c rs = filter (λ r. r.component == c) rs

pub own_take : (c : ℕ) (r : Record) (rs : List Record) → r.component ≡ c → own c (r ∷ rs) ≡ r ∷ own c rs
own_take c r rs e = cond-true (r.component == c) _ _ (eq-eqb r.component c e)

pub own_skip : (c : ℕ) (r : Record) (rs : List Record) → (r.component ≡ c → ⊥) → own c (r ∷ rs) ≡ own c rs
own_skip c r rs h = cond-false (r.component == c) _ _ (ne_eqb r.component c h)

pub own-append : (c : ℕ) (rs ss : List Record) → own c (rs ++ ss) ≡ own c rs ++ own c ss
own-append c [] ss = refl
own-append c (r ∷ rs) ss =
    let ih = own-append c rs ss in
    ⊎_elim
    (λ e. own_take c r (rs ++ ss) e ∙ ap (λ l. r ∷ l) ih ∙ ap (λ l. l ++ own c ss) (sym (own_take c r rs e)))
    (λ h. own_skip c r (rs ++ ss) h ∙ ih ∙ ap (λ l. l ++ own c ss) (sym (own_skip c r rs h)))
    (cases_eq r.component c)

-- the records of component c before a stamp
abbrev pub before : ℕ → List Record → List Record
before s rs = filter (λ r. nat_lt r.stamp s) rs

before_all_of : (s : ℕ) (rs : List Record) → AllBefore s rs → before s rs ≡ rs
before_all_of s [] a = refl
before_all_of s (r ∷ rs) a = cond-true (nat_lt r.stamp s) _ _ (lt-ltb r.stamp s a.0) ∙ ap (λ l. r ∷ l) (before_all_of s rs a.1)

before_none : (s : ℕ) (rs : List Record) → AllFrom s rs → before s rs ≡ []
before_none s [] a = refl
before_none s (r ∷ rs) a = cond-false (nat_lt r.stamp s) _ _ (le-ltb r.stamp s a.0) ∙ before_none s rs a.1

before-append : (s : ℕ) (rs ss : List Record) → AllBefore s rs → AllFrom s ss → before s (rs ++ ss) ≡ rs
before-append s [] ss a b = before_none s ss b
before-append s (r ∷ rs) ss a b = cond-true (nat_lt r.stamp s) _ _ (lt-ltb r.stamp s a.0) ∙ ap (λ l. r ∷ l) (before-append s rs ss a.1 b)

pub before_is : (s : ℕ) (rs old more : List Record) → rs ≡ old ++ more → AllBefore s old → AllFrom s more → before s rs ≡ old
before_is s rs old more e a b = ap (before s) e ∙ before-append s old more a b

-- one test after the other
pub own_before : (c s : ℕ) (rs : List Record) → filter (λ r. (r.component == c) && nat_lt r.stamp s) rs ≡ before s (own c rs)
own_before c s [] = refl
own_before c s (r ∷ rs) =
    let ih = own_before c s rs in
    ⊎_elim (λ e. mine e ih)
    (λ h. cond-false ((r.component == c) && nat_lt r.stamp s) _ _ (and_left (r.component == c) _ (ne_eqb r.component c h)) ∙ ih ∙ ap (before s) (sym (own_skip c r rs h)))
    (cases_eq r.component c)
  where
    mine : r.component ≡ c → filter (λ r. (r.component == c) && nat_lt r.stamp s) rs ≡ before s (own c rs)
        → filter (λ r. (r.component == c) && nat_lt r.stamp s) (r ∷ rs) ≡ before s (own c (r ∷ rs))
    mine e ih =
        ⊎_elim
        (λ t. cond-true ((r.component == c) && nat_lt r.stamp s) _ _ (and_from (r.component == c) _ (eq-eqb r.component c e) t) ∙ ap (λ l. r ∷ l) ih ∙ sym (ap (before s) (own_take c r rs e) ∙ cond-true (nat_lt r.stamp s) _ _ t))
        (λ t. cond-false ((r.component == c) && nat_lt r.stamp s) _ _ (and_right (r.component == c) _ t) ∙ ih ∙ sym (ap (before s) (own_take c r rs e) ∙ cond-false (nat_lt r.stamp s) _ _ t))
        (cases_Bool (nat_lt r.stamp s))

-- ---- messages of one stamp

abbrev pub AllAt : ℕ → List Message → Type 0
AllAt s [] = Unit {0}
AllAt s (m ∷ ms) = (m.stamp ≡ s) × AllAt s ms

pub at-append : (s : ℕ) (xs ys : List Message) → AllAt s xs → AllAt s ys → AllAt s (xs ++ ys)
at-append s [] ys a b = b
at-append s (x ∷ xs) ys a b = (a.0, at-append s xs ys a.1 b)

copies_at : (s : ℕ) (v : ℤ) (places : List (ℕ × ℕ)) → AllAt s (copies s v places)
copies_at s v [] = tt
copies_at s v (p ∷ ps) = (refl, copies_at s v ps)

pub routed_at : {S : Type 0} (net : Network S) (c s : ℕ) (bag : Bag) → AllAt s (routed net c s bag)
routed_at net c s [] = tt
routed_at net c s (i ∷ is) = at-append s (copies s i.1 (routes net c i.0)) (routed net c s is) (copies_at s i.1 (routes net c i.0)) (routed_at net c s is)

pub outputs_at : {S : Type 0} (net : Network S) (t b : ℕ) (nows : List (Moment S)) → AllAt (t + 1) (all_sent net (outputs net t b nows))
unfolding output
outputs_at net t b [] = tt
outputs_at net t b (now ∷ nows) =
    let ih = outputs_at net t (suc b) nows in
    cond_both (now.due == t) _ _ (λ l. AllAt (t + 1) (all_sent net l)) (λ _. at-append (t + 1) (sent_in net (output net b now t).entry) (all_sent net (outputs net t (suc b) nows)) (routed_at net b (t + 1) _) ih) (λ _. ih)

pub with_stamp_at : (s : ℕ) (ms : List Message) → AllAt s (with_stamp s ms)
with_stamp_at s [] = tt
with_stamp_at s (m ∷ ms) =
    let ih = with_stamp_at s ms in
    cond_both (m.stamp == s) _ _ (AllAt s) (λ e. (eqb-true m.stamp s e, ih)) (λ _. ih)

pub addressed_at : (c s : ℕ) (ms : List Message) → AllAt s ms → arrived c s ms ≡ addressed c ms
unfolding arrived
addressed_at c s [] a = refl
addressed_at c s (m ∷ ms) a =
    let ih = addressed_at c s ms a.1 in
    ⊎_elim
    (λ e. cond-true ((c == m.to) && (s == m.stamp)) _ _ (and_from (c == m.to) _ (eq-eqb c m.to (sym e)) (eq-eqb s m.stamp (sym a.0))) ∙ ap (λ l. m ∷ l) ih ∙ sym (cond-true (m.to == c) _ _ (eq-eqb m.to c e)))
    (λ h. cond-false ((c == m.to) && (s == m.stamp)) _ _ (and_left (c == m.to) _ (ne_eqb c m.to (λ e. h (sym e)))) ∙ ih ∙ sym (cond-false (m.to == c) _ _ (ne_eqb m.to c h)))
    (cases_eq m.to c)

pub count-with_stamp : (x : Message) (ms : List Message) → count x (with_stamp x.stamp ms) ≡ count x ms
count-with_stamp x [] = refl
count-with_stamp x (m ∷ ms) =
    let ih = count-with_stamp x ms in
    ⊎_elim
    (λ e. ap (count x) (cond-true (m.stamp == x.stamp) _ _ (eq-eqb m.stamp x.stamp e)) ∙ omega (arith, ih))
    (λ h. ap (count x) (cond-false (m.stamp == x.stamp) _ _ (ne_eqb m.stamp x.stamp h)) ∙ ih ∙ sym (count_skip x m ms (λ e. h (sym e))))
    (cases_eq m.stamp x.stamp)

pub count-past_stamp : (x : Message) (s : ℕ) (ms : List Message) → s < x.stamp → count x (past_stamp s ms) ≡ count x ms
count-past_stamp x s [] l = refl
count-past_stamp x s (m ∷ ms) l =
    let ih = count-past_stamp x s ms l in
    ⊎_elim
    (λ e. ap (count x) (cond-true (nat_lt s m.stamp) _ _ (lt-ltb s m.stamp (omega (arith, e, l)))) ∙ omega (arith, ih))
    (λ h. cond_both (nat_lt s m.stamp) _ _ (λ r. count x r ≡ count x (m ∷ ms)) (λ _. omega (arith, ih)) (λ _. ih ∙ sym (count_skip x m ms (λ e. h (sym e)))))
    (cases_eq m.stamp x.stamp)
