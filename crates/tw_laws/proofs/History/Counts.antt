-- How many times a message stands among others.
use Rattle.std.proofs.Common.{◌≡◌, ℕ, suc, ◌+◌, ◌<◌, ◌≤◌, ◌&&◌, ◌==◌, true, false, List, [], ◌∷◌, ◌++◌, refl, sym, ap, ◌∙◌, arith, Bool, ne_eqb, eq-eqb, true≢false, ℤ, append_assoc}
use Rattle.std.proofs.lemmas.Bool.{cond-false, cond-true}
use Rattle.std.proofs.lemmas.Bool.Decides.{Decides-int_eq}
use Rattle.std.specs.Ordering.{int_eq}
use Rattle.tw_msgs.specs.Bags.{Bag}
use Rattle.tw_msgs.specs.Counting.{one_at}
use Rattle.tw_msgs.specs.Messages.{same_message}
use Rattle.tw_msgs.specs.declared.message.Message.{Message}
use Rattle.tw_msgs.specs.declared.record.Record.{Record}
use Rattle.tw_msgs.specs.declared.record_kind.RecordKind.{RecordKind}
use Rattle.tw_msgs.specs.declared.record_kind.RecordKind.TheVariants.{Out, Int, Ext, Con}
use Rattle.tw_theory.specs.Balance.{consumed_in, all_consumed}
use Rattle.tw_theory.specs.Bundles.{messages_for}
use Rattle.tw_theory.specs.Network.{Network, routed, copies, routes}
use Rattle.tw_theory.specs.Simulator.{sent_in, all_sent}
use Rattle.tw_laws.specs.History.{count}
use Rattle.tw_laws.proofs.History.Clock.{AllFrom, AllBefore}

pub count-append : (x : Message) (ys zs : List Message) → count x (ys ++ zs) ≡ count x ys + count x zs
count-append x [] zs = omega arith
count-append x (y ∷ ys) zs = let ih = count-append x ys zs in omega (arith, ih)

third_off : (p q r t : Bool) → r ≡ false → (p && q && r && t) ≡ false
third_off true true true t e = absurd (true≢false e)
third_off true true false t e = refl
third_off true false r t e = refl
third_off false q r t e = refl

one_off : (x y : Message) → (x.stamp ≡ y.stamp → ⊥) → one_at x y ≡ 0
one_off x y h =
    cond-false (same_message x y) 1 0 (third_off (x.to == y.to) (x.port == y.port) (x.stamp == y.stamp) (int_eq x.value y.value) (ne_eqb x.stamp y.stamp h))

pub count_skip : (x y : Message) (ys : List Message) → (x.stamp ≡ y.stamp → ⊥) → count x (y ∷ ys) ≡ count x ys
count_skip x y ys h = let e = one_off x y h in omega (arith, e)

-- an output sends messages of one stamp alone
copies_off : (x : Message) (s : ℕ) (v : ℤ) (places : List (ℕ × ℕ)) → (x.stamp ≡ s → ⊥) → count x (copies s v places) ≡ 0
copies_off x s v [] h = refl
copies_off x s v (p ∷ ps) h = count_skip x (record { to = p.0; port = p.1; stamp = s; value = v }) (copies s v ps) h ∙ copies_off x s v ps h

routed_off : {S : Type 0} (net : Network S) (x : Message) (c s : ℕ) (bag : Bag) → (x.stamp ≡ s → ⊥) → count x (routed net c s bag) ≡ 0
routed_off net x c s [] h = refl
routed_off net x c s (i ∷ is) h =
    let ih = routed_off net x c s is h in
    let e = copies_off x s i.1 (routes net c i.0) h in
    count-append x (copies s i.1 (routes net c i.0)) (routed net c s is) ∙ omega (arith, e, ih)

abbrev sent_as : {S : Type 0} → Network S → RecordKind → Record → List Message
sent_as net k r = elim k [ Out ↦ routed net r.component (r.stamp + 1) r.bag | Int ↦ [] | Ext ↦ [] | Con ↦ [] ]

sent_off : {S : Type 0} (net : Network S) (x : Message) (r : Record) (k : RecordKind) → (x.stamp ≡ r.stamp + 1 → ⊥) → count x (sent_as net k r) ≡ 0
sent_off net x r Out h = routed_off net x r.component (r.stamp + 1) r.bag h
sent_off net x r Int h = refl
sent_off net x r Ext h = refl
sent_off net x r Con h = refl

-- steps from a stamp on send nothing of that stamp
pub sent_from : {S : Type 0} (net : Network S) (x : Message) (s : ℕ) (rs : List Record) → x.stamp ≤ s → AllFrom s rs → count x (all_sent net rs) ≡ 0
sent_from net x s [] h a = refl
sent_from net x s (r ∷ rs) h a =
    let ih = sent_from net x s rs h a.1 in
    let from : s ≤ r.stamp = a.0 in
    let e = sent_off net x r r.kind (λ e. omega (arith, e, from, h)) in
    count-append x (sent_in net r) (all_sent net rs) ∙ omega (arith, e, ih)

-- steps whose messages are of an earlier stamp send nothing of this one
pub sent_early : {S : Type 0} (net : Network S) (x : Message) (s : ℕ) (rs : List Record) → s < x.stamp → AllBefore s rs
    → count x (all_sent net rs) ≡ 0
sent_early net x s [] h a = refl
sent_early net x s (r ∷ rs) h a =
    let ih = sent_early net x s rs h a.1 in
    let before : r.stamp < s = a.0 in
    let e = sent_off net x r r.kind (λ e. omega (arith, e, before, h)) in
    count-append x (sent_in net r) (all_sent net rs) ∙ omega (arith, e, ih)

bag_off : (x : Message) (c s : ℕ) (is : Bag) → (x.stamp ≡ s → ⊥) → count x (messages_for c s is) ≡ 0
bag_off x c s [] h = refl
bag_off x c s (i ∷ is) h = count_skip x (record { to = c; port = i.0; stamp = s; value = i.1 }) (messages_for c s is) h ∙ bag_off x c s is h

abbrev consumed_as : RecordKind → Record → List Message
consumed_as k r = elim k [ Out ↦ [] | Int ↦ messages_for r.component r.stamp r.bag | Ext ↦ messages_for r.component r.stamp r.bag | Con ↦ messages_for r.component r.stamp r.bag ]

consumed_off : (x : Message) (r : Record) (k : RecordKind) → (x.stamp ≡ r.stamp → ⊥) → count x (consumed_as k r) ≡ 0
consumed_off x r Out h = refl
consumed_off x r Int h = bag_off x r.component r.stamp r.bag h
consumed_off x r Ext h = bag_off x r.component r.stamp r.bag h
consumed_off x r Con h = bag_off x r.component r.stamp r.bag h

-- steps before a stamp consumed nothing of that stamp
pub consumed_before : (x : Message) (s : ℕ) (rs : List Record) → s ≤ x.stamp → AllBefore s rs → count x (all_consumed rs) ≡ 0
consumed_before x s [] h a = refl
consumed_before x s (r ∷ rs) h a =
    let ih = consumed_before x s rs h a.1 in
    let before : r.stamp < s = a.0 in
    let e = consumed_off x r r.kind (λ e. omega (arith, e, before, h)) in
    count-append x (consumed_in r) (all_consumed rs) ∙ omega (arith, e, ih)

pub all_sent-append : {S : Type 0} (net : Network S) (rs ss : List Record) → all_sent net (rs ++ ss) ≡ all_sent net rs ++ all_sent net ss
all_sent-append net [] ss = refl
all_sent-append net (r ∷ rs) ss = ap (λ l. sent_in net r ++ l) (all_sent-append net rs ss) ∙ sym (append_assoc (sent_in net r) (all_sent net rs) (all_sent net ss))

-- steps after a stamp consumed nothing of that stamp
pub consumed_after : (x : Message) (s : ℕ) (rs : List Record) → x.stamp ≤ s → AllFrom (suc s) rs → count x (all_consumed rs) ≡ 0
consumed_after x s [] h a = refl
consumed_after x s (r ∷ rs) h a =
    let ih = consumed_after x s rs h a.1 in
    let from : suc s ≤ r.stamp = a.0 in
    let e = consumed_off x r r.kind (λ e. omega (arith, e, from, h)) in
    count-append x (consumed_in r) (all_consumed rs) ∙ omega (arith, e, ih)

pub all_consumed-append : (rs ss : List Record) → all_consumed (rs ++ ss) ≡ all_consumed rs ++ all_consumed ss
all_consumed-append [] ss = refl
all_consumed-append (r ∷ rs) ss = ap (λ l. consumed_in r ++ l) (all_consumed-append rs ss) ∙ sym (append_assoc (consumed_in r) (all_consumed rs) (all_consumed ss))

same_self : (p q r t : Bool) → p ≡ true → q ≡ true → r ≡ true → t ≡ true → (p && q && r && t) ≡ true
same_self true true true true a b c d = refl
same_self false q r t a b c d = absurd (true≢false (sym a))
same_self true false r t a b c d = absurd (true≢false (sym b))
same_self true true false t a b c d = absurd (true≢false (sym c))
same_self true true true false a b c d = absurd (true≢false (sym d))

-- a message is counted at itself
pub count_self : (m : Message) → one_at m m ≡ 1
count_self m =
    cond-true (same_message m m) 1 0
    (same_self (m.to == m.to) (m.port == m.port) (m.stamp == m.stamp) (int_eq m.value m.value) (eq-eqb m.to m.to refl) (eq-eqb m.port m.port refl) (eq-eqb m.stamp m.stamp refl) ((Decides-int_eq m.value m.value).1 refl))
