-- Posts of nothing do nothing, and of an empty mailbox there is nothing to deliver.
use Rattle.std.proofs.Common.{◌≡◌, ◌≢◌, ◌⊎◌, ℕ, zero, suc, ◌+◌, ◌-◌, ◌<◌, ◌≤◌, Bool, true, false, List, [], ◌∷◌, ◌++◌, length, map, replicate, drop, append-nil, cond, Option, None, Some, refl, sym, ap, ap₂, subst, ◌∙◌, inl, inr, arith}
use Rattle.std.specs.Prelude.{nat_lt, slice_get, slice_set}
use Rattle.std.proofs.lemmas.Bool.{and_parts, cases_eq, cases_lt, true≢false}
use Rattle.std.proofs.lemmas.List.{get_or_past}
use Rattle.std.proofs.lemmas.Option.{none-some, same_Some, slice_get-get_or, slice_get_within}
use Rattle.tw_atomic.specs.Atomic.{Meaning}
use Rattle.tw_exec.specs.Running.{Running, after}
use Rattle.tw_laws.proofs.Inverse.{set_here, set_there}
use Rattle.tw_theory.proofs.Elements.{empty_is, set_same}
use Rattle.tw_msgs.specs.declared.message.Item.{Item}
use Rattle.tw_msgs.specs.declared.message.Message.{Message}
use Rattle.tw_network.specs.Contents.{network_of}
use Rattle.tw_theory.specs.Bundles.{antis, not_overdue, overdue}
use Rattle.tw_theory.specs.Contents.{Cancel, Aggressive, Lazy, Process, next, settle, settled_as, with_lists, with_outgoing}
use Rattle.tw_theory.specs.Exchange.{deliveries, is_empty, posts}
use Rattle.tw_theory.specs.Executive.{World, Action, Deliver, Post, act, act_deliver, act_post, mail_of, posted, replay, with_mail, with_process}
use Rattle.tw_theory.specs.Network.{Network}
use Rattle.tw_theory.specs.Soundness.{Cancels}
use Rattle.tw_exchange.specs.Agenda.{AllLate, IsLeast}
use Rattle.tw_exchange.specs.Queues.{IsElsewhereSame, IsSameBut, box_mark}
use Rattle.tw_exchange.specs.Sweeping.{IsUnderWay, is_idle, replayed}
use Rattle.tw_exchange.proofs.Following.{acts_on_one}
use Rattle.tw_exchange.proofs.IdleLemmas.{less_but}
use Rattle.tw_exchange.proofs.Marking.{done_all, done_before, least_there}
use Rattle.tw_exchange.proofs.SameBut.{nothing_else, one_set, then_same}
use Rattle.tw_exchange.proofs.UnderWay.{begun, finished, joined, next_post, no_post, stepped}

-- ## What is owed and not overdue

all_kept : (s : ℕ) (ms : List Message) → is_empty (overdue s ms) ≡ true → not_overdue s ms ≡ ms
all_kept s [] e = refl
all_kept s (m ∷ ms) e = go (λ k. all_kept s ms k) (nat_lt (m.stamp - 1) s) e
  where
    go : (is_empty (overdue s ms) ≡ true → not_overdue s ms ≡ ms) → (b : Bool) → is_empty (cond b (m ∷ overdue s ms) (overdue s ms)) ≡ true → cond b (not_overdue s ms) (m ∷ not_overdue s ms) ≡ m ∷ ms
    go later true e = absurd (true≢false (sym e))
    go later false e = ap (λ l. m ∷ l) (later e)

-- what is kept is not overdue
none_left : (s : ℕ) (ms : List Message) → is_empty (overdue s (not_overdue s ms)) ≡ true
none_left s [] = refl
none_left s (m ∷ ms) = go (none_left s ms) (nat_lt (m.stamp - 1) s) refl
  where
    go : is_empty (overdue s (not_overdue s ms)) ≡ true → (b : Bool) → nat_lt (m.stamp - 1) s ≡ b → is_empty (overdue s (cond b (not_overdue s ms) (m ∷ not_overdue s ms))) ≡ true
    go rest true is = rest
    go rest false is = ap (λ b. is_empty (cond b (m ∷ overdue s (not_overdue s ms)) (overdue s (not_overdue s ms)))) is ∙ rest

-- ## A post

module _ {S : Type 0} where
  -- nothing of one that is idle
  settled : (p : Process S) → is_idle p ≡ true → settle p ≡ p
  settled p idle = go p.cancel
    where
      parts : (is_empty p.outgoing ≡ true) × (is_empty (overdue (next p) p.owed) ≡ true)
      parts = and_parts (is_empty p.outgoing) (is_empty (overdue (next p) p.owed)) idle

      go : (k : Cancel) → settled_as k p ≡ p
      go Aggressive = refl
      go Lazy =
          ap₂ (λ (ms : List Message) (owed : List Message). with_lists p (p.outgoing ++ antis ms) owed) (empty_is (overdue (next p) p.owed) parts.1) (all_kept (next p) p.owed parts.1)
          ∙ ap (λ (items : List Item). with_outgoing p items) (append-nil p.outgoing)

  -- then it is idle
  pub then_idle : (cancel : Cancel) (p : Process S) → Cancels cancel p → is_idle (with_outgoing (settle p) []) ≡ true
  then_idle cancel p h = go p.cancel h.is
    where
      go : (k : Cancel) → k ≡ cancel → is_idle (with_outgoing (settled_as k p) []) ≡ true
      go Aggressive is = ap (λ (ms : List Message). is_empty (overdue (next p) ms)) (h.nothing_owed (sym is))
      go Lazy is = none_left (next p) p.owed

  module _ (net : Network S) (until : ℕ) where
    idle_post : (w : World S) (c : ℕ) → ((p : Process S) → slice_get w.processes c ≡ Some p → is_idle p ≡ true) → (act net until w (Post c)).1 ≡ w
    unfolding act
    idle_post w c idle = go (slice_get w.processes c) refl
      where
        go : (o : Option (Process S)) → slice_get w.processes c ≡ o → (act_post w c o).1 ≡ w
        go None at = refl
        go (Some p) at =
            let same = settled p (idle p at) in
            let parts = and_parts (is_empty p.outgoing) (is_empty (overdue (next p) p.owed)) (idle p at) in
            let none : p.outgoing ≡ [] = empty_is p.outgoing parts.0 in
            let out : (settle p).outgoing ≡ [] = ap (λ (x : Process S). x.outgoing) same ∙ none in
            let back : with_outgoing (settle p) [] ≡ p = ap (λ (x : Process S). with_outgoing x []) same ∙ ap (λ (items : List Item). with_outgoing p items) (sym none) in
            ap₂ (λ (q : Process S) (items : List Item). with_mail (with_process w c q) (posted w.mail items)) back out
            ∙ ap (λ ps. record w { processes = ps }) (set_same w.processes c p at)

    -- nor do posts of several
    pub idle_posts : (n : ℕ) (w : World S) (c : ℕ) → ((d : ℕ) (p : Process S) → c ≤ d → d < c + n → slice_get w.processes d ≡ Some p → is_idle p ≡ true) → replay net until w (posts c n) ≡ w
    idle_posts zero w c idle = refl
    idle_posts (suc n) w c idle =
        ap (λ (x : World S). replay net until x (posts (suc c) n)) (idle_post w c (λ p at. idle c p (omega arith) (omega arith) at))
        ∙ idle_posts n w (suc c) (λ d p from before at. idle d p (omega (arith, from)) (omega (arith, before)) at)

    pub post_makes : (w : World S) (c : ℕ) (p : Process S) → slice_get w.processes c ≡ Some p
        → (act net until w (Post c)).1 ≡ with_mail (with_process w c (with_outgoing (settle p) [])) (posted w.mail (settle p).outgoing)
    unfolding act
    post_makes w c p at = ap (λ o. (act_post w c o).1) at

    -- ## A delivery

    mail_by_item : (w : World S) (q i : ℕ) (p : Option (Process S)) (item : Option Item) → IsSameBut q w.mail (act_deliver w q i p item).1.mail
    mail_by_item w q i None item = nothing_else q w.mail
    mail_by_item w q i (Some p) None = nothing_else q w.mail
    mail_by_item w q i (Some p) (Some item) = one_set q w.mail _

    mail_same : (w : World S) (q i : ℕ) → IsSameBut q w.mail (act net until w (Deliver q i)).1.mail
    unfolding act
    mail_same w q i = mail_by_item w q i (slice_get w.processes q) (slice_get (mail_of w.mail q) i)

    pub deliver_elsewhere : (w : World S) (q i : ℕ) → IsElsewhereSame q w (act net until w (Deliver q i)).1
    deliver_elsewhere w q i = record { processes = acts_on_one net until w (Deliver q i) q refl; mail = mail_same w q i }

pub all_same : {S : Type 0} (q : ℕ) (w : World S) → IsElsewhereSame q w w
all_same q w = record { processes = nothing_else q w.processes; mail = nothing_else q w.mail }

pub then_elsewhere : {S : Type 0} (q : ℕ) (w w' w'' : World S) → IsElsewhereSame q w w' → IsElsewhereSame q w' w'' → IsElsewhereSame q w w''
then_elsewhere q w w' w'' first second = record {
  processes = then_same q w.processes w'.processes w''.processes first.processes second.processes;
  mail = then_same q w.mail w'.mail w''.mail first.mail second.mail;
}

posts_split : (a b c : ℕ) → posts c (a + b) ≡ posts c a ++ posts (c + a) b
posts_split zero b c =
    let here : c ≡ c + 0 = omega arith in
    let count : 0 + b ≡ b = omega arith in
    ap (posts c) count ∙ ap (λ d. posts d b) here
posts_split (suc a) b c =
    let count : suc a + b ≡ suc (a + b) = omega arith in
    let next : suc c + a ≡ c + suc a = omega arith in
    ap (posts c) count ∙ ap (λ l. Post c ∷ l) (posts_split a b (suc c) ∙ ap (λ d. posts (suc c) a ++ posts d b) next)

-- mailboxes before q are empty
boxes_split : (q a : ℕ) (mail : List (List Item)) → ((d : ℕ) → d < q → mail_of mail d ≡ []) → deliveries a mail ≡ deliveries (a + q) (drop q mail)
boxes_split zero a mail none = let here : a ≡ a + 0 = omega arith in ap (λ d. deliveries d mail) here
boxes_split (suc q) a [] none = refl
boxes_split (suc q) a (box ∷ mail) none =
    let next : suc a + q ≡ a + suc q = omega arith in
    ap (λ (b : List Item). replicate (length b) (Deliver a 0) ++ deliveries (suc a) mail) (none 0 (omega arith))
    ∙ boxes_split q (suc a) mail (λ d near. none (suc d) (omega (arith, near)))
    ∙ ap (λ d. deliveries d (drop q mail)) next

pub empty_boxes : (q : ℕ) (mail : List (List Item)) → ((d : ℕ) → d < q → mail_of mail d ≡ []) → deliveries 0 mail ≡ deliveries q (drop q mail)
empty_boxes q mail none = let here : 0 + q ≡ q = omega arith in boxes_split q 0 mail none ∙ ap (λ d. deliveries d (drop q mail)) here

pub no_boxes : (a : ℕ) (mail : List (List Item)) → ((d : ℕ) → mail_of mail d ≡ []) → deliveries a mail ≡ []
no_boxes a [] none = refl
no_boxes a (box ∷ mail) none =
    ap (λ (b : List Item). replicate (length b) (Deliver a 0) ++ deliveries (suc a) mail) (none 0) ∙ no_boxes (suc a) mail (λ d. none (suc d))

-- a mailbox that was not touched
get_same : (d : ℕ) (xs ys : List (List Item)) → slice_get xs d ≡ slice_get ys d → mail_of xs d ≡ mail_of ys d
get_same d [] [] is = refl
get_same zero [] (y ∷ ys) is = absurd (none-some y is)
get_same (suc d) [] (y ∷ ys) is = get_same d [] ys is
get_same zero (x ∷ xs) [] is = absurd (none-some x (sym is))
get_same (suc d) (x ∷ xs) [] is = get_same d xs [] is
get_same zero (x ∷ xs) (y ∷ ys) is = same_Some x y is
get_same (suc d) (x ∷ xs) (y ∷ ys) is = get_same d xs ys is

pub same_box : (b d : ℕ) (mail new : List (List Item)) → d ≢ b → IsSameBut b mail new → mail_of new d ≡ mail_of mail d
same_box b d mail new apart same = get_same d new mail (same.others d apart)

-- ## Which mailboxes are empty

pub box_there : (mail : List (List Item)) (s q : ℕ) → IsLeast (map box_mark mail) s q → q < length mail
box_there mail s q least = let at = least_there is_empty mail s q least in slice_get_within mail q at.0 at.1

pub boxes_before : (mail : List (List Item)) (s q : ℕ) → IsLeast (map box_mark mail) s q → (d : ℕ) → d < q → mail_of mail d ≡ []
boxes_before mail s q least d before =
    let near = box_there mail s q least in
    let within : d < length mail = omega (arith, near, before) in
    empty_is (mail_of mail d) (done_before is_empty mail s q least d (mail_of mail d) before (slice_get-get_or mail d [] within))

pub all_boxes : (mail : List (List Item)) → AllLate (map box_mark mail) → (d : ℕ) → mail_of mail d ≡ []
all_boxes mail late d = elim (cases_lt d (length mail)) [
  | inl within ↦ empty_is (mail_of mail d) (done_all is_empty mail late d (mail_of mail d) (slice_get-get_or mail d [] within))
  | inr past ↦ get_or_past mail d [] past
]

-- ## Posts of those that have something to post

pub record ArePosted {M S : Type 0} (meaning : M → Meaning S) (e now : Running M S) : Type 0 where
  pub so_far : ℕ
  pub within : so_far ≤ length e.world.processes
  pub idle : (d : ℕ) (p : Process S) → d < so_far → slice_get now.world.processes d ≡ Some p → is_idle p ≡ true
  pub under : IsUnderWay meaning (posts 0 (length e.world.processes)) (posts so_far (length e.world.processes - so_far)) e now

module _ {M S : Type 0} (meaning : M → Meaning S) (e now : Running M S) where
  abbrev all_posts : List Action
  all_posts = posts 0 (length e.world.processes)

  -- those up to c are skipped
  skipped : (h : ArePosted meaning e now) (c : ℕ) → h.so_far ≤ c → c ≤ length e.world.processes → ((d : ℕ) (p : Process S) → d < c → slice_get now.world.processes d ≡ Some p → is_idle p ≡ true)
      → IsUnderWay meaning all_posts (posts c (length e.world.processes - c)) e now
  skipped h c from within idle =
      let k = h.so_far in
      let n = length e.world.processes in
      let count : (c - k) + (n - c) ≡ n - k = omega (arith, from, within) in
      let next : k + (c - k) ≡ c = omega (arith, from) in
      let split : posts k (n - k) ≡ posts k (c - k) ++ posts c (n - c) = ap (posts k) (sym count) ∙ posts_split (c - k) (n - c) k ∙ ap (λ d. posts k (c - k) ++ posts d (n - c)) next in
      let nothing = idle_posts (network_of meaning now.network) now.until (c - k) now.world k (λ d p above below at. idle d p (omega (arith, below, next)) at) in
      joined meaning (posts k (c - k)) (posts c (n - c)) (subst (λ l. IsUnderWay meaning all_posts l e now) split h.under) (ap (λ w. record now { world = w }) (sym nothing))

  -- the next that is not idle
  pub next_sender : ArePosted meaning e now → (c : ℕ) (p : Process S) → c < length e.world.processes → slice_get now.world.processes c ≡ Some p → is_idle p ≡ false
      → ((d : ℕ) (q : Process S) → d < c → slice_get now.world.processes d ≡ Some q → is_idle q ≡ true)
      → IsUnderWay meaning all_posts (Post c ∷ posts (suc c) (length e.world.processes - suc c)) e now
  next_sender h c p near at busy idle =
      let from : h.so_far ≤ c = elim (cases_lt c h.so_far) [
        | inl before ↦ absurd (true≢false (sym (h.idle c p before at) ∙ busy))
        | inr after ↦ after
      ] in
      subst (λ l. IsUnderWay meaning all_posts l e now) (next_post c (length e.world.processes) near) (skipped h c from (omega (arith, near)) idle)

  pub all_posted : ArePosted meaning e now → ((d : ℕ) (p : Process S) → slice_get now.world.processes d ≡ Some p → is_idle p ≡ true) → now ≡ replayed meaning all_posts e
  all_posted h idle =
      let n = length e.world.processes in
      finished meaning (subst (λ l. IsUnderWay meaning all_posts l e now) (no_post n n (omega arith)) (skipped h n h.within (omega arith) (λ d p below at. idle d p at)))

pub none_posted : {M S : Type 0} (meaning : M → Meaning S) (e : Running M S) → ArePosted meaning e e
none_posted meaning e =
    let n = length e.world.processes in
    let all : n - 0 ≡ n = omega arith in
    record {
      so_far = 0;
      within = omega arith;
      idle = λ d p none at. absurd (omega (arith, none));
      under = subst (λ k. IsUnderWay meaning (posts 0 n) (posts 0 k) e e) (sym all) (begun meaning (posts 0 n) e);
    }

-- it is posted
pub one_posted : {M S : Type 0} (meaning : M → Meaning S) (e now new : Running M S) (c : ℕ) (p : Process S) (cancel : Cancel) → c < length e.world.processes
    → slice_get now.world.processes c ≡ Some p → Cancels cancel p
    → ((d : ℕ) (q : Process S) → d < c → slice_get now.world.processes d ≡ Some q → is_idle q ≡ true)
    → IsUnderWay meaning (posts 0 (length e.world.processes)) (Post c ∷ posts (suc c) (length e.world.processes - suc c)) e now → new ≡ after meaning (Post c) now
    → ArePosted meaning e new
one_posted meaning e now new c p cancel near at cancels idle under is = record {
  so_far = suc c;
  within = near;
  idle = λ d q before there. by_place d q before (ap (λ x. slice_get x.world.processes d) (sym processes) ∙ there) (cases_eq d c);
  under = stepped meaning (Post c) (posts (suc c) (length e.world.processes - suc c)) under is;
}
  where
    processes : new ≡ record now { world = with_mail (with_process now.world c (with_outgoing (settle p) [])) (posted now.world.mail (settle p).outgoing) }
    processes = is ∙ ap (λ w. record now { world = w }) (post_makes (network_of meaning now.network) now.until now.world c p at)

    by_place : (d : ℕ) (q : Process _) → d < suc c → slice_get (slice_set now.world.processes c (with_outgoing (settle p) [])) d ≡ Some q → (d ≡ c) ⊎ (d ≢ c) → is_idle q ≡ true
    by_place d q before there (inl same) =
        let own = sym (set_here now.world.processes c p (with_outgoing (settle p) []) at) ∙ ap (slice_get (slice_set now.world.processes c (with_outgoing (settle p) []))) (sym same) ∙ there in
        ap is_idle (sym (same_Some _ q own)) ∙ then_idle cancel p cancels
    by_place d q before there (inr apart) = idle d q (less_but d c (omega (arith, before)) apart) (sym (set_there now.world.processes c d _ apart) ∙ there)

-- what a post leaves of its sender
pub sender_after : {M S : Type 0} (meaning : M → Meaning S) (now new : Running M S) (c : ℕ) (p : Process S) (cancel : Cancel) → slice_get now.world.processes c ≡ Some p → Cancels cancel p → new ≡ after meaning (Post c) now
    → (q : Process S) × (slice_get new.world.processes c ≡ Some q) × (is_idle q ≡ true)
sender_after meaning now new c p cancel at cancels is = (
  with_outgoing (settle p) [],
  ap (λ x. slice_get x.world.processes c) is ∙ ap (λ w. slice_get w.processes c) (post_makes (network_of meaning now.network) now.until now.world c p at) ∙ set_here now.world.processes c p (with_outgoing (settle p) []) at,
  then_idle cancel p cancels,
)
