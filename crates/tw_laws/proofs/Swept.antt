-- A sweep: passes until nothing is left to do, then Raise, then a Harvest of each component.
use Rattle.std.proofs.Common.{◌≡◌, ℕ, zero, suc, ◌+◌, ◌-◌, ◌<◌, ◌≤◌, min, List, [], ◌∷◌, ◌++◌, length, length-set, drop, replicate, append-nil, Bool, true, false, true≢false, cond, Option, Some, None, refl, sym, ap, ap₂, ◌∙◌, subst, arith, ⊎_elim}
use Rattle.std.specs.Prelude.{slice_get, slice_set, ◌&&◌, nat_lt, remove, Ok, Err}
use Rattle.std.specs.List.{AllByRecursion as Each}
use Rattle.std.proofs.lemmas.Bool.{and_parts, ltb-false, le-ltb, cond-true, cond-false}
use Rattle.std.proofs.lemmas.Option.{same_Some, none-some, slice_get_within}
use Rattle.std.proofs.lemmas.List.{drop_all, drop-set-lt, get_or-set_same}
use Rattle.tw_msgs.specs.declared.message.Item.{Item}
use Rattle.tw_msgs.specs.declared.message.Message.{Message}
use Rattle.tw_vtime.specs.Stamps.{max_tick, is_overdue}
use Rattle.tw_theory.specs.Bundles.{antis, overdue, not_overdue}
use Rattle.tw_theory.specs.Contents.{Process, Cancel, Aggressive, Lazy, next, settled_as, settle, with_outgoing, with_lists, harvested, steps_before}
use Rattle.tw_theory.specs.Exchange.{is_empty, all_empty, all_idle, is_swept, work, posts, deliveries, pass, passes, harvests, sweep, IsTaken}
use Rattle.tw_theory.specs.Executive.{World, Action, Deliver, Raise, Raised, Harvest, Harvested, Answer, with_process, with_mail, posted, act, act_post, act_deliver, act_harvest, mail_of, least_of, replay, answers}
use Rattle.tw_theory.specs.Network.{Network, IsNetwork}
use Rattle.tw_theory.specs.Soundness.{IsSound}
use Rattle.tw_theory.proofs.Elements.{get_of_set, each-get, present, set_same, empty_is}
use Rattle.tw_theory.proofs.Mail.{empty_boxes, all_empty_is}
use Rattle.tw_laws.specs.Cancelling.{IsSwept, least_own}
use Rattle.tw_laws.specs.Exchange.{IsSweptAs, IsPassed, IsAfterSweep, SweepLaw, SweepSteps}
use Rattle.tw_laws.proofs.Cancelling.{swept_least}
use Rattle.tw_laws.proofs.Harvesting.{replay_sound}
use Rattle.tw_laws.proofs.Passes.{replay-append, taken-append, is_pass, no_mail, left_to_do}

-- ---- what it says that an executive is swept

idle_is : {S : Type 0} (ps : List (Process S)) → all_idle ps ≡ true → Each IsSwept ps
idle_is [] e = tt
idle_is (p ∷ ps) e =
    let parts = and_parts (is_empty p.outgoing && is_empty (overdue (next p) p.owed)) (all_idle ps) e in
    let more = and_parts (is_empty p.outgoing) (is_empty (overdue (next p) p.owed)) parts.0 in
    (record { outgoing = empty_is p.outgoing more.0; owed = empty_is (overdue (next p) p.owed) more.1 }, idle_is ps parts.1)

means : {S : Type 0} (w : World S) → is_swept w ≡ true → IsSweptAs w
means w e = let parts = and_parts (all_idle w.processes) (all_empty w.mail) e in record { processes = idle_is w.processes parts.0; mail = empty_boxes w.mail parts.1 }

swept_none : {S : Type 0} (ps : List (Process S)) → Each IsSwept ps → all_idle ps ≡ true
swept_none [] h = refl
swept_none (p ∷ ps) h = ap₂ (λ a b. a && b) (ap₂ (λ (items : List Item) (ms : List Message). is_empty items && is_empty ms) h.0.outgoing h.0.owed) (swept_none ps h.1)

-- ---- a pass over what is swept

all_stay : (s : ℕ) (ms : List Message) → overdue s ms ≡ [] → not_overdue s ms ≡ ms
all_stay s [] none = refl
all_stay s (m ∷ ms) none = go (is_overdue m.stamp s) (λ k. all_stay s ms k) none
  where
    go : (b : Bool) → (overdue s ms ≡ [] → not_overdue s ms ≡ ms) → cond b (m ∷ overdue s ms) (overdue s ms) ≡ []
        → cond b (not_overdue s ms) (m ∷ not_overdue s ms) ≡ m ∷ ms
    go true rest k = absurd (cc k)
    go false rest k = ap (λ l. m ∷ l) (rest k)

-- a swept process has nothing to post
nothing_out : {S : Type 0} (p : Process S) → IsSwept p → settle p ≡ p
nothing_out p h = go p.cancel
  where
    go : (k : Cancel) → settled_as k p ≡ p
    go Aggressive = refl
    go Lazy =
        ap₂ (λ (ms : List Message) (owed : List Message). with_lists p (p.outgoing ++ antis ms) owed) h.owed (all_stay (next p) p.owed h.owed) ∙ ap (λ (items : List Item). with_outgoing p items) (append-nil p.outgoing)

module _ {S : Type 0} (net : Network S) (until : ℕ) (w : World S) (h : IsSweptAs w) where
  idle_post : (c : ℕ) (o : Option (Process S)) → slice_get w.processes c ≡ o → (act_post w c o).1 ≡ w
  idle_post c None at = refl
  idle_post c (Some p) at =
      let swept = each-get IsSwept w.processes c p at h.processes in
      let same = nothing_out p swept in
      let none : (settle p).outgoing ≡ [] = ap (λ (x : Process S). x.outgoing) same ∙ swept.outgoing in
      let back : with_outgoing (settle p) [] ≡ p = ap (λ (x : Process S). with_outgoing x []) same ∙ ap (λ (items : List Item). with_outgoing p items) (sym swept.outgoing) in
      ap₂ (λ (q : Process S) (items : List Item). with_mail (with_process w c q) (posted w.mail items)) back none ∙ ap (λ ps. record w { processes = ps }) (set_same w.processes c p at)

  idle_posts : (n c : ℕ) → replay net until w (posts c n) ≡ w
  unfolding act
  idle_posts zero c = refl
  idle_posts (suc n) c = ap (λ (x : World S). replay net until x (posts (suc c) n)) (idle_post c (slice_get w.processes c) refl) ∙ idle_posts n (suc c)

  idle_deliveries : (q : ℕ) (mail : List (List Item)) → Each (λ box. box ≡ []) mail → deliveries q mail ≡ []
  idle_deliveries q [] k = refl
  idle_deliveries q (box ∷ mail) k = ap₂ (λ (b : List Item) (rest : List Action). replicate (length b) (Deliver q 0) ++ rest) k.0 (idle_deliveries (suc q) mail k.1)

  idle_pass : replay net until w (pass net until w) ≡ w
  idle_pass =
      let first = posts 0 (length w.processes) in
      let same = idle_posts (length w.processes) 0 in
      replay-append net until w first (deliveries 0 (replay net until w first).mail)
      ∙ ap (λ (x : World S). replay net until x (deliveries 0 x.mail)) same ∙ ap (replay net until w) (idle_deliveries 0 w.mail h.mail)

-- ---- harvests of all

least_own-set : {S : Type 0} (ps : List (Process S)) (c : ℕ) (p q : Process S) → slice_get ps c ≡ Some p → next q ≡ next p
    → least_own (slice_set ps c q) ≡ least_own ps
least_own-set [] c p q e same = refl
least_own-set {S} (x ∷ ps) zero p q e same = ap (λ n. min n (least_own ps)) (same ∙ sym (ap (λ (y : Process S). next y) (same_Some x p e)))
least_own-set (x ∷ ps) (suc c) p q e same = ap (min (next x)) (least_own-set ps c p q e same)

all_idle-set : {S : Type 0} (g : ℕ) (ps : List (Process S)) (c : ℕ) (p : Process S) → slice_get ps c ≡ Some p
    → all_idle (slice_set ps c (harvested g p)) ≡ all_idle ps
all_idle-set g [] c p e = refl
all_idle-set {S} g (x ∷ ps) zero p e = ap (λ (y : Process S). is_empty y.outgoing && is_empty (overdue (next y) y.owed) && all_idle ps) (sym (same_Some x p e))
all_idle-set g (x ∷ ps) (suc c) p e = ap (λ b. is_empty x.outgoing && is_empty (overdue (next x) x.owed) && b) (all_idle-set g ps c p e)

module _ {S : Type 0} (net : Network S) (until : ℕ) where
  -- w' is w after a harvest of each component, with these answers
  record AreHarvested (w w' : World S) (given : List Answer) : Type 0 where
    lines : (d : ℕ) (p : Process S) → slice_get w'.processes d ≡ Some p → p.line ≡ w'.gvt
    gvt : w'.gvt ≡ w.gvt
    own : least_own w'.processes ≡ least_own w.processes
    idle : all_idle w'.processes ≡ all_idle w.processes
    mail : w'.mail ≡ w.mail
    taken : Each IsTaken given

  are_harvested : (n c : ℕ) (w : World S) → c + n ≡ length w.processes
      → ((d : ℕ) (p : Process S) → slice_get w.processes d ≡ Some p → d < c → p.line ≡ w.gvt)
      → AreHarvested w (replay net until w (harvests c n)) (answers net until w (harvests c n))
  unfolding act
  are_harvested zero c w e done = record {
    lines = λ d p at. done d p at (let l = slice_get_within w.processes d p at in omega (arith, e, l));
    gvt = refl;
    own = refl;
    idle = refl;
    mail = refl;
    taken = tt;
  }
  are_harvested (suc n) c w e done =
      let there = present w.processes c (omega arith) in
      let p = there.0 in
      let q = harvested w.gvt p in
      let w1 = (act net until w (Harvest c)).1 in
      let is : act net until w (Harvest c) ≡ act_harvest w c (Some p) = ap (act_harvest w c) there.1 in
      let processes : w1.processes ≡ slice_set w.processes c q = ap (λ (r : Answer × World S). r.1.processes) is in
      let gvt : w1.gvt ≡ w.gvt = ap (λ (r : Answer × World S). r.1.gvt) is in
      let mail : w1.mail ≡ w.mail = ap (λ (r : Answer × World S). r.1.mail) is in
      let rest = are_harvested n (suc c) w1 (let l = ap length processes ∙ length-set w.processes c q in omega (arith, e, l))
      (λ d r at l. ⊎_elim
      (λ k. ap (λ (x : Process S). x.line) k.1 ∙ sym gvt)
      (λ k. done d r k.1 (let ne = k.0 in omega arith) ∙ sym gvt)
      (get_of_set w.processes c d q r (ap (λ ps. slice_get ps d) (sym processes) ∙ at))) in
      record {
        lines = rest.lines;
        gvt = rest.gvt ∙ gvt;
        own = rest.own ∙ ap least_own processes ∙ least_own-set w.processes c p q there.1 refl;
        idle = rest.idle ∙ ap all_idle processes ∙ all_idle-set w.gvt w.processes c p there.1;
        mail = rest.mail ∙ mail;
        taken = ((λ why bad. let k : Ok (Harvested (steps_before w.gvt p.history)) ≡ Err why = sym (ap (λ (r : Answer × World S). r.0) is) ∙ bad in cc), rest.taken);
      }

  -- what is taken of a list is taken of its beginning
  taken_first : (w : World S) (xs ys : List Action) → Each IsTaken (answers net until w (xs ++ ys)) → Each IsTaken (answers net until w xs)
  taken_first w [] ys h = tt
  taken_first w (a ∷ xs) ys h = (h.0, taken_first (act net until w a).1 xs ys h.1)

  none_left : (n : ℕ) (w : World S) → is_swept w ≡ true → passes net until n w ≡ []
  none_left zero w e = refl
  none_left (suc n) w e = cond-true (is_swept w) _ _ e

  module _ (ok : IsNetwork net) (bound : until ≤ max_tick) where
    -- ---- passes

    pass_falls : (w : World S) → IsSound net until w → is_swept w ≡ false
        → work (replay net until w (pass net until w)) < work w
    pass_falls w h e = let does = is_pass net until ok bound w h in omega (arith, does.work_le, left_to_do h.cancel w h.cancels e)

    -- w' is w after passes until it is swept
    record IsDone (w' : World S) (given : List Answer) : Type 0 where
      swept : is_swept w' ≡ true
      taken : Each IsTaken given

    is_done : (n : ℕ) (w : World S) → IsSound net until w → work w ≤ n
        → IsDone (replay net until w (passes net until n w)) (answers net until w (passes net until n w))
    is_done zero w h l = record { swept = go (is_swept w) refl; taken = tt }
      where
        go : (b : Bool) → is_swept w ≡ b → b ≡ true
        go true e = refl
        go false e = absurd (omega (arith, pass_falls w h e, l))
    is_done (suc n) w h l = go (λ x a b. is_done n x a b) (is_swept w) refl
      where
        go : ((x : World S) → IsSound net until x → work x ≤ n → IsDone (replay net until x (passes net until n x)) (answers net until x (passes net until n x)))
            → (b : Bool) → is_swept w ≡ b
            → IsDone (replay net until w (cond b [] (pass net until w ++ passes net until n (replay net until w (pass net until w))))) (answers net until w (cond b [] (pass net until w ++ passes net until n (replay net until w (pass net until w)))))
        go ih true e = record { swept = e; taken = tt }
        go ih false e =
            let first = pass net until w in
            let w1 = replay net until w first in
            let rest = ih w1 (replay_sound net until w first ok bound h) (omega (arith, pass_falls w h e, l)) in
            record {
              swept = ap is_swept (replay-append net until w first (passes net until n w1)) ∙ rest.swept;
              taken = taken-append net until w first (passes net until n w1) (is_pass net until ok bound w h).taken rest.taken;
            }

    as_many : (n m : ℕ) (w : World S) → IsSound net until w → work w ≤ n → work w ≤ m
        → passes net until n w ≡ passes net until m w
    as_many zero m w h l r = go (is_swept w) refl
      where
        go : (b : Bool) → is_swept w ≡ b → [] ≡ passes net until m w
        go true e = sym (none_left m w e)
        go false e = absurd (omega (arith, pass_falls w h e, l))
    as_many (suc n) zero w h l r = go (is_swept w) refl
      where
        go : (b : Bool) → is_swept w ≡ b → passes net until (suc n) w ≡ []
        go true e = none_left (suc n) w e
        go false e = absurd (omega (arith, pass_falls w h e, r))
    as_many (suc n) (suc m) w h l r = go (λ x a b c. as_many n m x a b c) (is_swept w) refl
      where
        w1 : World S
        w1 = replay net until w (pass net until w)

        go : ((x : World S) → IsSound net until x → work x ≤ n → work x ≤ m → passes net until n x ≡ passes net until m x)
            → (b : Bool) → is_swept w ≡ b → cond b [] (pass net until w ++ passes net until n w1) ≡ cond b [] (pass net until w ++ passes net until m w1)
        go ih true e = refl
        go ih false e =
            let less = pass_falls w h e in
            ap (λ l. pass net until w ++ l) (ih w1 (replay_sound net until w (pass net until w) ok bound h) (omega (arith, less, l)) (omega (arith, less, r)))

    -- ---- a sweep

    is_whole : (w : World S) → IsSound net until w
        → IsAfterSweep w (replay net until w (sweep net until w)) × Each IsTaken (answers net until w (sweep net until w))
    unfolding act
    is_whole w h =
        let first = passes net until (work w) w in
        let n = length w.processes in
        let w1 = replay net until w first in
        let done = is_done (work w) w h (omega arith) in
        let h1 = replay_sound net until w first ok bound h in
        let clear = means w1 done.swept in
        let w2 = (act net until w1 Raise).1 in
        let size : n ≡ length w2.processes = h.processes ∙ sym h1.processes in
        let last = are_harvested n 0 w2 (omega (arith, size)) (λ d p at l. absurd (omega arith)) in
        let whole = replay-append net until w first (Raise ∷ harvests 0 n) in
        let raised : IsTaken (act net until w1 Raise).0 = λ why bad. let b : Ok (Raised (least_of w1)) ≡ Err why = bad in cc in (
          subst (λ (x : World S). IsAfterSweep w x) (sym whole) (record {
            swept = ap₂ (λ a m. a && all_empty m) last.idle last.mail ∙ done.swept;
            lines = last.lines;
            gvt = last.gvt ∙ swept_least w1 clear.processes clear.mail ∙ sym last.own;
          }),
          taken-append net until w first (Raise ∷ harvests 0 n) done.taken (raised, last.taken),
        )

    passed : (w : World S) → IsSound net until w → IsPassed w (replay net until w (pass net until w))
    passed w h =
        let does = is_pass net until ok bound w h in
        record {
          mail = no_mail _ does.mail;
          work_stays = omega (arith, does.work_le);
          work_falls = λ e. pass_falls w h e;
        }

pub sweep_law : {S : Type 0} → SweepLaw S
sweep_law = record {
  means = means;
  swept = λ w h. ap₂ (λ a b. a && b) (swept_none w.processes h.processes) (all_empty_is w.mail h.mail);
  passed = λ net until w ok bound h. passed net until ok bound w h;
  ends = λ net until w ok bound h. (is_done net until ok bound (work w) w h (omega arith)).swept;
  enough = λ net until w ok bound h n l. as_many net until ok bound n (work w) w h l (omega arith);
  idle = λ net until w e. idle_pass net until w (means w e);
  taken = λ net until w ok bound h. (is_whole net until ok bound w h).1;
  after = λ net until w ok bound h. (is_whole net until ok bound w h).0;
  cut_short = λ net until w ok bound h done rest e. (
    replay_sound net until w done ok bound h,
    taken_first net until w done rest (subst (λ actions. Each IsTaken (answers net until w actions)) (sym e) (is_whole net until ok bound w h).1),
  );
}

-- ---- step by step

no_first : {X : Type 0} (xs : List X) → slice_get xs 0 ≡ None → xs ≡ []
no_first [] e = refl
no_first (x ∷ xs) e = absurd (none-some x (sym e))

first_is : {X : Type 0} (xs : List X) (x : X) → slice_get xs 0 ≡ Some x → xs ≡ x ∷ remove xs 0
first_is [] x e = absurd (none-some x e)
first_is (y ∷ xs) x e = ap (λ z. z ∷ xs) (same_Some y x e)

from_here : (mail : List (List Item)) (q : ℕ) → q < length mail → drop q mail ≡ mail_of mail q ∷ drop (suc q) mail
from_here [] q l = absurd (omega arith)
from_here (box ∷ mail) zero l = refl
from_here (box ∷ mail) (suc q) l = from_here mail q (omega arith)

module _ {S : Type 0} (net : Network S) (until : ℕ) (w : World S) (q : ℕ) (near : q < length w.mail) where
  next_delivery : (p : Process S) (x : Item) → slice_get w.processes q ≡ Some p → slice_get (mail_of w.mail q) 0 ≡ Some x
      → deliveries q (drop q w.mail) ≡ Deliver q 0 ∷ deliveries q (drop q (act net until w (Deliver q 0)).1.mail)
  unfolding act
  next_delivery p x at is =
      let box = mail_of w.mail q in
      let left = remove box 0 in
      let mail : (act net until w (Deliver q 0)).1.mail ≡ slice_set w.mail q left = ap₂ (λ (o : Option (Process S)) (y : Option Item). (act_deliver w q 0 o y).1.mail) at is in
      let size = length-set w.mail q left in
      let now : drop q (slice_set w.mail q left) ≡ left ∷ drop (suc q) w.mail = from_here (slice_set w.mail q left) q (omega (arith, near, size)) ∙ ap₂ (λ (b : List Item) (l : List (List Item)). b ∷ l) (get_or-set_same w.mail q left [] near) (drop-set-lt (suc q) w.mail q left (omega arith)) in
      ap (deliveries q) (from_here w.mail q near) ∙ ap (λ b. deliveries q (b ∷ drop (suc q) w.mail)) (first_is box x is) ∙ ap (λ l. Deliver q 0 ∷ deliveries q l) (sym now) ∙ ap (λ m. Deliver q 0 ∷ deliveries q (drop q m)) (sym mail)

next_box : {S : Type 0} (w : World S) (q : ℕ) → q < length w.mail → slice_get (mail_of w.mail q) 0 ≡ None
    → deliveries q (drop q w.mail) ≡ deliveries (suc q) (drop (suc q) w.mail)
next_box w q near e = ap (deliveries q) (from_here w.mail q near) ∙ ap (λ b. deliveries q (b ∷ drop (suc q) w.mail)) (no_first (mail_of w.mail q) e)

module _ {S : Type 0} (net : Network S) (until : ℕ) (ok : IsNetwork net) (bound : until ≤ max_tick) where
  pass_again : (n : ℕ) (w : World S) → IsSound net until w → work w ≤ n → is_swept w ≡ false
      → (passes net until n w ≡ pass net until w ++ passes net until n (replay net until w (pass net until w))) × (work (replay net until w (pass net until w)) ≤ n)
  pass_again zero w h l e = absurd (omega (arith, pass_falls net until ok bound w h e, l))
  pass_again (suc n) w h l e =
      let first = pass net until w in
      let w1 = replay net until w first in
      let less = pass_falls net until ok bound w h e in
      (cond-false (is_swept w) _ _ e ∙ ap (λ rest. first ++ rest) (as_many net until ok bound n (suc n) w1 (replay_sound net until w first ok bound h) (omega (arith, less, l)) (omega (arith, less, l))), omega (arith, less, l))

pub sweep_steps : {S : Type 0} → SweepSteps S
sweep_steps = record {
  deliver = λ net until w q p x at is near. next_delivery net until w q near p x at is;
  skip = λ w q near e. next_box w q near e;
  none = λ w. ap (deliveries (length w.mail)) (drop_all (length w.mail) w.mail (omega arith));
  again = λ net until w ok bound h n l e. pass_again net until ok bound n w h l e;
  stop = λ net until w n e. none_left net until n w e;
}
