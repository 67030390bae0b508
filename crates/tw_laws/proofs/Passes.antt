-- A pass: what posts and deliveries in order do, each of them, to the work, to the mail and to the answers.
use Rattle.std.proofs.Common.{◌≡◌, ℕ, zero, suc, ◌+◌, ◌<◌, ◌≤◌, List, [], ◌∷◌, ◌++◌, length, length-set, drop, replicate, true, false, Option, Some, refl, sym, ap, ap₂, ◌∙◌, subst, arith, ⊎_elim, true≢false}
use Rattle.std.specs.Prelude.{slice_get, slice_set, ◌&&◌, remove, Ok, Err}
use Rattle.std.specs.List.{AllByRecursion as Each}
use Rattle.std.proofs.lemmas.Bool.{cases_lt, cases_eq}
use Rattle.std.proofs.lemmas.List.{length-map, length-append, drop_all, drop-set-lt, nil_from_length, get_or_past, get_or-set_same, get_or-set_other, set-set, set-get_or}
use Rattle.tw_msgs.specs.Counting.{total}
use Rattle.tw_msgs.specs.declared.message.Item.{Item}
use Rattle.tw_vtime.specs.Stamps.{max_tick}
use Rattle.tw_theory.specs.Bundles.{anti, antis, overdue}
use Rattle.tw_theory.specs.Contents.{Process, Cancel, Aggressive, Lazy, next, settled_as, settle, with_outgoing, receive}
use Rattle.tw_theory.specs.Exchange.{is_empty, all_empty, all_idle, is_swept, work, posts, deliveries, pass, IsTaken}
use Rattle.tw_theory.specs.Executive.{World, Action, Post, Deliver, Answer, Posted, Received, act, act_post, act_deliver, mail_of, posted, replay, answers}
use Rattle.tw_theory.specs.Network.{Network, IsNetwork, Fits}
use Rattle.tw_theory.specs.Soundness.{Cancels, IsSound}
use Rattle.tw_theory.proofs.Elements.{each_weaker, present, drop_here}
use Rattle.tw_laws.proofs.Harvesting.{acts_soundly, replay_sound}
use Rattle.tw_laws.proofs.Stepping.{total-posted}
use Rattle.tw_laws.proofs.Sweeping.{one_each, one_each_all, settle_fits, work_falls}

-- what a post of a process puts into mailboxes
abbrev pub out_of : {S : Type 0} → Process S → ℕ
out_of p = length (settle p).outgoing

module _ {S : Type 0} (net : Network S) (until : ℕ) where
  pub replay-append : (w : World S) (xs ys : List Action) → replay net until w (xs ++ ys) ≡ replay net until (replay net until w xs) ys
  replay-append w [] ys = refl
  replay-append w (a ∷ xs) ys = replay-append (act net until w a).1 xs ys

  -- what is taken of one list and then of another is taken of both
  pub taken-append : (w : World S) (xs ys : List Action) → Each IsTaken (answers net until w xs)
      → Each IsTaken (answers net until (replay net until w xs) ys) → Each IsTaken (answers net until w (xs ++ ys))
  taken-append w [] ys h k = k
  taken-append w (a ∷ xs) ys h k = (h.0, taken-append (act net until w a).1 xs ys h.1 k)

  module _ (ok : IsNetwork net) (bound : until ≤ max_tick) where
    -- ---- posts

    -- w' is w after a post of each component from c on, with these answers
    record ArePosted (c : ℕ) (w w' : World S) (given : List Answer) : Type 0 where
      work_is : work w' + total out_of (drop c w.processes) ≡ work w
      mail_is : total length w'.mail ≡ total length w.mail + total out_of (drop c w.processes)
      taken : Each IsTaken given

    are_posted : (n c : ℕ) (w : World S) → IsSound net until w → c + n ≡ length w.processes
        → ArePosted c w (replay net until w (posts c n)) (answers net until w (posts c n))
    unfolding act
    are_posted zero c w h e =
        let none : total out_of (drop c w.processes) ≡ 0 = ap (total out_of) (drop_all c w.processes (omega arith)) in
        record { work_is = omega (arith, none); mail_is = omega (arith, none); taken = tt }
    are_posted (suc n) c w h e =
        let there = present w.processes c (omega arith) in
        let p = there.0 in
        let q = with_outgoing (settle p) [] in
        let out = (settle p).outgoing in
        let w1 = (act net until w (Post c)).1 in
        let is : act net until w (Post c) ≡ act_post w c (Some p) = ap (act_post w c) there.1 in
        let processes : w1.processes ≡ slice_set w.processes c q = ap (λ (r : Answer × World S). r.1.processes) is in
        let mail : w1.mail ≡ posted w.mail out = ap (λ (r : Answer × World S). r.1.mail) is in
        let sound = h.each c p there.1 in
        let near = each_weaker (λ i. Fits net i.message) (λ i. i.message.to < length w.mail) (λ i f. let l = f.to in let k = h.mail in omega arith) out (settle_fits (Fits net) p.cancel p sound.fit_outgoing sound.fit_owed) in
        let rest = are_posted n (suc c) w1 (acts_soundly net until w ok bound h (Post c)) (let l = ap length processes ∙ length-set w.processes c q in omega (arith, e, l)) in
        let here : total out_of (drop c w.processes) ≡ out_of p + total out_of (drop (suc c) w.processes) = ap (total out_of) (drop_here w.processes c p there.1) in
        let later : total out_of (drop (suc c) w1.processes) ≡ total out_of (drop (suc c) w.processes) = ap (λ ps. total out_of (drop (suc c) ps)) processes ∙ ap (total out_of) (drop-set-lt (suc c) w.processes c q (omega arith)) in
        let fewer : work w1 + length out ≡ work w = work_falls.post net until w h c p there.1 in
        let more : total length w1.mail ≡ total length w.mail + length out =
        ap (total length) mail ∙ omega (arith, total-posted (λ i. 1) w.mail out near, one_each out, one_each_all w.mail, one_each_all (posted w.mail out)) in
        record {
          work_is = omega (arith, fewer, here, later, rest.work_is);
          mail_is = omega (arith, more, here, later, rest.mail_is);
          taken = ((λ why bad. let k : Ok (Posted (length out)) ≡ Err why = sym (ap (λ (r : Answer × World S). r.0) is) ∙ bad in cc), rest.taken);
        }

    -- ---- deliveries

    -- w' is w after a delivery of each of n items in the mailbox of q
    record IsEmptied (q n : ℕ) (w w' : World S) (given : List Answer) : Type 0 where
      work_le : work w' + n ≤ work w
      mail : w'.mail ≡ slice_set w.mail q []
      taken : Each IsTaken given

    is_emptied : (box : List Item) (q : ℕ) (w : World S) → IsSound net until w → q < length w.mail → mail_of w.mail q ≡ box
        → IsEmptied q (length box) w (replay net until w (replicate (length box) (Deliver q 0))) (answers net until w (replicate (length box) (Deliver q 0)))
    unfolding act
    is_emptied [] q w h l e = record {
      work_le = omega arith;
      mail = sym (set-get_or w.mail q []) ∙ ap (slice_set w.mail q) e;
      taken = tt;
    }
    is_emptied (x ∷ box) q w h l e =
        let there = present w.processes q (let a = h.mail in let b = h.processes in omega arith) in
        let p = there.0 in
        let at : slice_get (mail_of w.mail q) 0 ≡ Some x = ap (λ b. slice_get b 0) e in
        let w1 = (act net until w (Deliver q 0)).1 in
        let is : act net until w (Deliver q 0) ≡ act_deliver w q 0 (Some p) (Some x) = ap₂ (λ (o : Option (Process S)) (y : Option Item). act_deliver w q 0 o y) there.1 at in
        let mail : w1.mail ≡ slice_set w.mail q box = ap (λ (r : Answer × World S). r.1.mail) is ∙ ap (λ b. slice_set w.mail q (remove b 0)) e in
        let size : length w1.mail ≡ length w.mail = ap length mail ∙ length-set w.mail q box in
        let fewer = work_falls.deliver net until w h q 0 p x there.1 at in
        let rest = is_emptied box q w1 (acts_soundly net until w ok bound h (Deliver q 0)) (omega (arith, size, l)) (ap (λ m. mail_of m q) mail ∙ get_or-set_same w.mail q box [] l) in
        record {
          work_le = omega (arith, fewer, rest.work_le);
          mail = rest.mail ∙ ap (λ m. slice_set m q []) mail ∙ set-set w.mail q box [];
          taken = ((λ why bad. let k : Ok (Received (receive p x).0) ≡ Err why = sym (ap (λ (r : Answer × World S). r.0) is) ∙ bad in cc), rest.taken);
        }

    -- w' is w after all these deliveries
    record AreDelivered (boxes : List (List Item)) (w w' : World S) (given : List Answer) : Type 0 where
      work_le : work w' + total length boxes ≤ work w
      mail : (d : ℕ) → mail_of w'.mail d ≡ []
      taken : Each IsTaken given

    are_delivered : (boxes : List (List Item)) (q : ℕ) (w : World S) → IsSound net until w → length w.mail ≡ q + length boxes
        → ((d : ℕ) → mail_of w.mail (q + d) ≡ mail_of boxes d) → ((d : ℕ) → d < q → mail_of w.mail d ≡ [])
        → AreDelivered boxes w (replay net until w (deliveries q boxes)) (answers net until w (deliveries q boxes))
    are_delivered [] q w h n here done = record {
      work_le = omega arith;
      mail = λ d. ⊎_elim (λ l. done d l) (λ l. get_or_past w.mail d [] (omega (arith, n, l))) (cases_lt d q);
      taken = tt;
    }
    are_delivered (box ∷ boxes) q w h n here done =
        let first = replicate (length box) (Deliver q 0) in
        let w1 = replay net until w first in
        let near : q < length w.mail = omega (arith, n) in
        let plus : q + 0 ≡ q = omega arith in
        let one = is_emptied box q w h near (ap (mail_of w.mail) (sym plus) ∙ here 0) in
        let size : length w1.mail ≡ length w.mail = ap length one.mail ∙ length-set w.mail q [] in
        let rest = are_delivered boxes (suc q) w1 (replay_sound net until w first ok bound h) (omega (arith, size, n))
        (λ d. let up : suc q + d ≡ q + suc d = omega arith in ap (λ m. mail_of m (suc q + d)) one.mail ∙ get_or-set_other w.mail q (suc q + d) [] [] (omega arith) ∙ ap (mail_of w.mail) up ∙ here (suc d))
        (λ d l. ap (λ m. mail_of m d) one.mail ∙ ⊎_elim
        (λ same. ap (λ k. mail_of (slice_set w.mail q []) k) same ∙ get_or-set_same w.mail q [] [] near)
        (λ ne. get_or-set_other w.mail q d [] [] ne ∙ done d (omega (arith, l, ne)))
        (cases_eq d q)) in
        subst (λ (x : World S). AreDelivered (box ∷ boxes) w x (answers net until w (first ++ deliveries (suc q) boxes))) (sym (replay-append w first (deliveries (suc q) boxes)))
        (record {
          work_le = omega (arith, one.work_le, rest.work_le);
          mail = rest.mail;
          taken = taken-append w first (deliveries (suc q) boxes) one.taken rest.taken;
        })

    -- ---- a pass

    pub record IsPass (w w' : World S) (given : List Answer) : Type 0 where
      pub work_le : work w' + (total out_of w.processes + total out_of w.processes + total length w.mail) ≤ work w
      pub mail : (d : ℕ) → mail_of w'.mail d ≡ []
      pub taken : Each IsTaken given

    pub is_pass : (w : World S) → IsSound net until w → IsPass w (replay net until w (pass net until w)) (answers net until w (pass net until w))
    is_pass w h =
        let first = posts 0 (length w.processes) in
        let w1 = replay net until w first in
        let h1 = replay_sound net until w first ok bound h in
        let one = are_posted (length w.processes) 0 w h (omega arith) in
        let two = are_delivered w1.mail 0 w1 h1 (omega arith) (λ d. let here : 0 + d ≡ d = omega arith in ap (mail_of w1.mail) here) (λ d l. absurd (omega arith)) in
        subst (λ (x : World S). IsPass w x (answers net until w (pass net until w))) (sym (replay-append w first (deliveries 0 w1.mail)))
        (record {
          work_le = omega (arith, one.work_is, one.mail_is, two.work_le);
          mail = two.mail;
          taken = taken-append w first (deliveries 0 w1.mail) one.taken two.taken;
        })

-- ---- where nothing is left to do

pub no_mail : (mail : List (List Item)) → ((d : ℕ) → mail_of mail d ≡ []) → Each (λ box. box ≡ []) mail
no_mail [] h = tt
no_mail (box ∷ mail) h = (h 0, no_mail mail (λ d. h (suc d)))

pub empty_mail : (mail : List (List Item)) → total length mail ≡ 0 → all_empty mail ≡ true
empty_mail [] e = refl
empty_mail (box ∷ mail) e =
    let none : box ≡ [] = nil_from_length box (omega (arith, e)) in
    ap₂ (λ (b : List Item) r. is_empty b && r) none (empty_mail mail (omega (arith, e)))

module _ {S : Type 0} (cancel : Cancel) where
  idle_one : (p : Process S) → Cancels cancel p → out_of p ≡ 0 → (is_empty p.outgoing && is_empty (overdue (next p) p.owed)) ≡ true
  idle_one p h e = go p.cancel h.is e
    where
      go : (k : Cancel) → k ≡ cancel → length (settled_as k p).outgoing ≡ 0 → (is_empty p.outgoing && is_empty (overdue (next p) p.owed)) ≡ true
      go Aggressive is none =
          ap₂ (λ (items : List Item) owed. is_empty items && is_empty (overdue (next p) owed)) (nil_from_length p.outgoing none) (h.nothing_owed (sym is))
      go Lazy is none =
          let due = overdue (next p) p.owed in
          let both = length-append p.outgoing (antis due) in
          let each = length-map due anti in
          ap₂ (λ (items : List Item) ms. is_empty items && is_empty ms) (nil_from_length p.outgoing (omega (arith, none, both))) (nil_from_length due (omega (arith, none, both, each)))

  pub idle_all : (ps : List (Process S)) → Each (Cancels cancel) ps → total out_of ps ≡ 0 → all_idle ps ≡ true
  idle_all [] h e = refl
  idle_all (p ∷ ps) h e = ap₂ (λ a b. a && b) (idle_one p h.0 (omega (arith, e))) (idle_all ps h.1 (omega (arith, e)))

  pub left_to_do : (w : World S) → Each (Cancels cancel) w.processes → is_swept w ≡ false → 0 < total out_of w.processes + total length w.mail
  left_to_do w h e = ⊎_elim (λ l. l) (λ l. absurd (swept (ap₂ (λ a b. a && b) (idle_all w.processes h (omega (arith, l))) (empty_mail w.mail (omega (arith, l)))))) (cases_lt 0 (total out_of w.processes + total length w.mail))
    where
      swept : is_swept w ≡ true → ⊥
      swept t = true≢false (sym t ∙ e)
