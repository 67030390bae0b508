-- The least stamp from which anything can still change is the greatest one at or before all of them.
use Rattle.std.proofs.Common.{◌≡◌, ℕ, suc, ◌≤◌, List, [], ◌∷◌, Some, refl, arith}
use Rattle.std.specs.Prelude.{slice_get}
use Rattle.std.specs.List.{AllByRecursion as Each}
use Rattle.tw_msgs.specs.declared.message.Item.{Item}
use Rattle.tw_vtime.specs.Stamps.{never}
use Rattle.tw_theory.specs.Contents.{Process, next}
use Rattle.tw_theory.specs.Executive.{World, mail_of, least_next, least_mail, least_of, act}
use Rattle.tw_theory.proofs.Owing.{each_from_owed, owed_from_each}
use Rattle.tw_laws.specs.Committed.{IsAtOrBeforeAll, GvtLaw}
use Rattle.tw_laws.proofs.Changing.{each_from_least, least_from_each, box_from_least, process_from_least}
use Rattle.tw_laws.proofs.Growing.{count_grows, act_grows, replay_grows, rewind_leaves}
use Rattle.tw_laws.proofs.Lines.{gvt_rises, gvt_rises_by}

greatest_mail : (g : ℕ) (mail : List (List Item)) → g ≤ never → ((q : ℕ) → Each (λ i. g ≤ i.message.stamp) (mail_of mail q)) → g ≤ least_mail mail
greatest_mail g [] top h = top
greatest_mail g (box ∷ mail) top h =
    let here = least_from_each g box top (h 0) in
    let rest = greatest_mail g mail top (λ q. h (suc q)) in
    omega arith

module _ {S : Type 0} where
  below_all : (w : World S) → IsAtOrBeforeAll w (least_of w)
  below_all w = record {
    next = λ c p at. (process_from_least (least_of w) w.processes c p (omega arith) at).0;
    outgoing = λ c p at. each_from_least (least_of w) p.outgoing (process_from_least (least_of w) w.processes c p (omega arith) at).1;
    owed = λ c p at. each_from_owed (least_of w) p.owed (process_from_least (least_of w) w.processes c p (omega arith) at).2;
    mail = λ q. each_from_least (least_of w) (mail_of w.mail q) (box_from_least (least_of w) w.mail q (omega arith));
  }

  greatest_next : (g : ℕ) (ps : List (Process S)) → g ≤ never
      → ((c : ℕ) (p : Process S) → slice_get ps c ≡ Some p → (g ≤ next p) × Each (λ i. g ≤ i.message.stamp) p.outgoing × Each (λ m. g ≤ m.stamp) p.owed) → g ≤ least_next ps
  greatest_next g [] top h = top
  greatest_next g (p ∷ ps) top h =
      let here = h 0 p refl in
      let next = here.0 in
      let out = least_from_each g p.outgoing top here.1 in
      let owed = owed_from_each g p.owed top here.2 in
      let rest = greatest_next g ps top (λ c q at. h (suc c) q at) in
      omega arith

  greatest : (w : World S) (g : ℕ) → g ≤ never → IsAtOrBeforeAll w g → g ≤ least_of w
  greatest w g top h =
      let a = greatest_next g w.processes top (λ c p at. (h.next c p at, h.outgoing c p at, h.owed c p at)) in
      let b = greatest_mail g w.mail top h.mail in
      omega arith

  pub gvt_law : GvtLaw S
  unfolding act
  gvt_law = record {
    rises = gvt_rises;
    rises_by = gvt_rises_by;
    rewind_gvt = λ w ss. (rewind_leaves w ss).0;
    grows = act_grows;
    grows_by = replay_grows;
    rewind_columns = λ w ss. (rewind_leaves w ss).1;
    count = count_grows;
    raise = λ net until w. refl;
    at_or_before = below_all;
    greatest = greatest;
  }
