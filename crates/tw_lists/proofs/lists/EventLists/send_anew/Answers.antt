use Rattle.std.proofs.Common.{◌≡◌, ◌+◌, ◌++◌, ◌∷◌, [], take, drop, length, ap, sym, ◌∙◌, arith, add-one}
use Rattle.std.proofs.Math.Seq.{drop-cons}
use Rattle.std.proofs.lemmas.List.{take_more}
use Rattle.tw_theory.specs.Bundles.{sent_anew, still_owed}
use Rattle.tw_theory.specs.Contents.{Lazy}
use Rattle.tw_lists.specs.Lists.{with_room, with_all_sent}
use Rattle.tw_lists.proofs.Owing.{sending_more, room_next}
use Rattle.tw_lists.proofs.lists.EventLists.send_anew.Goals as goal

pub loop-message-preserved : goal.loop-message-preserved
loop-message-preserved c =
    let ms = c.args.messages.now in
    let i = c.loop-message.message-index in
    let m = c.message-item.result in
    let old = c.args.self.now in
    let new = c.send_once.new.self in
    let xs = take i ms in
    let ys = drop (i + 1) ms in
    let within = c.loop-message-test.true in
    let next = take_more ms i m within ∙ ap (λ y. xs ++ y ∷ []) (sym c.message-item.is) in
    let rest : drop i ms ≡ m ∷ ys = drop-cons ms i m within ∙ (λ j. sym c.message-item.is j ∷ drop (sym (add-one i) j) ms) in
    let inv = c.loop-message.invariant in
    let owed = ap (λ v. v.owed) inv.sent in
    let share = room_next old.owed xs m ys in
    record {
      sent =
          c.send_once.ensures.contents
          ∙ ap (λ v. with_room new.room new.spare (with_all_sent Lazy (m ∷ []) v)) inv.sent
          ∙ ap (with_room new.room new.spare) (sending_more Lazy xs (m ∷ []) old ∙ ap (λ l. with_all_sent Lazy l old) (sym next));
      room = omega (
        arith,
        share,
        inv.room,
        c.send_once.ensures.room,
        ap (λ l. length (sent_anew (still_owed old.owed xs) l)) rest,
        ap (λ l. length (sent_anew l (m ∷ []))) owed,
        ap (λ l. length (sent_anew (still_owed old.owed l) ys)) next,
      );
    }
