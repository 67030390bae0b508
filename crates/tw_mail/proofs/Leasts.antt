-- Least stamps, as folds find them.
use Rattle.std.specs.Prelude.{fold, map}
use Rattle.std.proofs.Common.{◌≡◌, ℕ, min, ◌≤◌, List, [], ◌∷◌, arith}
use Rattle.tw_mail.specs.Mail.{Held}
use Rattle.tw_msgs.specs.declared.message.Item.{Item}
use Rattle.tw_theory.specs.Bundles.{least_stamp}
use Rattle.tw_theory.specs.Executive.{least_mail}
use Rattle.tw_theory.proofs.Leasts.{least_stamp_top, least_mail_top}
use Rattle.tw_vtime.specs.Stamps.{never}

least_items : (n : ℕ) (items : List Item) → n ≤ never → fold (λ a i. min a i.message.stamp) n items ≡ min n (least_stamp items)
least_items n [] top = omega arith
least_items n (i ∷ items) top = let e = least_items (min n i.message.stamp) items (omega arith) in omega arith

pub least_stamp_chain : (items : List Item) → fold (λ a i. min a i.message.stamp) never items ≡ least_stamp items
least_stamp_chain items = let e = least_items never items (omega arith) in omega (arith, e, least_stamp_top items)

least_boxes : (n : ℕ) (boxes : List Held) → n ≤ never → fold (λ a b. min a (least_stamp b.items)) n boxes ≡ min n (least_mail (map (λ b. b.items) boxes))
least_boxes n [] top = omega arith
least_boxes n (b ∷ boxes) top = let e = least_boxes (min n (least_stamp b.items)) boxes (omega arith) in omega arith

pub least_boxes_chain : (boxes : List Held) → fold (λ a b. min a (least_stamp b.items)) never boxes ≡ least_mail (map (λ b. b.items) boxes)
least_boxes_chain boxes = let e = least_boxes never boxes (omega arith) in omega (arith, e, least_mail_top (map (λ (b : Held). b.items) boxes))
