-- No least stamp is later than the end, which stands where there is none.
use Rattle.std.proofs.Common.{◌≤◌, List, [], ◌∷◌, arith}
use Rattle.tw_msgs.specs.declared.message.Item.{Item}
use Rattle.tw_vtime.specs.Stamps.{never}
use Rattle.tw_theory.specs.Bundles.{least_stamp}
use Rattle.tw_theory.specs.Contents.{Process}
use Rattle.tw_theory.specs.Executive.{least_next, least_mail}

pub least_stamp_top : (items : List Item) → least_stamp items ≤ never
least_stamp_top [] = omega arith
least_stamp_top (i ∷ items) = omega (arith, least_stamp_top items)

pub least_mail_top : (mail : List (List Item)) → least_mail mail ≤ never
least_mail_top [] = omega arith
least_mail_top (box ∷ mail) = omega (arith, least_mail_top mail)

pub least_next_top : {S : Type 0} (ps : List (Process S)) → least_next ps ≤ never
least_next_top [] = omega arith
least_next_top (p ∷ ps) = omega (arith, least_next_top ps)
