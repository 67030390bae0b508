-- Mailboxes, one for each component.
use Rattle.std.proofs.Common.{◌≡◌, List, [], ◌∷◌, ◌++◌, length, length-set, true, refl, ap, ◌∙◌}
use Rattle.std.specs.Prelude.{slice_set}
use Rattle.std.specs.List.{AllByRecursion as Each}
use Rattle.std.proofs.lemmas.Bool.{and_parts, and_from}
use Rattle.tw_msgs.specs.declared.message.Item.{Item}
use Rattle.tw_theory.specs.Exchange.{is_empty, all_empty}
use Rattle.tw_theory.specs.Executive.{mail_of, posted}
use Rattle.tw_theory.proofs.Elements.{empty_is}

-- what is posted makes no mailbox and takes none away
pub length-posted : (mail : List (List Item)) (items : List Item) → length (posted mail items) ≡ length mail
length-posted mail [] = refl
length-posted mail (i ∷ items) = length-posted (slice_set mail i.message.to (mail_of mail i.message.to ++ i ∷ [])) items ∙ length-set mail i.message.to (mail_of mail i.message.to ++ i ∷ [])

-- what is tested to be empty in all mailboxes is so
pub empty_boxes : (mail : List (List Item)) → all_empty mail ≡ true → Each (λ box. box ≡ []) mail
empty_boxes [] e = tt
empty_boxes (box ∷ mail) e = let parts = and_parts (is_empty box) (all_empty mail) e in (empty_is box parts.0, empty_boxes mail parts.1)

pub all_empty_is : (mail : List (List Item)) → Each (λ box. box ≡ []) mail → all_empty mail ≡ true
all_empty_is [] h = refl
all_empty_is (box ∷ mail) h = and_from (is_empty box) (all_empty mail) (ap is_empty h.0) (all_empty_is mail h.1)
