use Rattle.std.proofs.Common.{◌≡◌, ◌+◌, ◌-◌, ◌<◌, ◌++◌, ◌∷◌, [], take, length, List, ap, sym, subst, ◌∙◌, arith, refl}
use Rattle.std.specs.Prelude.{slice_get, slice_set, Some, ℕ}
use Rattle.std.specs.List.{AllByRecursion as Each}
use Rattle.std.proofs.lemmas.Option.{slice_get_read}
use Rattle.tw_msgs.specs.declared.message.Item.{Item}
use Rattle.tw_mail.specs.Mail.{Mail, mail}
use Rattle.tw_theory.specs.Executive.{mail_of, posted}
use Rattle.tw_theory.proofs.Elements.{each-get}
use Rattle.tw_theory.proofs.Mail.{length-posted}
use Rattle.tw_mail.proofs.Changes.{one_more}
use Rattle.tw_mail.proofs.Boxes.{posted_more, pushed_popped, box_of_posted}
use Rattle.tw_mail.proofs.mailboxes.Mailboxes.post.Goals as goal

abbrev boxes : Mail → List (List Item)
boxes m = m.boxes

near : (old m : List (List Item)) (items : List Item) (k n : ℕ) (i : Item) → Each (λ i. i.message.to < length old) items → m ≡ posted old (take n items) → slice_get items k ≡ Some i → i.message.to < length m
near old m items k n i fits is at = omega (arith, each-get (λ (i : Item). i.message.to < length old) items k i at fits, ap length is, length-posted old (take n items))

-- one item more is posted
posted_next : (old : List (List Item)) (items : List Item) (k : ℕ) (i : Item) → slice_get items k ≡ Some i
    → slice_set (posted old (take k items)) i.message.to (mail_of (posted old (take k items)) i.message.to ++ i ∷ []) ≡ posted old (take (k + 1) items)
posted_next old items k i at = sym (ap (posted old) (one_more items k i at) ∙ posted_more old (take k items) i)

pub push-requires-clause-known : goal.push-requires-clause-known
push-requires-clause-known c =
    let at = slice_get_read c.args.items.now _ c.loop-place.place c.index-items-place.result refl c.loop-place-test.true c.index-items-place.is in
    near c.args.self.now.boxes c.loop-place.self.boxes c.args.items.now c.loop-place.place c.loop-place.place c.index-items-place.result c.requires (ap boxes c.loop-place.invariant) at

pub loop-place-preserved : goal.loop-place-preserved
loop-place-preserved c =
    let i = c.index-items-place.result in
    let at = slice_get_read c.args.items.now _ c.loop-place.place i refl c.loop-place-test.true c.index-items-place.is in
    c.in_default.ensures.ok
    ∙ ap (λ (m : Mail). mail (slice_set m.boxes i.message.to (mail_of m.boxes i.message.to ++ i ∷ []))) c.loop-place.invariant
    ∙ ap mail (posted_next c.args.self.now.boxes c.args.items.now c.loop-place.place i at)

-- the last item of those posted, which is taken back next
at_last : (c : goal.After-index-items-place-in-loop-back) → slice_get c.args.items.now (c.loop-place.place - 1 - c.loop-back.back) ≡ Some c.index-items-place-in-loop-back.result
at_last c = slice_get_read c.args.items.now _ (c.loop-place.place - 1 - c.loop-back.back) c.index-items-place-in-loop-back.result refl (omega (arith, c.loop-place-test.true)) c.index-items-place-in-loop-back.is

known_last : (c : goal.After-index-items-place-in-loop-back)
    → c.index-items-place-in-loop-back.result.message.to < length (posted c.args.self.now.boxes (take (c.loop-place.place - 1 - c.loop-back.back) c.args.items.now))
known_last c =
    let k = c.loop-place.place - 1 - c.loop-back.back in
    let fits = each-get (λ (i : Item). i.message.to < length c.args.self.now.boxes) c.args.items.now k c.index-items-place-in-loop-back.result (at_last c) c.requires in
    omega (arith, fits, length-posted c.args.self.now.boxes (take k c.args.items.now))

posted_last : (c : goal.After-index-items-place-in-loop-back)
    → c.loop-back.self.boxes
    ≡ slice_set (posted c.args.self.now.boxes (take (c.loop-place.place - 1 - c.loop-back.back) c.args.items.now)) c.index-items-place-in-loop-back.result.message.to
    (mail_of (posted c.args.self.now.boxes (take (c.loop-place.place - 1 - c.loop-back.back) c.args.items.now)) c.index-items-place-in-loop-back.result.message.to ++ c.index-items-place-in-loop-back.result ∷ [])
posted_last c =
    let k = c.loop-place.place - 1 - c.loop-back.back in
    let was : c.loop-place.place - c.loop-back.back ≡ k + 1 = omega (arith, c.loop-back-test.true) in
    ap boxes c.loop-back.invariant ∙ ap (λ n. posted c.args.self.now.boxes (take n c.args.items.now)) was
    ∙ sym (posted_next c.args.self.now.boxes c.args.items.now k c.index-items-place-in-loop-back.result (at_last c))

pub pop-requires-clause-known : goal.pop-requires-clause-known
pop-requires-clause-known c =
    let k = c.loop-place.place - 1 - c.loop-back.back in
    subst (λ (x : Item). x.message.to < length c.loop-back.self.boxes) c.index-items-place-in-loop-back.is
    (near c.args.self.now.boxes c.loop-back.self.boxes c.args.items.now k (c.loop-place.place - c.loop-back.back) c.index-items-place-in-loop-back.result c.requires (ap boxes c.loop-back.invariant) (at_last c))

pub pop-requires-clause-some : goal.pop-requires-clause-some
pop-requires-clause-some c =
    let i = c.index-items-place-in-loop-back.result in
    let mail = posted c.args.self.now.boxes (take (c.loop-place.place - 1 - c.loop-back.back) c.args.items.now) in
    subst (λ (x : Item). 0 < length (mail_of c.loop-back.self.boxes x.message.to)) c.index-items-place-in-loop-back.is
    (box_of_posted mail i.message.to i (known_last c) c.loop-back.self.boxes (posted_last c))

pub loop-back-preserved : goal.loop-back-preserved
loop-back-preserved c =
    let k = c.loop-place.place - 1 - c.loop-back.back in
    let i = c.index-items-place-in-loop-back.result in
    let old = c.args.self.now.boxes in
    let items = c.args.items.now in
    let now : k ≡ c.loop-place.place - (c.loop-back.back + 1) = omega arith in
    c.pop.ensures
    ∙ ap (λ (x : Item). mail (slice_set c.loop-back.self.boxes x.message.to (take (length (mail_of c.loop-back.self.boxes x.message.to) - 1) (mail_of c.loop-back.self.boxes x.message.to)))) (sym c.index-items-place-in-loop-back.is)
    ∙ ap mail (pushed_popped (posted old (take k items)) i.message.to i (known_last c.before) c.loop-back.self.boxes (posted_last c.before))
    ∙ ap (λ n. mail (posted old (take n items))) now

pub returns-clause-as_many : goal.returns-clause-as_many
returns-clause-as_many c = ap (λ (m : Mail). length m.boxes) c.loop-place.invariant ∙ length-posted c.args.self.now.boxes (take c.loop-place.place c.args.items.now)
