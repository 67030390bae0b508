use Rattle.std.proofs.Common.{◌≡◌, ◌==◌, ◌++◌, ◌∷◌, [], ap, take, subst, sym, refl, rules}
use Rattle.std.specs.Prelude.{IsTrue}
use Rattle.std.proofs.lemmas.Option.{slice_get_read}
use Rattle.tw_msgs.specs.declared.message.Item.{Item}
use Rattle.tw_mail.specs.Mail.{IsLeastOf, IsWith}
use Rattle.tw_mail.proofs.Changes.{one_more, with_last}
use Rattle.tw_mail.proofs.least.Least.look_through.Goals as goal

pub loop-place-preserved : goal.loop-place-preserved
loop-place-preserved c =
    let i = c.index-items-place.result in
    let before = take c.loop-place.place c.args.items.now in
    let at = slice_get_read c.args.items.now _ c.loop-place.place i refl c.loop-place-test.true c.index-items-place.is in
    let more = one_more c.args.items.now c.loop-place.place i at in
    let with = subst (λ (x : Item). IsWith x.message.stamp before (before ++ i ∷ [])) c.index-items-place.is (with_last i before) in
    let none : IsTrue (c.loop-place.place == 0) → before ≡ [] = λ yes. ap (λ n. take n c.args.items.now) (let zero : c.loop-place.place ≡ 0 = search rules in zero) in
    let known = c.add.ensures before (before ++ i ∷ []) with none c.loop-place.invariant in
    subst (λ l. IsLeastOf c.add.new.self.stamp c.add.new.self.count l) (sym more) known
