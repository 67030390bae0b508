use Rattle.std.proofs.Common.{◌≡◌, ◌∙◌, ◌++◌, ◌∷◌, [], ℤ, FitsSigned, pos, get_or, ap, sym, refl, take, arith, rules}
use Rattle.std.specs.Int.{w128, cast_signed}
use Rattle.std.proofs.lemmas.Int.{to_z-of_z}
use Rattle.std.proofs.lemmas.List.{take_all, take_more}
use Rattle.tw_msgs.proofs.words.are_same.Goals as goal

pub loop-index-preserved : goal.loop-index-preserved
loop-index-preserved c =
    let i = c.loop-index.index in
    let one = get_or c.args.few.now i (pos 0) in
    let two = get_or c.args.many.now i (pos 0) in
    let is_one : c.from.result ≡ one = let e = c.from.ensures in search rules in
    let fits_one : FitsSigned w128 c.from.result = search rules in
    let fits_two : FitsSigned w128 two = search rules in
    let is_two : c.from.result ≡ two = sym (to_z-of_z w128 c.from.result fits_one) ∙ ap (cast_signed w128) c.if-from-many.false ∙ to_z-of_z w128 two fits_two in
    record {
      lengths = c.loop-index.invariant.lengths;
      same = take_more c.args.few.now i (pos 0) c.loop-index-test.true ∙ ap (λ l. l ++ one ∷ []) c.loop-index.invariant.same
          ∙ ap (λ (x : ℤ). take i c.args.many.now ++ x ∷ []) (sym is_one ∙ is_two)
          ∙ sym (take_more c.args.many.now i (pos 0) (omega (arith, c.loop-index-test.true, c.loop-index.invariant.lengths)));
    }

pub returns : goal.returns
returns c =
    let i = c.loop-index.index in
    let same = sym (take_all i c.args.few.now c.loop-index-test.false) ∙ c.loop-index.invariant.same
    ∙ take_all i c.args.many.now (omega (arith, c.loop-index-test.false, c.loop-index.invariant.lengths)) in
    (λ yes. same, λ is. refl)
