use Rattle.std.proofs.Common.{◌≡◌, ℕ, ◌+◌, ◌++◌, ◌∷◌, [], List, ap, arith, map, replicate, ◌∙◌}
use Rattle.std.proofs.lemmas.List.{map-append, replicate_more}
use Rattle.std.proofs.lemmas.Result.{IfOk-from_err}
use Rattle.tw_mail.specs.Mail.{Held, mail}
use Rattle.tw_mail.proofs.mailboxes.Mailboxes.new.Goals as goal

-- one more empty mailbox
one_more : (boxes more : List Held) (box : Held) (n : ℕ) → map (λ (b : Held). b.items) boxes ≡ replicate n [] → more ≡ boxes ++ box ∷ [] → box.items ≡ [] → map (λ (b : Held). b.items) more ≡ replicate (n + 1) []
one_more boxes more box n empty is none =
    ap (map (λ (b : Held). b.items)) is ∙ map-append (λ (b : Held). b.items) boxes (box ∷ [])
    ∙ (λ i. empty i ++ none i ∷ []) ∙ replicate_more n []

pub loop-preserved : goal.loop-preserved
loop-preserved c = record { empty = one_more c.loop.boxes.items c.push.new.self.items c.new.result c.loop.counter c.loop.invariant.empty c.in_ok-push.ensures.items c.new.ensures }

pub returns-in_err-push-clause-made : goal.returns-in_err-push-clause-made
returns-in_err-push-clause-made c = IfOk-from_err _ _ c.from_residual.ensures.0

pub returns-clause-made : goal.returns-clause-made
returns-clause-made c =
    let all : c.loop.counter ≡ c.args.n = omega (arith, c.loop.auto.counter-end, c.loop-test.false) in
    ap mail (c.loop.invariant.empty ∙ ap (λ n. replicate n []) all)
