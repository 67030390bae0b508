use Rattle.std.proofs.Common.{◌≡◌, ℕ, ◌≤◌, Bool, true, false, List, Result, Ok, Err, refl, sym, ◌∙◌, subst}
use Rattle.std.specs.Prelude.{◌&&◌, IfOk, nat_le}
use Rattle.std.proofs.lemmas.Bool.{leb-true, le-leb}
use Rattle.tw_machine_text.specs.declared.words.Word.{Word}
use Rattle.tw_machine_text.specs.declared.tree.Block.{Block}
use Rattle.tw_machine_text.specs.declared.refused.Refused.{Refused}
use Rattle.tw_machine_text.specs.Machine.{program_of, weigh}
use Rattle.tw_machine_text.specs.Tree.{Block as Program, Means, heads}
use Rattle.tw_machine_text.specs.Views.{Tells, body}
use Rattle.tw_machine_text.proofs.Told.{sound, light}
use Rattle.tw_machine_text.proofs.Statements.{again_means}
use Rattle.tw_machine_text.proofs.parsing.parse.Goals as goal

both : (a b : Bool) → (a && b) ≡ true → (a ≡ true) × (b ≡ true)
both true true h = (refl, refl)
both true false h = absurd (cc h)
both false b h = absurd (cc h)

found : (most many : ℕ) (ws : List Word) (r : Result Block Refused) → (nat_le (weigh false ws) many && nat_le (heads ws) 4096) ≡ true → Tells body r (program_of most ws) → IfOk r (λ program. Means most many ws (body program))
found most many ws (Ok program) small h =
    let s = both (nat_le (weigh false ws) many) (nat_le (heads ws) 4096) small in
    sound most many ws (body program) (leb-true _ _ s.0) (leb-true _ _ s.1) h
found most many ws (Err e) small h = tt

-- words that mean a program are few
small : (most many : ℕ) (ws : List Word) (program : Program) → Means most many ws program → (nat_le (weigh false ws) many && nat_le (heads ws) 4096) ≡ true
small most many ws program h = rw (le-leb (weigh false ws) many (light most many ws program h), le-leb (heads ws) 4096 h.short) refl

not_both : (b : Bool) → b ≡ true → b ≡ false → ⊥
not_both b t f = cc

pub returns-then-is_small-clause-found : goal.returns-then-is_small-clause-found
returns-then-is_small-clause-found c = found 65 c.args.many c.args.words.now c.all.result (sym c.is_small.ensures ∙ c.if-is_small.true) c.all.ensures

pub returns-then-is_small-clause-only : goal.returns-then-is_small-clause-only
returns-then-is_small-clause-only c program means = subst (Tells body c.all.result) (again_means 65 c.args.many c.args.words.now program means) c.all.ensures

pub returns-else-is_small-clause-only : goal.returns-else-is_small-clause-only
returns-else-is_small-clause-only c program means =
    absurd (not_both _ (small 65 c.args.many c.args.words.now program means) (sym c.is_small.ensures ∙ c.if-is_small.false))
