use Rattle.std.proofs.Common.{◌≡◌, ℕ, sym, subst, arith}
use Rattle.tw_pool.specs.Lists.{list_at}
use Rattle.tw_lists.specs.Finders.{Finds}
use Rattle.tw_lists.proofs.Learning.{first_known, none_known}
use Rattle.tw_lists.proofs.finder.Finder.first.Goals as goal

pub returns-in-Some : goal.returns-in-Some
returns-in-Some c =
    let nodes = list_at c.args.pool.now.lists c.args.list in
    sym (first_known c.args.self.now.known c.args.self.now.late nodes c.args.message.now c.in-Some.equals c.requires.finds (sym c.in-Some.ensures))

pub returns-in-None : goal.returns-in-None
returns-in-None c =
    let nodes = list_at c.args.pool.now.lists c.args.list in
    let all : c.args.self.now.late ≡ 0 = omega (arith, c.if-self-eq0.true) in
    sym (none_known c.args.self.now.known nodes c.args.message.now (subst (λ (n : ℕ). Finds c.args.self.now.known n nodes) all c.requires.finds) (sym c.in-None.ensures))
