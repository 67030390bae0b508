use Rattle.std.proofs.Common.{◌≡◌, ◌∙◌, ap, refl, subst, sym}
use Rattle.std.specs.Prelude.{Err, Ok, OnErr, OnOk, Result}
use Rattle.tw_board.specs.Known.{Known}
use Rattle.tw_exchange.proofs.Staying.{IsGoing, stays_going}
use Rattle.tw_workers.proofs.GivenUp.{none_yet}
use Rattle.tw_workers.specs.Runs.{HasEnded}
use Rattle.tw_exchange.specs.Sweeping.{sweep_of}
use Rattle.tw_workers.proofs.desk.Desk.commit.Given.{Over}
use Rattle.tw_workers.proofs.desk.Desk.commit.Goals.{After-sweep}
use Rattle.tw_workers.proofs.desk.Desk.commit.Goals as goal

-- posted or not, it is the same board
same_board : {X E : Type 0} (r : Result X E) (old new posted : Known) → posted.board ≡ old.board → OnOk r (new ≡ posted) → OnErr r (new ≡ old) → new.board ≡ old.board
same_board (Ok x) old new posted same is stays = ap (λ p. p.board) is ∙ same
same_board (Err e) old new posted same is stays = ap (λ p. p.board) stays

-- swept, or a part of it
going : (g : Over) (c : After-sweep g) → IsGoing g.M.Atomic.meaning g.H.Given.is_given g.H.Given.is_begun c.sweep.new.self
going g c =
    let m = g.M.Atomic.meaning in
    let given = g.H.Given.is_given in
    let begun = g.H.Given.is_begun in
    let x = c.take_undone-undone.new.self in
    stays_going m given begun (sweep_of m x.executive) x c.sweep.new.self c.sweep.result c.sweep.ensures.swept c.sweep.ensures.cut_short
    (same_board c.sweep.result x.publisher c.sweep.new.self.publisher _ refl c.sweep.ensures.posted c.sweep.ensures.not_posted)
    c.sweep.ensures.further (subst (λ y. IsGoing m given begun y) (sym c.take_undone-undone.ensures) (c.self.invariant.0, c.self.invariant.2))

pub invariant_of-self : goal.invariant_of-self
invariant_of-self g c =
    let s = going g (goal.at.invariant_of-self g c).After-sweep in
    (s.0, none_yet c.self.inside.end (λ token. (token.of ≡ g.H.Given.cell) × HasEnded g.M.Atomic.meaning c.sweep.new.self.executive token.value) (sym c.is_some.ensures ∙ c.if-is_some.false), s.1, c.self.invariant.3)

pub invariant_of-self-then-eq : goal.invariant_of-self-then-eq
invariant_of-self-then-eq g c =
    let s = going g (goal.at.invariant_of-self-then-eq g c).After-sweep in
    (s.0, none_yet c.self.inside.end (λ token. (token.of ≡ g.H.Given.cell) × HasEnded g.M.Atomic.meaning c.sweep.new.self.executive token.value) (sym c.is_some.ensures ∙ c.if-is_some.false), s.1, c.self.invariant.3)

pub invariant_of-self-else-eq : goal.invariant_of-self-else-eq
invariant_of-self-else-eq g c =
    let s = going g (goal.at.invariant_of-self-else-eq g c).After-sweep in
    (s.0, none_yet c.self.inside.end (λ token. (token.of ≡ g.H.Given.cell) × HasEnded g.M.Atomic.meaning c.sweep.new.self.executive token.value) (sym c.is_some.ensures ∙ c.if-is_some.false), s.1, c.self.invariant.3)
