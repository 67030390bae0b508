use Rattle.std.proofs.Common.{◌≡◌, ◌-◌, ℕ, ◌++◌, Some, None, cond, ap, sym, subst, ◌∙◌, arith}
use Rattle.std.proofs.lemmas.Option.{same_Some}
use Rattle.std.specs.HashMap.{get}
use Rattle.tw_pool.specs.Lists.{list_at, without}
use Rattle.tw_lists.specs.declared.finder.Key.{Key}
use Rattle.tw_lists.specs.Finders.{Finds, behind, equal_in, key_of, same_key}
use Rattle.tw_lists.specs.Nodes.{index_of}
use Rattle.tw_lists.proofs.Learning.{LeftLate, Leaving, left_late, leaving, left_known, behind_known, next_known, equal_none, equal_some, index_there, first_known, by_ok}
use Rattle.tw_lists.proofs.finder.Finder.leave.Goals.{In_default, In-Some, After-next_equal}
use Rattle.tw_lists.proofs.finder.Finder.leave.Goals as goal

late : (c : In_default) → LeftLate c.args.self.now.known c.args.self.now.late (list_at (without c.args.index c.args.pool.now.lists) c.args.list)
late c =
    left_late c.args.self.now.known c.args.self.now.late c.args.pool.now.lists c.args.list c.args.index c.args.message.now
    c.lists_law.ensures.distinct (omega (arith, c.requires.list, c.lists_law.ensures.count)) c.requires.finds c.requires.first (sym c.in_default.ensures)

pub overflow_sub-self : goal.overflow_sub-self
overflow_sub-self c = (late c).some

pub returns-in_default : goal.returns-in_default
returns-in_default c = (late (goal.at.returns-in_default c).In_default).finds

-- what is known of the message
known : (c : In-Some) → Leaving c.args.message.now c.requires.finds.front c.in-Some.equals
known c = leaving c.args.message.now c.requires.finds.front c.in-Some.equals (sym (c.requires.finds.knows c.args.message.now) ∙ sym c.in-Some.ensures)

first : (c : In-Some) → c.in-Some.equals.first ≡ c.args.index
first c =
    let is = first_known c.args.self.now.known c.args.self.now.late (list_at c.args.pool.now.lists c.args.list) c.args.message.now c.in-Some.equals c.requires.finds (sym c.in-Some.ensures) in
    same_Some c.in-Some.equals.first c.args.index (sym is ∙ c.requires.first)

pub returns-then-equals-lt2 : goal.returns-then-equals-lt2
returns-then-equals-lt2 c =
    let here = (goal.at.returns-then-equals-lt2 c).In-Some in
    let m = c.args.message.now in
    let at = known here in
    let none = equal_none m at.b (omega (arith, at.count, c.if-equals-lt2.true)) in
    let updates : (q : Key) → get same_key c.remove.new.self q ≡ cond (same_key (key_of m) q) (equal_in m at.b) (get same_key c.args.self.now.known q) =
    λ q. c.remove.ensures.updates.0 q
    ∙ ap (λ k. cond (same_key k q) None (get same_key c.args.self.now.known q)) c.key_of.ensures
    ∙ ap (λ o. cond (same_key (key_of m) q) o (get same_key c.args.self.now.known q)) (sym none) in
    let left = left_known c.args.self.now.known c.remove.new.self c.args.self.now.late c.args.pool.now.lists c.args.list m c.in-Some.equals
    c.lists_law.ensures.distinct (omega (arith, c.requires.list, c.lists_law.ensures.count)) c.requires.finds at updates in
    subst (λ (i : ℕ). Finds c.remove.new.self c.args.self.now.late (list_at (without i c.args.pool.now.lists) c.args.list)) (first here) left

-- what is known of the message, and the next node is the first of the others
others : (c : After-next_equal) → Leaving c.args.message.now c.requires.finds.front c.in-Some.equals
others c = leaving c.args.message.now c.requires.finds.front c.in-Some.equals (sym (c.requires.finds.knows c.args.message.now) ∙ sym c.in-Some.ensures)

next : (c : After-next_equal) → c.next_equal.result ≡ index_of c.args.message.now (others c).b
next c =
    let m = c.args.message.now in
    let at = others c in
    let is = first_known c.args.self.now.known c.args.self.now.late (list_at c.args.pool.now.lists c.args.list) m c.in-Some.equals c.requires.finds (sym c.in-Some.ensures) in
    let index : c.in-Some.equals.first ≡ c.args.index = same_Some c.in-Some.equals.first c.args.index (sym is ∙ c.requires.first) in
    let rest = behind_known c.args.self.now.known c.args.self.now.late c.args.pool.now.lists c.args.list m c.in-Some.equals
    c.lists_law.ensures.distinct (omega (arith, c.requires.list, c.lists_law.ensures.count)) c.requires.finds at in
    let result : c.next_equal.result ≡ index_of m (at.b ++ c.requires.finds.back) =
    c.next_equal.ensures ∙ ap (λ i. index_of m (behind i (list_at c.args.pool.now.lists c.args.list))) (sym index) ∙ ap (index_of m) rest in
    next_known m at.b c.requires.finds.back c.next_equal.result (omega (arith, at.count, c.if-equals-lt2.false)) result

pub returns-in-Some-next_equal : goal.returns-in-Some-next_equal
returns-in-Some-next_equal c =
    let here = (goal.at.returns-in-Some-next_equal c).In-Some in
    let m = c.args.message.now in
    let at = others (goal.at.returns-in-Some-next_equal c).After-next_equal in
    let first_is = equal_some m at.b c.in-Some-next_equal.first (sym (next (goal.at.returns-in-Some-next_equal c).After-next_equal) ∙ c.in-Some-next_equal.is) in
    let stored : equal_in m at.b ≡ Some (record { first = c.in-Some-next_equal.first; count = c.in-Some.equals.count - 1 }) =
    first_is ∙ ap (λ n. Some (record { first = c.in-Some-next_equal.first; count = n })) (omega (arith, at.count)) in
    let updated : (q : Key) → get same_key c.insert.new.self q ≡ cond (same_key (key_of m) q) (equal_in m at.b) (get same_key c.args.self.now.known q) =
    λ q. (by_ok c.insert.result c.insert.ensures.updates c.insert.ensures.absent (λ none. let some = c.in-Some.ensures ∙ ap (get same_key c.args.self.now.known) (sym c.key_of-in-Some-next_equal.ensures) ∙ none in absurd (cc some))).0 q
    ∙ ap (λ k. cond (same_key k q) (Some (record { first = c.in-Some-next_equal.first; count = c.in-Some.equals.count - 1 })) (get same_key c.args.self.now.known q)) c.key_of-in-Some-next_equal.ensures
    ∙ ap (λ o. cond (same_key (key_of m) q) o (get same_key c.args.self.now.known q)) (sym stored) in
    let left = left_known c.args.self.now.known c.insert.new.self c.args.self.now.late c.args.pool.now.lists c.args.list m c.in-Some.equals
    c.lists_law.ensures.distinct (omega (arith, c.requires.list, c.lists_law.ensures.count)) c.requires.finds at updated in
    subst (λ (i : ℕ). Finds c.insert.new.self c.args.self.now.late (list_at (without i c.args.pool.now.lists) c.args.list)) (first here) left

pub returns-in_default-next_equal : goal.returns-in_default-next_equal
returns-in_default-next_equal c =
    let at = others (goal.at.returns-in_default-next_equal c).After-next_equal in
    let none : index_of c.args.message.now at.b ≡ None = sym (next (goal.at.returns-in_default-next_equal c).After-next_equal) ∙ c.in_default-next_equal.is in
    absurd (index_there c.args.message.now at.b (omega (arith, at.count, c.if-equals-lt2.false)) none)
