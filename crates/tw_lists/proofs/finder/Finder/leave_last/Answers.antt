use Rattle.std.proofs.Common.{◌≡◌, ◌-◌, [], ◌∷◌, ◌++◌, Some, None, cond, ap, sym, ◌∙◌, arith}
use Rattle.std.specs.HashMap.{get}
use Rattle.tw_lists.specs.declared.finder.Key.{Key}
use Rattle.tw_lists.specs.Finders.{equal_in, key_of, same_key}
use Rattle.tw_lists.proofs.Learning.{by_ok}
use Rattle.tw_lists.proofs.Leaving.{last_late, all_known, finds_all, last_known, left_none, left_some, last_left}
use Rattle.tw_lists.proofs.finder.Finder.leave_last.Goals as goal

pub returns-then-self-gt0 : goal.returns-then-self-gt0
returns-then-self-gt0 c nodes node here finds = last_late c.args.self.now.known c.args.self.now.late nodes node (omega (arith, c.if-self-gt0.true)) finds

pub returns-in_default : goal.returns-in_default
returns-in_default c nodes node here finds =
    let m = c.args.message.now in
    let knows = all_known c.args.self.now.known c.args.self.now.late (nodes ++ node ∷ []) (omega (arith, c.if-self-gt0.false)) finds in
    let some = c.in_default.ensures ∙ last_known c.args.self.now.known nodes node m here knows in
    absurd (cc some)

pub returns-then-equals-lt2 : goal.returns-then-equals-lt2
returns-then-equals-lt2 c nodes node here finds =
    let m = c.args.message.now in
    let known = c.args.self.now.known in
    let knows = all_known known c.args.self.now.late (nodes ++ node ∷ []) (omega (arith, c.if-self-gt0.false)) finds in
    let none = left_none m nodes node.0 c.in-Some.equals c.if-equals-lt2.true (c.in-Some.ensures ∙ last_known known nodes node m here knows) in
    let updates : (q : Key) → get same_key c.remove.new.self q ≡ cond (same_key (key_of m) q) (equal_in m nodes) (get same_key known q) =
    λ q. c.remove.ensures.updates.0 q
    ∙ ap (λ k. cond (same_key k q) None (get same_key known q)) c.key_of.ensures
    ∙ ap (λ o. cond (same_key (key_of m) q) o (get same_key known q)) (sym none) in
    finds_all c.remove.new.self c.args.self.now.late nodes (omega (arith, c.if-self-gt0.false)) (last_left known c.remove.new.self nodes node m here knows updates)

pub returns : goal.returns
returns c nodes node here finds =
    let m = c.args.message.now in
    let known = c.args.self.now.known in
    let e = c.in-Some.equals in
    let knows = all_known known c.args.self.now.late (nodes ++ node ∷ []) (omega (arith, c.if-self-gt0.false)) finds in
    let some = left_some m nodes node.0 e (omega (arith, c.if-equals-lt2.false)) (c.in-Some.ensures ∙ last_known known nodes node m here knows) in
    let updates : (q : Key) → get same_key c.insert.new.self q ≡ cond (same_key (key_of m) q) (equal_in m nodes) (get same_key known q) =
    λ q. (by_ok c.insert.result c.insert.ensures.updates c.insert.ensures.absent (λ none. let there = c.in-Some.ensures ∙ ap (get same_key known) (sym c.key_of-2.ensures) ∙ none in absurd (cc there))).0 q
    ∙ ap (λ k. cond (same_key k q) (Some (record { first = e.first; count = e.count - 1 })) (get same_key known q)) c.key_of-2.ensures
    ∙ ap (λ o. cond (same_key (key_of m) q) o (get same_key known q)) (sym some) in
    finds_all c.insert.new.self c.args.self.now.late nodes (omega (arith, c.if-self-gt0.false)) (last_left known c.insert.new.self nodes node m here knows updates)
