-- The receiver's bag alone gets an item more, and the receiver is awake.
use Rattle.std.proofs.Common.{◌≡◌, ◌<◌, sym, ap, ◌∙◌, subst, arith, length, Some, slice_set, ◌++◌, ◌∷◌, [], rules, w64, SFits}
use Rattle.std.specs.List.{All, Contains}
use Rattle.std.proofs.lemmas.Int.{to_z-of_z}
use Rattle.std.proofs.lemmas.List.Elements.{All-nil, All-cons, All-append, Contains-append_left, Contains-push}
use Rattle.std.proofs.lemmas.Option.{slice_get-get_or}
use Rattle.tw_rounds.specs.Dealing.{dealt}
use Rattle.tw_rounds.specs.Waking.{WakesAll}
use Rattle.tw_rounds.proofs.Dealt.{dealt-one}
use Rattle.tw_rounds.proofs.Woken.{filled_awake}
use Rattle.tw_rounds.proofs.bags.Arrivals.deliver.Goals as goal
use Rattle.tw_rounds.proofs.bags.Arrivals.deliver.Goals.{then-is_empty+in_ok-push, else-is_empty}

pub returns-clause-bags : goal.returns-clause-bags
returns-clause-bags c =
    let m = c.args.message.now in
    let bags = c.if-is_empty.self.bags.items in
    let d = c.index_mut.result.now in
    let same : bags ≡ c.args.self.now.bags.items = elim c.if-is_empty.branch [
      | then-is_empty+in_ok-push w ↦ ap (λ s. s.bags.items) w.self-is
      | else-is_empty w ↦ ap (λ s. s.bags.items) w.self-is
    ] in
    let fits : SFits w64 m.value = search rules in
    let value = to_z-of_z w64 m.value fits in
    let l : m.to < length bags = subst (λ b. m.to < length b) (sym same) c.requires.to in
    ap (slice_set bags m.to) (c.in_ok-push-2.ensures.ok ∙ (λ i. c.index_mut.ensures.value i ++ (m.port, value i) ∷ []))
    ∙ sym (dealt-one 0 m.to bags m d (omega arith) l)
    ∙ ap (λ b. dealt 0 b (m ∷ [])) same

pub returns-clause-awake : goal.returns-clause-awake
returns-clause-awake c =
    let m = c.args.message.now in
    let bags = c.args.self.now.bags.items in
    let awake = c.args.self.now.awake.items in
    let bag = c.push-2.new.self in
    elim c.if-is_empty.branch [
      | then-is_empty+in_ok-push w ↦
          let pushed = sym w.in_ok-push.ensures.items in
          subst (λ s. WakesAll (slice_set s.bags.items m.to bag) s.awake.items) (sym w.self-is)
          (filled_awake bags awake w.push.new.self.items m.to bag c.requires.awake
          (λ d h. subst (λ xs. Contains xs d) pushed (Contains-append_left awake (m.to ∷ []) d h))
          (subst (All (λ d. d < length bags)) pushed (All-append (λ d. d < length bags) awake (m.to ∷ []) c.requires.awake.each (All-cons (λ d. d < length bags) m.to [] c.requires.to (All-nil (λ d. d < length bags)))))
          (subst (λ xs. Contains xs m.to) pushed (Contains-push awake m.to)))
      | else-is_empty w ↦
          let found = slice_get-get_or bags m.to c.index.result.now c.requires.to ∙ ap Some (sym c.index.ensures) in
          subst (λ s. WakesAll (slice_set s.bags.items m.to bag) s.awake.items) (sym w.self-is)
          (filled_awake bags awake awake m.to bag c.requires.awake (λ d h. h) c.requires.awake.each
          (c.requires.awake.all m.to (c.index.result.now, found, λ e. cc (w.if-is_empty.ensures.1 e))))
    ]
