use Rattle.std.proofs.Common.{◌≡◌, [], ◌∷◌, ◌++◌, map, cond, refl, ap, sym, ◌∙◌, append_assoc}
use Rattle.std.proofs.lemmas.Bool.{eq-eqb}
use Rattle.tw_heap.specs.Entries.{message_of, without}
use Rattle.tw_heap.proofs.EntriesByIndex.{behind_first}
use Rattle.tw_lists.proofs.lists.EventLists.pending.Goals as goal

pub loop-entry-preserved : goal.loop-entry-preserved
loop-entry-preserved c =
    let l = c.loop-entry in
    let e = c.in-Some.entry in
    let at = behind_first l.rest.entries e (sym c.in-Some.is ∙ c.first.ensures.value) in
    let left : c.remove.new.self.entries ≡ at.rest = c.remove.ensures.entries ∙ ap (without e.index) at.split ∙ ap (λ b. cond b at.rest (e ∷ without e.index at.rest)) (eq-eqb e.index e.index refl) in
    record {
      all = (λ i. c.in_ok-push.ensures.items i ++ map message_of (left i))
          ∙ append_assoc l.messages.items (e.key ∷ []) (map message_of at.rest)
          ∙ ap (λ es. l.messages.items ++ map message_of es) (sym at.split)
          ∙ l.invariant.all;
    }
