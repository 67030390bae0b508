use Rattle.std.proofs.Common.{◌≡◌, ℕ, ◌++◌, List, [], ◌∷◌, Option, Some, None, drop, length, ap, sym, ◌∙◌, arith, refl, append-nil, append_assoc}
use Rattle.std.proofs.lemmas.List.{nil_from_length}
use Rattle.std.specs.Option.{option_to_list, unwrap_or}
use Rattle.tw_process.specs.Installing.{entries_with, entry_with, first_count}
use Rattle.tw_process.proofs.installing.push_entries.Goals as goal

first_out : (o : Option ℕ) (old new : List ℕ) → old ≡ option_to_list o ++ new → new ≡ drop 1 old → unwrap_or o 0 ≡ first_count old
first_out (Some n) old new is rest = sym (ap first_count is)
first_out None [] new is rest = refl
first_out None (x ∷ old) new is rest = let l = ap length is in let k = ap length rest in absurd (omega (arith, l, k))

pub loop-step-preserved : goal.loop-step-preserved
loop-step-preserved g c =
    let counts = c.loop-step.counts.items in
    let out = c.pop_front-in-Some.ensures in
    let first = c.unwrap_or-sent.ensures ∙ first_out c.pop_front-in-Some.result counts c.pop_front-in-Some.new.self.items out.items out.rest in
    let rest = c.pop_front.new.self.items in
    record {
      all =
          (λ i. (c.push_back_reserved.ensures.items ∙ ap (λ x. c.loop-step.history.items ++ x ∷ []) (c.entry_of.ensures ∙ ap (λ n. entry_with n c.in-Some.step) first)) i ++ entries_with (out.rest i) rest)
          ∙ append_assoc c.loop-step.history.items (entry_with (first_count counts) c.in-Some.step ∷ []) (entries_with (drop 1 counts) rest)
          ∙ ap (λ l. c.loop-step.history.items ++ entries_with counts l) (sym c.in-Some.ensures.items)
          ∙ c.loop-step.invariant.all;
      room = omega (arith, c.push_back_reserved.ensures.len, c.push_back_reserved.ensures.capacity, c.in-Some.ensures.cases, c.loop-step.invariant.room);
    }

pub push_back_reserved-requires : goal.push_back_reserved-requires
push_back_reserved-requires g c = omega (arith, c.in-Some.ensures.cases, c.loop-step.invariant.room)

pub loop-step-smaller : goal.loop-step-smaller
loop-step-smaller g c = omega (arith, ap length c.in-Some.ensures.items)

pub returns : goal.returns
returns g c =
    let l = c.loop-step in
    let none : l.steps.items ≡ [] = nil_from_length l.steps.items (omega (arith, c.in_default.ensures.cases, l.steps.ok.0)) in
    sym (append-nil l.history.items) ∙ ap (λ es. l.history.items ++ entries_with l.counts.items es) (sym none) ∙ l.invariant.all
