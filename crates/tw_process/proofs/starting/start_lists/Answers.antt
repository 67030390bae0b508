use Rattle.std.proofs.Common.{◌≡◌, ℕ, ◌+◌, ◌∷◌, map, drop, length, slice_index_or, pos, cond, ap, sym, subst, ◌∙◌, arith, FitsSigned, w64}
use Rattle.std.specs.List.{All, AllByRecursion as Each}
use Rattle.std.proofs.lemmas.Bool.{eq-eqb, ne_eqb}
use Rattle.std.proofs.lemmas.List.{drop_all}
use Rattle.tw_msgs.specs.Messages.{sorted_messages}
use Rattle.tw_network.specs.Contents.{Input, message_of, IsInput}
use Rattle.tw_theory.specs.Bundles.{addressed}
use Rattle.tw_theory.proofs.Elements.{each-place}
use Rattle.tw_theory.specs.Standing.{CanTake}
use Rattle.tw_process.proofs.Starts.{folded, folded_sorted, inputs_left}
use Rattle.tw_process.proofs.starting.start_lists.Goals.{then-input-component+in_ok-put_input, else-input-component}
use Rattle.tw_process.proofs.starting.start_lists.Goals as goal

pub loop-input-init : goal.loop-input-init
loop-input-init g c =
    let all = addressed c.args.component (map message_of c.inputs-input-items.result.now) in
    record {
      pending = ap (λ p. folded p all) c.new-lists.ensures.pending ∙ folded_sorted all;
      fit = subst (Each (CanTake c.args.component)) (sym c.new-lists.ensures.pending) tt;
      consumed = c.new-lists.ensures.consumed;
      sent = c.new-lists.ensures.sent;
      outgoing = c.new-lists.ensures.outgoing;
      waiting = c.new-lists.ensures.waiting;
      owed = c.new-lists.ensures.owed;
    }

input_fits : (c n : ℕ) (i : Input) → i.1 ≡ c → IsInput n i → FitsSigned w64 i.3 → CanTake c (message_of i)
input_fits c n i to is fits =
    let tick = is.tick in
    let port = is.port in
    record { to = to; phase = omega arith; before_end = omega (arith, tick); fits = (omega (arith, port), fits) }

pub loop-input-preserved : goal.loop-input-preserved
loop-input-preserved g c =
    let items = c.inputs-input-items.result.now in
    let i = c.loop-input.input-index in
    let item : Input = slice_index_or items i (0, 0, 0, pos 0) in
    let rest = addressed c.args.component (map message_of (drop (i + 1) items)) in
    let was = c.loop-input.lists in
    let inv = c.loop-input.invariant in
    let here = sym (inputs_left c.args.component i (0, 0, 0, pos 0) items c.loop-input-test.true was.pending) ∙ inv.pending in
    elim c.if-input-component.branch [
      | then-input-component+in_ok-put_input w ↦
          let is = w.lists-is ∙ w.in_ok-put_input.ensures.contents in
          let pending = ap (λ l. l.pending) is in
          let fit = subst (All (IsInput (length c.args.network.now.models))) (sym c.inputs-input-items.ensures) c.facts.ensures.inputs i (0, 0, 0, pos 0) c.loop-input-test.true in
          record {
            pending = ap (λ p. folded p rest) pending ∙ sym (ap (λ b. folded was.pending (cond b (message_of item ∷ rest) rest)) (eq-eqb item.1 c.args.component w.if-input-component.true)) ∙ here;
            fit = subst (Each (CanTake c.args.component)) (sym pending) (each-place (CanTake c.args.component) (message_of item) was.pending (input_fits c.args.component (length c.args.network.now.models) item w.if-input-component.true fit w.in_ok-put_input.ensures.fits) inv.fit);
            consumed = ap (λ l. l.consumed) is ∙ inv.consumed;
            sent = ap (λ l. l.sent) is ∙ inv.sent;
            outgoing = ap (λ l. l.outgoing) is ∙ inv.outgoing;
            waiting = ap (λ l. l.waiting) is ∙ inv.waiting;
            owed = ap (λ l. l.owed) is ∙ inv.owed;
          }
      | else-input-component w ↦
          let is = w.lists-is in
          record {
            pending = ap (λ l. folded l.pending rest) is ∙ sym (ap (λ b. folded was.pending (cond b (message_of item ∷ rest) rest)) (ne_eqb item.1 c.args.component w.if-input-component.false)) ∙ here;
            fit = subst (λ l. Each (CanTake c.args.component) l.pending) (sym is) inv.fit;
            consumed = ap (λ l. l.consumed) is ∙ inv.consumed;
            sent = ap (λ l. l.sent) is ∙ inv.sent;
            outgoing = ap (λ l. l.outgoing) is ∙ inv.outgoing;
            waiting = ap (λ l. l.waiting) is ∙ inv.waiting;
            owed = ap (λ l. l.owed) is ∙ inv.owed;
          }
    ]

pub put_input-requires : goal.put_input-requires
put_input-requires g c =
    (subst (All (IsInput (length c.args.network.now.models))) (sym c.inputs-input-items.ensures) c.facts.ensures.inputs c.loop-input.input-index (0, 0, 0, pos 0) c.loop-input-test.true).tick

pub returns-clause-pending : goal.returns-clause-pending
returns-clause-pending g c =
    let items = c.inputs-input-items.result.now in
    let l = c.loop-input in
    ap (λ rest. folded l.lists.pending (addressed c.args.component (map message_of rest))) (sym (drop_all l.input-index items c.loop-input-test.false))
    ∙ l.invariant.pending
    ∙ ap (λ all. sorted_messages (addressed c.args.component (map message_of all))) c.inputs-input-items.ensures
