-- One record more.
use Rattle.std.proofs.Common.{◌≡◌, ◌∙◌, ◌++◌, ◌+◌, ◌∷◌, [], ap, append-nil, append_assoc, string_bytes, subst, sym, take}
use Rattle.std.proofs.lemmas.List.{take_more}
use Rattle.tw_figures.proofs.Gathering.{one_taken}
use Rattle.tw_record_lines.specs.FigureTables.{table_of}
use Rattle.tw_record_lines.specs.Gathering.{FiguresStand, rows_at, rows_behind}
use Rattle.tw_record_lines.proofs.Opening.{behind_more}
use Rattle.tw_record_lines.proofs.figure_lines.FigureLines.take_all.Goals as goal

pub loop-step-preserved : goal.loop-step-preserved
loop-step-preserved g c =
    let t = table_of (g.N.Names.name_of c.args.table.now.names.now) c.args.table.now.labels.now c.args.table.now.shown.now c.args.table.now.from in
    let inv = c.loop-step.invariant in
    let steps = c.args.steps.now in
    let k = c.loop-step.step-index in
    let r = c.step-item.result in
    let old = string_bytes c.args.self.now.text in
    let one : take k steps ++ r ∷ [] ≡ take (k + 1) steps = ap (λ y. take k steps ++ y ∷ []) c.step-item.is ∙ sym (take_more steps k r c.loop-step-test.true) in
    record {
      stand = λ starts front h. subst (λ l. FiguresStand t starts l c.take.new.self) (one_taken front steps k r c.loop-step-test.true c.step-item.is)
          (c.in_ok-take.ensures.stand starts (front ++ take k steps) (inv.stand starts front h));
      text = λ starts front h.
          c.in_ok-take.ensures.text starts (front ++ take k steps) (inv.stand starts front h)
          ∙ ap (λ l. l ++ rows_at t starts (front ++ take k steps) r) (inv.text starts front h)
          ∙ append_assoc old (rows_behind t starts front (take k steps)) (rows_at t starts (front ++ take k steps) r)
          ∙ ap (λ l. old ++ (rows_behind t starts front (take k steps) ++ l)) (sym (append-nil (rows_at t starts (front ++ take k steps) r)))
          ∙ ap (λ l. old ++ l) (sym (behind_more t starts front (take k steps) (r ∷ [])))
          ∙ ap (λ l. old ++ rows_behind t starts front l) one;
    }
