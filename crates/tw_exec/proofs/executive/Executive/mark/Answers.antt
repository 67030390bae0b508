use Rattle.std.proofs.Common.{◌≡◌, ◌++◌, ◌∷◌, [], ◌<◌, ◌≤◌, length, map, take, refl, ap, sym, ◌∙◌, arith}
use Rattle.std.specs.Option.{option_map}
use Rattle.std.specs.Prelude.{slice_get}
use Rattle.std.proofs.lemmas.List.{length-map, take_all, take_more}
use Rattle.std.proofs.lemmas.Option.{get_or_from_slice_get, slice_get-map, slice_get_read}
use Rattle.tw_exec.proofs.Marks.{marks_push}
use Rattle.tw_theory.specs.Marks.{marks}
use Rattle.tw_exec.proofs.executive.Executive.mark.Goals as goal

pub loop-process-preserved : goal.loop-process-preserved
loop-process-preserved g c =
    let i = c.loop-process.process-index in
    let p = c.process-item.result in
    let all = c.as_slice-process-items.result.now in
    let ws = c.args.self.now.world.processes in
    let ws_is : ws ≡ map (λ p. p.process) all = ap (λ e. e.world.processes) (sym c.self.view_is) ∙ ap (map (λ p. p.process)) (sym c.as_slice-process-items.ensures.value) in
    let at = ap (λ l. slice_get l i) ws_is ∙ slice_get-map (λ p. p.process) all i ∙ ap (option_map (λ p. p.process)) (slice_get_read all (length all) i p refl c.loop-process-test.true c.process-item.is) in
    let near : i < length ws = omega (arith, c.loop-process-test.true, ap length ws_is, length-map all (λ p. p.process)) in
    let one = take_more ws i p.process near ∙ ap (λ x. take i ws ++ x ∷ []) (get_or_from_slice_get ws i p.process p.process at) in
    c.in_ok-push.ensures.items
    ∙ (λ j. c.loop-process.invariant j ++ c.next.ensures j ∷ [])
    ∙ sym (ap marks one ∙ marks_push (take i ws) p.process)

pub returns : goal.returns
returns g c =
    let all = c.as_slice-process-items.result.now in
    let ws = c.args.self.now.world.processes in
    let ws_is : ws ≡ map (λ p. p.process) all = ap (λ e. e.world.processes) (sym c.self.view_is) ∙ ap (map (λ p. p.process)) (sym c.as_slice-process-items.ensures.value) in
    let past : length ws ≤ c.loop-process.process-index = omega (arith, c.loop-process-test.false, ap length ws_is, length-map all (λ p. p.process)) in
    c.loop-process.invariant ∙ ap marks (take_all c.loop-process.process-index ws past)
