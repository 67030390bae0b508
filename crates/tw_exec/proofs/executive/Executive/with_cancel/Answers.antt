use Rattle.std.proofs.Common.{◌≡◌, [], length, replicate, refl, ap, sym, subst, ◌∙◌}
use Rattle.std.specs.Arc.{arc_value}
use Rattle.tw_exec.specs.Running.{start, IsHeld}
use Rattle.tw_exec.proofs.Starts.{starts, start_held, no_records}
use Rattle.tw_network.specs.Contents.{network_of}
use Rattle.tw_theory.specs.Network.{IsNetwork}
use Rattle.tw_exec.proofs.executive.Executive.with_cancel.Goals as goal

pub invariant_of-result-2 : goal.invariant_of-result-2
invariant_of-result-2 g c =
    let n = arc_value c.in-Ok-new.shared in
    let e : n ≡ c.args.network = c.in-Ok-new.ensures.ok in
    let k : c.len-count.result ≡ length n.models = c.len-count.ensures ∙ ap (λ x. length x.models) (sym e) in
    let boxes = ap (λ m. m.boxes) c.in_ok-mail.ensures.made ∙ ap (λ j. replicate j []) k in
    let columns = c.in_ok-columns.ensures ∙ ap (λ j. replicate j []) k in
    let held = start_held g.M.Atomic.meaning n c.args.cancel c.args.until c.in_ok-processes.processes.items c.in_ok-mail.mail.boxes c.in_ok-columns.columns.items
    (subst (λ x. IsNetwork (network_of g.M.Atomic.meaning x)) (sym e) c.facts.ensures.network) (c.in-Ok.ensures.in_range.0 refl).0 (c.in_ok-processes.ensures.count ∙ k) c.in_ok-processes.ensures.made
    boxes columns in
    (subst (λ end. IsHeld g.M.Atomic.meaning n c.args.until end 0 c.in_ok-processes.processes.items c.in_ok-mail.mail.boxes c.in_ok-columns.columns.items) (sym c.in-Ok.ensures.is_stamp) held, no_records (length n.models) c.in_ok-columns.columns.items columns)

pub returns-clause-start : goal.returns-clause-start
returns-clause-start g c =
    let n = arc_value c.in-Ok-new.shared in
    let e : n ≡ c.args.network = c.in-Ok-new.ensures.ok in
    let k : c.len-count.result ≡ length n.models = c.len-count.ensures ∙ ap (λ x. length x.models) (sym e) in
    ap (λ w. record { network = n; until = c.args.until; world = w })
    (starts g.M.Atomic.meaning n c.args.cancel c.in_ok-processes.processes.items c.in_ok-mail.mail.boxes c.in_ok-columns.columns.items (c.in_ok-processes.ensures.count ∙ k) c.in_ok-processes.ensures.made
    (ap (λ m. m.boxes) c.in_ok-mail.ensures.made ∙ ap (λ j. replicate j []) k) (c.in_ok-columns.ensures ∙ ap (λ j. replicate j []) k))
    ∙ ap (λ x. start g.M.Atomic.meaning x c.args.cancel c.args.until) e
