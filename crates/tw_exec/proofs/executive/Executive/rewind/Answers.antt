use Rattle.std.proofs.Common.{◌≡◌, ◌<◌, length, map, min, ap, sym, subst, ◌∙◌, arith, Ok}
use Rattle.std.specs.List.{AllByRecursion as Each}
use Rattle.std.proofs.lemmas.List.{length-map}
use Rattle.tw_exec.specs.Rewinding.{greatest_count}
use Rattle.tw_exec.specs.Running.{shown}
use Rattle.tw_exec.proofs.Reasons.{is_known}
use Rattle.tw_exec.proofs.Kept.{as_many_columns}
use Rattle.tw_exec.proofs.Rewinds.{columns_rise, rewound_held, rewound_world, since, wrong}
use Rattle.tw_fossils.specs.Columns.{IsRising}
use Rattle.tw_theory.specs.Executive.{Undone}
use Rattle.tw_theory.specs.Marks.{any_committed, rewind, rewound_steps}
use Rattle.tw_exec.proofs.executive.Executive.rewind.Goals as goal

pub returns-then-stamps-len-clause-refused : goal.returns-then-stamps-len-clause-refused
returns-then-stamps-len-clause-refused g c =
    let mark_is : c.as_slice-stamps.result.now ≡ c.args.mark.now = c.as_slice-stamps.ensures.value ∙ c.mark.view_is in
    let many = length-map c.self.inside.processes.items (λ p. p.process) in
    ap (λ e. (rewind e.world c.args.mark.now).0) (sym c.self.view_is)
    ∙ ap (λ l. (rewind (shown c.self.inside.processes.items c.self.inside.mail.boxes c.self.inside.columns.items c.self.inside.gvt) l).0) (sym mark_is)
    ∙ ap (λ x. x.0) (wrong (shown c.self.inside.processes.items c.self.inside.mail.boxes c.self.inside.columns.items c.self.inside.gvt) c.as_slice-stamps.result.now (λ e. c.if-stamps-len.true (omega (arith, e, many, c.len.ensures, c.self.inside.processes.ok.0))))

pub any_committed-requires-clause-rising : goal.any_committed-requires-clause-rising
any_committed-requires-clause-rising g c =
    subst (Each (λ column. IsRising column × Each (λ r. r.stamp < c.self.inside.gvt) column)) (sym c.as_slice-2.ensures.value) (columns_rise c.self.invariant.0)

pub returns-then-any_committed-clause-refused : goal.returns-then-any_committed-clause-refused
returns-then-any_committed-clause-refused g c =
    let mark_is : c.as_slice-stamps.result.now ≡ c.args.mark.now = c.as_slice-stamps.ensures.value ∙ c.mark.view_is in
    let same : length c.as_slice-stamps.result.now ≡ length c.self.inside.processes.items = omega (arith, c.if-stamps-len.false, c.len.ensures, c.self.inside.processes.ok.0) in
    let any = (λ i. any_committed c.self.inside.gvt c.as_slice-stamps.result.now (map (λ p. p.process) (sym c.as_slice.ensures.value i)) (sym c.as_slice-2.ensures.value i)) ∙ sym c.if-any_committed.ensures in
    ap (λ e. (rewind e.world c.args.mark.now).0) (sym c.self.view_is)
    ∙ ap (λ l. (rewind (shown c.self.inside.processes.items c.self.inside.mail.boxes c.self.inside.columns.items c.self.inside.gvt) l).0) (sym mark_is)
    ∙ ap (λ x. x.0) (since (shown c.self.inside.processes.items c.self.inside.mail.boxes c.self.inside.columns.items c.self.inside.gvt) c.as_slice-stamps.result.now (same ∙ sym (length-map c.self.inside.processes.items (λ p. p.process))) any)

pub invariant_of-self : goal.invariant_of-self
invariant_of-self g c =
    let same : length c.as_slice-stamps.result.now ≡ length c.self.inside.processes.items = omega (arith, c.if-stamps-len.false, c.len.ensures, c.self.inside.processes.ok.0) in
    let none = (λ i. any_committed c.self.inside.gvt c.as_slice-stamps.result.now (map (λ p. p.process) (sym c.as_slice.ensures.value i)) (sym c.as_slice-2.ensures.value i)) ∙ sym c.if-any_committed.ensures in
    (rewound_held c.self.invariant.0 c.as_slice-stamps.result.now c.back_to_marks.new.processes.items same none c.back_to_marks.ensures.cut, c.self.invariant.1)

pub returns-clause-done : goal.returns-clause-done
returns-clause-done g c =
    let mark_is : c.as_slice-stamps.result.now ≡ c.args.mark.now = c.as_slice-stamps.ensures.value ∙ c.mark.view_is in
    let same : length c.as_slice-stamps.result.now ≡ length c.self.inside.processes.items = omega (arith, c.if-stamps-len.false, c.len.ensures, c.self.inside.processes.ok.0) in
    let none = (λ i. any_committed c.self.inside.gvt c.as_slice-stamps.result.now (map (λ p. p.process) (sym c.as_slice.ensures.value i)) (sym c.as_slice-2.ensures.value i)) ∙ sym c.if-any_committed.ensures in
    let new = shown c.back_to_marks.new.processes.items c.self.inside.mail.boxes c.self.inside.columns.items c.self.inside.gvt in
    ap (λ e. rewind e.world c.args.mark.now) (sym c.self.view_is)
    ∙ ap (rewind (shown c.self.inside.processes.items c.self.inside.mail.boxes c.self.inside.columns.items c.self.inside.gvt)) (sym mark_is)
    ∙ rewound_world c.self.invariant.0 c.as_slice-stamps.result.now c.back_to_marks.new.processes.items same none c.back_to_marks.ensures.cut
    ∙ (λ i. (Ok (Undone (rewound_steps (mark_is i) (c.self.view_is i).world.processes)), new))

pub any_committed-requires-clause-columns : goal.any_committed-requires-clause-columns
any_committed-requires-clause-columns g c = omega (arith, c.as_slice-2.ensures.len, c.if-stamps-len.false, c.len.ensures, c.self.inside.processes.ok.0, c.self.inside.columns.ok.0, as_many_columns c.self.invariant.0)

pub returns-clause-count : goal.returns-clause-count
returns-clause-count g c =
    let mark_is : c.as_slice-stamps.result.now ≡ c.args.mark.now = c.as_slice-stamps.ensures.value ∙ c.mark.view_is in
    c.back_to_marks.ensures.count ∙ (λ i. min (rewound_steps (mark_is i) (c.self.view_is i).world.processes) greatest_count)

pub returns-then-stamps-len-clause-known : goal.returns-then-stamps-len-clause-known
returns-then-stamps-len-clause-known g c = is_known _

pub returns-then-any_committed-clause-known : goal.returns-then-any_committed-clause-known
returns-then-any_committed-clause-known g c = is_known _
