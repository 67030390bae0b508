use Rattle.std.proofs.Common.{None, Some, codes, rules, arith, ap₂, ◌++◌, ◌∷◌, ◌∙◌, sym}
use Rattle.std.specs.Cmp.Lexicographic.{other_text}
use Rattle.std.proofs.lemmas.Str.Pattern.{split_parts}
use Rattle.tw_vtime.specs.Stamps.{tick_of, micro_of, phase_of}
use Rattle.tw_script.proofs.Stamped.{cut_first, cut_second, in_range_by, none_written, some_written, written}
use Rattle.tw_script.proofs.words.stamp.Goals as goal

pub returns-in_err-tick-clause-none : goal.returns-in_err-tick-clause-none
returns-in_err-tick-clause-none c = rw c.from_residual.ensures (λ s is e.
    let w = written s c.args.word.now is (other_text c.args.word.now (codes "end") c.if-eq.ensures) e in
    cut_first _ _ _ _ w None c.in_err-tick.ensures.cases)

pub returns-in_err-micro-clause-none : goal.returns-in_err-micro-clause-none
returns-in_err-micro-clause-none c = rw c.from_residual-in_err-micro.ensures (λ s is e.
    let w = written s c.args.word.now is (other_text c.args.word.now (codes "end") c.if-eq.ensures) e in
    let parts = cut_first _ _ _ _ w (Some (c.in_ok-tick.tick, c.in_ok-tick.rest)) c.in_ok-tick.ensures.cases in
    cut_second _ _ _ _ w.in_range parts.1 None c.in_err-micro.ensures.cases)

pub returns-in_err-number-clause-none : goal.returns-in_err-number-clause-none
returns-in_err-number-clause-none c = rw c.from_residual-in_err-number.ensures (λ s is e.
    let w = written s c.args.word.now is (other_text c.args.word.now (codes "end") c.if-eq.ensures) e in
    let parts = cut_first _ _ _ _ w (Some (c.in_ok-tick.tick, c.in_ok-tick.rest)) c.in_ok-tick.ensures.cases in
    c.in_err-number.ensures.none (tick_of s) (omega (arith, w.in_range.0)) parts.0)

pub returns-in_err-number-2-clause-none : goal.returns-in_err-number-2-clause-none
returns-in_err-number-2-clause-none c = rw c.from_residual-in_err-number-2.ensures (λ s is e.
    let w = written s c.args.word.now is (other_text c.args.word.now (codes "end") c.if-eq.ensures) e in
    let parts = cut_first _ _ _ _ w (Some (c.in_ok-tick.tick, c.in_ok-tick.rest)) c.in_ok-tick.ensures.cases in
    let last = cut_second _ _ _ _ w.in_range parts.1 (Some (c.in_ok-micro.micro, c.in_ok-micro.phase)) c.in_ok-micro.ensures.cases in
    c.in_err-number-2.ensures.none (micro_of s) (omega (arith, w.in_range.1)) last.0)

pub returns-in_err-number-3-clause-none : goal.returns-in_err-number-3-clause-none
returns-in_err-number-3-clause-none c = rw c.from_residual-in_err-number-3.ensures (λ s is e.
    let w = written s c.args.word.now is (other_text c.args.word.now (codes "end") c.if-eq.ensures) e in
    let parts = cut_first _ _ _ _ w (Some (c.in_ok-tick.tick, c.in_ok-tick.rest)) c.in_ok-tick.ensures.cases in
    let last = cut_second _ _ _ _ w.in_range parts.1 (Some (c.in_ok-micro.micro, c.in_ok-micro.phase)) c.in_ok-micro.ensures.cases in
    c.in_err-number-3.ensures.none (phase_of s) (omega (arith, w.in_range.2)) last.1)

pub returns-clause-written : goal.returns-clause-written
returns-clause-written c =
    let first = split_parts 46 c.args.word.now (Some (c.in_ok-tick.tick, c.in_ok-tick.rest)) c.in_ok-tick.ensures.cases (omega arith) in
    let second = split_parts 46 c.in_ok-tick.rest.now (Some (c.in_ok-micro.micro, c.in_ok-micro.phase)) c.in_ok-micro.ensures.cases (omega arith) in
    some_written c.args.word.now c.in_ok-number.field-0 c.in_ok-number-2.field-0 c.in_ok-number-3.field-0
    (first.0 ∙ ap₂ (λ a b. a ++ 46 ∷ b) c.in_ok-number.ensures.written (second.0 ∙ ap₂ (λ a b. a ++ 46 ∷ b) c.in_ok-number-2.ensures.written c.in_ok-number-3.ensures.written))
    c.stamp_of.result c.stamp_of.ensures.stamp c.stamp_of.ensures.in_range

pub returns-clause-none : goal.returns-clause-none
returns-clause-none c = none_written c.args.word.now c.in_ok-number.field-0 c.in_ok-number-2.field-0 c.in_ok-number-3.field-0
    c.stamp_of.result c.stamp_of.ensures.none (λ s is e.
    let w = written s c.args.word.now is (other_text c.args.word.now (codes "end") c.if-eq.ensures) e in
    let parts = cut_first _ _ _ _ w (Some (c.in_ok-tick.tick, c.in_ok-tick.rest)) c.in_ok-tick.ensures.cases in
    let last = cut_second _ _ _ _ w.in_range parts.1 (Some (c.in_ok-micro.micro, c.in_ok-micro.phase)) c.in_ok-micro.ensures.cases in
    in_range_by w.in_range (search rules) (search rules) (search rules)
    (sym c.in_ok-number.ensures.written ∙ parts.0) (sym c.in_ok-number-2.ensures.written ∙ last.0) (sym c.in_ok-number-3.ensures.written ∙ last.1))

pub returns-in_err-micro-clause-written : goal.returns-in_err-micro-clause-written
returns-in_err-micro-clause-written c = rw c.from_residual-in_err-micro.ensures tt

pub returns-in_err-number-clause-written : goal.returns-in_err-number-clause-written
returns-in_err-number-clause-written c = rw c.from_residual-in_err-number.ensures tt

pub returns-in_err-number-2-clause-written : goal.returns-in_err-number-2-clause-written
returns-in_err-number-2-clause-written c = rw c.from_residual-in_err-number-2.ensures tt

pub returns-in_err-number-3-clause-written : goal.returns-in_err-number-3-clause-written
returns-in_err-number-3-clause-written c = rw c.from_residual-in_err-number-3.ensures tt
