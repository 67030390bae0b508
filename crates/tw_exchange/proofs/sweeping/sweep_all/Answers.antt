use Rattle.std.proofs.Common.{◌≡◌, ◌∷◌, length, ap, subst, sym, refl, arith}
use Rattle.std.proofs.lemmas.Result.{err_from_is_err_and}
use Rattle.tw_atomic.specs.Atomic.{Meaning}
use Rattle.tw_exec.specs.Running.{Running}
use Rattle.tw_network.specs.Contents.{network_of}
use Rattle.tw_theory.specs.Exchange.{harvests}
use Rattle.tw_theory.specs.Executive.{Raise}
use Rattle.tw_exchange.proofs.Following.{acts_on_none}
use Rattle.tw_exchange.proofs.Looking.{kept_looks, raise_looks}
use Rattle.tw_exchange.proofs.Refusing.{raise_taken}
use Rattle.tw_exchange.proofs.PassByPass.{process_count}
use Rattle.tw_exchange.proofs.UnderWay.{begun, cut, cut_rest, cut_within, done_rest, joined, same_network, stepped}
use Rattle.tw_exchange.specs.Queues.{IsKept, LooksSame}
use Rattle.tw_exchange.specs.Sweeping.{IsUnderWay, passes_of, replayed, sweep_of}
use Rattle.tw_exchange.proofs.sweeping.sweep_all.Given.{Over}
use Rattle.tw_exchange.proofs.sweeping.sweep_all.Goals.{In_ok-take}
use Rattle.tw_exchange.proofs.sweeping.sweep_all.Goals as goal

pub returns-in_err-settle_all-clause-cut_short : goal.returns-in_err-settle_all-clause-cut_short
returns-in_err-settle_all-clause-cut_short g c =
    let m = g.M.Atomic.meaning in
    let e = c.args.executive.now in
    let p = err_from_is_err_and c.from_residual.result c.from_residual.ensures.1 in
    rw (p.1, p.2) (cut_within m (passes_of m e) (Raise ∷ harvests 0 (length e.world.processes)) c.in_err-settle_all.field-0.0 (begun m (sweep_of m e) e) c.in_err-settle_all.ensures.cut_short)

-- nothing is in transit
settled : {M S : Type 0} (meaning : M → Meaning S) (e now : Running M S) → now ≡ replayed meaning (passes_of meaning e) e → IsUnderWay meaning (sweep_of meaning e) (Raise ∷ harvests 0 (length e.world.processes)) e now
settled meaning e now is = joined meaning (passes_of meaning e) (Raise ∷ harvests 0 (length e.world.processes)) (begun meaning (sweep_of meaning e) e) is

pub returns-in_err-take-clause-cut_short : goal.returns-in_err-take-clause-cut_short
returns-in_err-take-clause-cut_short g c =
    let m = g.M.Atomic.meaning in
    let rest = harvests 0 (length c.args.executive.now.world.processes) in
    let u = settled m c.args.executive.now c.settle_all.new.executive c.in_ok-settle_all.ensures.settled in
    let p = err_from_is_err_and c.from_residual-in_err-take.result c.from_residual-in_err-take.ensures.1 in
    rw (p.1, p.2) (cut m Raise rest c.in_err-take.field-0.0 (c.in_err-take.ensures.memory (raise_taken m c.settle_all.new.executive)) u c.in_err-take.ensures.stays c.in_err-take.ensures.wanting)

-- global virtual time is raised
raised : (g : Over) (c : In_ok-take g) → IsUnderWay g.M.Atomic.meaning (sweep_of g.M.Atomic.meaning c.args.executive.now) (harvests 0 (length c.take.new.executive.world.processes)) c.args.executive.now c.take.new.executive
raised g c =
    let m = g.M.Atomic.meaning in
    let e = c.args.executive.now in
    let now = c.settle_all.new.executive in
    let rest = harvests 0 (length e.world.processes) in
    let u = settled m e now c.in_ok-settle_all.ensures.settled in
    let done = c.in_ok-take.ensures.done in
    let same : length e.world.processes ≡ length c.take.new.executive.world.processes = omega (
      arith,
      process_count m e c.facts.ensures,
      process_count m now c.facts-2.ensures,
      ap (λ n. length n.models) (same_network m u),
      ap (λ x. length x.world.processes) done,
      ap length (acts_on_none (network_of m now.network) now.until now.world Raise refl),
    ) in
    subst (λ k. IsUnderWay m (sweep_of m e) (harvests 0 k) e c.take.new.executive) same (stepped m Raise rest u done)

pub returns-in_err-harvest_all-clause-cut_short : goal.returns-in_err-harvest_all-clause-cut_short
returns-in_err-harvest_all-clause-cut_short g c =
    let p = err_from_is_err_and c.from_residual-in_err-harvest_all.result c.from_residual-in_err-harvest_all.ensures.1 in
    rw (p.1, p.2) (cut_rest g.M.Atomic.meaning (harvests 0 (length c.take.new.executive.world.processes)) c.in_err-harvest_all.field-0.0 (raised g (goal.at.returns-in_err-harvest_all-clause-cut_short g c).In_ok-take) c.in_err-harvest_all.ensures.cut_short)

pub returns-clause-swept : goal.returns-clause-swept
returns-clause-swept g c = done_rest g.M.Atomic.meaning (harvests 0 (length c.take.new.executive.world.processes)) (raised g (goal.at.returns-clause-swept g c).In_ok-take) c.in_ok-harvest_all.ensures.done

-- once it is raised the queues see the same
raised_kept : (g : Over) (c : In_ok-take g) → IsKept c.settle_all.new.queues c.take.new.executive.world
raised_kept g c =
    let m = g.M.Atomic.meaning in
    let now = c.settle_all.new.executive in
    let looks = subst (λ x. LooksSame now.world x.world) (sym c.in_ok-take.ensures.done) (raise_looks (network_of m now.network) now.until now.world) in
    kept_looks c.settle_all.new.queues now.world c.take.new.executive.world c.settle_all.ensures.kept looks

pub returns-in_err-take-clause-kept : goal.returns-in_err-take-clause-kept
returns-in_err-take-clause-kept g c = subst (λ x. IsKept c.settle_all.new.queues x.world) (sym c.in_err-take.ensures.stays) c.settle_all.ensures.kept

pub returns-in_err-harvest_all-clause-kept : goal.returns-in_err-harvest_all-clause-kept
returns-in_err-harvest_all-clause-kept g c =
    kept_looks c.settle_all.new.queues c.take.new.executive.world c.harvest_all.new.executive.world (raised_kept g (goal.at.returns-in_err-harvest_all-clause-kept g c).In_ok-take) c.harvest_all.ensures.looks

pub returns-clause-kept : goal.returns-clause-kept
returns-clause-kept g c =
    kept_looks c.settle_all.new.queues c.take.new.executive.world c.harvest_all.new.executive.world (raised_kept g (goal.at.returns-clause-kept g c).In_ok-take) c.harvest_all.ensures.looks
