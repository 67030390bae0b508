use Rattle.std.proofs.Common.{◌≡◌, rules, subst, sym}
use Rattle.tw_exchange.proofs.Coming.{back_further, no_further}
use Rattle.tw_exchange.specs.Further.{IsFurther, reached}
use Rattle.tw_exchange.specs.declared.refused.SweepRefused.TheVariants.{OutOfMemory}
use Rattle.tw_workers.proofs.GivenUp.{full_back, if_err}
use Rattle.tw_workers.proofs.running.run_counted.Goals as goal

pub returns-in_default : goal.returns-in_default
returns-in_default g c =
    let m = g.M.Atomic.meaning in
    let e = c.args.executive in
    record {
      run = record {
        outcome = search rules;
        count = search rules;
        network = search rules;
        until = search rules;
        further = back_further c.given_up.result.0 (λ f. f.executive) e e (no_further e.world) c.given_up.ensures.err;
        full = full_back m c.given_up.result.0 OutOfMemory e tt c.given_up.ensures.why (if_err c.given_up.result.0 (λ f. f.executive ≡ e) c.given_up.ensures.err);
        numbers = search rules;
        board = search rules;
      };
    }

pub returns-in-Err : goal.returns-in-Err
returns-in-Err g c =
    let m = g.M.Atomic.meaning in
    let e = c.args.executive in
    let further = subst (λ x. IsFurther (reached e.world) (reached x.world)) (sym c.in-Err.ensures.handed_back.0) (no_further e.world) in
    record {
      run = record {
        outcome = search rules;
        count = search rules;
        network = search rules;
        until = search rules;
        further = back_further c.given_up-in-Err.result.0 (λ f. f.executive) e c.in-Err.executive further c.given_up-in-Err.ensures.err;
        full = full_back m c.given_up-in-Err.result.0 OutOfMemory c.in-Err.executive tt c.given_up-in-Err.ensures.why (if_err c.given_up-in-Err.result.0 (λ f. f.executive ≡ c.in-Err.executive) c.given_up-in-Err.ensures.err);
        numbers = search rules;
        board = search rules;
      };
    }
