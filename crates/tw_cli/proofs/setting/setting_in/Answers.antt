use Rattle.tw_cli.proofs.setting.setting_in.Goals as goal

pub returns-in_err-workers-clause-none : goal.returns-in_err-workers-clause-none
returns-in_err-workers-clause-none c = rw c.from_residual.ensures (λ s is. c.in_err-workers.ensures.none s.workers is.0)

pub returns-in_err-burst-clause-none : goal.returns-in_err-burst-clause-none
returns-in_err-burst-clause-none c = rw c.from_residual-in_err-burst.ensures (λ s is. c.in_err-burst.ensures.none s.burst is.1)

pub returns-in_err-window-clause-none : goal.returns-in_err-window-clause-none
returns-in_err-window-clause-none c = rw c.from_residual-in_err-window.ensures (λ s is. c.in_err-window.ensures.none s.window is.2)
