use Rattle.tw_cli.proofs.setting.team_in.Goals as goal

pub returns-in_err-cancel-clause-none : goal.returns-in_err-cancel-clause-none
returns-in_err-cancel-clause-none c = rw c.from_residual.ensures (λ by is. c.in_err-cancel.ensures.none by.cancel is.0)

pub returns-in_err-workers-clause-none : goal.returns-in_err-workers-clause-none
returns-in_err-workers-clause-none c = rw c.from_residual-in_err-workers.ensures (λ by is. c.in_err-workers.ensures.none by.setting.workers is.1)

pub returns-in_err-burst-clause-none : goal.returns-in_err-burst-clause-none
returns-in_err-burst-clause-none c = rw c.from_residual-in_err-burst.ensures (λ by is. c.in_err-burst.ensures.none by.setting.burst is.2)

pub returns-in_err-window-clause-none : goal.returns-in_err-window-clause-none
returns-in_err-window-clause-none c = rw c.from_residual-in_err-window.ensures (λ by is. c.in_err-window.ensures.none by.setting.window is.3)
