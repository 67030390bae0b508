-- The steps of a chain are the next steps of its component.
use Rattle.tw_theory.proofs.Agreeing.{same_step, leads_more}
use Rattle.tw_laws.specs.Chains.{ChainLaw}

pub chain_law : {S : Type 0} → ChainLaw S
chain_law = record {
  next_steps = λ net model k later home is le. leads_more net model k.start home k.start.before later le k.steps k.start.now k.start.messages k.after k.left is.leads is.before;
  same_step = λ net model start now messages pending made home e agrees. same_step net model start home now messages pending made e agrees;
}
