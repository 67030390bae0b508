-- A command that is refused for want of memory takes memory.
use Rattle.std.proofs.Common.{◌≡◌, ◌∙◌, ℕ, List, ap, sym}
use Rattle.std.specs.Prelude.{IfErr, Option, Some, None, Result, Ok, Err}
use Rattle.tw_atomic.specs.Atomic.{Meaning}
use Rattle.tw_actions.specs.declared.action.Done as done
use Rattle.tw_exec.specs.Actions.{reason}
use Rattle.tw_exec.specs.Running.{Running}
use Rattle.tw_exec.specs.declared.refused.Refused as refused
use Rattle.tw_exec.specs.declared.refused.Refused.TheVariants.{OutOfMemory, NoSuch}
use Rattle.tw_inspect.specs.Replies.{replied}
use Rattle.tw_inspect.specs.declared.replies.Reply.TheVariants.{Refused}
use Rattle.tw_play.specs.Playing.{IsObeyed, IsRewoundTo, MayWant, Played, wants_memory}
use Rattle.tw_play.specs.Telling.{HasTold, IsStopped}
use Rattle.tw_play.specs.declared.response.Response.{Response}
use Rattle.tw_play.specs.declared.response.Response.TheVariants.{Reply}
use Rattle.tw_script.specs.declared.command.Command.{Command}
use Rattle.tw_script.specs.declared.command.Command.TheVariants.{Act, Mark, Rewind, Show, Describe}

-- the theory knows nothing of memory
no_reason : (result : Result done.Done refused.Refused) → Reply (replied result) ≡ wants_memory → IfErr result (λ why. reason why ≡ None)
no_reason (Ok came) is = tt
no_reason (Err why) is = let same : why ≡ OutOfMemory = cc is in ap reason same

not_done : (came : done.Done) → Reply (replied (Ok came)) ≡ wants_memory → ⊥
not_done came is = cc is

memory_of : (result : Result done.Done refused.Refused) (P : Type 0) → Reply (replied result) ≡ wants_memory → IfErr result (λ why. reason why ≡ None → P) → P
memory_of (Ok came) P is takes = absurd (not_done came is)
memory_of (Err why) P is takes = takes (no_reason (Err why) is)

not_no_such : Reply (Refused NoSuch) ≡ wants_memory → ⊥
not_no_such is = cc is

-- a rewind takes none
rewound : {M S : Type 0} (mark : Option (List ℕ)) (e e' : Running M S) (result : Result done.Done refused.Refused) → IsRewoundTo mark e result e' → Reply (replied result) ≡ wants_memory → ⊥
rewound None e e' result came is = not_no_such (sym (ap (λ r. Reply (replied r)) came.0) ∙ is)
rewound (Some ss) e e' (Ok done) came is = not_done done is
rewound (Some ss) e e' (Err why) came is = came.1 (no_reason (Err why) is)

module _ {M S : Type 0} (meaning : M → Meaning S) where
  pub may_want : (command : Command) (p p' : Played M S) (answer : Response) → IsObeyed meaning command p answer p' → answer ≡ wants_memory → MayWant command
  may_want (Act action) p p' answer o is = memory_of o.0 (MayWant (Act action)) (sym o.1 ∙ is) o.2.1.memory
  may_want Mark p p' answer o is = tt
  may_want Rewind p p' answer o is = rewound p.mark p.executive p'.executive o.0 o.2 (sym o.1 ∙ is)
  may_want Show p p' answer o is = tt
  may_want (Describe c) p p' answer o is = tt

module _ {M S : Type 0} {meaning : M → Meaning S} where
  -- the play stops at a command that is obeyed, and of whose answer this is told
  pub stopped_at : {old new : Option (List ℕ)} {text : List ℕ} (command : Command) (p p' : Played M S) (answer : Response) → IsObeyed meaning command p answer p'
      → HasTold answer old new text → IsStopped meaning command p old new text
  stopped_at command p p' answer is told = record {
    answer = answer;
    left = p';
    obeyed = is;
    cause = may_want meaning command p p' answer is;
    written = told;
  }
