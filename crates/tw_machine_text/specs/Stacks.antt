-- What a call of the reader leaves on its stack, and what it answers.
--     frames_of stack      the frames, the innermost first
--     LeadsTo stack result said      the call gives the state that a definition gives, unless memory ran out
--     Finishes stack result said      the same of a call that answers a block
use Rattle.std.specs.Prelude.{List, Option, Result}
use Rattle.tw_machine_text.specs.declared.fault.Fault.{Fault}
use Rattle.tw_machine_text.specs.declared.frames.State.{State}
use Rattle.tw_machine_text.specs.declared.stack.Stack.{Stack}
use Rattle.tw_machine_text.specs.declared.tree.Block.{Block}
use Rattle.tw_machine_text.specs.Machine as m
use Rattle.tw_machine_text.specs.Tree as t
use Rattle.tw_machine_text.specs.Views.{Gives, body, held, seen}

abbrev pub frames_of : Stack → List m.Frame
frames_of stack = held stack.frames.items

abbrev pub LeadsTo : Stack → Result State Fault → Option m.State → Type 0
LeadsTo stack result said = Gives (seen (frames_of stack)) result said

abbrev pub Finishes : Stack → Result Block Fault → Option (List m.Frame × t.Block) → Type 0
Finishes stack result said = Gives (λ block. (frames_of stack, body block)) result said
