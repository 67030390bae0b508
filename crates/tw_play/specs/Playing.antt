-- An executive that is driven by hand.
--     Played M S      an executive, and the mark that is kept
--     IsObeyed meaning command p answer p'      what a command makes of it, and is answered
--     response_text answer      what is written for it
--     MayWant command      a command that takes memory
--     ArePlayed meaning commands p text p'      the same of commands one after another, with all that is written
--     AreDrawn meaning g n p text p'      the same of the actions that a generator gives
use Rattle.std.specs.Prelude.{ℕ, suc, ◌≡◌, ◌≢◌, ◌<◌, ◌≤◌, ◌⊎◌, ◌++◌, List, [], ◌∷◌, length, min, Option, Some, None, IfSome, Result, Ok, Err, string_bytes, ⊤}
use Rattle.rand_pcg.specs.Lcg.{Lcg}
use Rattle.tw_atomic.specs.Atomic.{Meaning}
use Rattle.tw_exec.specs.Actions.{reason}
use Rattle.tw_exec.specs.Rewinding.{greatest_count}
use Rattle.tw_exec.specs.Running.{AreRefusals, IsActed, Running}
use Rattle.tw_actions.specs.declared.action.Action.{Action}
use Rattle.tw_actions.specs.declared.action.Done as done
use Rattle.tw_actions.specs.declared.action.Done.TheVariants.{Undone}
use Rattle.tw_exec.specs.declared.refused.Refused as refused
use Rattle.tw_exec.specs.declared.refused.Refused.TheVariants.{OutOfMemory, NoSuch}
use Rattle.tw_inspect.specs.Replies.{reply_text, replied}
use Rattle.tw_inspect.specs.Reports.{describe_text, report_text}
use Rattle.tw_inspect.specs.declared.replies.Reply.{Reply as Replied}
use Rattle.tw_inspect.specs.declared.replies.Reply.TheVariants.{Marked, Refused}
use Rattle.tw_play.specs.declared.response.Response.{Response}
use Rattle.tw_play.specs.declared.response.Response.TheVariants.{Reply, Text}
use Rattle.tw_seeded.specs.Schedules.{action_drawn, after as next_of, drawn}
use Rattle.tw_script.specs.declared.command.Command.{Command}
use Rattle.tw_script.specs.declared.command.Command.TheVariants.{Act, Mark, Rewind, Show, Describe}
use Rattle.tw_theory.specs.Marks.{marks, rewind, rewound_steps}
use Rattle.tw_theory.specs.Memory.{TakesMemory}

pub record Played (M S : Type 0) : Type 0 where
  pub executive : Running M S
  -- the stamps to which a rewind goes back
  pub mark : Option (List ℕ)

-- no mark is kept
abbrev pub begun : {M S : Type 0} → Running M S → Played M S
begun e = record { executive = e; mark = None }

-- ---- an action

-- what comes of it, and what it is refused for, as the executive says it
abbrev pub IsDone : {M S : Type 0} → (M → Meaning S) → Action → Running M S → Result done.Done refused.Refused → Running M S → Type 0
IsDone meaning action e result e' = IsActed meaning action e result e' × AreRefusals meaning action e result

-- ---- a rewind

-- taken back to these stamps, as the theory's rewind does; the count is at most the greatest that is counted
abbrev pub IsRewound : {M S : Type 0} → Running M S → List ℕ → Result done.Done refused.Refused → Running M S → Type 0
IsRewound e ss (Ok came) e' =
    (rewind e.world ss ≡ (Ok (Undone (rewound_steps ss e.world.processes)), e'.world)) × (came ≡ Undone (min (rewound_steps ss e.world.processes) greatest_count)) × (e' ≡ record e { world = e'.world })
IsRewound e ss (Err why) e' = IfSome (reason why) (λ r. (rewind e.world ss).0 ≡ Err r) × (reason why ≢ None) × (e' ≡ e)

-- without a mark there is nothing to go back to (15)
abbrev pub IsRewoundTo : {M S : Type 0} → Option (List ℕ) → Running M S → Result done.Done refused.Refused → Running M S → Type 0
IsRewoundTo None e result e' = (result ≡ Err NoSuch) × (e' ≡ e)
IsRewoundTo (Some ss) e result e' = IsRewound e ss result e'

-- ---- a mark

-- where every component stands is kept, or memory wanting (4)
abbrev pub IsMarked : {M S : Type 0} → Played M S → Replied → Played M S → Type 0
IsMarked p reply p' = ((reply ≡ Marked) × (p' ≡ record p { mark = Some (marks p.executive.world.processes) })) ⊎ ((reply ≡ Refused OutOfMemory) × (p' ≡ p))

-- ---- a text

-- what is refused for want of memory (4)
abbrev pub wants_memory : Response
wants_memory = Reply (Refused OutOfMemory)

-- a text, or want of memory
abbrev pub IsShown : List ℕ → Response → Type 0
IsShown text (Text shown) = string_bytes shown ≡ text
IsShown text (Reply reply) = Reply reply ≡ wants_memory

-- of a component that is there; else it is refused (15)
abbrev pub IsDescribed : {M S : Type 0} → (M → Meaning S) → Running M S → ℕ → Response → Type 0
IsDescribed meaning e c answer = ((length e.network.models ≤ c) × (answer ≡ Reply (Refused NoSuch))) ⊎ ((c < length e.network.models) × IsShown (describe_text meaning e c) answer)

-- ---- any command

abbrev pub IsObeyed : {M S : Type 0} → (M → Meaning S) → Command → Played M S → Response → Played M S → Type 0
IsObeyed meaning (Act action) p answer p' = (result : Result done.Done refused.Refused) × (answer ≡ Reply (replied result)) × IsDone meaning action p.executive result p'.executive × (p'.mark ≡ p.mark)
IsObeyed meaning Mark p answer p' = (reply : Replied) × (answer ≡ Reply reply) × IsMarked p reply p'
IsObeyed meaning Rewind p answer p' = (result : Result done.Done refused.Refused) × (answer ≡ Reply (replied result)) × IsRewoundTo p.mark p.executive result p'.executive × (p'.mark ≡ p.mark)
IsObeyed meaning Show p answer p' = IsShown (report_text meaning p.executive) answer × (p' ≡ p)
IsObeyed meaning (Describe c) p answer p' = IsDescribed meaning p.executive c answer × (p' ≡ p)

-- it takes memory, so that it may be refused for want of it; a cut, a raise and a rewind take none
abbrev pub MayWant : Command → Type 0
MayWant (Act action) = TakesMemory action
MayWant Mark = ⊤
MayWant Rewind = ⊥
MayWant Show = ⊤
MayWant (Describe c) = ⊤

-- ---- what is written

abbrev pub response_text : Response → List ℕ
response_text (Reply reply) = reply_text reply
response_text (Text shown) = string_bytes shown

-- ---- many commands

-- each is obeyed, and none wants memory
pub data ArePlayed {M S : Type 0} (meaning : M → Meaning S) : List Command → Played M S → List ℕ → Played M S → Type 0 where
  nothing : (p : Played M S) → ArePlayed meaning [] p [] p
  obeyed : (command : Command) (commands : List Command) (p p' p'' : Played M S) (answer : Response) (text : List ℕ) → IsObeyed meaning command p answer p' → answer ≢ wants_memory
      → ArePlayed meaning commands p' text p'' → ArePlayed meaning (command ∷ commands) p (response_text answer ++ text) p''

-- the actions that a generator gives, at most n, and none where there are no components
pub data AreDrawn {M S : Type 0} (meaning : M → Meaning S) : Lcg → ℕ → Played M S → List ℕ → Played M S → Type 0 where
  ended : (g : Lcg) (p : Played M S) → AreDrawn meaning g 0 p [] p
  idle : (g : Lcg) (n : ℕ) (p : Played M S) → action_drawn p.executive (drawn g) ≡ None → AreDrawn meaning g n p [] p
  taken : (g : Lcg) (n : ℕ) (p p' p'' : Played M S) (action : Action) (answer : Response) (text : List ℕ) → action_drawn p.executive (drawn g) ≡ Some action → IsObeyed meaning (Act action) p answer p' → answer ≢ wants_memory
      → AreDrawn meaning (next_of g) n p' text p'' → AreDrawn meaning g (suc n) p (response_text answer ++ text) p''
