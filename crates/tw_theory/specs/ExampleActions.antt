-- What the executive answers to lists of actions on the example networks, computed by hand, and what its processes hold then.
use Rattle.std.specs.Prelude.{ℕ, pos, ◌≡◌, List, [], ◌∷◌, ◌++◌, Some, None, slice_get, Ok, Err}
use Rattle.tw_msgs.specs.declared.message.Item.{Item}
use Rattle.tw_msgs.specs.declared.message.Message.{Message}
use Rattle.tw_msgs.specs.declared.record_kind.RecordKind.TheVariants.{Out, Int, Ext, Con}
use Rattle.tw_vtime.specs.Stamps.{stamp, never}
use Rattle.tw_vtime.specs.declared.limits.Limit.TheVariants.{Microstep}
use Rattle.tw_theory.specs.Bundles.{positive, anti}
use Rattle.tw_theory.specs.Contents.{Process, Cancel, Aggressive, Lazy, Placed, Straggler, Annihilated, Waiting}
use Rattle.tw_theory.specs.ExampleModels.{State}
use Rattle.tw_theory.specs.ExampleNetworks.{no_components, three, slow_three, ring}
use Rattle.tw_theory.specs.ExampleTraces.{out, int, ext, item}
use Rattle.tw_theory.specs.Executive.{World, Action, Step, Post, Deliver, Back, Raise, Harvest, Answer, Stepped, Posted, Received, Undone, Raised, Harvested, NoSuch, BeforeGvt, Committed, OverLimit, answers, replay}
use Rattle.tw_theory.specs.Marks.{marks, rewind}
use Rattle.tw_theory.specs.Network.{Network, input}
use Rattle.tw_theory.specs.Outcomes.{Going, Fault, state}
use Rattle.tw_theory.specs.Soundness.{new_world}

abbrev pub until : ℕ
until = 10

-- the executive at the start, and after actions
abbrev pub start : Cancel → World State
start cancel = new_world three cancel

abbrev pub after : Network State → Cancel → List Action → World State
after net cancel actions = replay net until (new_world net cancel) actions

abbrev pub Answers : Network State → Cancel → List Action → List Answer → Type 0
Answers net cancel actions given = answers net until (new_world net cancel) actions ≡ given

-- component c holds this after the actions
abbrev pub Holds : Network State → Cancel → List Action → ℕ → Process State → Type 0
Holds net cancel actions c p = slice_get (after net cancel actions).processes c ≡ Some p

-- ---- a straggler: the relay has gone ahead with the input of tick 3 when the generator's message of tick 2 comes

-- what the relay sends of the input of tick 3
abbrev pub eight : Message
eight = input 4 2 0 (pos 8)

abbrev pub overtaken : List Action
overtaken = Step 1 ∷ Step 1 ∷ Step 1 ∷ Step 0 ∷ Post 0 ∷ Deliver 1 0 ∷ []

abbrev pub overtaken_answers : List Answer
overtaken_answers =
    Ok (Stepped (stamp 3 0 1) Ext) ∷ Ok (Stepped (stamp 4 0 0) Out) ∷ Ok (Stepped (stamp 4 0 1) Int) ∷ Ok (Stepped (stamp 2 0 0) Out) ∷ Ok (Posted 1) ∷ Ok (Received (Straggler 3)) ∷ []

-- the relay is back at its start, both messages are pending, and what it sent is cancelled
abbrev pub rolled_back : List Item → List Message → Cancel → Process State
rolled_back outgoing owed cancel = record {
  now = record { state = record { numbers = pos 0 ∷ []; left = None }; last = stamp 0 0 0; due = never };
  pending = input 2 1 0 (pos 5) ∷ input 3 1 0 (pos 8) ∷ [];
  history = [];
  waiting = [];
  outgoing = outgoing;
  owed = owed;
  line = stamp 0 0 0;
  cancel = cancel;
}

pub record StragglerOfThree : Type 0 where
  pub answered : Answers three Aggressive (overtaken ++ Raise ∷ []) (overtaken_answers ++ Ok (Raised (stamp 2 0 1)) ∷ [])
  pub held : Holds three Aggressive overtaken 1 (rolled_back (positive eight ∷ anti eight ∷ []) [] Aggressive)

-- ---- an anti-message before its message

-- the tally as it was at the start
abbrev pub fresh_tally : Process State
fresh_tally = record {
  now = record { state = record { numbers = pos 0 ∷ pos 0 ∷ pos 0 ∷ []; left = None }; last = stamp 0 0 0; due = never };
  pending = [];
  history = [];
  waiting = [];
  outgoing = [];
  owed = [];
  line = stamp 0 0 0;
  cancel = Aggressive;
}

abbrev pub anti_first : List Action
anti_first = overtaken ++ Post 1 ∷ Deliver 2 1 ∷ Deliver 2 0 ∷ []

pub record AntiFirst : Type 0 where
  pub answered : Answers three Aggressive anti_first (overtaken_answers ++ Ok (Posted 2) ∷ Ok (Received Waiting) ∷ Ok (Received (Annihilated 0)) ∷ [])
  pub held : Holds three Aggressive anti_first 2 fresh_tally

-- ---- three orders of delivery: message, anti-message and the new messages in any order leave the same

abbrev pub resent : List Action
resent = overtaken ++ Step 1 ∷ Step 1 ∷ Step 1 ∷ Step 1 ∷ Post 1 ∷ []

abbrev pub resent_answers : List Answer
resent_answers = overtaken_answers ++ Ok (Stepped (stamp 2 0 1) Ext) ∷ Ok (Stepped (stamp 3 0 0) Out) ∷ Ok (Stepped (stamp 3 0 1) Con) ∷ Ok (Stepped (stamp 4 0 0) Out) ∷ Ok (Posted 4) ∷ []

-- the tally with the relay's new message of tick 4 pending, and that of tick 3 in its mailbox
abbrev pub tally_after : Process State
tally_after = record fresh_tally { pending = eight ∷ [] }

abbrev pub DeliveryOrder : List Action → List Answer → Type 0
DeliveryOrder deliveries given =
    Answers three Aggressive (resent ++ deliveries) (resent_answers ++ given) × Holds three Aggressive (resent ++ deliveries) 2 tally_after
    × (slice_get (after three Aggressive (resent ++ deliveries)).mail 2 ≡ Some (positive (input 3 2 0 (pos 5)) ∷ []))

pub record ThreeDeliveryOrders : Type 0 where
  pub one : DeliveryOrder (Deliver 2 0 ∷ Deliver 2 0 ∷ Deliver 2 1 ∷ []) (Ok (Received Placed) ∷ Ok (Received (Annihilated 0)) ∷ Ok (Received Placed) ∷ [])
  pub two : DeliveryOrder (Deliver 2 0 ∷ Deliver 2 2 ∷ Deliver 2 0 ∷ []) (Ok (Received Placed) ∷ Ok (Received Placed) ∷ Ok (Received (Annihilated 0)) ∷ [])
  pub three_of_three : DeliveryOrder (Deliver 2 1 ∷ Deliver 2 0 ∷ Deliver 2 1 ∷ []) (Ok (Received Waiting) ∷ Ok (Received (Annihilated 0)) ∷ Ok (Received Placed) ∷ [])

-- ---- with nothing there, the least stamp is the end

abbrev pub NothingThere : Type 0
NothingThere = Answers no_components Aggressive (Raise ∷ Deliver 0 0 ∷ []) (Ok (Raised never) ∷ Err NoSuch ∷ [])

-- ---- gvt sees what is outgoing

abbrev pub raises : List Action
raises = Step 0 ∷ Step 0 ∷ Raise ∷ Post 0 ∷ Deliver 1 0 ∷ Raise ∷ Step 1 ∷ Raise ∷ []

abbrev pub raises_answers : List Answer
raises_answers =
    Ok (Stepped (stamp 2 0 0) Out) ∷ Ok (Stepped (stamp 2 0 1) Int) ∷ Ok (Raised (stamp 2 0 1)) ∷ Ok (Posted 1) ∷ Ok (Received Placed) ∷ Ok (Raised (stamp 2 0 1)) ∷ Ok (Stepped (stamp 2 0 1) Ext) ∷ Ok (Raised (stamp 3 0 0)) ∷ []

abbrev pub GvtSeesOutgoing : Type 0
GvtSeesOutgoing = Answers three Aggressive raises raises_answers

-- ---- steps before gvt are committed and not taken back

abbrev pub commits : List Action
commits = raises ++ Step 1 ∷ Back 1 (stamp 2 0 1) ∷ Back 1 (stamp 3 0 0) ∷ Harvest 0 ∷ Harvest 1 ∷ Harvest 2 ∷ []

abbrev pub five : Message
five = input 3 2 0 (pos 5)

pub record CommitAndCut : Type 0 where
  pub answered : Answers three Aggressive commits (raises_answers ++ Ok (Stepped (stamp 3 0 0) Out) ∷ Err BeforeGvt ∷ Ok (Undone 1) ∷ Ok (Harvested 2) ∷ Ok (Harvested 1) ∷ Ok (Harvested 0) ∷ [])
  pub columns : (after three Aggressive commits).columns ≡ (out 2 0 0 (item 5) ∷ int 2 0 0 (pos 1 ∷ []) ∷ []) ∷ (ext 2 0 1 (item 5) (pos 0 ∷ pos 5 ∷ []) ∷ []) ∷ [] ∷ []
  pub held :
      Holds three Aggressive commits 1
      (record {
        now = record { state = record { numbers = pos 0 ∷ pos 5 ∷ []; left = Some 1 }; last = stamp 2 0 0; due = stamp 3 0 0 };
        pending = input 3 1 0 (pos 8) ∷ [];
        history = [];
        waiting = [];
        outgoing = positive five ∷ anti five ∷ [];
        owed = [];
        line = stamp 3 0 0;
        cancel = Aggressive;
      })

-- ---- marks

-- three steps of the relay, and back to the mark before them
abbrev pub rewound_three : Answer × World State
rewound_three = rewind (after three Aggressive (Step 1 ∷ Step 1 ∷ Step 1 ∷ [])) (marks (start Aggressive).processes)

pub record MarkAndRewind : Type 0 where
  pub undone : rewound_three.0 ≡ Ok (Undone 3)
  pub held : slice_get rewound_three.1.processes 1 ≡ Some (record (rolled_back (positive eight ∷ anti eight ∷ []) [] Aggressive) { pending = input 3 1 0 (pos 8) ∷ [] })
  -- gvt has passed a step made since the mark
  pub refused : (rewind (after three Aggressive (Step 0 ∷ Raise ∷ [])) (marks (start Aggressive).processes)).0 ≡ Err Committed

-- ---- lazy cancellation: what is sent again is neither cancelled nor sent twice

pub record LazyMatch : Type 0 where
  pub held : Holds three Lazy overtaken 1 (rolled_back (positive eight ∷ []) (eight ∷ []) Lazy)
  pub answered :
      Answers three Lazy (resent ++ Deliver 2 0 ∷ Deliver 2 0 ∷ [])
      (overtaken_answers ++ Ok (Stepped (stamp 2 0 1) Ext) ∷ Ok (Stepped (stamp 3 0 0) Out) ∷ Ok (Stepped (stamp 3 0 1) Con) ∷ Ok (Stepped (stamp 4 0 0) Out) ∷ Ok (Posted 2) ∷ Ok (Received Placed) ∷ Ok (Received Placed) ∷ [])

-- what is not sent again is cancelled at the next post
abbrev pub LazyAnti : Type 0
LazyAnti =
    Answers slow_three Lazy
    (Step 1 ∷ Step 1 ∷ Step 0 ∷ Post 0 ∷ Deliver 1 0 ∷ Step 1 ∷ Step 1 ∷ Step 1 ∷ Step 1 ∷ Raise ∷ Post 1 ∷ Deliver 2 0 ∷ Deliver 2 2 ∷ [])
    (
    Ok (Stepped (stamp 4 0 1) Ext) ∷ Ok (Stepped (stamp 6 0 0) Out) ∷ Ok (Stepped (stamp 3 0 0) Out) ∷ Ok (Posted 1) ∷ Ok (Received (Straggler 2))
    ∷ Ok (Stepped (stamp 3 0 1) Ext) ∷ Ok (Stepped (stamp 4 0 1) Ext) ∷ Ok (Stepped (stamp 5 0 0) Out) ∷ Ok (Stepped (stamp 5 0 1) Int) ∷ Ok (Raised (stamp 3 0 1)) ∷ Ok (Posted 4) ∷ Ok (Received Placed) ∷ Ok (Received (Annihilated 0)) ∷ []
    )

-- ---- a limit met at gvt: two relays without delay, whose greatest microstep is 3

abbrev pub to_the_limit : List Action
to_the_limit =
    Step 0 ∷ Step 0 ∷ Step 0 ∷ Post 0 ∷ Deliver 1 0 ∷ Step 1 ∷ Step 1 ∷ Step 1 ∷ Post 1 ∷ Deliver 0 0
    ∷ Step 0 ∷ Step 0 ∷ Step 0 ∷ Post 0 ∷ Deliver 1 0 ∷ []

abbrev pub to_the_limit_answers : List Answer
to_the_limit_answers =
    Ok (Stepped (stamp 3 0 1) Ext) ∷ Ok (Stepped (stamp 3 1 0) Out) ∷ Ok (Stepped (stamp 3 1 1) Int) ∷ Ok (Posted 1) ∷ Ok (Received Placed)
    ∷ Ok (Stepped (stamp 3 1 1) Ext) ∷ Ok (Stepped (stamp 3 2 0) Out) ∷ Ok (Stepped (stamp 3 2 1) Int) ∷ Ok (Posted 1) ∷ Ok (Received Placed)
    ∷ Ok (Stepped (stamp 3 2 1) Ext) ∷ Ok (Stepped (stamp 3 3 0) Out) ∷ Ok (Stepped (stamp 3 3 1) Int) ∷ Ok (Posted 1) ∷ Ok (Received Placed) ∷ []

pub record FaultAtGvt : Type 0 where
  -- the step that meets it is refused, again and again, and is the run's fault once gvt has come to it
  pub answered : Answers ring Aggressive (to_the_limit ++ Step 1 ∷ Raise ∷ Step 1 ∷ []) (to_the_limit_answers ++ Err (OverLimit Microstep) ∷ Ok (Raised (stamp 3 3 1)) ∷ Err (OverLimit Microstep) ∷ [])
  pub going : state ring until (after ring Aggressive to_the_limit) ≡ Going
  pub shown : state ring until (after ring Aggressive (to_the_limit ++ Raise ∷ [])) ≡ Fault (record { component = 1; stamp = stamp 3 3 1; limit = Microstep })
