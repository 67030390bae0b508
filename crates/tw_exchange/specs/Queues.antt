-- What is kept up beside an executive, so that no component has to be looked for.
--     IsKept queues w      who is free, by next steps; who has something to post; which mailboxes hold something; the next steps of all
--     AreMarked queues w      the last three
--     LooksSame w w'      the queues of the one are those of the other
--     IsSameBut b xs ys      ys has as many elements as xs, and each but number b is the same
--     IsElsewhereSame b w w'      so are the processes and the mailboxes of w'
--     IsKeptBut b queues w, AreMarkedBut b queues w      all is kept but what is of component b
--     AreMarkedUpTo n queues w      what is of the components below n is
use Rattle.std.specs.Prelude.{◌≡◌, ◌≢◌, ◌<◌, ℕ, not, List, [], ◌∷◌, map, length, Option, Some, slice_get, slice_set}
use Rattle.tw_msgs.specs.declared.message.Item.{Item}
use Rattle.tw_theory.specs.Contents.{Process, next}
use Rattle.tw_theory.specs.Exchange.{is_empty}
use Rattle.tw_theory.specs.Executive.{World}
use Rattle.tw_exchange.specs.Agenda.{mark}
use Rattle.tw_exchange.specs.Exchanged.{IsExact, IsExactBut}
use Rattle.tw_exchange.specs.Sweeping.{is_idle}
use Rattle.tw_exchange.specs.declared.queues.Queues.{Queues}

-- a process of which something is to be posted, and a mailbox that holds something
abbrev pub post_mark : {S : Type 0} → Process S → Option ℕ
post_mark p = mark (not (is_idle p))

abbrev pub box_mark : List Item → Option ℕ
box_mark box = mark (not (is_empty box))

-- the next step of a process
abbrev pub next_mark : {S : Type 0} → Process S → Option ℕ
next_mark p = Some (next p)

pub record AreMarked {S : Type 0} (queues : Queues) (w : World S) : Type 0 where
  pub posting : queues.posting ≡ map post_mark w.processes
  pub delivering : queues.delivering ≡ map box_mark w.mail
  pub standing : queues.standing ≡ map next_mark w.processes

pub record IsKept {S : Type 0} (queues : Queues) (w : World S) : Type 0 where
  pub free : IsExact queues.free w.processes
  pub marks : AreMarked queues w

-- the receivers of these items are marked
abbrev pub marked : List (Option ℕ) → List Item → List (Option ℕ)
marked marks [] = marks
marked marks (i ∷ is) = marked (slice_set marks i.message.to (Some 0)) is

-- seen from the queues two worlds are the same: the same next steps, the same components idle, the same mail
pub record LooksSame {S : Type 0} (w w' : World S) : Type 0 where
  pub nexts : map next w'.processes ≡ map next w.processes
  pub idle : map is_idle w'.processes ≡ map is_idle w.processes
  pub mail : w'.mail ≡ w.mail

-- ---- while something changes

pub record IsSameBut {X : Type 0} (b : ℕ) (xs ys : List X) : Type 0 where
  pub count : length ys ≡ length xs
  pub others : (d : ℕ) → d ≢ b → slice_get ys d ≡ slice_get xs d

pub record IsElsewhereSame {S : Type 0} (b : ℕ) (w w' : World S) : Type 0 where
  pub processes : IsSameBut b w.processes w'.processes
  pub mail : IsSameBut b w.mail w'.mail

pub record AreMarkedBut {S : Type 0} (b : ℕ) (queues : Queues) (w : World S) : Type 0 where
  pub posting : IsSameBut b (map post_mark w.processes) queues.posting
  pub delivering : IsSameBut b (map box_mark w.mail) queues.delivering
  pub standing : IsSameBut b (map next_mark w.processes) queues.standing

pub record IsKeptBut {S : Type 0} (b : ℕ) (queues : Queues) (w : World S) : Type 0 where
  pub free : IsExactBut b queues.free w.processes
  pub marks : AreMarkedBut b queues w

pub record AreMarkedUpTo {S : Type 0} (n : ℕ) (queues : Queues) (w : World S) : Type 0 where
  pub posting_count : length queues.posting ≡ length w.processes
  pub delivering_count : length queues.delivering ≡ length w.mail
  pub standing_count : length queues.standing ≡ length w.processes
  pub posting : (d : ℕ) → d < n → slice_get queues.posting d ≡ slice_get (map post_mark w.processes) d
  pub delivering : (d : ℕ) → d < n → slice_get queues.delivering d ≡ slice_get (map box_mark w.mail) d
  pub standing : (d : ℕ) → d < n → slice_get queues.standing d ≡ slice_get (map next_mark w.processes) d
