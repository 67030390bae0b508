-- Nodes whose stamps fall: parts of them, what is joined to them, and which of them are overdue.
use Rattle.std.proofs.Common.{◌≡◌, ℕ, zero, suc, ◌+◌, ◌-◌, ◌<◌, ◌≤◌, false, List, [], ◌∷◌, ◌++◌, length, map, reverse, take, drop, Option, Some, None, IfSome, is_some, refl, sym, ap, subst, ◌∙◌, inl, inr, arith, append-nil, append_assoc, length-append}
use Rattle.std.specs.Prelude.{IsTrue}
use Rattle.std.proofs.lemmas.Bool.{cond-true, cond-false, ltb-false, le-ltb}
use Rattle.tw_pool.specs.Lists.{list_at, item_of, first_of, next_of, backward, AreDistinct}
use Rattle.tw_pool.proofs.ListsByIndex.{item_is, prev_is, last_of, last_none, backward_at}
use Rattle.tw_msgs.specs.declared.message.Item.{Item}
use Rattle.tw_theory.specs.Bundles.{least_stamp}
use Rattle.tw_vtime.specs.Stamps.{is_overdue, never, IsStamp}
use Rattle.tw_lists.specs.Falling.{AreUpTo, IsFalling, AreOverdue, IsLastTimely}
use Rattle.tw_lists.specs.Lists.{Nodes, item_at}
use Rattle.tw_lists.specs.Nodes.{overdue_nodes, not_overdue_nodes}

-- no stamp is below s
abbrev pub AreFrom : ℕ → Nodes → Type 0
AreFrom s [] = Unit {0}
AreFrom s (node ∷ nodes) = (s ≤ node.1.message.stamp) × AreFrom s nodes

-- ---- Parts of them

up_to_without : (s : ℕ) (a b : Nodes) (node : ℕ × Item) → AreUpTo s (a ++ node ∷ b) → AreUpTo s (a ++ b)
up_to_without s [] b node up = up.1
up_to_without s (x ∷ a) b node up = (up.0, up_to_without s a b node up.1)

pub falling_without : (a b : Nodes) (node : ℕ × Item) → IsFalling (a ++ node ∷ b) → IsFalling (a ++ b)
falling_without [] b node falls = falls.1
falling_without (x ∷ a) b node falls = (up_to_without x.1.message.stamp a b node falls.0, falling_without a b node falls.1)

up_to_take : (s n : ℕ) (l : Nodes) → AreUpTo s l → AreUpTo s (take n l)
up_to_take s zero l up = tt
up_to_take s (suc n) [] up = tt
up_to_take s (suc n) (x ∷ l) up = (up.0, up_to_take s n l up.1)

pub falling_take : (n : ℕ) (l : Nodes) → IsFalling l → IsFalling (take n l)
falling_take zero l falls = tt
falling_take (suc n) [] falls = tt
falling_take (suc n) (x ∷ l) falls = (up_to_take x.1.message.stamp n l falls.0, falling_take n l falls.1)

falling_front : (a b : Nodes) → IsFalling (a ++ b) → IsFalling a
falling_front [] b falls = tt
falling_front (x ∷ a) b falls = (front x.1.message.stamp a falls.0, falling_front a b falls.1)
  where
    front : (s : ℕ) (l : Nodes) → AreUpTo s (l ++ b) → AreUpTo s l
    front s [] up = tt
    front s (y ∷ l) up = (up.0, front s l up.1)

-- ---- What is joined to them

pub up_to_more : (s t : ℕ) (l : Nodes) → s ≤ t → AreUpTo s l → AreUpTo t l
up_to_more s t [] more up = tt
up_to_more s t (x ∷ l) more up = (omega (arith, more, up.0), up_to_more s t l more up.1)

up_to_joined : (s : ℕ) (a b : Nodes) → AreUpTo s a → AreUpTo s b → AreUpTo s (a ++ b)
up_to_joined s [] b up rest = rest
up_to_joined s (x ∷ a) b up rest = (up.0, up_to_joined s a b up.1 rest)

pub falling_joined : (a b : Nodes) (top : ℕ) → IsFalling a → IsFalling b → AreFrom top a → AreUpTo top b → IsFalling (a ++ b)
falling_joined [] b top falls rest from up = rest
falling_joined (x ∷ a) b top falls rest from up =
    (up_to_joined x.1.message.stamp a b falls.0 (up_to_more top x.1.message.stamp b from.0 up), falling_joined a b top falls.1 rest from.1 up)

-- ---- Which of them are overdue

abbrev AreTimely : ℕ → Nodes → Type 0
AreTimely s [] = Unit {0}
AreTimely s (node ∷ nodes) = (is_overdue node.1.message.stamp s ≡ false) × AreTimely s nodes

-- where a stamp is not overdue, no greater one is
timely_from : (s stamp more : ℕ) → stamp ≤ more → is_overdue stamp s ≡ false → is_overdue more s ≡ false
timely_from s stamp more up timely = le-ltb (more - 1) s (let from = ltb-false (stamp - 1) s timely in omega (arith, up, from))

all_timely : (s : ℕ) (l : Nodes) → IsFalling l → IsLastTimely s l → AreTimely s l
all_timely s [] falls last = tt
all_timely s (x ∷ []) falls last = (last, tt)
all_timely s (x ∷ y ∷ l) falls last =
    let rest = all_timely s (y ∷ l) falls.1 last in
    (timely_from s y.1.message.stamp x.1.message.stamp falls.0.0 rest.0, rest)

overdue_behind : (s : ℕ) (a b : Nodes) → AreTimely s a → overdue_nodes s (a ++ b) ≡ overdue_nodes s b
overdue_behind s [] b timely = refl
overdue_behind s (x ∷ a) b timely = cond-false (is_overdue x.1.message.stamp s) _ _ timely.0 ∙ overdue_behind s a b timely.1

not_overdue_front : (s : ℕ) (a b : Nodes) → AreTimely s a → not_overdue_nodes s (a ++ b) ≡ a ++ not_overdue_nodes s b
not_overdue_front s [] b timely = refl
not_overdue_front s (x ∷ a) b timely = cond-false (is_overdue x.1.message.stamp s) _ _ timely.0 ∙ ap (λ l. x ∷ l) (not_overdue_front s a b timely.1)

all_overdue : (s : ℕ) (l : Nodes) → AreOverdue s l → overdue_nodes s l ≡ l
all_overdue s [] late = refl
all_overdue s (x ∷ l) late = cond-true (is_overdue x.1.message.stamp s) _ _ late.0 ∙ ap (λ r. x ∷ r) (all_overdue s l late.1)

none_left : (s : ℕ) (l : Nodes) → AreOverdue s l → not_overdue_nodes s l ≡ []
none_left s [] late = refl
none_left s (x ∷ l) late = cond-true (is_overdue x.1.message.stamp s) _ _ late.0 ∙ none_left s l late.1

pub overdue_split : (s : ℕ) (a b : Nodes) → IsFalling (a ++ b) → IsLastTimely s a → AreOverdue s b → (overdue_nodes s (a ++ b) ≡ b) × (not_overdue_nodes s (a ++ b) ≡ a)
overdue_split s a b falls last late =
    let timely = all_timely s a (falling_front a b falls) last in (
      overdue_behind s a b timely ∙ all_overdue s b late,
      not_overdue_front s a b timely ∙ ap (λ r. a ++ r) (none_left s b late) ∙ append-nil a,
    )

-- ---- The last of them has the least stamp

last_up_to : (s : ℕ) (a : Nodes) (node : ℕ × Item) → AreUpTo s (a ++ node ∷ []) → node.1.message.stamp ≤ s
last_up_to s [] node up = up.0
last_up_to s (x ∷ a) node up = last_up_to s a node up.1

pub from_last : (top : ℕ) (a : Nodes) (node : ℕ × Item) → IsFalling (a ++ node ∷ []) → top ≤ node.1.message.stamp → AreFrom top (a ++ node ∷ [])
from_last top [] node falls below = (below, tt)
from_last top (x ∷ a) node falls below = (let last = last_up_to x.1.message.stamp a node falls.0 in omega (arith, last, below), from_last top a node falls.1 below)

pub least_last : (a : Nodes) (node : ℕ × Item) → IsFalling (a ++ node ∷ []) → node.1.message.stamp ≤ never → node.1.message.stamp ≡ least_stamp (map item_at (a ++ node ∷ []))
least_last [] node falls within = omega (arith, within)
least_last (x ∷ a) node falls within =
    let last = last_up_to x.1.message.stamp a node falls.0 in
    let rest = least_last a node falls.1 within in
    omega (arith, last, rest)

pub within_never : (s : ℕ) → IsStamp s → s ≤ never
within_never s (inl low) = omega (arith, low)
within_never s (inr end) = omega (arith, end)

-- ---- They are read from the end on

-- the last k nodes of a list were read, and they fall from a stamp on; the one before them comes next
pub record FallsBack (l : Nodes) (k top : ℕ) (at : Option ℕ) : Type 0 where
  pub front : Nodes
  pub walked : Nodes
  pub split : l ≡ front ++ walked
  pub count : length walked ≡ k
  pub at_is : at ≡ first_of (reverse front)
  pub falls : IsFalling walked
  pub up : AreUpTo top walked

pub back_begun : (lists : List Nodes) (number top : ℕ) (at : Option ℕ) → at ≡ first_of (list_at (backward lists) number) → FallsBack (list_at lists number) 0 top at
back_begun lists number top at is =
    record {
      front = list_at lists number;
      walked = [];
      split = sym (append-nil (list_at lists number));
      count = refl;
      at_is = is ∙ ap first_of (backward_at lists number);
      falls = tt;
      up = tt;
    }

-- the next one
pub record BackStep (lists : List Nodes) (number k top index : ℕ) : Type 0 where
  pub item : Item
  pub got : item_of index lists ≡ Some item
  pub on : top ≤ item.message.stamp → FallsBack (list_at lists number) (k + 1) item.message.stamp (next_of index (backward lists))

pub back_step : (lists : List Nodes) (number k top index : ℕ) → AreDistinct lists → number < length lists → FallsBack (list_at lists number) k top (Some index) → BackStep lists number k top index
back_step lists number k top index distinct within w =
    let at = last_of (w.front ∷ []) 0 index (sym w.at_is) in
    let split : list_at lists number ≡ at.before ++ (index, at.item) ∷ w.walked = w.split ∙ ap (λ f. f ++ w.walked) at.split ∙ append_assoc at.before ((index, at.item) ∷ []) w.walked in
    record {
      item = at.item;
      got = item_is lists index number at.item at.before w.walked distinct within split;
      on = λ rises.
          let up = up_to_more top at.item.message.stamp w.walked rises w.up in
          record {
            front = at.before;
            walked = (index, at.item) ∷ w.walked;
            split = split;
            count = omega (arith, w.count);
            at_is = prev_is lists number index at.item at.before w.walked distinct within split;
            falls = (up, w.falls);
            up = (omega arith, up);
          };
    }

pub back_never : (l : Nodes) (k top : ℕ) → k < length l → FallsBack l k top None → ⊥
back_never l k top within w =
    let front : w.front ≡ [] = last_none (w.front ∷ []) 0 (sym w.at_is) in
    omega (arith, within, ap length (w.split ∙ ap (λ f. f ++ w.walked) front), w.count)

pub back_done : (l : Nodes) (n top : ℕ) (at : Option ℕ) (w : FallsBack l n top at) → drop (length l - n) l ≡ w.walked
back_done l n top at w =
    let far : length l - n ≡ length w.front = omega (arith, ap length w.split, length-append w.front w.walked, w.count) in
    ap (λ m. drop m l) far ∙ ap (drop (length w.front)) w.split ∙ behind w.front w.walked
  where
    behind : (a b : Nodes) → drop (length a) (a ++ b) ≡ b
    behind [] b = refl
    behind (x ∷ a) b = behind a b

-- all of them fall, where the last of them do, as many as they are
pub falls_all : (top : Option ℕ) (l : Nodes) (n : ℕ) → n ≡ length l → IfSome top (λ _. IsFalling (drop (length l - n) l)) → IsTrue (is_some top) → IsFalling l
falls_all None l n same falls some = absurd (cc some)
falls_all (Some top) l n same falls some = let none : length l - n ≡ 0 = omega (arith, same) in subst IsFalling (ap (λ k. drop k l) none) falls
