-- The waiting and the owed messages are found, while nodes move between the lists.
use Rattle.std.proofs.Common.{◌≡◌, ◌≢◌, ℕ, ◌+◌, ◌-◌, ◌<◌, ◌≤◌, Bool, true, false, List, [], ◌∷◌, ◌++◌, length, set, take, drop, cond, refl, sym, ap, subst, ◌∙◌, arith, length-append, length-drop, append_assoc}
use Rattle.std.proofs.lemmas.List.{length-set, get_or-set_same, get_or-set_other}
use Rattle.std.specs.HashMap.{HashMap}
use Rattle.tw_pool.specs.Lists.{list_at, live_count, with_item_last, with_last_moved}
use Rattle.tw_msgs.specs.declared.message.Item.{Item}
use Rattle.tw_vtime.specs.Stamps.{is_overdue}
use Rattle.tw_lists.specs.declared.finder.Key.{Key}
use Rattle.tw_lists.specs.declared.finder.Equals.{Equals}
use Rattle.tw_lists.specs.declared.finder.Finder.{Finder}
use Rattle.tw_lists.specs.Falling.{FallIf}
use Rattle.tw_lists.specs.Finders.{Finds, Knows, AreFound}
use Rattle.tw_lists.specs.Lists.{Nodes}
use Rattle.tw_lists.specs.Nodes.{not_overdue_nodes}
use Rattle.tw_lists.proofs.Counts.{live_six}

-- the waiting and the owed nodes stay
pub record Untouched (lists now : List Nodes) : Type 0 where
  pub waiting : list_at now 4 ≡ list_at lists 4
  pub owed : list_at now 5 ≡ list_at lists 5

module _ {S : Type 0} (known : HashMap Key Equals S) where
  pub finds_at : (late : ℕ) (l now : Nodes) → now ≡ l → Finds known late l → Finds known late now
  finds_at late l now same finds = subst (Finds known late) (sym same) finds

  pub late_within : (late : ℕ) (l : Nodes) → Finds known late l → late ≤ length l
  late_within late l finds = omega (arith, ap length finds.split, length-append finds.front finds.back, finds.late_is)

  -- nodes more at the end are not known yet
  pub finds_more : (new : HashMap Key Equals S) (late later : ℕ) (l more now : Nodes) → new ≡ known → later ≡ late + length more → now ≡ l ++ more → Finds known late l → Finds new later now
  finds_more new late later l more now same grown is finds =
      record {
        front = finds.front;
        back = finds.back ++ more;
        split = is ∙ ap (λ x. x ++ more) finds.split ∙ append_assoc finds.front finds.back more;
        late_is = omega (arith, length-append finds.back more, finds.late_is, grown);
        knows = subst (λ k. Knows k finds.front) (sym same) finds.knows;
      }

pub fall_at : (b : Bool) (l now : Nodes) → now ≡ l → FallIf b l → FallIf b now
fall_at b l now same fall = subst (FallIf b) (sym same) fall

pub found_same : (waiting owed : Finder) (lists now : List Nodes) → Untouched lists now → AreFound waiting owed lists → AreFound waiting owed now
found_same waiting owed lists now same found = (
  finds_at waiting.known waiting.late (list_at lists 4) (list_at now 4) same.waiting found.0,
  finds_at owed.known owed.late (list_at lists 5) (list_at now 5) same.owed found.1,
)

-- ---- How long the lists are

pub record Within (lists : List Nodes) (limit : ℕ) : Type 0 where
  pub waiting : length (list_at lists 4) ≤ limit
  pub sent_and_owed : length (list_at lists 2) + length (list_at lists 5) ≤ limit

pub within_limit : (lists : List Nodes) (room limit : ℕ) → length lists ≡ 6 → live_count lists + room ≤ limit → Within lists limit
within_limit lists room limit six limited =
    let count = live_six lists six in
    record { waiting = omega (arith, count, limited); sent_and_owed = omega (arith, count, limited) }

-- ---- What a list is after a node or more came to it, or to another

pub pushed_other : (lists now : List Nodes) (number k : ℕ) (node : ℕ × Item) → k ≢ number → now ≡ with_item_last lists number node → list_at now k ≡ list_at lists k
pushed_other lists now number k node differs is = ap (λ ls. list_at ls k) is ∙ get_or-set_other lists number k (list_at lists number ++ node ∷ []) [] differs

pub pushed_there : (lists now : List Nodes) (number : ℕ) (node : ℕ × Item) → number < length lists → now ≡ with_item_last lists number node → list_at now number ≡ list_at lists number ++ node ∷ []
pushed_there lists now number node within is = ap (λ ls. list_at ls number) is ∙ get_or-set_same lists number (list_at lists number ++ node ∷ []) [] within

pub last_moved_other : (lists now : List Nodes) (from n to k : ℕ) → k ≢ from → k ≢ to → now ≡ with_last_moved lists from n to → list_at now k ≡ list_at lists k
last_moved_other lists now from n to k not_from not_to is =
    let l = list_at lists from in
    let left = set lists from (take (length l - n) l) in
    ap (λ ls. list_at ls k) is
    ∙ get_or-set_other left to k (list_at left to ++ drop (length l - n) l) [] not_to
    ∙ get_or-set_other lists from k (take (length l - n) l) [] not_from

-- the last n sent nodes are owed
pub record Owing (lists now : List Nodes) (n : ℕ) : Type 0 where
  pub waiting : list_at now 4 ≡ list_at lists 4
  pub more : Nodes
  pub more_is : more ≡ drop (length (list_at lists 2) - n) (list_at lists 2)
  pub owed : list_at now 5 ≡ list_at lists 5 ++ more
  pub count : length more ≡ n

pub owing : (lists now : List Nodes) (n : ℕ) → length lists ≡ 6 → n ≤ length (list_at lists 2) → now ≡ with_last_moved lists 2 n 5 → Owing lists now n
owing lists now n six within is =
    let l = list_at lists 2 in
    let more = drop (length l - n) l in
    let left = set lists 2 (take (length l - n) l) in
    record {
      waiting = last_moved_other lists now 2 n 5 4 (λ e. omega (arith, e)) (λ e. omega (arith, e)) is;
      more = more;
      more_is = refl;
      owed = ap (λ ls. list_at ls 5) is
          ∙ get_or-set_same left 5 (list_at left 5 ++ more) [] (omega (arith, six, length-set lists 2 (take (length l - n) l)))
          ∙ ap (λ x. x ++ more) (get_or-set_other lists 2 5 (take (length l - n) l) [] (λ e. omega (arith, e)));
      count = omega (arith, length-drop (length l - n) l, within);
    }

-- ---- Where nothing is overdue

not_overdue-length : (s : ℕ) (l : Nodes) → length (not_overdue_nodes s l) ≤ length l
not_overdue-length s [] = omega arith
not_overdue-length s (x ∷ l) = go (is_overdue x.1.message.stamp s) (not_overdue-length s l)
  where
    go : (b : Bool) → length (not_overdue_nodes s l) ≤ length l → length (cond b (not_overdue_nodes s l) (x ∷ not_overdue_nodes s l)) ≤ length (x ∷ l)
    go true rest = omega (arith, rest)
    go false rest = omega (arith, rest)

pub none_overdue : (s : ℕ) (l : Nodes) → length l ≤ length (not_overdue_nodes s l) → not_overdue_nodes s l ≡ l
none_overdue s [] all = refl
none_overdue s (x ∷ l) all = go (is_overdue x.1.message.stamp s) (λ h. none_overdue s l h) all
  where
    go : (b : Bool) → (length l ≤ length (not_overdue_nodes s l) → not_overdue_nodes s l ≡ l) → length (x ∷ l) ≤ length (cond b (not_overdue_nodes s l) (x ∷ not_overdue_nodes s l)) → cond b (not_overdue_nodes s l) (x ∷ not_overdue_nodes s l) ≡ x ∷ l
    go true rest all = let less = not_overdue-length s l in absurd (omega (arith, less, all))
    go false rest all = ap (λ r. x ∷ r) (rest (omega (arith, all)))
