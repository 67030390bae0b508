-- What it is to put one more item into a pool.
--     IsInserted old new item result      it has the index that is answered; or it is handed back, and the lists stay
use Rattle.std.specs.Prelude.{◌≡◌, ◌≢◌, ◌↔◌, ℕ, ◌+◌, ◌<◌, ◌≤◌, Some, None, Result, Err, IfOk, IfErr, IsOk, OnOk, OnErr}
use Rattle.tw_pool.specs.Lists.{PoolLists, item_of, live_count}
use Rattle.tw_pool.specs.declared.refused.PoolRefused.{PoolRefused}
use Rattle.tw_pool.specs.declared.refused.PoolRefused.TheVariants.{Full}

pub record IsInserted {T : Type 0} (old new : PoolLists T) (item : T) (result : Result ℕ (T × PoolRefused)) : Type 0 where
  -- the index is a new one, and no other item is under another index
  pub fresh : IfOk result (λ index. item_of index old.lists ≡ None)
  pub there : IfOk result (λ index. item_of index new.lists ≡ Some item)
  pub others : IfOk result (λ index. (other : ℕ) → other ≢ index → item_of other new.lists ≡ item_of other old.lists)
  pub below : IfOk result (λ index. index < new.top)
  pub room : OnOk result (old.room ≤ new.room + 1)
  -- where there is room it is not refused, and takes no memory
  pub succeeds : 0 < old.room → IsOk result
  pub had_room : 0 < old.room → new.room + 1 ≡ old.room
  pub had_top : 0 < old.room → new.top ≡ old.top
  pub top_grows : old.top ≤ new.top
  -- refused as full exactly where 1,048,576 items are there already
  pub limit : 1048576 ≤ live_count old.lists ↔ result ≡ Err (item, Full)
  pub handed_back : IfErr result (λ refused. refused.0 ≡ item)
  pub unchanged : OnErr result (new.lists ≡ old.lists)
  pub room_kept : OnErr result (old.room ≤ new.room)
