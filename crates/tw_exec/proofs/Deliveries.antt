-- Deliveries: what a receipt asks for, and that it keeps the line.
use Rattle.std.proofs.Common.{◌≡◌, ℕ, zero, suc, ◌+◌, ◌==◌, ◌<◌, ◌≤◌, FitsSigned, w64, List, [], ◌∷◌, length, Some, refl, sym, ap, ◌∙◌, subst, arith}
use Rattle.std.specs.Prelude.{insert, remove, slice_get, slice_set, Ok}
use Rattle.std.proofs.lemmas.Bool.{cond_both}
use Rattle.std.proofs.lemmas.List.{get_or-set_same, set-get_or, set-set}
use Rattle.std.proofs.lemmas.Option.{same_Some, slice_get_within}
use Rattle.tw_atomic.specs.Atomic.{Meaning}
use Rattle.tw_exec.specs.Refusals.{of_pool}
use Rattle.tw_exec.specs.Running.{shown, IsOwn, IsHeld, IsWanting, WantsRoom}
use Rattle.tw_pool.specs.declared.refused.PoolRefused.{PoolRefused}
use Rattle.tw_pool.specs.declared.refused.PoolRefused.TheVariants.{Full as full, OutOfMemory as outofmemory}
use Rattle.tw_exec.proofs.Acts.{deliver_acts}
use Rattle.tw_exec.proofs.Kept.{IsActed, acted_by, own_set}
use Rattle.tw_exec.proofs.Worlds.{process_at}
use Rattle.tw_laws.proofs.Least.{gvt_law}
use Rattle.tw_msgs.specs.Messages.{has}
use Rattle.tw_msgs.specs.declared.message.Item.{Item}
use Rattle.tw_msgs.specs.declared.message.Message.{Message}
use Rattle.tw_msgs.specs.declared.message.Sign.{Sign}
use Rattle.tw_msgs.specs.declared.message.Sign.TheVariants.{Positive, Anti}
use Rattle.tw_msgs.specs.declared.record.Record.{Record}
use Rattle.tw_network.specs.Contents.{Contents, network_of}
use Rattle.tw_process.specs.Process.{Held, IsFullBy}
use Rattle.tw_rollback.specs.Received.{IsCame, need}
use Rattle.tw_theory.proofs.Elements.{each-get}
use Rattle.tw_theory.specs.Contents.{Process, Received, back_to_first, consumed_by, receive, receive_signed, steps_from}
use Rattle.tw_theory.specs.Executive.{Deliver, Received as Came, least_of, mail_of}
use Rattle.tw_theory.specs.Memory.{live, need_if_there}
use Rattle.tw_theory.specs.Soundness.{IsFor}
use Rattle.tw_theory.specs.Standing.{CanTake}

-- an item that is put back where it was
pub put_back : {X : Type 0} (xs : List X) (i : ℕ) (x : X) → slice_get xs i ≡ Some x → insert (remove xs i) i x ≡ xs
put_back [] i x at = absurd (omega (arith, slice_get_within [] i x at))
put_back (y ∷ xs) zero x at = ap (λ z. z ∷ xs) (sym (same_Some y x at))
put_back (y ∷ xs) (suc i) x at = ap (λ l. y ∷ l) (put_back xs i x at)

-- a mailbox, one item of which was taken and put back, is as it was
pub restored : (mail boxes : List (List Item)) (q i : ℕ) (item back : Item) → q < length mail → boxes ≡ slice_set mail q (remove (mail_of mail q) i) → slice_get (mail_of mail q) i ≡ Some item → back ≡ item
    → slice_set boxes q (insert (mail_of boxes q) i back) ≡ mail
restored mail boxes q i item back near is at same =
    (λ j. slice_set (is j) q (insert (mail_of (is j) q) i (same j)))
    ∙ set-set mail q _ _
    ∙ ap (λ l. slice_set mail q (insert l i item)) (get_or-set_same mail q (remove (mail_of mail q) i) [] near)
    ∙ ap (slice_set mail q) (put_back (mail_of mail q) i item at)
    ∙ set-get_or mail q []

module _ {S : Type 0} where
  line_signed : (p : Process S) (sign : Sign) (m : Message) → (receive_signed p sign m).1.line ≡ p.line
  unfolding back_to_first
  line_signed p Positive m =
      cond_both (has m p.waiting) _ _ (λ (r : Received × Process S). r.1.line ≡ p.line) (λ e. refl)
      (λ e. cond_both (steps_from m.stamp p == 0) _ _ (λ (r : Received × Process S). r.1.line ≡ p.line) (λ e. refl) (λ e. refl))
  line_signed p Anti m =
      cond_both (has m p.pending) _ _ (λ (r : Received × Process S). r.1.line ≡ p.line) (λ e. refl)
      (λ e. cond_both (has m (consumed_by p.history)) _ _ (λ (r : Received × Process S). r.1.line ≡ p.line) (λ e. refl) (λ e. refl))

  line_stays : (p : Process S) (i : Item) → (receive p i).1.line ≡ p.line
  line_stays p i = line_signed p i.sign i.message

module _ {M S : Type 0} {meaning : M → Meaning S} {n : Contents M} {until end gvt : ℕ} {ps : List (Held M S)} {mail : List (List Item)} {columns : List (List Record)} (h : IsHeld meaning n until end gvt ps mail columns) where
  -- an item in the mailbox of a component is one that it can take, and stands after all that it has committed
  pub arrives : (q k : ℕ) (old : Held M S) (item : Item) → slice_get ps q ≡ Some old → slice_get (mail_of mail q) k ≡ Some item → item.message.port < 256 → FitsSigned w64 item.message.value
      → CanTake old.component item.message × (old.floor ≤ item.message.stamp)
  arrives q k old item at item_at port value =
      let o = h.own q old at in
      let sound = h.sound.each q old.process (process_at ps mail columns gvt q old at) in
      let is_for = each-get (λ (i : Item). IsFor (network_of meaning n) q i.message) (mail_of mail q) k item item_at sound.for_mail in
      let least = each-get (λ (i : Item). least_of (shown ps mail columns gvt) ≤ i.message.stamp) (mail_of mail q) k item item_at (((gvt_law {S = S}).at_or_before (shown ps mail columns gvt)).mail q) in
      (record { to = is_for.to ∙ sym o.component_is; phase = is_for.fits.phase; before_end = is_for.fits.stamp; fits = (port, value) }, omega (arith, o.floor_le, sound.line_le, h.sound.gvt_le, least))

  pub deliver_acted : (q k : ℕ) (old new : Held M S) (item : Item) (came : Received) → slice_get ps q ≡ Some old → slice_get (mail_of mail q) k ≡ Some item → IsCame old new (receive old.process item) came
      → IsActed meaning n until end gvt gvt ps (slice_set ps q new) mail (slice_set mail q (remove (mail_of mail q) k)) columns columns (Deliver q k) (Ok (Came came))
  deliver_acted q k old new item came at item_at is =
      let o = h.own q old at in
      acted_by h gvt (slice_set ps q new) (slice_set mail q (remove (mail_of mail q) k)) columns (Deliver q k) (Ok (Came came))
      (deliver_acts meaning n until gvt ps mail columns q k old new item at item_at (ap (λ (x : Held M S). x.process) is.process)
      ∙ ap (λ r. (Ok (Came r), shown (slice_set ps q new) (slice_set mail q (remove (mail_of mail q) k)) columns gvt)) (sym is.answer))
      (own_set h q new (subst (IsOwn n q) (sym is.process) (record { network_is = o.network_is; component_is = o.component_is; floor_le = omega (arith, o.floor_le, line_stays old.process item) })))

  -- where a receipt is refused for want of nodes
  pub deliver_wants : (q k : ℕ) (old : Held M S) (item : Item) (e : PoolRefused) → slice_get ps q ≡ Some old → slice_get (mail_of mail q) k ≡ Some item → (e ≡ full → IsFullBy (need old.process item) old.process)
      → IsWanting meaning (Deliver q k) (record { network = n; until = until; world = shown ps mail columns gvt }) (of_pool e)
  deliver_wants q k old item outofmemory at item_at limit = tt
  deliver_wants q k old item full at item_at limit =
      record {
        component = q;
        of = refl;
        process = old.process;
        at = process_at ps mail columns gvt q old at;
        passes = (let passed = limit refl in omega (arith, passed, ap (need_if_there old.process) item_at));
      }

  -- where it would hold too many, its receipt is refused for that
  pub wanted : (q k : ℕ) (old : Held M S) (item : Item) → slice_get ps q ≡ Some old → slice_get (mail_of mail q) k ≡ Some item → WantsRoom meaning (Deliver q k) (record { network = n; until = until; world = shown ps mail columns gvt })
      → IsFullBy (need old.process item) old.process
  wanted q k old item at item_at wants =
      let here = same_Some q wants.component wants.of in
      let same = same_Some old.process wants.process (sym (process_at ps mail columns gvt q old at) ∙ ap (slice_get (shown ps mail columns gvt).processes) here ∙ wants.at) in
      omega (arith, wants.passes, ap (λ p. live p + need_if_there p (slice_get (mail_of mail q) k)) same, ap (need_if_there old.process) item_at)
