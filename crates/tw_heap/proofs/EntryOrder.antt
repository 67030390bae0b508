-- The entries of a heap are strictly ordered, and in the order of their messages.
use Rattle.std.proofs.Common.{◌≡◌, true, false, refl, ap, ◌∙◌}
use Rattle.std.specs.Ordering.{nat_cmp, ordering_then, ordering_reverse, is_lt, is_le}
use Rattle.std.specs.Cmp.{IsTotalOrder}
use Rattle.std.specs.declared.cmp.Ordering.{Ordering}
use Rattle.std.specs.declared.cmp.Ordering.TheVariants.{Less, Equal, Greater}
use Rattle.std.proofs.lemmas.Cmp.{nat_cmp_total, on_total, then_total, tied_itself}
use Rattle.tw_msgs.specs.Messages.{message_cmp, at_or_before}
use Rattle.tw_msgs.proofs.Orders.{nat_cmp-exact, then_parts}
use Rattle.tw_msgs.proofs.Messages.{messages_rank, at_or_before-is}
use Rattle.tw_heap.specs.declared.entries.Entry.{Entry}
use Rattle.tw_heap.specs.Order.{IsStrictOrder}
use Rattle.tw_heap.specs.Entries.{entry_cmp, is_before}

entry_total : IsTotalOrder entry_cmp
entry_total = then_total (on_total (λ (e : Entry). e.key) messages_rank.total) (on_total (λ (e : Entry). e.index) nat_cmp_total)

entry_exact : (x y : Entry) → entry_cmp x y ≡ Equal → x ≡ y
entry_exact x y same =
    let parts = then_parts (message_cmp x.key y.key) (nat_cmp x.index y.index) same in
    let key = messages_rank.exact x.key y.key parts.0 in
    let index = nat_cmp-exact x.index y.index parts.1 in
    λ i. record { key = key i; index = index i }

less : (o : Ordering) → is_lt o ≡ true → o ≡ Less
less Less is = refl
less Equal is = absurd (cc)
less Greater is = absurd (cc)

tied : (o p : Ordering) → o ≡ ordering_reverse p → is_lt o ≡ false → is_lt p ≡ false → o ≡ Equal
tied Less p turned a b = absurd (cc)
tied Equal p turned a b = refl
tied Greater Less turned a b = absurd (cc)
tied Greater Equal turned a b = turned
tied Greater Greater turned a b = absurd (cc)

pub entries_ordered : IsStrictOrder is_before
entries_ordered =
    record {
      irreflexive = λ x. ap is_lt (tied_itself entry_total x);
      transitive = λ x y z first second. ap is_lt (entry_total.trans x y z (less (entry_cmp x y) first) (less (entry_cmp y z) second));
      connected = λ x y a b. entry_exact x y (tied (entry_cmp x y) (entry_cmp y x) (entry_total.antisymm x y) a b);
    }

-- ## Entries by their messages

then_le : (o p : Ordering) → is_lt (ordering_then o p) ≡ true → is_le o ≡ true
then_le Less p is = refl
then_le Equal p is = refl
then_le Greater p is = absurd (cc)

-- an entry that is before another has a message that is not after the other's
pub before-at_or_before : (x y : Entry) → is_before x y ≡ true → at_or_before x.key y.key ≡ true
before-at_or_before x y before = at_or_before-is x.key y.key ∙ then_le (message_cmp x.key y.key) (nat_cmp x.index y.index) before

then_lt : (o p : Ordering) → is_lt (ordering_then o p) ≡ false → is_lt o ≡ false
then_lt Less p is = absurd (cc)
then_lt Equal p is = refl
then_lt Greater p is = refl

le_back : (o p : Ordering) → o ≡ ordering_reverse p → is_lt o ≡ false → is_le p ≡ true
le_back Less p turned is = absurd (cc)
le_back Equal Less turned is = refl
le_back Equal Equal turned is = refl
le_back Equal Greater turned is = absurd (cc)
le_back Greater Less turned is = refl
le_back Greater Equal turned is = refl
le_back Greater Greater turned is = absurd (cc)

-- an entry that is not before another has a message that the other's is not after
pub not_before-at_or_before : (x y : Entry) → is_before x y ≡ false → at_or_before y.key x.key ≡ true
not_before-at_or_before x y later =
    at_or_before-is y.key x.key
    ∙ le_back (message_cmp x.key y.key) (message_cmp y.key x.key) (messages_rank.total.antisymm x.key y.key) (then_lt (message_cmp x.key y.key) (nat_cmp x.index y.index) later)
