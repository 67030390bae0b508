-- The pool as it is lent: the pending nodes are the entries of the heap in another order.
use Rattle.std.proofs.Common.{◌≡◌, ℕ, ◌==◌, List, [], ◌∷◌, ◌++◌, map, Some, None, refl, sym, ap, subst, ◌∙◌, inl, inr, append_assoc}
use Rattle.std.specs.Prelude.{IsPermutation}
use Rattle.std.proofs.lemmas.Bool.{cases_eq}
use Rattle.std.proofs.lemmas.List.{map-append}
use Rattle.std.proofs.lemmas.List.Sorted.{IsPermutation-refl, IsPermutation-sym, IsPermutation-trans, IsPermutation-cons, IsPermutation-map, IsPermutation-middle}
use Rattle.std.specs.Map.{lookup}
use Rattle.tw_pool.specs.Links.{HasDistinct}
use Rattle.tw_pool.specs.Lists.{list_at, AreDistinct}
use Rattle.tw_pool.proofs.ListsSeen.{lookup_found, lookup_lacks, lacks_append, lacks_before, lacks_right, distinct_out, distinct_right}
use Rattle.tw_pool.proofs.ListsByIndex.{lookup_other}
use Rattle.tw_heap.specs.declared.entries.Entry.{Entry}
use Rattle.tw_heap.specs.Entries.{Events, entry_of, message_of, AreDistinct as AreDistinctEntries}
use Rattle.tw_heap.proofs.EntriesByIndex.{entry_of-first, entry_of-behind}
use Rattle.tw_msgs.specs.declared.message.Item.{Item}
use Rattle.tw_theory.specs.Bundles.{positive, positives}
use Rattle.tw_lists.specs.Lists.{Nodes, item_at, message_at, event, AreSame, PoolHolds}
use Rattle.tw_lists.specs.Nodes.{IsKept}
use Rattle.tw_lists.proofs.NodeMoves.{node_of}

distinct_from : (lists : List Nodes) (number : ℕ) → AreDistinct lists → (a b : Nodes) → list_at lists number ≡ a ++ b → HasDistinct b
distinct_from lists number distinct a [] is = tt
distinct_from lists number distinct a (e ∷ b) is = (
  lacks_right (Some e.0) a b (distinct number a e.0 e.1 b is).0,
  distinct_from lists number distinct (a ++ e ∷ []) b (is ∙ sym (append_assoc a (e ∷ []) b)),
)

-- entries without the first, and nodes without its node, agree again
record Rest (nodes : Nodes) (e : Entry) (es : List Entry) : Type 0 where
  pub before : Nodes
  pub behind : Nodes
  pub messages : map message_at nodes ≡ map message_at before ++ e.key ∷ map message_at behind
  pub distinct : HasDistinct (before ++ behind)
  pub same : AreSame (before ++ behind) es

rest_of : (nodes : Nodes) (e : Entry) (es : List Entry) → entry_of e.index es ≡ None → HasDistinct nodes → AreSame nodes (e ∷ es) → Rest nodes e es
rest_of nodes e es vacant distinct same =
    let at = node_of nodes e (e ∷ es) (entry_of-first e es) (same e.index) in
    let a = at.before in
    let b = at.behind in
    let node : ℕ × Item = (e.index, at.item) in
    let apart = subst HasDistinct at.split distinct in
    let lacks = lacks_append (Some e.index) a b (lacks_before a node b apart) (distinct_right a (node ∷ b) apart).0 in
    record {
      before = a;
      behind = b;
      messages = ap (map message_at) at.split ∙ map-append message_at a (node ∷ b) ∙ ap (λ m. map message_at a ++ m ∷ map message_at b) at.key;
      distinct = distinct_out a node b apart;
      same = λ index.
          elim (cases_eq e.index index) [
            | inl eq ↦ subst (λ k. entry_of k es ≡ event k (lookup (λ j. j == k) (a ++ b))) eq (vacant ∙ sym (ap (event e.index) (lookup_lacks e.index (a ++ b) lacks)))
            | inr differs ↦
                sym (entry_of-behind index e es differs) ∙ same index
                ∙ ap (λ l. event index (lookup (λ j. j == index) l)) at.split
                ∙ ap (event index) (lookup_other e.index index at.item a b differs)
          ];
    }

permuted : (entries : List Entry) (nodes : Nodes) → AreDistinctEntries entries → HasDistinct nodes → AreSame nodes entries → IsPermutation (map message_of entries) (map message_at nodes)
permuted [] [] apart distinct same = IsPermutation-refl []
permuted [] (x ∷ l) apart distinct same = let none = same x.0 ∙ ap (event x.0) (lookup_found x.0 [] x.1 l tt) in absurd (cc)
permuted (e ∷ es) nodes apart distinct same =
    let rest = rest_of nodes e es apart.0 distinct same in
    let a = map message_at rest.before in
    let b = map message_at rest.behind in
    let later = subst (IsPermutation (map message_of es)) (map-append message_at rest.before rest.behind) (permuted es (rest.before ++ rest.behind) apart.1 rest.distinct rest.same) in
    subst (IsPermutation (e.key ∷ map message_of es)) (sym rest.messages)
    (IsPermutation-trans (e.key ∷ map message_of es) (e.key ∷ (a ++ b)) (a ++ e.key ∷ b) (IsPermutation-cons e.key (map message_of es) (a ++ b) later) (IsPermutation-sym (a ++ e.key ∷ b) (e.key ∷ (a ++ b)) (IsPermutation-middle a e.key b)))

pub pool_holds : (lists : List Nodes) (heap : Events) → IsKept lists heap → AreDistinct lists → AreDistinctEntries heap.entries
    → PoolHolds (map message_of heap.entries) (map message_at (list_at lists 1)) (map message_at (list_at lists 2)) (map item_at (list_at lists 3)) (map message_at (list_at lists 4)) (map message_at (list_at lists 5)) lists
pool_holds lists heap kept distinct apart =
    let nodes = list_at lists 0 in
    record {
      pending_is =
          subst (IsPermutation (positives (map message_of heap.entries))) (sym kept.signed.pending)
          (IsPermutation-map positive (map message_of heap.entries) (map message_at nodes) (permuted heap.entries nodes apart (distinct_from lists 0 distinct [] nodes refl) kept.same));
      consumed_is = kept.signed.consumed;
      sent_is = kept.signed.sent;
      outgoing_is = refl;
      waiting_is = kept.signed.waiting;
      owed_is = kept.signed.owed;
    }
