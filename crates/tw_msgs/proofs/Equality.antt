-- What the tests of equality say: bags, lists of words, kinds and records.
use Rattle.std.proofs.Common.{◌≡◌, ℕ, ℤ, Bool, List, ◌&&◌, ◌==◌, refl, ap}
use Rattle.std.specs.Bool.{Decides}
use Rattle.std.specs.Ordering.{int_eq}
use Rattle.std.proofs.lemmas.Bool.Decides.{Decides-int_eq, Decides-eqb, Decides-and, Decides-like}
use Rattle.std.proofs.lemmas.Slice.Eq.{slice_eq-Decides}
use Rattle.tw_msgs.specs.Bags.{Bag, same_bag, same_item}
use Rattle.tw_msgs.specs.Words.{same_words}
use Rattle.tw_msgs.specs.declared.record.Record.{Record}
use Rattle.tw_msgs.specs.declared.record_kind.RecordKind.{RecordKind}
use Rattle.tw_msgs.specs.declared.record_kind.RecordKind.TheVariants.{Out, Int, Ext, Con}
use Rattle.tw_msgs.specs.contracts.record_kind.RecordKind.{the_type}
use denote.Enum.Bare.{sameb}

same_item-Decides : (x y : ℕ × ℤ) → Decides (same_item x y) (x ≡ y)
same_item-Decides x y =
    Decides-like (same_item x y) (λ p. λ i. (p.0 i, p.1 i)) (λ e. (λ i. (e i).0, λ i. (e i).1))
    (Decides-and (x.0 == y.0) (int_eq x.1 y.1) (Decides-eqb x.0 y.0) (Decides-int_eq x.1 y.1))

pub same_bag-Decides : (xs ys : Bag) → Decides (same_bag xs ys) (xs ≡ ys)
same_bag-Decides xs ys = slice_eq-Decides same_item-Decides xs ys (same_bag xs ys) refl

pub same_words-Decides : (xs ys : List ℤ) → Decides (same_words xs ys) (xs ≡ ys)
same_words-Decides xs ys = slice_eq-Decides Decides-int_eq xs ys (same_words xs ys) refl

pub same_kind-Decides : (a b : RecordKind) → Decides (sameb the_type a b) (a ≡ b)
same_kind-Decides Out Out = (λ e. refl, λ e. refl)
same_kind-Decides Out Int = (λ e. absurd cc, λ e. absurd cc)
same_kind-Decides Out Ext = (λ e. absurd cc, λ e. absurd cc)
same_kind-Decides Out Con = (λ e. absurd cc, λ e. absurd cc)
same_kind-Decides Int Out = (λ e. absurd cc, λ e. absurd cc)
same_kind-Decides Int Int = (λ e. refl, λ e. refl)
same_kind-Decides Int Ext = (λ e. absurd cc, λ e. absurd cc)
same_kind-Decides Int Con = (λ e. absurd cc, λ e. absurd cc)
same_kind-Decides Ext Out = (λ e. absurd cc, λ e. absurd cc)
same_kind-Decides Ext Int = (λ e. absurd cc, λ e. absurd cc)
same_kind-Decides Ext Ext = (λ e. refl, λ e. refl)
same_kind-Decides Ext Con = (λ e. absurd cc, λ e. absurd cc)
same_kind-Decides Con Out = (λ e. absurd cc, λ e. absurd cc)
same_kind-Decides Con Int = (λ e. absurd cc, λ e. absurd cc)
same_kind-Decides Con Ext = (λ e. absurd cc, λ e. absurd cc)
same_kind-Decides Con Con = (λ e. refl, λ e. refl)

-- the fields in the order of their declaration, as the derived `==` of records compares them
abbrev pub same_record : Record → Record → Bool
same_record r s =
    (r.component == s.component) && ((r.stamp == s.stamp) && (sameb the_type r.kind s.kind && (same_bag r.bag s.bag && same_words r.words s.words)))

pub same_record-Decides : (r s : Record) → Decides (same_record r s) (r ≡ s)
same_record-Decides r s =
    Decides-like (same_record r s)
    (λ p. λ i. record { component = p.0 i; stamp = p.1.0 i; kind = p.1.1.0 i; bag = p.1.1.1.0 i; words = p.1.1.1.1 i })
    (λ e. (ap (λ k. k.component) e, (ap (λ k. k.stamp) e, (ap (λ k. k.kind) e, (ap (λ k. k.bag) e, ap (λ k. k.words) e)))))
    (Decides-and _ _ (Decides-eqb r.component s.component)
    (Decides-and _ _ (Decides-eqb r.stamp s.stamp)
    (Decides-and _ _ (same_kind-Decides r.kind s.kind) (Decides-and _ _ (same_bag-Decides r.bag s.bag) (same_words-Decides r.words s.words)))))
