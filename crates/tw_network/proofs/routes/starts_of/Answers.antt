use borrow.Author.Count.{below_more}
use Rattle.std.proofs.Common.{◌≡◌, ℕ, ◌+◌, ◌*◌, ◌<◌, ◌/◌, ◌%◌, List, [], ◌∷◌, ◌++◌, length, get_or, slice_index, ap, sym, subst, ◌∙◌, arith, length-append}
use Rattle.std.proofs.Math.Seq.{get_or-append_seam}
use Rattle.std.proofs.lemmas.List.{get_or_append_left}
use Rattle.tw_network.specs.RouteIndex.{IsStart, part_of}
use Rattle.tw_network.proofs.RouteParts.{ports_of}
use Rattle.tw_theory.specs.Network.{Coupling}
use Rattle.tw_network.proofs.routes.starts_of.Goals as goal

-- the start of the next part goes after those of the parts before it
next_start : (sorted : List Coupling) (starts : List ℕ) (part start : ℕ) → length starts ≡ part → ((k : ℕ) → k < part → IsStart sorted k (slice_index starts k))
    → IsStart sorted (part_of (part / 16) (part % 16)) start → (k : ℕ) → k < part + 1 → IsStart sorted k (slice_index (starts ++ start ∷ []) k)
next_start sorted starts part start long before here =
    let number : part_of (part / 16) (part % 16) ≡ part = omega arith in
    let last : slice_index (starts ++ start ∷ []) part ≡ start = ap (λ k. get_or (starts ++ start ∷ []) k 0) (sym long) ∙ get_or-append_seam starts start [] 0 in
    below_more (λ k. IsStart sorted k (slice_index (starts ++ start ∷ []) k)) part
    (λ k lt. subst (λ at. IsStart sorted k at) (sym (get_or_append_left starts (start ∷ []) 0 k (omega (arith, lt, long)))) (before k lt))
    (subst (λ n. IsStart sorted n (slice_index (starts ++ start ∷ []) part)) number (subst (λ at. IsStart sorted (part_of (part / 16) (part % 16)) at) (sym last) here))

pub start_of-requires : goal.start_of-requires
start_of-requires c = record {
  port = omega arith;
  ports = ports_of c.args.count c.args.sorted.now c.requires.couplings;
  in_order = c.requires.in_order;
}

pub loop-part-preserved : goal.loop-part-preserved
loop-part-preserved c = (
  ap length c.in_ok-push.ensures.items ∙ length-append c.loop-part.starts.items (c.start_of.result ∷ []) ∙ ap (λ k. k + 1) c.loop-part.invariant.0,
  subst (λ starts. (k : ℕ) → k < c.loop-part.part + 1 → IsStart c.args.sorted.now k (slice_index starts k)) (sym c.in_ok-push.ensures.items)
      (next_start c.args.sorted.now c.loop-part.starts.items c.loop-part.part c.start_of.result c.loop-part.invariant.0 c.loop-part.invariant.1 c.start_of.ensures),
)

pub returns : goal.returns
returns c =
    let all : c.loop-part.part ≡ 16 * c.args.count + 1 = omega arith in
    record {
      parts = c.loop-part.invariant.0 ∙ all;
      starts = λ part lt. c.loop-part.invariant.1 part (omega (arith, lt));
    }
