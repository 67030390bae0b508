-- The signs of the items of a list of nodes, as nodes come and go.
use Rattle.std.proofs.Common.{◌≡◌, ℕ, zero, suc, List, [], ◌∷◌, ◌++◌, map, take, drop, refl, sym, ap, subst, ◌∙◌}
use Rattle.tw_msgs.specs.declared.message.Item.{Item}
use Rattle.tw_msgs.specs.declared.message.Message.{Message}
use Rattle.tw_theory.proofs.Elements.{head_same, tail_same}
use Rattle.tw_lists.specs.Lists.{Nodes, message_at, item_at}
use Rattle.tw_lists.specs.Nodes.{AreOf}

pub map-take : {A B : Type 0} (f : A → B) (n : ℕ) (xs : List A) → map f (take n xs) ≡ take n (map f xs)
map-take f zero xs = refl
map-take f (suc n) [] = refl
map-take f (suc n) (x ∷ xs) = ap (λ l. f x ∷ l) (map-take f n xs)

pub map-drop : {A B : Type 0} (f : A → B) (n : ℕ) (xs : List A) → map f (drop n xs) ≡ drop n (map f xs)
map-drop f zero xs = refl
map-drop f (suc n) [] = refl
map-drop f (suc n) (x ∷ xs) = map-drop f n xs

module _ (f : Message → Item) where
  pub are_at : (l l' : Nodes) → l' ≡ l → AreOf f l → AreOf f l'
  are_at l l' is are = subst (AreOf f) (sym is) are

  pub are_cons : (node : ℕ × Item) (l : Nodes) → node.1 ≡ f node.1.message → AreOf f l → AreOf f (node ∷ l)
  are_cons node l one rest = λ i. one i ∷ rest i

  pub are_append : (a b : Nodes) → AreOf f a → AreOf f b → AreOf f (a ++ b)
  are_append [] b left right = right
  are_append (x ∷ a) b left right = are_cons x (a ++ b) (head_same left) (are_append a b (tail_same left) right)

  pub are_push : (l : Nodes) (node : ℕ × Item) → AreOf f l → node.1 ≡ f node.1.message → AreOf f (l ++ node ∷ [])
  are_push l node are one = are_append l (node ∷ []) are (are_cons node [] one refl)

  pub are_out : (a : Nodes) (node : ℕ × Item) (b : Nodes) → AreOf f (a ++ node ∷ b) → (node.1 ≡ f node.1.message) × AreOf f (a ++ b)
  are_out [] node b is = (head_same is, tail_same is)
  are_out (x ∷ a) node b is = let rest = are_out a node b (tail_same is) in (rest.0, are_cons x (a ++ b) (head_same is) rest.1)

  pub are_take : (n : ℕ) (l : Nodes) → AreOf f l → AreOf f (take n l)
  are_take n l is = map-take item_at n l ∙ ap (take n) is ∙ sym (map-take f n (map message_at l)) ∙ ap (map f) (sym (map-take message_at n l))

  pub are_drop : (n : ℕ) (l : Nodes) → AreOf f l → AreOf f (drop n l)
  are_drop n l is = map-drop item_at n l ∙ ap (drop n) is ∙ sym (map-drop f n (map message_at l)) ∙ ap (map f) (sym (map-drop message_at n l))
