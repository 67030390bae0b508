-- What a receiver got, one record more.
use Rattle.std.proofs.Common.{◌≡◌, ◌∙◌, List, [], ◌∷◌, ◌++◌, refl, sym, ap, subst, append_assoc, append-nil}
use Rattle.tw_msgs.specs.declared.record.Record.{Record}
use Rattle.tw_rounds.specs.Receiving.{Receives}

pub received_more : {R : Type 0} (takes : R → Record → R → Type 0) (old : R) (records : List Record) (now new : R) (r : Record) → Receives takes old records now → takes now r new → Receives takes old (records ++ r ∷ []) new
received_more takes old [] now new r h t = (new, subst (λ x. takes x r new) (sym h) t, refl)
received_more takes old (x ∷ records) now new r h t = (h.0, h.1, received_more takes h.0 records now new r h.2 t)

-- a list that gets them at its end
pub collected : {V : Type 0} (items : V → List Record) (old : V) (records : List Record) (new : V) → Receives (λ a r b. items b ≡ items a ++ r ∷ []) old records new → items new ≡ items old ++ records
collected items old [] new h = ap items (sym h) ∙ sym (append-nil (items old))
collected items old (x ∷ records) new h = collected items h.0 records new h.2 ∙ ap (λ l. l ++ records) h.1 ∙ append_assoc (items old) (x ∷ []) records
