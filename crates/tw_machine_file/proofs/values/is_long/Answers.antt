use Rattle.std.proofs.Common.{◌≡◌, ◌≤◌, ℕ, ap, sym, arith, ◌∙◌}
use Rattle.std.proofs.lemmas.Bool.Decides.{nat_tests}
use Rattle.std.specs.Prelude.{◌&&◌, nat_le}
use Rattle.serde_json.proofs.Views.{items_len-items_view}
use Rattle.tw_machine_file.proofs.values.is_long.Goals as goal

some : (n most : ℕ) → 1 ≤ n → nat_le n most ≡ (nat_le 1 n && nat_le n most)
some n most h = grind (arith, nat_tests)

pub returns-then-values-ge1 : goal.returns-then-values-ge1
returns-then-values-ge1 c = some _ _ c.if-values-ge1.true ∙ ap (λ n. nat_le 1 n && nat_le n c.args.most) (sym (items_len-items_view c.args.values.now))
