-- A member put in its place twice.
use Rattle.std.proofs.Common.{◌≡◌, ℕ, List, Ordering, Less, Equal, Greater, nat_cmp, refl, ap}
use Rattle.std.specs.Cmp.Lexicographic.{slice_cmp}
use Rattle.std.proofs.lemmas.Cmp.{nat_list_cmp_total, tied_itself}
use Rattle.std.specs.Ordering.{match_ordering}
use Rattle.serde_json.specs.Data.{Data, Members, no_members, member, null, boolean, number, string, array, object, put}
use Rattle.serde_json.specs.Find.{get}
use Rattle.serde_json.proofs.Views.{get_member-put_other}
use Rattle.tw_file_settings.specs.Members.{with_at}

same_text : (xs : List ℕ) → slice_cmp nat_cmp xs xs ≡ Equal
same_text xs = tied_itself nat_list_cmp_total xs

again_at : (o : Ordering) (k l : List ℕ) (d e f : Data) (ms : Members) → slice_cmp nat_cmp k l ≡ o → put k d (put k e ms) ≡ put k d ms
    → put k d (match_ordering o (member k e (member l f ms)) (member l e ms) (member l f (put k e ms)))
    ≡ match_ordering o (member k d (member l f ms)) (member l d ms) (member l f (put k d ms))
again_at Less k l d e f ms is later = rw same_text refl
again_at Equal k l d e f ms is later = rw is refl
again_at Greater k l d e f ms is later = rw is (ap (member l f) later)

put_again : (k : List ℕ) (d e : Data) (ms : Members) → put k d (put k e ms) ≡ put k d ms
put_again k d e no_members = rw same_text refl
put_again k d e (member l f ms) = again_at (slice_cmp nat_cmp k l) k l d e f ms refl (put_again k d e ms)

-- the later one stays
pub with_again : (k : List ℕ) (x y d : Data) → with_at k x (with_at k y d) ≡ with_at k x d
with_again k x y null = refl
with_again k x y (boolean b) = refl
with_again k x y (number n) = refl
with_again k x y (string s) = refl
with_again k x y (array ds) = refl
with_again k x y (object ms) = ap object (put_again k x y ms)

-- other members stay
pub get_beside : (q k : List ℕ) (x d : Data) → (q ≡ k → ⊥) → get q (with_at k x d) ≡ get q d
get_beside q k x null other = refl
get_beside q k x (boolean b) other = refl
get_beside q k x (number n) other = refl
get_beside q k x (string s) other = refl
get_beside q k x (array ds) other = refl
get_beside q k x (object ms) other = get_member-put_other q k x ms other
