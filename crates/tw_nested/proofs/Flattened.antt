-- The flat couplings of a tree: those that are reached along its ports are those along which its paths lead.
use Rattle.std.proofs.Common.{◌≡◌, ◌≢◌, ℕ, ◌+◌, List, [], sym, ap, ◌∙◌, subst, slice_index_or, suc, Result, Ok, Err}
use Rattle.std.specs.List.{All}
use Rattle.tw_nested.specs.Tree.{Parts, Link, Model, no_parts, coupled, size, atoms_from}
use Rattle.tw_nested.specs.Flat.{Coupling, IsFlat, IsFlatSet, IsTooMany}
use Rattle.tw_nested.specs.Reach.{Edge}
use Rattle.tw_nested.specs.Edges.{AreEdges}
use Rattle.tw_nested.specs.Paths.{IsModel}
use Rattle.tw_nested.specs.Whole.{all_models, AreLinked, IsCoupling, AreCouplings, AreTooMany}
use Rattle.std.specs.Result.{IfErr, IsErrAnd}
use Rattle.tw_nested.specs.declared.collect.FlatRefused.{FlatRefused}
use Rattle.tw_nested.specs.declared.collect.FlatRefused.TheVariants.{OutOfMemory}
use Rattle.tw_nested.proofs.Leading.{path_of, path_reaches}
use Rattle.std.proofs.Common.{slice_index}
use Rattle.tw_nested.proofs.Numbers.{models_sound, atoms_below}
use Rattle.tw_nested.proofs.Ranges.{top, atom_ranged, models_ranged, not_to_itself}

-- no path leads from an atom to itself
coupling_apart : {M : Type 0} (parts : Parts M) (links : List Link) → AreLinked parts links → (k : Coupling) → IsCoupling parts links k → k.0 ≢ k.2
coupling_apart parts links linked k is =
    let atom : ℕ → ℕ = slice_index (atoms_from 1 parts) in
    λ same. not_to_itself (all_models parts links) 0 (0 + suc (size parts + 0)) (top 0 (coupled [] parts links no_parts)) (models_ranged parts links) linked (atom k.0) k.1 (atom k.2) k.3 (atom_ranged parts links k.0 is.source) is.path (ap atom same)

pub are_apart : {M : Type 0} (parts : Parts M) (links : List Link) → AreLinked parts links → (flat : List Coupling) → AreCouplings parts links flat → All (λ (k : Coupling). k.0 ≢ k.2) flat
are_apart parts links linked flat are = λ i d lt. coupling_apart parts links linked (slice_index_or flat i d) (are.sound i d lt)

-- what is flat along the ports is flat by paths
module _ {M : Type 0} (parts : Parts M) (links : List Link) (count : ℕ) (is : count ≡ 1 + size parts) (linked : AreLinked parts links) (edges : List Edge) (are : AreEdges count (all_models parts links) edges) where
  sound : All (IsModel count) (all_models parts links)
  sound = models_sound parts links count is linked

  by_path : (k : Coupling) → IsFlat count edges (atoms_from 1 parts) k → IsCoupling parts links k
  by_path k f =
      let way = path_of count (all_models parts links) edges are.made are.known sound _ k.1 _ k.3 (atoms_below parts count is k.0 0 f.source) f.source_port (atoms_below parts count is k.2 0 f.destination) f.destination_port f.reached in
      record {
        source = f.source;
        source_port = f.source_port;
        destination = f.destination;
        destination_port = f.destination_port;
        path = way;
      }

  by_ports : (k : Coupling) → IsCoupling parts links k → IsFlat count edges (atoms_from 1 parts) k
  by_ports k f = record {
    source = f.source;
    source_port = f.source_port;
    destination = f.destination;
    destination_port = f.destination_port;
    reached = path_reaches count (all_models parts links) edges are.made are.known sound _ k.1 _ k.3 f.path;
  }

  pub are_couplings : (flat : List Coupling) → IsFlatSet count edges (atoms_from 1 parts) flat → AreCouplings parts links flat
  are_couplings flat s = record {
    sound = λ i d lt. by_path (slice_index_or flat i d) (s.sound i d lt);
    whole = λ k f. s.whole k (by_ports k f);
    once = s.once;
    few = s.few;
  }

  pub are_too_many : IsTooMany count edges (atoms_from 1 parts) → AreTooMany parts links
  are_too_many t = record {
    some = t.some;
    sound = λ i d lt. by_path (slice_index_or t.some i d) (t.sound i d lt);
    once = t.once;
    many = t.many;
  }

module _ {M : Type 0} (parts : Parts M) (links : List Link) (count : ℕ) (is : count ≡ 1 + size parts) (linked : AreLinked parts links) (models : List Model) (edges es : List Edge) (atoms : List ℕ)
    (ms : models ≡ all_models parts links) (from_tree : atoms ≡ atoms_from 1 parts) (ee : es ≡ edges) (are : AreEdges count models edges) where
  here : AreEdges count (all_models parts links) es
  here = subst (λ e. AreEdges count (all_models parts links) e) (sym ee) (subst (λ m. AreEdges count m edges) ms are)

  pub couplings_from : (flat : List Coupling) → IsFlatSet count es atoms flat → AreCouplings parts links flat
  couplings_from flat s = are_couplings parts links count is linked es here flat (subst (λ a. IsFlatSet count es a flat) from_tree s)

  pub too_many_from : IsTooMany count es atoms → AreTooMany parts links
  too_many_from t = are_too_many parts links count is linked es here (subst (λ a. IsTooMany count es a) from_tree t)

pub passed_on : {A : Type 0} (T : Type 0) (r : Result A FlatRefused) (f : FlatRefused) → IsErrAnd r (λ e. e ≡ f) → (f ≢ OutOfMemory → T) → IfErr r (λ e. e ≢ OutOfMemory → T)
passed_on T (Ok x) f err at = tt
passed_on T (Err e) f err at = λ ne. at (λ same. ne (err ∙ same))
