-- What a rewind answers and makes of the world, where the code has found out what is the case; and that the columns of an executive rise, all before global virtual time.
use Rattle.std.proofs.Common.{◌≡◌, ◌≢◌, ℕ, zero, suc, ◌==◌, ◌+◌, ◌<◌, List, [], ◌∷◌, length, map, not, Some, true, false, refl, sym, ap, ◌∙◌, subst, arith}
use Rattle.std.specs.List.{AllByRecursion as Each}
use Rattle.std.specs.Prelude.{slice_get, Ok, Err}
use Rattle.std.proofs.lemmas.Bool.{cond-true, cond-false, eq-eqb, ne_eqb}
use Rattle.std.proofs.lemmas.Option.{get_or_from_slice_get, none-some, same_Some, slice_get_within}
use Rattle.tw_atomic.specs.Atomic.{Meaning}
use Rattle.std.proofs.lemmas.List.{length-map}
use Rattle.tw_exec.specs.Rewinding.{at_marks}
use Rattle.tw_exec.specs.Running.{shown, IsHeld, IsOwn}
use Rattle.tw_exec.proofs.Kept.{as_many_columns, cut_own}
use Rattle.tw_exec.proofs.Marks.{each_cut, rewound_contents}
use Rattle.tw_exec.proofs.Worlds.{process_at}
use Rattle.tw_fossils.proofs.Sound.{sound_columns}
use Rattle.tw_fossils.specs.Columns.{AreColumns, IsRising}
use Rattle.tw_laws.proofs.Ready.{records_early}
use Rattle.tw_laws.proofs.Rewinding.{rewind_keeps}
use Rattle.tw_msgs.specs.declared.message.Item.{Item}
use Rattle.tw_msgs.specs.declared.record.Record.{Record}
use Rattle.tw_network.specs.Contents.{Contents, network_of}
use Rattle.tw_process.specs.Process.{Held, with_cut}
use Rattle.tw_theory.proofs.Elements.{each_from_get, present}
use Rattle.tw_theory.specs.Executive.{Committed, NoSuch, Undone, World}
use Rattle.tw_theory.specs.Marks.{any_committed, rewind, rewound, rewound_steps}
use Rattle.tw_theory.specs.Simulator.{records_before, sequential, up_to}
use Rattle.tw_theory.specs.Soundness.{IsSound}

module _ {S : Type 0} (w : World S) (ss : List ℕ) where
  pub wrong : length ss ≢ length w.processes → rewind w ss ≡ (Err NoSuch, w)
  unfolding rewind
  wrong other = cond-true (not (length ss == length w.processes)) _ _ (ap not (ne_eqb (length ss) (length w.processes) other))

  pub since : length ss ≡ length w.processes → any_committed w.gvt ss w.processes w.columns ≡ true → rewind w ss ≡ (Err Committed, w)
  unfolding rewind
  since same any = cond-false (not (length ss == length w.processes)) _ _ (ap not (eq-eqb (length ss) (length w.processes) same)) ∙ cond-true (any_committed w.gvt ss w.processes w.columns) _ _ any

  pub taken : length ss ≡ length w.processes → any_committed w.gvt ss w.processes w.columns ≡ false → rewind w ss ≡ (Ok (Undone (rewound_steps ss w.processes)), record w { processes = rewound ss w.processes })
  unfolding rewind
  taken same none = cond-false (not (length ss == length w.processes)) _ _ (ap not (eq-eqb (length ss) (length w.processes) same)) ∙ cond-false (any_committed w.gvt ss w.processes w.columns) _ _ none

rising_at : (b k : ℕ) (columns : List (List Record)) (column : List Record) → AreColumns b columns → slice_get columns k ≡ Some column → IsRising column
rising_at b k [] column are at = absurd (none-some column at)
rising_at b zero (first ∷ columns) column are at = subst IsRising (same_Some first column at) are.0.rising
rising_at b (suc k) (first ∷ columns) column are at = rising_at (suc b) k columns column are.1 at

module _ {M S : Type 0} {meaning : M → Meaning S} {n : Contents M} {until end gvt : ℕ} {ps : List (Held M S)} {mail : List (List Item)} {columns : List (List Record)} (h : IsHeld meaning n until end gvt ps mail columns) where
  pub columns_rise : Each (λ column. IsRising column × Each (λ r. r.stamp < gvt) column) columns
  columns_rise = each_from_get (λ (column : List Record). IsRising column × Each (λ (r : Record). r.stamp < gvt) column) columns (λ c column at. one c column at)
    where
      one : (c : ℕ) (column : List Record) → slice_get columns c ≡ Some column → IsRising column × Each (λ (r : Record). r.stamp < gvt) column
      one c column at =
          let p = present ps c (omega (arith, slice_get_within columns c column at, as_many_columns h)) in
          let sound = h.sound.each c p.0.process (process_at ps mail columns gvt c p.0 p.1) in
          let net = network_of meaning n in
          let limit = up_to until p.0.process.line in
          let is : column ≡ records_before net until c p.0.process.line = sym (get_or_from_slice_get columns c column [] at) ∙ sound.column_is in
          let rs = (sequential net until).records in
          let low = records_early c limit gvt rs (omega (arith, sound.line_le)) in
          (rising_at 0 c columns column (sound_columns net until (shown ps mail columns gvt) h.network h.bound h.sound) at, subst (Each (λ (r : Record). r.stamp < gvt)) (sym is) low)

  -- processes that were cut at their marks, none of whose steps since then may be committed
  pub rewound_world : (ss : List ℕ) (qs : List (Held M S)) → length ss ≡ length ps → any_committed gvt ss (map (λ p. p.process) ps) columns ≡ false → qs ≡ at_marks ss ps
      → rewind (shown ps mail columns gvt) ss ≡ (Ok (Undone (rewound_steps ss (map (λ p. p.process) ps))), shown qs mail columns gvt)
  rewound_world ss qs same none is =
      taken (shown ps mail columns gvt) ss (same ∙ sym (length-map ps (λ (p : Held M S). p.process))) none
      ∙ ap (λ rs. (Ok (Undone (rewound_steps ss (map (λ p. p.process) ps))), record { processes = rs; mail = mail; columns = columns; gvt = gvt })) (sym (rewound_contents ss ps) ∙ ap (map (λ p. p.process)) (sym is))

  pub rewound_held : (ss : List ℕ) (qs : List (Held M S)) → length ss ≡ length ps → any_committed gvt ss (map (λ p. p.process) ps) columns ≡ false → qs ≡ at_marks ss ps → IsHeld meaning n until end gvt qs mail columns
  rewound_held ss qs same none is = record {
    network = h.network;
    bound = h.bound;
    end_is = h.end_is;
    sound = subst (IsSound (network_of meaning n) until) (ap (λ x. x.1) (rewound_world ss qs same none is)) (rewind_keeps (network_of meaning n) until h.network h.bound (shown ps mail columns gvt) ss h.sound);
    own = λ c p at. (let from_start : (d : ℕ) → 0 + d ≡ d = λ d. omega arith in
        subst (λ k. IsOwn n k p) (from_start c) (each_cut (IsOwn n) (λ d s q o. cut_own h d s q (with_cut s q) refl o) 0 ss ps (λ d q q_at. subst (λ k. IsOwn n k q) (sym (from_start d)) (h.own d q q_at)) c p (ap (λ l. slice_get l c) (sym is) ∙ at)));
  }
