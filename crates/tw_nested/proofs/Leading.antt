-- Paths along the couplings of models are the ways along the couplings of their ports.
use Rattle.std.proofs.Common.{◌≡◌, ℕ, ◌<◌, List, length, refl, sym, ap, arith, subst, slice_index, ◌⊎◌, inl, inr}
use Rattle.std.specs.List.{All, Contains}
use Rattle.tw_nested.specs.declared.tree.End.TheVariants.{Here, Part}
use Rattle.std.proofs.lemmas.List.Elements.{All-contains}
use Rattle.tw_nested.specs.Tree.{Model, Link}
use Rattle.tw_nested.specs.Reach.{Edge, Reaches, start, further}
use Rattle.tw_nested.specs.Flat.{in_of, out_of}
use Rattle.tw_nested.specs.Paths.{Outwards, at_once, leaving, Path, across, entering, IsEdge, IsModel, IsLink, source_of, destination_of}

module _ (count : ℕ) (models : List Model) (edges : List Edge)
    (made : (e : Edge) → IsEdge count models e → Contains edges e)
    (known : (e : Edge) → Contains edges e → IsEdge count models e)
    (sound : All (IsModel count) models) where
  -- ---- a path leads along couplings of ports

  outwards_reaches : (c p n q : ℕ) → Outwards models c p n q → Reaches edges (out_of count c p) (out_of count n q)
  outwards_reaches c p _ _ at_once = start
  outwards_reaches c p _ _ (leaving d r n q way l) =
      further (out_of count d r) (out_of count n q) (outwards_reaches c p d r way)
      (made (out_of count d r, out_of count n q) (record { model = l.model; among = l.among; link = (Part l.place, r, Here, q); held = l.link; is = λ i. (out_of count (l.part.1 i) r, out_of count (l.around i) q) }))

  pub path_reaches : (c p d q : ℕ) → Path models c p d q → Reaches edges (out_of count c p) (in_of count d q)
  path_reaches c p _ _ (across d r e s way k) =
      further (out_of count d r) (in_of count e s) (outwards_reaches c p d r way)
      (made (out_of count d r, in_of count e s) (record { model = k.model; among = k.among; link = (Part k.source, r, Part k.destination, s); held = k.link; is = λ i. (out_of count (k.source_part.1 i) r, in_of count (k.destination_part.1 i) s) }))
  path_reaches c p _ _ (entering n r e s way k) =
      further (in_of count n r) (in_of count e s) (path_reaches c p n r way)
      (made (in_of count n r, in_of count e s) (record { model = k.model; among = k.among; link = (Here, r, Part k.place, s); held = k.link; is = λ i. (in_of count (k.entered i) r, in_of count (k.part.1 i) s) }))

  -- ---- and what is reached along couplings of ports is reached by a path

  -- a port that is reached: of a model around, or by a path
  record Out (c p v : ℕ) : Type 0 where
    part : ℕ
    port : ℕ
    is : v ≡ out_of count part port
    part_low : part < count
    port_low : port < 16
    way : Outwards models c p part port

  record In (c p v : ℕ) : Type 0 where
    part : ℕ
    port : ℕ
    is : v ≡ in_of count part port
    part_low : part < count
    port_low : port < 16
    way : Path models c p part port

  same_out : (a p b q : ℕ) → a < count → b < count → p < 16 → q < 16 → out_of count a p ≡ out_of count b q → (a ≡ b) × (p ≡ q)
  same_out a p b q x y u v e = (omega (arith, x, y, u, v, e), omega (arith, x, y, u, v, e))

  same_in : (a p b q : ℕ) → p < 16 → q < 16 → in_of count a p ≡ in_of count b q → (a ≡ b) × (p ≡ q)
  same_in a p b q u v e = (omega (arith, u, v, e), omega (arith, u, v, e))

  not_both : (a p b q : ℕ) → a < count → p < 16 → out_of count a p ≡ in_of count b q → ⊥
  not_both a p b q x u e = omega (arith, x, u, e)

  part_low : (m : Model) (i : ℕ) → IsModel count m → i < length m.parts → slice_index m.parts i < count
  part_low m i s lt = s.below i 0 lt

  out_way : (c p : ℕ) (m : Model) (i r : ℕ) → IsModel count m → i < length m.parts → r < 16 → Out c p (out_of count (slice_index m.parts i) r) → Outwards models c p (slice_index m.parts i) r
  out_way c p m i r sm lt low o =
      let e = same_out (slice_index m.parts i) r o.part o.port (part_low m i sm lt) o.part_low low o.port_low o.is in
      subst (λ x. Outwards models c p x r) (sym e.0) (subst (λ x. Outwards models c p o.part x) (sym e.1) o.way)

  in_way : (c p n r : ℕ) → r < 16 → In c p (in_of count n r) → Path models c p n r
  in_way c p n r low o =
      let e = same_in n r o.part o.port low o.port_low o.is in
      subst (λ x. Path models c p x r) (sym e.0) (subst (λ x. Path models c p o.part x) (sym e.1) o.way)

  -- one coupling further
  step : (c p : ℕ) (m : Model) (k : Link) → Contains models m → Contains m.links k → IsModel count m → IsLink m k → Out c p (source_of count m k.0 k.1) ⊎ In c p (source_of count m k.0 k.1) → Out c p (destination_of count m k.2 k.3) ⊎ In c p (destination_of count m k.2 k.3)
  step c p m (Part i, r, Here, s) among at sm sl (inl o) =
      inl (record {
        part = m.number;
        port = s;
        is = refl;
        part_low = sm.number;
        port_low = sl.destination_port;
        way = leaving (slice_index m.parts i) r m.number s (out_way c p m i r sm sl.source sl.source_port o)
            (record { model = m; among = among; around = refl; place = i; part = (sl.source, refl); link = at });
      })
  step c p m (Part i, r, Here, s) among at sm sl (inr n) = absurd (not_both (slice_index m.parts i) r n.part n.port (part_low m i sm sl.source) sl.source_port n.is)
  step c p m (Part i, r, Part j, s) among at sm sl (inl o) =
      inr (record {
        part = slice_index m.parts j;
        port = s;
        is = refl;
        part_low = part_low m j sm sl.destination;
        port_low = sl.destination_port;
        way = across (slice_index m.parts i) r (slice_index m.parts j) s (out_way c p m i r sm sl.source sl.source_port o)
            (record { model = m; among = among; source = i; source_part = (sl.source, refl); destination = j; destination_part = (sl.destination, refl); link = at });
      })
  step c p m (Part i, r, Part j, s) among at sm sl (inr n) = absurd (not_both (slice_index m.parts i) r n.part n.port (part_low m i sm sl.source) sl.source_port n.is)
  step c p m (Here, r, Part j, s) among at sm sl (inl o) = absurd (not_both o.part o.port m.number r o.part_low o.port_low (sym o.is))
  step c p m (Here, r, Part j, s) among at sm sl (inr n) =
      inr (record {
        part = slice_index m.parts j;
        port = s;
        is = refl;
        part_low = part_low m j sm sl.destination;
        port_low = sl.destination_port;
        way = entering m.number r (slice_index m.parts j) s (in_way c p m.number r sl.source_port n)
            (record { model = m; among = among; entered = refl; place = j; part = (sl.destination, refl); link = at });
      })
  step c p m (Here, r, Here, s) among at sm sl x = absurd sl.apart

  reached_by : (c p v : ℕ) → c < count → p < 16 → Reaches edges (out_of count c p) v → Out c p v ⊎ In c p v
  reached_by c p _ low port start = inl (record { part = c; port = p; is = refl; part_low = low; port_low = port; way = at_once })
  reached_by c p _ low port (further b v r at) =
      let e = known (b, v) at in
      let m = All-contains (IsModel count) models e.model sound e.among in
      let k = All-contains (IsLink e.model) e.model.links e.link m.links e.held in
      let before = subst (λ w. Out c p w ⊎ In c p w) (sym (ap (λ (f : Edge). f.0) e.is)) (reached_by c p b low port r) in
      subst (λ w. Out c p w ⊎ In c p w) (ap (λ (f : Edge). f.1) e.is) (step c p e.model e.link e.among e.held m k before)

  pub path_of : (c p d q : ℕ) → c < count → p < 16 → d < count → q < 16 → Reaches edges (out_of count c p) (in_of count d q) → Path models c p d q
  path_of c p d q low port low' port' r = go (reached_by c p (in_of count d q) low port r)
    where
      go : Out c p (in_of count d q) ⊎ In c p (in_of count d q) → Path models c p d q
      go (inl o) = absurd (not_both o.part o.port d q o.part_low o.port_low (sym o.is))
      go (inr n) = in_way c p d q port' n
