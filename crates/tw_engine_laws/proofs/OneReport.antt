-- Two reports of one run, with the same names of components and the same labels, are the same bytes.
use Rattle.std.proofs.Common.{◌≡◌, ◌∙◌, ◌<◌, ◌+◌, ◌-◌, ◌++◌, ℕ, zero, suc, ℤ, pos, ◌≤ℤ◌, List, [], ◌∷◌, Bool, true, false, Option, Some, None, ap, ap₂, arith, get_or, inl, inr, le_antisymm, length, map, refl, subst, sym}
use Rattle.std.proofs.lemmas.Int.{ints}
use Rattle.std.proofs.lemmas.Option.{slice_get-get_or, slice_get_within}
use Rattle.std.specs.Fmt.{decimal}
use Rattle.std.specs.List.{AllByRecursion as Each, AllZip, Contains, zip}
use Rattle.std.specs.Prelude.{◌⊎◌, ◌<ℤ◌, codes, flat_map, slice_get, slice_index_or, unsigned_abs}
use Rattle.tw_figures.specs.Figures.{IsGreatest, IsLeast, from_on, transitions, values_from}
use Rattle.tw_figures.specs.Gathered.{IsAboveMicrosteps, start_words}
use Rattle.tw_figures.specs.Deviations.{IsDeviation, IsMeanOfValues, spread, spread_limit}
use Rattle.tw_figures.specs.Labelled.{Label}
use Rattle.tw_figures.specs.Observed.{IsObserved}
use Rattle.tw_figures.specs.declared.observed.Observed.{Observed}
use Rattle.tw_figures.specs.Shares.{IsMean, IsShare, IsThousandths}
use Rattle.tw_figures.specs.Told.{IsTold}
use Rattle.tw_figures.specs.declared.figure.Measure.{Measure}
use Rattle.tw_figures.specs.declared.told.Told.{Told}
use Rattle.tw_msgs.specs.declared.record.Record.{Record}
use Rattle.tw_stats.specs.Gathering.{run_ticks}
use Rattle.tw_stats.specs.Grids.{grid_text}
use Rattle.tw_stats.specs.Json.{report_json}
use Rattle.tw_stats.specs.Reports.{AreTold, IsReport, IsToldOf, first_tick}
use Rattle.tw_stats.specs.Rows.{Row, row_of, rows_from, rows_of, shown_rows}
use Rattle.tw_stats.specs.Texts.{counts_head, counts_line, figure_lines, figures_head, from_text, observation_lines, observations_text}
use Rattle.tw_stats.specs.Written.{report_bytes, rows_bytes}
use Rattle.tw_stats.specs.declared.report.Part.{Part}
use Rattle.tw_stats.specs.declared.report.Report.{Report}
use Rattle.tw_theory.specs.Network.{Network}
use Rattle.tw_theory.specs.Simulator.{sequential}
use Rattle.tw_theory.specs.Traces.{of_component}

-- ---- a figure

each_at : {X : Type 0} (P : X → Type 0) (xs : List X) (k : ℕ) (d : X) → k < length xs → Each P xs → P (slice_index_or xs k d)
each_at P [] k d l h = absurd (let none : k < 0 = l in omega (arith, none))
each_at P (x ∷ xs) zero d l h = h.0
each_at P (x ∷ xs) (suc k) d l h = each_at P xs k d (omega (arith, l)) h.1

contained : {X : Type 0} (P : X → Type 0) (xs : List X) (x : X) → Each P xs → Contains xs x → P x
contained P xs x h (k, l, is) = subst P is (each_at P xs k x l h)

between : (x y : ℤ) → x ≤ℤ y → y ≤ℤ x → x ≡ y
between x y low high = omega (arith, ints, low, high)

one_least : (xs : List ℤ) (x y : ℤ) → IsLeast x xs → IsLeast y xs → x ≡ y
one_least xs x y h h' = between x y (contained (λ z. x ≤ℤ z) xs y h.least h'.one) (contained (λ z. y ≤ℤ z) xs x h'.least h.one)

one_greatest : (xs : List ℤ) (x y : ℤ) → IsGreatest x xs → IsGreatest y xs → x ≡ y
one_greatest xs x y h h' = between x y (contained (λ z. z ≤ℤ y) xs x h'.greatest h.one) (contained (λ z. z ≤ℤ x) xs y h.greatest h'.one)

one_quotient : (sum : ℤ) (ticks : ℕ) (n m : ℤ) → IsThousandths sum ticks n → IsThousandths sum ticks m → n ≡ m
one_quotient sum ticks n m h h' = between n m (h'.greatest n h.within) (h.greatest m h'.within)

one_mean : (sum last : ℤ) (ticks : ℕ) (n m : ℤ) → IsMean sum last ticks n → IsMean sum last ticks m → n ≡ m
one_mean sum last zero n m h h' = h ∙ sym h'
one_mean sum last (suc ticks) n m h h' = one_quotient sum (suc ticks) n m h h'

one_share : (busy : ℕ) (last : ℤ) (ticks : ℕ) (n m : ℤ) → IsShare busy last ticks n → IsShare busy last ticks m → n ≡ m
one_share busy last zero n m h h' = h ∙ sym h'
one_share busy last (suc ticks) n m h h' = one_quotient (pos busy) (suc ticks) n m h h'

pos_one : (x y : ℕ) → pos x ≡ pos y → x ≡ y
pos_one x y e = cc e

told_one : (from : ℕ) (measure : Measure) (start : List ℤ) (moves : List Record) (ticks : ℕ) (a b : Told) → IsTold from measure start moves ticks a → IsTold from measure start moves ticks b → a ≡ b
told_one from measure start moves ticks a b h h' =
    let least : a.least ≡ b.least = one_least (values_from measure from start moves) a.least b.least h.least h'.least in
    let greatest : a.greatest ≡ b.greatest = one_greatest (values_from measure from start moves) a.greatest b.greatest h.greatest h'.greatest in
    let last : a.last ≡ b.last = h.last ∙ sym h'.last in
    let sum : a.sums.sum ≡ b.sums.sum = h.sum ∙ sym h'.sum in
    let count : a.sums.busy ≡ b.sums.busy = pos_one a.sums.busy b.sums.busy (h.counted ∙ sym h'.counted) in
    let mean : a.mean ≡ b.mean =
    one_mean b.sums.sum b.last ticks a.mean b.mean (subst (λ s. IsMean s b.last ticks a.mean) sum (subst (λ l. IsMean a.sums.sum l ticks a.mean) last h.mean)) h'.mean in
    let busy : a.busy ≡ b.busy =
    one_share b.sums.busy b.last ticks a.busy b.busy (subst (λ s. IsShare s b.last ticks a.busy) count (subst (λ l. IsShare a.sums.busy l ticks a.busy) last h.busy)) h'.busy in
    λ k. record {
      least = least k;
      greatest = greatest k;
      last = last k;
      mean = mean k;
      busy = busy k;
      sums = record { sum = sum k; busy = count k };
    }

-- ---- an observation

one_mean_of_values : (count sum : ℤ) (a b : Option ℤ) → IsMeanOfValues count sum a → IsMeanOfValues count sum b → a ≡ b
one_mean_of_values count sum None None h h' = refl
one_mean_of_values count sum None (Some n) h h' = absurd (let some = h'.0 in omega (arith, ints, h, some))
one_mean_of_values count sum (Some m) None h h' = absurd (let some = h.0 in omega (arith, ints, h', some))
one_mean_of_values count sum (Some m) (Some n) h h' = ap Some (one_quotient sum (unsigned_abs count) m n h.1 h'.1)

-- there is none for one of three reasons
no_reason : (count all : ℤ) → (count ≤ℤ pos 0) ⊎ (all <ℤ pos 0) ⊎ (pos spread_limit ≤ℤ all) → pos 0 <ℤ count → pos 0 ≤ℤ all → all <ℤ pos spread_limit → ⊥
no_reason count all (inl few) some low high = omega (arith, ints, few, some)
no_reason count all (inr (inl under)) some low high = omega (arith, ints, under, low)
no_reason count all (inr (inr over)) some low high = omega (arith, ints, over, high)

one_deviation : (count sum squares : ℤ) (a b : Option ℕ) → IsDeviation count sum squares a → IsDeviation count sum squares b → a ≡ b
one_deviation count sum squares None None h h' = refl
one_deviation count sum squares None (Some n) h h' = absurd (no_reason count (spread count sum squares) h h'.0 h'.1 h'.2)
one_deviation count sum squares (Some m) None h h' = absurd (no_reason count (spread count sum squares) h' h.0 h.1 h.2)
one_deviation count sum squares (Some m) (Some n) h h' = ap Some (le_antisymm (h'.3.greatest m h.3.within) (h.3.greatest n h'.3.within))

observed_one : (from place : ℕ) (start : List ℤ) (moves : List Record) (a b : Observed) → IsObserved from place start moves a → IsObserved from place start moves b → a ≡ b
observed_one from place start moves a b h h' =
    let count : a.count ≡ b.count = h.count ∙ sym h'.count in
    let sum : a.sum ≡ b.sum = h.sum ∙ sym h'.sum in
    let squares : a.squares ≡ b.squares = h.squares ∙ sym h'.squares in
    let mean : a.mean ≡ b.mean =
    one_mean_of_values b.count b.sum a.mean b.mean (subst (λ c. IsMeanOfValues c b.sum a.mean) count (subst (λ s. IsMeanOfValues a.count s a.mean) sum h.mean)) h'.mean in
    let deviation : a.deviation ≡ b.deviation =
    one_deviation b.count b.sum b.squares a.deviation b.deviation
    (subst (λ c. IsDeviation c b.sum b.squares a.deviation) count (subst (λ s. IsDeviation a.count s b.squares a.deviation) sum (subst (λ q. IsDeviation a.count a.sum q a.deviation) squares h.deviation))) h'.deviation in
    λ k. record { count = count k; sum = sum k; squares = squares k; mean = mean k; deviation = deviation k }

-- ---- components

one_list : {X Y : Type 0} (P : X → Y → Type 0) → ((x : X) (a b : Y) → P x a → P x b → a ≡ b) → (xs : List X) (ys zs : List Y) → AllZip P xs ys → AllZip P xs zs → ys ≡ zs
one_list P one [] [] [] h h' = refl
one_list P one [] [] (z ∷ zs) h h' = absurd h'
one_list P one [] (y ∷ ys) zs h h' = absurd h
one_list P one (x ∷ xs) [] zs h h' = absurd h
one_list P one (x ∷ xs) (y ∷ ys) [] h h' = absurd h'
one_list P one (x ∷ xs) (y ∷ ys) (z ∷ zs) h h' = ap₂ (λ v vs. v ∷ vs) (one x y z h.0 h'.0) (one_list P one xs ys zs h.1 h'.1)

-- two parts that say the same
abbrev AreOne : Part → Part → Type 0
AreOne p q = (p.counts ≡ q.counts) × (p.figures.items ≡ q.figures.items) × (p.observations.items ≡ q.observations.items)

part_one : (from : ℕ) (label : Label) (start : List ℤ) (records : List Record) (ticks : ℕ) (p q : Part) → IsToldOf from label start records ticks p → IsToldOf from label start records ticks q → AreOne p q
part_one from label start records ticks p q h h' = (
  h.counts ∙ sym h'.counts,
  one_list (λ (figure : List ℕ × Measure) told. IsTold from figure.1 start (transitions records) ticks told)
      (λ figure a b x y. told_one from figure.1 start (transitions records) ticks a b x y) label.figures p.figures.items q.figures.items h.figures h'.figures,
  one_list (λ (observation : List ℕ × ℕ) observed. IsObserved from observation.1 start (transitions records) observed)
      (λ observation a b x y. observed_one from observation.1 start (transitions records) a b x y) label.observations p.observations.items q.observations.items h.observations h'.observations,
)

row_one : (name : List ℕ) (label : Label) (p q : Part) → AreOne p q → row_of name label p ≡ row_of name label q
row_one name label p q one =
    λ i. record {
      name = name;
      model = label.model;
      counts = one.0 i;
      figures = zip (map (λ f. f.0) label.figures) (one.1 i);
      observations = zip (map (λ o. o.0) label.observations) (one.2 i);
    }

rows_one : (name_of : ℕ → List ℕ) (component : ℕ) (labels : List Label) (ps qs : List Part) → length ps ≡ length labels → length qs ≡ length labels
    → ((c : ℕ) (label : Label) (p q : Part) → slice_get labels c ≡ Some label → slice_get ps c ≡ Some p → slice_get qs c ≡ Some q → AreOne p q)
    → rows_from name_of component (zip labels ps) ≡ rows_from name_of component (zip labels qs)
rows_one name_of component [] ps qs size size' each = refl
rows_one name_of component (label ∷ labels) [] qs size size' each = absurd (no_parts size)
  where
    no_parts : 0 ≡ length (label ∷ labels) → ⊥
    no_parts e = omega (arith, e)
rows_one name_of component (label ∷ labels) (p ∷ ps) [] size size' each = absurd (no_parts size')
  where
    no_parts : 0 ≡ length (label ∷ labels) → ⊥
    no_parts e = omega (arith, e)
rows_one name_of component (label ∷ labels) (p ∷ ps) (q ∷ qs) size size' each =
    ap₂ (λ (r : Row) rs. r ∷ rs) (row_one (name_of component) label p q (each 0 label p q refl refl refl))
    (rows_one name_of (component + 1) labels ps qs (omega (arith, size)) (omega (arith, size')) (λ c l x y a b d. each (suc c) l x y a b d))

parts_one : (from : ℕ) (name_of : ℕ → List ℕ) (labels : List Label) (starts : List (List ℤ)) (rs : List Record) (ticks : ℕ) (ps qs : List Part) → length starts ≡ length labels
    → AreTold from labels starts rs ticks ps → AreTold from labels starts rs ticks qs → rows_of name_of labels ps ≡ rows_of name_of labels qs
parts_one from name_of labels starts rs ticks ps qs many h h' =
    rows_one name_of 0 labels ps qs h.size h'.size
    (λ c label p q at here there.
    let start = slice_get-get_or starts c [] (within c label at) in
    part_one from label (get_or starts c []) (of_component c rs) ticks p q (h.each c label (get_or starts c []) p at start here) (h'.each c label (get_or starts c []) q at start there))
  where
    within : (c : ℕ) (label : Label) → slice_get labels c ≡ Some label → c < length starts
    within c label at = let l = slice_get_within labels c label at in omega (arith, l, many)

-- ---- reports

one_count : (rs : List Record) (n m : ℕ) → IsAboveMicrosteps n rs → IsAboveMicrosteps m rs → n ≡ m
one_count rs n m h h' = le_antisymm (h.least m h'.above) (h'.least n h.above)

-- a line of text of these numbers
abbrev first_with : Option ℕ → ℕ → ℕ → ℕ → ℕ → List ℕ
first_with from until components records microsteps =
    from_text from
    ++ (codes "until " ++ decimal until
    ++ codes "  components " ++ decimal components
    ++ codes "  records " ++ decimal records
    ++ codes "  microsteps " ++ decimal microsteps
    ++ codes "\n")

abbrev text_with : List Row → List ℕ → List ℕ
text_with rows first =
    first ++ codes "\n" ++ grid_text 2 (counts_head ∷ map counts_line rows) ++ codes "\n" ++ grid_text 2 (figures_head ∷ flat_map figure_lines rows)
    ++ observations_text (flat_map observation_lines rows)

module _ (name_of : ℕ → List ℕ) (rows rows' : List Row) (r s : Report) (same : rows ≡ rows') (from : r.from ≡ s.from) (until : r.until ≡ s.until) (ticks : r.ticks ≡ s.ticks)
    (records : r.records ≡ s.records) (microsteps : r.microsteps ≡ s.microsteps) (fault : r.fault ≡ s.fault) (parts : length r.parts.items ≡ length s.parts.items) where
  bytes_one : (json : Bool) → rows_bytes json name_of rows r ≡ rows_bytes json name_of rows' s
  bytes_one true = λ k. report_json name_of (same k)
      (record { parts = r.parts; from = from k; until = until k; ticks = ticks k; records = records k; microsteps = microsteps k; fault = fault k })
  bytes_one false = λ k. text_with (same k) (first_with (from k) (until k) (parts k) (records k) (microsteps k))

module _ {S : Type 0} (net net' : Network S) (from : Option ℕ) (until : ℕ) (starts : start_words net ≡ start_words net') (run : sequential net until ≡ sequential net' until) where
  -- of two networks that have one run
  pub one_report : (json : Bool) (name_of : ℕ → List ℕ) (labels : List Label) (shown : List Bool) (r s : Report) → length (start_words net) ≡ length labels
      → IsReport net from until labels r → IsReport net' from until labels s → report_bytes json name_of labels shown r ≡ report_bytes json name_of labels shown s
  one_report json name_of labels shown r s many h h' =
      let faults : (sequential net until).fault ≡ (sequential net' until).fault = ap (λ x. x.fault) run in
      let records : (sequential net until).records ≡ (sequential net' until).records = ap (λ x. x.records) run in
      let first = first_tick from in
      let counted : from_on first (sequential net until).records ≡ from_on first (sequential net' until).records = ap (from_on first) records in
      let ticks : r.ticks ≡ s.ticks = h.ticks ∙ ap (λ f. run_ticks until f - first) faults ∙ sym h'.ticks in
      let told : AreTold first labels (start_words net) (sequential net until).records r.ticks s.parts.items =
      subst (λ t. AreTold first labels (start_words net) (sequential net until).records t s.parts.items) (sym ticks)
      (subst (λ ss. AreTold first labels ss (sequential net until).records s.ticks s.parts.items) (sym starts)
      (subst (λ rs. AreTold first labels (start_words net') rs s.ticks s.parts.items) (sym records) h'.parts)) in
      bytes_one name_of (shown_rows (rows_of name_of labels r.parts.items) shown) (shown_rows (rows_of name_of labels s.parts.items) shown) r s
      (ap (λ rows. shown_rows rows shown) (parts_one first name_of labels (start_words net) (sequential net until).records r.ticks r.parts.items s.parts.items many h.parts told))
      (h.begin ∙ sym h'.begin) (h.end ∙ sym h'.end) ticks (h.records ∙ ap length counted ∙ sym h'.records)
      (one_count (from_on first (sequential net until).records) r.microsteps s.microsteps h.microsteps (subst (λ rs. IsAboveMicrosteps s.microsteps rs) (sym counted) h'.microsteps))
      (h.fault ∙ faults ∙ sym h'.fault) (h.parts.size ∙ sym told.size) json
