-- The objects of a report, as they are written piece by piece.
use Rattle.std.proofs.Common.{◌≡◌, ◌++◌, ◌∷◌, ◌∙◌, [], ℕ, List, Some, None, codes, decimal, flat_map, sym, ap, append_assoc, append-nil}
use Rattle.std.specs.Prelude.{Option}
use Rattle.std.proofs.lemmas.Grind.{flat_map-append}
use Rattle.tw_stats.specs.Json.{time_members}
use Rattle.tw_stats.specs.Strings.{behind_comma, member, object_text, with_commas}

-- members behind a name
pub named_object : (name : List ℕ) (members : List (List ℕ)) → codes "{\"name\":" ++ (name ++ (flat_map behind_comma members ++ codes "}")) ≡ object_text (member (codes "name") name ∷ members)
named_object name members = simp append_assoc

-- the two lists at the end of a component
row_end : (figures observations : List ℕ)
    → codes ",\"figures\":[" ++ (figures ++ (codes "],\"observations\":[" ++ (observations ++ codes "]}")))
    ≡ flat_map behind_comma (member (codes "figures") (codes "[" ++ figures ++ codes "]") ∷ member (codes "observations") (codes "[" ++ observations ++ codes "]") ∷ []) ++ codes "}"
row_end figures observations =
    let end = codes "}" in
    let first = behind_comma (member (codes "figures") (codes "[" ++ figures ++ codes "]")) in
    let second = behind_comma (member (codes "observations") (codes "[" ++ observations ++ codes "]")) in
    let rest = codes ",\"observations\":[" ++ (observations ++ codes "]}") in
    let told : rest ≡ (second ++ []) ++ end =
    sym (ap (λ l. l ++ end) (append-nil second) ∙ ap (λ l. codes ",\"observations\":[" ++ l) (append_assoc observations (codes "]") end)) in
    sym (ap (λ l. codes ",\"figures\":[" ++ l) (append_assoc figures (codes "]") rest))
    ∙ ap (λ l. first ++ l) told
    ∙ sym (append_assoc first (second ++ []) end)

pub row_object : (name model figures observations : List ℕ) (counts : List (List ℕ))
    → codes "{\"name\":" ++ (name ++ (codes ",\"model\":" ++ (model ++ (flat_map behind_comma counts ++ (codes ",\"figures\":[" ++ (figures ++ (codes "],\"observations\":[" ++ (observations ++ codes "]}"))))))))
    ≡ object_text (member (codes "name") name ∷ member (codes "model") model ∷ counts ++ member (codes "figures") (codes "[" ++ figures ++ codes "]") ∷ member (codes "observations") (codes "[" ++ observations ++ codes "]") ∷ [])
row_object name model figures observations counts =
    let end = codes "}" in
    let lists = member (codes "figures") (codes "[" ++ figures ++ codes "]") ∷ member (codes "observations") (codes "[" ++ observations ++ codes "]") ∷ [] in
    let told = flat_map behind_comma counts in
    let counts_end : told ++ (codes ",\"figures\":[" ++ (figures ++ (codes "],\"observations\":[" ++ (observations ++ codes "]}")))) ≡ flat_map behind_comma (counts ++ lists) ++ end =
    ap (λ l. told ++ l) (row_end figures observations) ∙ sym (append_assoc told (flat_map behind_comma lists) end) ∙ ap (λ l. l ++ end) (sym (flat_map-append behind_comma counts lists)) in
    ap (λ l. codes "{\"name\":" ++ (name ++ (codes ",\"model\":" ++ (model ++ l)))) counts_end
    ∙ ap (λ l. codes "{\"name\":" ++ (name ++ l)) (sym (append_assoc (codes ",\"model\":" ++ model) (flat_map behind_comma (counts ++ lists)) end))
    ∙ ap (λ l. codes "{\"name\":" ++ l) (sym (append_assoc name ((codes ",\"model\":" ++ model) ++ flat_map behind_comma (counts ++ lists)) end))

pub fault_object : (name tick micro limit : List ℕ)
    → codes ",\"fault\":{\"component\":" ++ (name ++ (behind_comma tick ++ (behind_comma micro ++ (codes ",\"limit\":" ++ (limit ++ codes "}")))))
    ≡ behind_comma (member (codes "fault") (object_text (member (codes "component") name ∷ tick ∷ micro ∷ member (codes "limit") limit ∷ [])))
fault_object name tick micro limit =
    let end = codes "}" in
    let last = behind_comma (member (codes "limit") limit) ++ [] in
    let third = behind_comma micro ++ last in
    let second = behind_comma tick ++ third in
    let begin = codes ",\"fault\":{\"component\":" in
    sym (ap (λ l. begin ++ l) (append_assoc name second end ∙ ap (λ l. name ++ l) (append_assoc (behind_comma tick) third end
    ∙ ap (λ l. behind_comma tick ++ l) (append_assoc (behind_comma micro) last end
    ∙ ap (λ l. behind_comma micro ++ l) (ap (λ l. l ++ end) (append-nil (behind_comma (member (codes "limit") limit))))))))

whole_object : (until records microsteps rows : List ℕ) (faults : List (List ℕ))
    → (codes "{" ++ until) ++ (behind_comma records ++ (behind_comma microsteps ++ (codes ",\"components\":[" ++ (rows ++ (codes "]" ++ (flat_map behind_comma faults ++ codes "}\n"))))))
    ≡ object_text (until ∷ records ∷ microsteps ∷ member (codes "components") (codes "[" ++ rows ++ codes "]") ∷ faults) ++ codes "\n"
whole_object until records microsteps rows faults =
    let end = codes "}\n" in
    let fourth = flat_map behind_comma faults in
    let listed = behind_comma (member (codes "components") (codes "[" ++ rows ++ codes "]")) in
    let third = listed ++ fourth in
    let second = behind_comma microsteps ++ third in
    let first = behind_comma records ++ second in
    sym (append_assoc (codes "{" ++ (until ++ first)) (codes "}") (codes "\n")
    ∙ ap (λ l. codes "{" ++ l) (append_assoc until first end
    ∙ ap (λ l. until ++ l) (append_assoc (behind_comma records) second end
    ∙ ap (λ l. behind_comma records ++ l) (append_assoc (behind_comma microsteps) third end
    ∙ ap (λ l. behind_comma microsteps ++ l) (append_assoc listed fourth end
    ∙ ap (λ l. codes ",\"components\":[" ++ l) (append_assoc rows (codes "]") (fourth ++ end)))))))

-- the members before the others
times_first : (from : Option ℕ) (until : ℕ) (rest : List (List ℕ)) → with_commas (time_members from until ++ rest) ≡ with_commas (time_members from until) ++ flat_map behind_comma rest
times_first None until rest = ap (λ l. l ++ flat_map behind_comma rest) (sym (append-nil (member (codes "until") (decimal until))))
times_first (Some from) until rest =
    let first = member (codes "from") (decimal from) in
    let second = behind_comma (member (codes "until") (decimal until)) in
    let others = flat_map behind_comma rest in
    ap (λ l. first ++ (l ++ others)) (sym (append-nil second)) ∙ sym (append_assoc first (second ++ []) others)

pub report_object : (from : Option ℕ) (until : ℕ) (records microsteps rows : List ℕ) (faults : List (List ℕ))
    → (codes "{" ++ with_commas (time_members from until)) ++ (behind_comma records ++ (behind_comma microsteps ++ (codes ",\"components\":[" ++ (rows ++ (codes "]" ++ (flat_map behind_comma faults ++ codes "}\n"))))))
    ≡ object_text (time_members from until ++ records ∷ microsteps ∷ member (codes "components") (codes "[" ++ rows ++ codes "]") ∷ faults) ++ codes "\n"
report_object from until records microsteps rows faults =
    let rest = records ∷ microsteps ∷ member (codes "components") (codes "[" ++ rows ++ codes "]") ∷ faults in
    whole_object (with_commas (time_members from until)) records microsteps rows faults
    ∙ ap (λ l. ((codes "{" ++ l) ++ codes "}") ++ codes "\n") (sym (times_first from until rest))
