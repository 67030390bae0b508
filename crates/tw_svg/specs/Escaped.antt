-- Words as the text of a picture has them.
--     plain_of c      a letter that is no sign of the markup: white space is a space, and what no XML may have is the sign for an
--                     unknown letter
--     escaped_letter c      the signs of the markup by their names, each other letter as a plain one
--     escaped words      all letters of a text
--     title_text words      an element that tells them where one points
--     IsPlain c      a letter that begins no element and no name of a sign, ends neither words nor an attribute, and that XML may have
use Rattle.std.specs.Prelude.{ℕ, List, ◌++◌, ◌==◌, ◌≢◌, ◌≤◌, if◌then◌else◌, chars, codes, encode_utf8, flat_map, nat_lt}

abbrev pub plain_of : ℕ → ℕ
plain_of c =
    if c == 9 then 32
    else if c == 10 then 32
    else if c == 13 then 32
    else if nat_lt c 32 then 65533
    else if c == 65534 then 65533
    else if c == 65535 then 65533
    else c

abbrev pub escaped_letter : ℕ → List ℕ
escaped_letter c =
    if c == 38 then codes "&amp;"
    else if c == 60 then codes "&lt;"
    else if c == 62 then codes "&gt;"
    else if c == 34 then codes "&quot;"
    else encode_utf8 (plain_of c)

abbrev pub escaped : List ℕ → List ℕ
escaped words = flat_map escaped_letter (chars words)

abbrev pub title_text : List ℕ → List ℕ
title_text words = codes "<title>" ++ escaped words ++ codes "</title>"

abbrev pub IsPlain : ℕ → Type 0
IsPlain c = (32 ≤ c) × (c ≢ 34) × (c ≢ 38) × (c ≢ 60) × (c ≢ 62) × (c ≢ 65534) × (c ≢ 65535)
