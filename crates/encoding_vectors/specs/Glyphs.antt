-- The digits of the characters of glyphs by name.
-- Public source: Adobe Glyph List, version 2.0, except for its 81 names of several characters; and of TeX, by
-- texglyphlist.txt, the names compwordmark, cwm, Dbar, dbar, Ng, ng and visiblespace, which the list lacks, and
-- Delta, dotlessj and Omega, to which it gives the increment, a character for private use and the ohm sign; and
-- Germandbls, one.superior, two.superior and three.superior of the files ec.enc and lm-texnansi.enc.
use Rattle.std.specs.Prelude.{ℕ, zero, suc, ◌+◌, ◌/◌, cond, List, [], ◌∷◌, take, drop, length, get_or, slice_range, Option, Some, None, bytes_eq}
use Rattle.encoding_vectors.specs.declared.glyphs.list.TheConstants.{ROWS, STARTS}

-- so many pieces at the front of a text, with so many bytes each
abbrev pub pieces : ℕ → ℕ → List ℕ → List (List ℕ)
pieces zero size text = []
pieces (suc count) size text = take size text ∷ pieces count size (drop size text)

-- the rows in a text of names of so many bytes: the name, a semicolon, four digits and a space
abbrev pub rows_in : ℕ → List ℕ → List (List ℕ)
rows_in count text = pieces (length text / (count + 6)) (count + 6) text

-- the digits in the first row of a name
abbrev pub digits_beside : List (List ℕ) → List ℕ → Option (List ℕ)
digits_beside [] name = None
digits_beside (row ∷ rows) name =
    cond (bytes_eq (take (length name) row) name) (Some (take 4 (drop (length name + 1) row))) (digits_beside rows name)

-- the text of the rows in the list with names of so many bytes
unfoldable pub rows_of : ℕ → List ℕ
rows_of count = slice_range ROWS.now (get_or STARTS count 0) (get_or STARTS (count + 1) 0)

-- the digits beside a name in the list, if it is there
unfoldable pub listed_digits : List ℕ → Option (List ℕ)
listed_digits name = digits_beside (rows_in (length name) (rows_of (length name))) name
