-- Examples of the lines of a text, and of what is known of them in a chunk.
use Rattle.std.proofs.Common.{◌≡◌, ℕ, true, false, List, [], ◌∷◌, refl, replicate}
use Rattle.set_line.specs.Lines.{lines_of}
use Rattle.line_chunks.specs.Chunks.{cut, numbered_cuts, too_long, whole}
use Rattle.set_line.specs.Returns.{lines_in, without_returns}

-- three lines that end with CR LF, with LF and with CR CR LF, and a last line that ends with CR; the second has a
-- carriage return inside
text : List ℕ
text = 97 ∷ 13 ∷ 10 ∷ 98 ∷ 13 ∷ 99 ∷ 10 ∷ 100 ∷ 13 ∷ 13 ∷ 10 ∷ 101 ∷ 13 ∷ []

stripped_text : without_returns text ≡ 97 ∷ 10 ∷ 98 ∷ 13 ∷ 99 ∷ 10 ∷ 100 ∷ 13 ∷ 10 ∷ 101 ∷ 13 ∷ []
unfolding text without_returns
stripped_text = refl

lines_with_crlf : lines_in true text ≡ (97 ∷ []) ∷ (98 ∷ 13 ∷ 99 ∷ []) ∷ (100 ∷ 13 ∷ []) ∷ (101 ∷ 13 ∷ []) ∷ []
unfolding text without_returns lines_of
lines_with_crlf = refl

lines_with_lf : lines_in false text ≡ (97 ∷ 13 ∷ []) ∷ (98 ∷ 13 ∷ 99 ∷ []) ∷ (100 ∷ 13 ∷ 13 ∷ []) ∷ (101 ∷ 13 ∷ []) ∷ []
unfolding text lines_of
lines_with_lf = refl

-- a line feed alone, with CR LF as with LF, is an empty line, and no line follows the last line feed
empty_lines : lines_in true (13 ∷ 10 ∷ 10 ∷ []) ≡ [] ∷ [] ∷ []
unfolding without_returns lines_of
empty_lines = refl

no_text : lines_in true [] ≡ []
unfolding without_returns lines_of
no_text = refl

-- the numbers of two lines, of which the first has the number 7
two_lines : numbered_cuts 7 ((97 ∷ []) ∷ [] ∷ []) ≡ (7, whole (97 ∷ [])) ∷ (8, whole []) ∷ []
two_lines = refl

-- the longest line that is kept whole, and the shortest one of which only the length is
longest_whole : cut (replicate 65535 97) ≡ whole (replicate 65535 97)
longest_whole = refl

shortest_cut : cut (replicate 65536 97) ≡ too_long 65536
shortest_cut = refl
