-- The records of the lines of chunks.
use Rattle.std.proofs.Common.{◌≡◌, ℕ, Bool, true, false, arith, ◌-◌, ◌<◌, ◌≤◌, ◌==◌, ◌&&◌, take, ⊎_elim, List, [], ◌∷◌, ◌++◌, length, Option, refl, ap, sym, ◌∙◌}
use Rattle.std.specs.List.{flat_map}
use Rattle.std.specs.Prelude.{cond, nat_lt}
use Rattle.std.proofs.lemmas.List.{length-take}
use Rattle.std.proofs.lemmas.Bool.{cases_lt, cond-true, cond-false, lt-ltb, le-ltb}
use Rattle.std.proofs.lemmas.List.Concat.{flat_map-append}
use Rattle.set_line.specs.Terms.{TermsValue}
use Rattle.encodings.specs.declared.encoding.Encoding.{Encoding}
use Rattle.line_records.specs.Results.{line_result}
use Rattle.line_records.proofs.ResultLemmas.{long_result}
use Rattle.line_chunks.specs.Chunks.{ChunkValue, cut, lines_of_chunk, too_long, whole}
use Rattle.set_line.specs.Returns.{before_feed, ends_with_return}
use Rattle.line_chunks.specs.ChunkText.{MakerValue, chunk_text, record_in, records_in, result_in}

-- what is known of a line in a chunk
pub cut_long : (line : List ℕ) → 65535 < length line → cut line ≡ too_long (length line)
cut_long line long = cond-true (nat_lt 65535 (length line)) (too_long (length line)) (whole line) (lt-ltb 65535 (length line) long)

-- a line that is too long is too long without its carriage return, too
pub cut_before_feed : (crlf : Bool) (line : List ℕ) → 65536 < length line → cut (before_feed crlf line) ≡ too_long (length (before_feed crlf line))
cut_before_feed crlf line long = cut_long (before_feed crlf line) (by (crlf && ends_with_return line))
  where
    by : (b : Bool) → 65535 < length (cond b (take (length line - 1) line) line)
    by true = omega (arith, length-take (length line - 1) line)
    by false = omega arith

cut_short : (line : List ℕ) → length line ≤ 65535 → cut line ≡ whole line
cut_short line short = cond-false (nat_lt 65535 (length line)) (too_long (length line)) (whole line) (le-ltb 65535 (length line) short)

-- Law: a line has the same result in a chunk as elsewhere, even if the chunk keeps only its length
pub result_in-cut : (terms : TermsValue) (encoding : Option Encoding) (number : ℕ) (line : List ℕ)
    → result_in terms encoding number (cut line) ≡ line_result terms encoding (number == 1) line
result_in-cut terms encoding number line = ⊎_elim
    (λ (many : 65535 < length line). ap (result_in terms encoding number) (cut_long line many) ∙ sym (long_result terms encoding (number == 1) line many))
    (λ (short : length line ≤ 65535). ap (result_in terms encoding number) (cut_short line short))
    (cases_lt 65535 (length line))

-- Law: the texts of chunks, joined, are the records of all their lines
pub texts_joined : (maker : MakerValue) (chunks : List ChunkValue)
    → flat_map (λ chunk. (chunk_text maker chunk).text) chunks ≡ records_in maker (flat_map lines_of_chunk chunks)
texts_joined maker [] = refl
texts_joined maker (chunk ∷ chunks) =
    ap (λ text. records_in maker (lines_of_chunk chunk) ++ text) (texts_joined maker chunks)
    ∙ sym (flat_map-append (record_in maker) (lines_of_chunk chunk) (flat_map lines_of_chunk chunks))

pub ruleset cuts = (result_in-cut)
