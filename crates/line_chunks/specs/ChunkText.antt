-- The text of a chunk: the records of its lines.
-- This project's own; the result of a line is defined in Results of `line_records`.
use Rattle.std.specs.Prelude.{◌≡◌, ℕ, ◌==◌, List, length, flat_map, count_by, Option, Result, Err}
use Rattle.lig_kern.specs.Result.{Setting}
use Rattle.set_line.specs.declared.outcome.LineRefusal.TheVariants.{TooLong}
use Rattle.set_line.specs.declared.records.text_refusal.TextRefusal.{TextRefusal}
use Rattle.set_line.specs.declared.records.text_refusal.TextRefusal.TheVariants.{Line}
use Rattle.set_line.specs.Terms.{TermsValue}
use Rattle.formats.specs.declared.record_format.RecordFormat.{RecordFormat}
use Rattle.line_chunks.specs.Chunks.{ChunkLine, whole, too_long}
use Rattle.encodings.specs.declared.encoding.Encoding.{Encoding}
use Rattle.line_records.specs.Results.{is_refused, line_result, result_record}
use Rattle.line_chunks.specs.Chunks.{ChunkValue, NumberedLine, lines_of_chunk}

-- how the lines of a source are read, and how their records are written: the encoding, if there is one, and the
-- record format
pub record RecordStyle : Type 0 where
  pub encoding : Option Encoding
  pub format : RecordFormat

-- what the records of a source depend on besides its lines: the settings, the number of the source, and the
-- encoding and the record format
pub record MakerValue : Type 0 where
  pub terms : TermsValue
  pub source : ℕ
  pub style : RecordStyle

-- the result of the line with this number: a byte order mark at its front is left out only if the number is 1, and
-- a line that isn't kept whole is refused with its length
abbrev pub result_in : TermsValue → Option Encoding → ℕ → ChunkLine → Result Setting TextRefusal
result_in terms encoding number (whole bytes) = line_result terms encoding (number == 1) bytes
result_in terms encoding number (too_long count) = Err (Line (TooLong count))

-- the record of a line with its line number
abbrev pub record_in : MakerValue → NumberedLine → List ℕ
record_in maker line =
    result_record maker.style.format maker.terms.font maker.source line.0 (result_in maker.terms maker.style.encoding line.0 line.1)

-- the records of lines with their line numbers, in order
abbrev pub records_in : MakerValue → List NumberedLine → List ℕ
records_in maker lines = flat_map (record_in maker) lines

-- the number of refused lines among lines with their line numbers
abbrev pub refused_in : TermsValue → Option Encoding → List NumberedLine → ℕ
refused_in terms encoding lines = count_by (λ line. is_refused (result_in terms encoding line.0 line.1)) lines

-- the text of a chunk: what its records depend on, the chunk, its records, the number of its lines, and the
-- number of refused lines among them
pub record ChunkTextValue : Type 0 where
  pub maker : MakerValue
  pub chunk : ChunkValue
  pub text : List ℕ
  pub lines : ℕ
  pub refused : ℕ

-- the text of this chunk
abbrev pub chunk_text : MakerValue → ChunkValue → ChunkTextValue
chunk_text maker chunk = record {
  maker = maker;
  chunk = chunk;
  text = records_in maker (lines_of_chunk chunk);
  lines = length chunk.lines;
  refused = refused_in maker.terms maker.style.encoding (lines_of_chunk chunk);
}

-- the contents of a text are the defined ones for its chunk
abbrev pub IsChunkText : ChunkTextValue → Type 0
IsChunkText text = text ≡ chunk_text text.maker text.chunk
