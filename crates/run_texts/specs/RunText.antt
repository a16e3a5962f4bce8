-- The parts of the output of a batch: the first line, the records of the results of a source, and its end
-- line.
-- This project's own.
use Rattle.std.specs.Prelude.{ℕ, ◌+◌, ◌==◌, List, [], ◌∷◌, ◌++◌, length, codes, decimal, cond, Bool, Option, None, Some}
use Rattle.run_plan.specs.declared.version.Version.{Version}
use Rattle.run_plan.specs.declared.version.Version.TheVariants.{One, Two, Json}
use Rattle.set_line.specs.Answer.{AnswerValue}
use Rattle.set_line.specs.Record.{record_text}
use Rattle.lanes.specs.declared.fault.SourceFault.TheVariants.{Read, OutOfMemory, ReadBound}
use Rattle.lanes.specs.declared.ending.LaneEnd.{LaneEnd}
use Rattle.lanes.specs.declared.ending.LaneEnd.TheVariants.{Complete, SourceFailed, GaveUp}
use Rattle.encodings.specs.declared.encoding.Encoding.{Encoding}
use Rattle.formats.specs.Records.{version_of}
use Rattle.formats.specs.declared.record_format.RecordFormat.{RecordFormat}
use Rattle.formats.specs.declared.record_format.RecordFormat.TheVariants.{Items, Box}
use Rattle.line_records.specs.Results.{is_refusal, is_refused, line_record, line_result}
use Rattle.line_chunks.specs.ChunkText.{RecordStyle}
use Rattle.run_texts.specs.declared.options.OutputOptions.{OutputOptions}

-- the encoding and the record format of an output with these options
abbrev pub style_of : {G : Type 0} → OutputOptions G → RecordStyle
style_of options = record { encoding = options.encoding; format = options.format }

-- the style of the output of lines of bytes in this record format
abbrev pub bytes_style : Version → RecordStyle
bytes_style version = record { encoding = None; format = Items version }

-- the record of the line with this number: that of a line of bytes with its items has the outcome of the answer, and
-- any other line is set with the settings of the answer
abbrev pub record_with : Option Encoding → RecordFormat → ℕ → ℕ → AnswerValue → List ℕ
record_with None (Items version) source place answer = record_text source place answer.outcome version
record_with None (Box unit) source place answer = line_record answer.terms None (place == 1) answer.line source place (Box unit)
record_with (Some encoding) format source place answer = line_record answer.terms (Some encoding) (place == 1) answer.line source place format

-- the same for an output in this style
abbrev pub record_of : RecordStyle → ℕ → ℕ → AnswerValue → List ℕ
record_of style source place answer = record_with style.encoding style.format source place answer

-- the records of lines; the first one has this line number
abbrev pub records_from : ℕ → ℕ → RecordStyle → List AnswerValue → List ℕ
records_from source place style [] = []
records_from source place style (answer ∷ answers) =
    record_of style source place answer ++ records_from source (place + 1) style answers

-- the reason for the end of a lane, as the end line states it
unfoldable pub why_of : LaneEnd → List ℕ
why_of Complete = codes "complete"
why_of (SourceFailed Read) = codes "read"
why_of (SourceFailed OutOfMemory) = codes "memory"
why_of (SourceFailed ReadBound) = codes "bound"
why_of GaveUp = codes "gave-up"

-- the end line of formats 1 and 2: the number of the source, the reason for its end, and the number of its
-- results
unfoldable pub words_end : ℕ → List ℕ → ℕ → List ℕ
words_end source why count = decimal source ++ codes " end " ++ why ++ codes " " ++ decimal count ++ codes "\n"

-- the end line as a JSON object
unfoldable pub json_end : ℕ → List ℕ → ℕ → List ℕ
json_end source why count = codes "{\"source\":" ++ decimal source ++ codes ",\"end\":\"" ++ why ++ codes "\",\"lines\":" ++ decimal count ++ codes "}\n"

-- the end line in a record format
unfoldable pub end_text : ℕ → Version → List ℕ → ℕ → List ℕ
end_text source One why count = words_end source why count
end_text source Two why count = words_end source why count
end_text source Json why count = json_end source why count

-- the first line of the output, which only format 2 has
abbrev pub head_text : Version → List ℕ
head_text One = []
head_text Two = codes "records 2\n"
head_text Json = []

-- the records and the end line of a source
abbrev pub lane_text : ℕ → RecordStyle → List AnswerValue → List ℕ → List ℕ
lane_text source style answers why = records_from source 1 style answers ++ end_text source (version_of style.format) why (length answers)

-- ---- refused lines

-- whether the line with this number was refused
abbrev pub is_refused_with : Option Encoding → ℕ → AnswerValue → Bool
is_refused_with None place answer = is_refusal answer.outcome
is_refused_with (Some encoding) place answer = is_refused (line_result answer.terms (Some encoding) (place == 1) answer.line)

-- the number of refused lines; the first line has this number
abbrev pub refused_from : Option Encoding → ℕ → List AnswerValue → ℕ
refused_from encoding place [] = 0
refused_from encoding place (answer ∷ answers) = cond (is_refused_with encoding place answer) 1 0 + refused_from encoding (place + 1) answers

-- the number of refused lines of a source
abbrev pub refused_lines : Option Encoding → List AnswerValue → ℕ
refused_lines encoding answers = refused_from encoding 1 answers
