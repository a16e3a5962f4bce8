-- The records of the lines of a text, as C gets them.
-- This project's own; the text of a record is defined in Record of `set_line`, and what it says in Results of
-- `line_records`.
use Rattle.std.specs.Prelude.{◌≡◌, ℕ, Bool, false, Option, ◌+◌, ◌-◌, ◌<◌, ◌==◌, ◌⊎◌, List, [], ◌∷◌, ◌++◌, codes, length, if◌then◌else◌}
use Rattle.run_plan.specs.declared.version.Version.{Version}
use Rattle.run_plan.specs.declared.version.Version.TheVariants.{One, Two, Json}
use Rattle.tfmset_c.specs.Arrays.{HasEffect, HasRoom, IsOverlaid, held}
use Rattle.encodings.specs.declared.encoding.Encoding.{Encoding}
use Rattle.set_line.specs.Record.{text_record}
use Rattle.set_line.specs.Terms.{TermsValue}
use Rattle.line_records.specs.Results.{result_text}
use Rattle.tfmset_c.specs.Options.{result_within, steps_in}
use Rattle.tfmset_c.specs.declared.records.Form.{Form}
use Rattle.tfmset_c.specs.declared.records.TfmsetForm.{TfmsetForm}

-- the record format that C names by a number: 1 is format 1, 2 is format 2, and any other number is JSON
unfoldable pub version_of : ℕ → Version
version_of n = if n == 1 then One else (if n == 2 then Two else Json)

-- a number that no record format has
abbrev pub IsNoVersion : ℕ → Type 0
IsNoVersion version = (version < 1) ⊎ (3 < version)

-- how the lines of a text are read and recorded, with this encoding
abbrev pub form_told : Option Encoding → TfmsetForm → Form
form_told encoding form =
    record { encoding = encoding; version = version_of form.version; source = form.source; first = form.first }

-- the bytes that state an encoding; if there are none, the name of that of bytes
unfoldable pub or_bytes : List ℕ → List ℕ
or_bytes bytes = if length bytes == 0 then codes "bytes" else bytes

-- the record of a line of which this many steps are left for the call
abbrev pub record_within : TermsValue → Form → ℕ → Bool → ℕ → List ℕ → List ℕ
record_within terms form place first left line =
    text_record form.source place (result_text form.version (result_within terms form.encoding first left line)) form.version

-- the records of lines; the first one has this line number, `first` states whether it is the first line of its
-- text, and this many steps are left for the call
unfoldable pub records_told : TermsValue → Form → ℕ → Bool → ℕ → List (List ℕ) → List ℕ
records_told terms form place first left [] = []
records_told terms form place first left (line ∷ lines) =
    record_within terms form place first left line
    ++ records_told terms form (place + 1) false (left - steps_in (result_within terms form.encoding first left line)) lines

-- the effect of a call that writes records: the array has them, and the count is their number of bytes
abbrev pub AreRecordsTold : List ℕ → ℕ → ℕ → ℕ → List ℕ → List ℕ → Type 0
AreRecordsTold told answer count_before count before records =
    HasEffect (HasRoom (length told) (length before)) (IsOverlaid told before records)
    (records ≡ before) (held (length told)) answer count_before count
