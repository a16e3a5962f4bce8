-- The output and the exit status of the program for each kind of request.
-- This project's own.
use Rattle.std.specs.Prelude.{◌≡◌, ℕ, List, Bool, true, false, Option, None}
use Rattle.std.specs.Borrow.{Bor}
use Rattle.std.specs.Io.KnownBytes.{Appends}
use Rattle.std.specs.List.{AllZip}
use Rattle.formats.specs.declared.listing.ListLayout.{ListLayout}
use Rattle.formats.specs.declared.pairs.PairsLayout.{PairsLayout}
use Rattle.font_texts.specs.AllListing.{all_listing_of}
use Rattle.font_texts.specs.CountsText.{counts_text_of, head_fault_of}
use Rattle.font_texts.specs.Listing.{listing_of}
use Rattle.font_texts.specs.PairCharacters.{pairs_text_with}
use Rattle.tfm_tables.specs.Font.{FontValue, IsFontOf}
use Rattle.set_line.specs.Terms.{TermsValue}
use Rattle.encodings.specs.declared.encoding.Encoding.{Encoding}
use Rattle.line_chunks.specs.ChunkText.{RecordStyle}
use Rattle.line_chunks.specs.Reading.{Told}
use Rattle.set_run.specs.Reports.{IsReported}
use Rattle.set_run.specs.declared.report.LaneReport.{LaneReport}
use Rattle.run_texts.specs.ChunkLanes.{fault_told, lines_told}
use Rattle.run_texts.specs.Endings.{summary_status}
use Rattle.run_texts.specs.ReportText.{run_text, summary_of_run}
use Rattle.run_texts.specs.Streaming.{IsStreamed}
use Rattle.command_line.specs.declared.request.Request.{Request}
use Rattle.command_line.specs.declared.request.Request.TheVariants.{Counts, List as ListFont, Pairs, Check, Set, Stream, Each}
use Rattle.command_line.specs.declared.request.Arguments.{Arguments}
use Rattle.command_line.specs.declared.request.Jobs.{Jobs}
use Rattle.command_line.specs.declared.request.Listing.{Listing}
use Rattle.command_line.specs.declared.request.Setting.{Setting}
use Rattle.tfm_requests.specs.Checking.{AreChecked}
use Rattle.tfm_requests.specs.Known.{OfKnown, file_bytes_of, font_bytes_of, stream_bytes_of}
use Rattle.tfm_requests.specs.Jobs.{AreTermsFor, IsSourceOfJob, IsSourceWith, jobs_in}
use Rattle.tfm_requests.specs.Vectors.{IsEncodingOf}
use Rattle.tfm_requests.specs.declared.batches.delivery.Delivery.{Delivery}
use Rattle.tfm_requests.specs.declared.batches.delivery.Output.{Output}
use Rattle.tfm_requests.specs.declared.batches.delivery.Delivery.TheVariants.{AtTheEnd, AsTheyCome}

-- ---- the text of a font

-- the listing of a font in this layout, or its full listing if the flag is true
abbrev pub list_text_of : ListLayout → Bool → FontValue → List ℕ
list_text_of layout true font = all_listing_of layout font
list_text_of layout false font = listing_of layout font

-- the counts and the design size in these bytes have no error, and this is their text
abbrev pub IsCountsText : Option (List ℕ) → List ℕ → Type 0
IsCountsText bytes text = OfKnown bytes (λ all. (head_fault_of all ≡ None) × (text ≡ counts_text_of all))

-- this is the listing of the font in these bytes that is requested
abbrev pub IsListText : Option (List ℕ) → Listing → List ℕ → Type 0
IsListText bytes asked text =
    OfKnown bytes (λ all. (font : FontValue) × IsFontOf all asked.size font × (text ≡ list_text_of asked.layout asked.all font))

-- these are the pairs of the font in these bytes at this size, or at its design size, in the format and the
-- unit of the layout, with the characters of this encoding
abbrev pub IsPairsText : Option (List ℕ) → Option ℕ → PairsLayout → Option Encoding → List ℕ → Type 0
IsPairsText bytes size layout encoding text =
    OfKnown bytes (λ all. (font : FontValue) × IsFontOf all size font × (text ≡ pairs_text_with layout.unit encoding layout.format font))

-- this text was written, and the exit status is 0
abbrev pub IsText : (List ℕ → Type 0) → Option (List ℕ) → Option (List ℕ) → ℕ → Type 0
IsText Is before after status = (text : List ℕ) × Is text × Appends before after text × (status ≡ 0)

-- ---- the output of a batch

-- how lines are read and their records written: the encoding, and the record format
abbrev pub style_of : Output → RecordStyle
style_of output = record { encoding = output.encoding; format = output.layout.now.format }

-- the output for these reports was written: in the order of the sources, or the lines of all sources as they
-- arrived
abbrev pub IsDelivered : Delivery → RecordStyle → List (LaneReport Told) → Option (List ℕ) → Option (List ℕ) → Type 0
IsDelivered AtTheEnd style reports before after = Appends before after (run_text style reports)
IsDelivered AsTheyCome style reports before after = IsStreamed style reports before after

-- the output for some reports of these sources, each given by its known contents and its settings, was
-- written, and the exit status is the one for their summary
abbrev pub IsPrinted : Delivery → List (Told × TermsValue) → RecordStyle → Option (List ℕ) → Option (List ℕ) → ℕ → Type 0
IsPrinted delivery sources style before after status =
    (reports : List (LaneReport Told))
    × AllZip (λ source report. IsReported lines_told fault_told source.1 source.0 report) sources reports
    × IsDelivered delivery style reports before after
    × (status ≡ summary_status (summary_of_run style.encoding reports))

module _ (known : List ℕ → Option (List ℕ)) (input : Option (List ℕ)) where
  -- sources of the text in these bytes, in order, all with the settings of a request of `set` or `stream`
  abbrev pub AreSetSources : Setting → List (Option (List ℕ)) → List (Told × TermsValue) → Type 0
  AreSetSources setting bytes sources =
      (terms : TermsValue)
      × AreTermsFor (font_bytes_of known input setting.font.now) setting.layout setting.limit terms
      × AllZip (IsSourceWith setting.layout terms) bytes sources

-- ---- requests
-- The parameters: the known contents of a file, by its name, and of standard input; and the contents of the
-- output before and after.

module _ (known : List ℕ → Option (List ℕ)) (before after : Option (List ℕ)) where
  -- the output of a batch was written, in this encoding; its sources are the files of the jobs, in order, each with
  -- the settings of its job
  abbrev pub IsEachSet : Jobs → Option (Bor (List ℕ)) → ℕ → Type 0
  IsEachSet jobs vector status =
      (encoding : Option Encoding)
      × IsEncodingOf known vector jobs.layout.encoding encoding
      × ((sources : List (Told × TermsValue))
      × AllZip (IsSourceOfJob known jobs.layout) (jobs_in jobs.words.items) sources
      × IsPrinted AtTheEnd sources (record { encoding = encoding; format = jobs.layout.format }) before after status)

module _ (known : List ℕ → Option (List ℕ)) (input before after : Option (List ℕ)) where
  -- the output of a batch was written, in this encoding; its sources have these bytes, and the settings of the
  -- request
  abbrev pub IsSetFrom : Delivery → List (Option (List ℕ)) → Setting → Option (Bor (List ℕ)) → ℕ → Type 0
  IsSetFrom delivery bytes setting vector status =
      (encoding : Option Encoding)
      × IsEncodingOf known vector setting.layout.encoding encoding
      × ((sources : List (Told × TermsValue))
      × AreSetSources known input setting bytes sources
      × IsPrinted delivery sources (record { encoding = encoding; format = setting.layout.format }) before after status)

  -- the output of a request, with the encoding vector that the arguments name, was written, and this is its exit status
  abbrev pub IsDoneBy : Request → Option (Bor (List ℕ)) → ℕ → Type 0
  IsDoneBy (Counts font _) vector = IsText (IsCountsText (font_bytes_of known input font.now)) before after
  IsDoneBy (ListFont asked) vector = IsText (IsListText (font_bytes_of known input asked.font.now) asked) before after
  IsDoneBy (Pairs asked) vector =
      IsText (λ text. (encoding : Option Encoding) × IsEncodingOf known vector asked.layout.encoding encoding
      × IsPairsText (font_bytes_of known input asked.font.now) asked.size asked.layout encoding text) before after
  IsDoneBy (Check asked) vector = AreChecked known input asked before after
  IsDoneBy (Set setting) vector = IsSetFrom AtTheEnd (file_bytes_of known setting.files.items) setting vector
  IsDoneBy (Stream setting) vector = IsSetFrom AsTheyCome (stream_bytes_of known input setting.files.items) setting vector
  IsDoneBy (Each jobs) vector = IsEachSet known before after jobs vector

  -- the same for what arguments request
  abbrev pub IsDone : Arguments → ℕ → Type 0
  IsDone asked = IsDoneBy asked.request asked.vector
