-- The records of blocks, and the results of the lines in them.
use Rattle.std.proofs.Common.{arith, ◌≡◌, ◌≤◌, ℕ, suc, ◌+◌, ◌==◌, List, [], ◌∷◌, ◌++◌, length, map, Option, None, Some, refl, ap, sym, ◌∙◌}
use Rattle.std.proofs.lemmas.List.{length-map, length-append, map-append}
use Rattle.std.proofs.lemmas.List.Sums.{sum_by-cons, sum_by-append, count_by-le-length}
use Rattle.std.proofs.Math.Bool.{cond}
use Rattle.std.specs.Prelude.{flat_map}
use Rattle.std.specs.List.{concat}
use Rattle.set_line.specs.Terms.{TermsValue}
use Rattle.set_line.specs.Answer.{answer_of, answers_of}
use Rattle.encodings.specs.declared.encoding.Encoding.{Encoding}
use Rattle.set_line.specs.Record.{record_text, text_record}
use Rattle.formats.specs.declared.record_format.RecordFormat.{RecordFormat}
use Rattle.formats.specs.declared.record_format.RecordFormat.TheVariants.{Items, Box}
use Rattle.line_records.specs.Results.{is_refused, result_record}
use Rattle.line_records.proofs.ResultLemmas.{refused_bytes, text_of_bytes}
use Rattle.line_chunks.specs.Chunks.{ChunkLine, cut}
use Rattle.line_chunks.specs.Chunks.{ChunkValue, NumberedLine, lines_of_chunk, numbered, numbered_cuts}
use Rattle.line_chunks.specs.ChunkText.{ChunkTextValue, IsChunkText, MakerValue, chunk_text, record_in, refused_in, result_in}
use Rattle.line_chunks.proofs.TextLemmas.{result_in-cut}
use Rattle.run_texts.specs.RunText.{is_refused_with, record_of, record_with, refused_from}
use Rattle.run_texts.specs.LaneText.{chunk_lines, records_of, refused_of}
use Rattle.run_texts.specs.Streaming.{record_lines}
use Rattle.run_texts.specs.ChunkLanes.{AreRecordsOf, AreTextsOf}

-- the records of blocks are those of their lines
lines_joined : (maker : MakerValue) (blocks : List ChunkValue)
    → flat_map chunk_lines (map (chunk_text maker) blocks) ≡ map (record_in maker) (flat_map lines_of_chunk blocks)
lines_joined maker [] = refl
lines_joined maker (block ∷ blocks) =
    ap (λ more. map (record_in maker) (lines_of_chunk block) ++ more) (lines_joined maker blocks)
    ∙ sym (map-append (record_in maker) (lines_of_chunk block) (flat_map lines_of_chunk blocks))

-- as many as lines
records_counted : (maker : MakerValue) (blocks : List ChunkValue)
    → records_of (map (chunk_text maker) blocks) ≡ length (flat_map (λ block. block.lines) blocks)
records_counted maker [] = refl
records_counted maker (block ∷ blocks) =
    sum_by-cons (λ (text : ChunkTextValue). text.lines) (chunk_text maker block) (map (chunk_text maker) blocks)
    ∙ ap (λ n. length block.lines + n) (records_counted maker blocks)
    ∙ sym (length-append block.lines (flat_map (λ b. b.lines) blocks))

-- and as many refused lines
refused_counted : (maker : MakerValue) (blocks : List ChunkValue)
    → refused_of (map (chunk_text maker) blocks) ≡ refused_in maker.terms maker.style.encoding (flat_map lines_of_chunk blocks)
refused_counted maker [] = refl
refused_counted maker (block ∷ blocks) =
    sum_by-cons (λ (text : ChunkTextValue). text.refused) (chunk_text maker block) (map (chunk_text maker) blocks)
    ∙ ap (λ n. refused_in maker.terms maker.style.encoding (lines_of_chunk block) + n) (refused_counted maker blocks)
    ∙ sym (sum_by-append (λ (line : NumberedLine). cond (is_refused (result_in maker.terms maker.style.encoding line.0 line.1)) 1 0) (lines_of_chunk block) (flat_map lines_of_chunk blocks))

length-cuts : (lines : List (List ℕ)) → length (map cut lines) ≡ length lines
length-cuts lines = length-map lines cut

-- the record of a line in a block
record_of_cut : (terms : TermsValue) (encoding : Option Encoding) (format : RecordFormat) (source number : ℕ) (line : List ℕ)
    → result_record format terms.font source number (result_in terms encoding number (cut line)) ≡ record_with encoding format source number (answer_of terms line)
unfolding record_text
record_of_cut terms None (Items version) source number line =
    ap (result_record (Items version) terms.font source number) (result_in-cut terms None number line)
    ∙ ap (λ r. text_record source number r version) (text_of_bytes terms (number == 1) line version)
record_of_cut terms None (Box unit) source number line = ap (result_record (Box unit) terms.font source number) (result_in-cut terms None number line)
record_of_cut terms (Some encoding) format source number line = ap (result_record format terms.font source number) (result_in-cut terms (Some encoding) number line)

-- and whether it is refused
refused_of_cut : (terms : TermsValue) (encoding : Option Encoding) (number : ℕ) (line : List ℕ)
    → is_refused (result_in terms encoding number (cut line)) ≡ is_refused_with encoding number (answer_of terms line)
refused_of_cut terms None number line = ap is_refused (result_in-cut terms None number line) ∙ refused_bytes terms (number == 1) line
refused_of_cut terms (Some encoding) number line = ap is_refused (result_in-cut terms (Some encoding) number line)

-- the records of lines in blocks
records_of_cuts : (maker : MakerValue) (first : ℕ) (lines : List (List ℕ))
    → map (record_in maker) (numbered_cuts first lines) ≡ record_lines maker.source first maker.style (answers_of maker.terms lines)
records_of_cuts maker first [] = refl
records_of_cuts maker first (line ∷ lines) =
    ap (λ record'. record' ∷ map (record_in maker) (numbered_cuts (first + 1) lines))
    (record_of_cut maker.terms maker.style.encoding maker.style.format maker.source first line)
    ∙ ap (λ more. record_of maker.style maker.source first (answer_of maker.terms line) ∷ more) (records_of_cuts maker (first + 1) lines)

-- and the refused lines among them
refused_of_cuts : (terms : TermsValue) (encoding : Option Encoding) (first : ℕ) (lines : List (List ℕ))
    → refused_in terms encoding (numbered_cuts first lines) ≡ refused_from encoding first (answers_of terms lines)
refused_of_cuts terms encoding first [] = refl
refused_of_cuts terms encoding first (line ∷ lines) =
    sum_by-cons (λ (l : NumberedLine). cond (is_refused (result_in terms encoding l.0 l.1)) 1 0) (first, cut line) (numbered_cuts (first + 1) lines)
    ∙ ap (λ n. cond (is_refused (result_in terms encoding first (cut line))) 1 0 + n) (refused_of_cuts terms encoding (first + 1) lines)
    ∙ ap (λ b. cond b 1 0 + refused_from encoding (first + 1) (answers_of terms lines)) (refused_of_cut terms encoding first line)

-- the texts of blocks have the records of the results of their lines
pub texts_recorded : (maker : MakerValue) (lines : List (List ℕ)) (texts : List ChunkTextValue) → AreTextsOf maker lines texts
    → AreRecordsOf maker.source maker.style (answers_of maker.terms lines) texts
texts_recorded maker lines texts (blocks, are, cuts, numbers) =
    let long : length (answers_of maker.terms lines) ≡ length lines = length-map lines (answer_of maker.terms) in (
      ap records_of are ∙ records_counted maker blocks ∙ ap length cuts ∙ length-cuts lines ∙ sym long,
      (λ fits.
          let numbered = numbers (omega (arith, fits, long)) in (
            ap refused_of are ∙ refused_counted maker blocks
                ∙ ap (refused_in maker.terms maker.style.encoding) numbered
                ∙ refused_of_cuts maker.terms maker.style.encoding 1 lines,
            ap (flat_map chunk_lines) are ∙ lines_joined maker blocks
                ∙ ap (map (record_in maker)) numbered
                ∙ records_of_cuts maker 1 lines,
          )),
    )

-- ---- a text that is right

flat_is_joined : {T : Type 0} (f : T → List ℕ) (xs : List T) → flat_map f xs ≡ concat (map f xs)
flat_is_joined f [] = refl
flat_is_joined f (x ∷ xs) = ap (λ t. f x ++ t) (flat_is_joined f xs)

-- its bytes are those of its records
pub text_lined : (text : ChunkTextValue) → IsChunkText text → text.text ≡ concat (chunk_lines text)
text_lined text right = ap (λ t. t.text) right ∙ flat_is_joined (record_in text.maker) (lines_of_chunk text.chunk)

length-numbered : (first : ℕ) (lines : List ChunkLine) → length (numbered first lines) ≡ length lines
length-numbered first [] = refl
length-numbered first (line ∷ lines) = ap suc (length-numbered (first + 1) lines)

-- there aren't more refused lines than lines
pub refused_few : (text : ChunkTextValue) → IsChunkText text → text.refused ≤ text.lines
refused_few text right =
    let few = count_by-le-length (λ (line : NumberedLine). is_refused (result_in text.maker.terms text.maker.style.encoding line.0 line.1)) (lines_of_chunk text.chunk) in
    let long = length-numbered text.chunk.first text.chunk.lines in
    omega (arith, few, long, ap (λ (t : ChunkTextValue). t.lines) right, ap (λ (t : ChunkTextValue). t.refused) right)

pub ruleset texts = (text_lined, refused_few)
