-- The output of `check`, and its exit status.
-- This project's own.
use Rattle.std.specs.Prelude.{◌≡◌, ◌⊎◌, ◌==◌, ℕ, List, [], ◌++◌, Bool, true, false, ◌&&◌, cond, codes, count_by, flat_map, length, map, nat_lt, Option, Some, None, IfSome}
use Rattle.std.specs.Borrow.{Bor}
use Rattle.std.specs.Io.KnownBytes.{Appends}
use Rattle.std.specs.List.{All, filter, slice_split}
use Rattle.std.specs.Str.{bytes_eq}
use Rattle.check_texts.specs.Tallies.{summary_line, tally_of}
use Rattle.check_texts.specs.Verdicts.{IsVerdictOf, Row, is_plain, verdict_text}
use Rattle.check_texts.specs.declared.tally.Tally.{Tally}
use Rattle.check_texts.specs.declared.verdict.Verdict.{Verdict}
use Rattle.check_texts.specs.declared.verdict.Verdict.TheVariants.{NotRead}
use Rattle.command_line.specs.declared.request.CheckLayout.{CheckLayout}
use Rattle.command_line.specs.declared.request.Checking.{Checking}
use Rattle.tfm_requests.specs.Known.{font_bytes_of}
use Rattle.tfm_requests.specs.declared.font_list.FontList.{FontList}
use Rattle.tfm_requests.specs.declared.font_list.FontList.TheVariants.{None as NoList, Input, File}

-- ---- the output

-- the text of a font, if it is shown: with `--quiet` fonts that are accepted without warnings aren't
abbrev pub text_shown : CheckLayout → Row → List ℕ
text_shown layout row = cond (layout.quiet && is_plain row.1) [] (verdict_text layout.format row)

-- the texts of these fonts
abbrev pub rows_text : CheckLayout → List Row → List ℕ
rows_text layout rows = flat_map (text_shown layout) rows

-- the line after those of the fonts, if it is requested
abbrev pub summary_text : CheckLayout → Tally → List ℕ
summary_text layout tally = cond layout.summary (summary_line layout.format tally) []

-- the exit status: 4 if the list of fonts didn't end or a font wasn't read, otherwise 1 if a font is refused or has a
-- warning, otherwise 0
abbrev pub check_status : Bool → Tally → ℕ
check_status ended tally = cond ended (cond (nat_lt 0 tally.unread) 4 (cond (nat_lt 0 tally.reported) 1 0)) 4

-- the texts of these fonts were written, and these are their numbers
abbrev pub IsWritten : CheckLayout → List Row → Option (List ℕ) → Option (List ℕ) → Tally → Type 0
IsWritten layout rows before after tally = Appends before after (rows_text layout rows) × (tally ≡ tally_of rows)

-- if these were the texts and the numbers of some fonts before, they now are those with further fonts
abbrev pub AddsRows : CheckLayout → List Row → Option (List ℕ) → Tally → Option (List ℕ) → Tally → Type 0
AddsRows layout added before tally after all =
    (start : Option (List ℕ)) (rows : List Row) → IsWritten layout rows start before tally → IsWritten layout (rows ++ added) start after all

-- ---- the fonts that are checked

-- a possible verdict on a font with these bytes: the result of its check, or that it wasn't read
abbrev pub IsFound : Bool → List ℕ → Verdict → Type 0
IsFound strict bytes verdict = IsVerdictOf strict bytes verdict ⊎ (verdict ≡ NotRead)

-- the fonts of these names, each with a possible verdict on its bytes, if they are known
abbrev pub AreRows : Bool → (List ℕ → Option (List ℕ)) → List (List ℕ) → List Row → Type 0
AreRows strict known names rows =
    (map (λ row. row.0) rows ≡ names) × All (λ row. IfSome (known row.0) (λ all. IsFound strict all row.1)) rows

-- the same, and their texts were written
abbrev pub AddsFonts : CheckLayout → (List ℕ → Option (List ℕ)) → List (List ℕ) → Option (List ℕ) → Tally → Option (List ℕ) → Tally → Type 0
AddsFonts layout known names before tally after all =
    (rows : List Row) × AreRows layout.strict known names rows × AddsRows layout rows before tally after all

-- the number of these names that are `-`, which is standard input
abbrev pub dashes_in : List (Bor (List ℕ)) → ℕ
dashes_in shown = count_by (λ name. bytes_eq name.now (codes "-")) shown

-- this name of a list of fonts is `-`, which is standard input
abbrev pub is_input : Option (Bor (List ℕ)) → Bool
is_input None = false
is_input (Some file) = bytes_eq file.now (codes "-")

-- the byte after each name in a list of fonts: a line feed, or with `--null` zero
abbrev pub separator_of : Bool → ℕ
separator_of null = cond null 0 10

-- these names without the empty ones
abbrev pub without_empty : List (List ℕ) → List (List ℕ)
without_empty names = filter (λ name. nat_lt 0 (length name)) names

-- the names in a list of fonts: the bytes between separators, without empty names
abbrev pub names_in : ℕ → List ℕ → List (List ℕ)
names_in separator list = without_empty (slice_split (λ byte. byte == separator) list)

-- names in a list with these bytes, if they are known: in order, all of them, or, if it wasn't read to its end, the first
-- ones
abbrev pub AreNames : ℕ → Option (List ℕ) → Bool → List (List ℕ) → Type 0
AreNames separator list ended names =
    IfSome list (λ all. (rest : List (List ℕ)) × (names_in separator all ≡ names ++ rest) × (ended ≡ true → rest ≡ []))

-- names in what was opened for a list; without a list there are none
abbrev pub AreIn : {T : Type 0} → (T → Option (List ℕ)) → Option (List ℕ) → FontList T → ℕ → Bool → List (List ℕ) → Type 0
AreIn remaining input NoList separator ended names = (names ≡ []) × (ended ≡ true)
AreIn remaining input Input separator ended names = AreNames separator input ended names
AreIn remaining input (File file) separator ended names = AreNames separator (remaining file) ended names

module _ (known : List ℕ → Option (List ℕ)) (input : Option (List ℕ)) where
  -- names in the list of this name
  abbrev pub AreListed : Option (Bor (List ℕ)) → ℕ → Bool → List (List ℕ) → Type 0
  AreListed None separator ended names = (names ≡ []) × (ended ≡ true)
  AreListed (Some file) separator ended names = AreNames separator (font_bytes_of known input file.now) ended names

  -- the texts of the fonts that are shown were written, in order, first of those in the arguments and then of those in
  -- the list, each with a possible verdict, and then the line of `--summary` if it is requested; and the exit status is
  -- the one for the verdicts on all fonts
  abbrev pub AreChecked : Checking → Option (List ℕ) → Option (List ℕ) → ℕ → Type 0
  AreChecked asked before after status =
      (rows : List Row) × (names : List (List ℕ)) × (listed : List Row) × (ended : Bool)
      × AreRows asked.layout.strict (font_bytes_of known input) (map (λ name. name.now) asked.fonts.items) rows
      × AreListed asked.list (separator_of asked.null) ended names
      × AreRows asked.layout.strict known names listed
      × Appends before after (rows_text asked.layout (rows ++ listed) ++ summary_text asked.layout (tally_of (rows ++ listed)))
      × (status ≡ check_status ended (tally_of (rows ++ listed)))
