-- A font error as C gets it: its number, the count, table or part that it names, and a number that locates it; and the
-- texts of font errors and of refusals of lines.
-- This project's own; the font errors are defined in Acceptance of `tfm_tables`.
use Rattle.std.specs.Prelude.{ℕ, ◌==◌, List, [], ◌++◌, codes, decimal, if◌then◌else◌}
use Rattle.std.specs.Option.{option_map_or}
use Rattle.font_texts.specs.FaultWords.{fault_words}
use Rattle.tfm_tables.specs.Acceptance.{font_fault_of}
use Rattle.tfm_words.specs.declared.count.Count.{Count}
use Rattle.tfm_words.specs.declared.count.Count.TheVariants.{Lf, Lh, Bc, Ec, Nw, Nh, Nd, Ni, Nl, Nk, Ne, Np}
use Rattle.tfm_words.specs.declared.table.Table.{Table}
use Rattle.tfm_words.specs.declared.table.Table.TheVariants.{Header, CharInfo, Width, Height, Depth, Italic, LigKern, Kern as KernTable, Exten, Param}
use Rattle.tfm_words.specs.declared.count_fault.CountFault.{CountFault}
use Rattle.tfm_words.specs.declared.count_fault.CountFault.TheVariants.{Truncated, CountRange, CharRange, HeaderShort, EmptyTable, TooManyRecipes, LengthEquation}
use Rattle.tfm_tables.specs.declared.fault.FontFault.{FontFault}
use Rattle.tfm_tables.specs.declared.fault.FontFault.TheVariants.{Counts, Design, CharIndex, LigStart, FirstNotZero, FixWordRange, Step, OutOfMemory}
use Rattle.tfm_tables.specs.declared.fault.Part.{Part}
use Rattle.tfm_tables.specs.declared.fault.Part.TheVariants.{Restart, Next, Ligature, Kern, Skip}
use Rattle.tfmset_c.specs.declared.check.TfmsetFault.{TfmsetFault}
use Rattle.tfmset_c.specs.declared.lines.TfmsetLine.{TfmsetLine}

-- the number of a count, in the order of the file
abbrev pub count_number : Count → ℕ
count_number Lf = 0
count_number Lh = 1
count_number Bc = 2
count_number Ec = 3
count_number Nw = 4
count_number Nh = 5
count_number Nd = 6
count_number Ni = 7
count_number Nl = 8
count_number Nk = 9
count_number Ne = 10
count_number Np = 11

-- the number of a table, in the order of the file
abbrev pub table_number : Table → ℕ
table_number Header = 0
table_number CharInfo = 1
table_number Width = 2
table_number Height = 3
table_number Depth = 4
table_number Italic = 5
table_number LigKern = 6
table_number KernTable = 7
table_number Exten = 8
table_number Param = 9

-- the number of a part of an instruction, in the order of the checks
abbrev pub part_number : Part → ℕ
part_number Restart = 0
part_number Next = 1
part_number Ligature = 2
part_number Kern = 3
part_number Skip = 4

-- an error with this number, and these values of `named` and `place`
abbrev pub told : ℕ → ℕ → ℕ → TfmsetFault
told number named place = record { number = number; named = named; place = place }

-- an error of the counts; a file that ends within the counts has number 1, and a file that ends after them
-- has number 8
unfoldable pub count_fault_told : CountFault → TfmsetFault
count_fault_told (Truncated need) = told (if need == 24 then 1 else 8) 0 need
count_fault_told (CountRange count) = told 2 (count_number count) 0
count_fault_told CharRange = told 3 0 0
count_fault_told HeaderShort = told 4 0 0
count_fault_told (EmptyTable table) = told 5 (table_number table) 0
count_fault_told TooManyRecipes = told 6 0 0
count_fault_told LengthEquation = told 7 0 0

-- a font error; a failed allocation isn't a font error, and gets number 0
unfoldable pub fault_told : FontFault → TfmsetFault
fault_told (Counts fault) = count_fault_told fault
fault_told (Design _) = told 9 0 0
fault_told (CharIndex code table) = told 10 (table_number table) code
fault_told (LigStart code) = told 11 0 code
fault_told (FirstNotZero table) = told 12 (table_number table) 0
fault_told (FixWordRange table index) = told 13 (table_number table) index
fault_told (Step index part) = told 14 (part_number part) index
fault_told OutOfMemory = told 0 0 0

-- the text of the first error of a font: its number and its description; empty for an accepted font
abbrev pub fault_text_of : List ℕ → List ℕ
fault_text_of bytes = option_map_or fault_words (font_fault_of bytes) []

-- the reason that the record of a refused line states after the word `refused`, and the word for a span outside of its
-- text; empty for a line that is set
unfoldable pub refusal_words : TfmsetLine → List ℕ
refusal_words line =
    if line.refusal == 1 then codes "missing " ++ decimal line.place ++ codes " " ++ decimal line.code
    else (if line.refusal == 2 then codes "too-long " ++ decimal line.place
    else (if line.refusal == 3 then codes "steps " ++ decimal line.steps
    else (if line.refusal == 4 then codes "outside" else [])))
