-- The texts of font errors, which include the position of the error in the font.
-- This project's own; Acceptance states the rules for fonts.
use Rattle.std.specs.Prelude.{ℕ, List, ◌++◌, codes, decimal}
use Rattle.tfm_words.specs.FaultTexts.{count_fault_text, design_fault_text, table_name}
use Rattle.tfm_tables.specs.declared.fault.FontFault.{FontFault}
use Rattle.tfm_tables.specs.declared.fault.FontFault.TheVariants.{Counts, Design, CharIndex, LigStart, FirstNotZero, FixWordRange, Step, OutOfMemory}
use Rattle.tfm_tables.specs.declared.fault.Part.{Part}
use Rattle.tfm_tables.specs.declared.fault.Part.TheVariants.{Restart, Next, Ligature, Kern, Skip}

-- the text of the part of an instruction that has an error
unfoldable pub part_name : Part → List ℕ
part_name Restart = codes "restart"
part_name Next = codes "next"
part_name Ligature = codes "ligature"
part_name Kern = codes "kern"
part_name Skip = codes "skip"

-- the text of a font error, with its position
unfoldable pub font_fault_text : FontFault → List ℕ
font_fault_text (Counts fault) = count_fault_text fault
font_fault_text (Design fault) = design_fault_text fault
font_fault_text (CharIndex code table) = codes "character " ++ decimal code ++ codes ", table " ++ table_name table
font_fault_text (LigStart code) = codes "character " ++ decimal code ++ codes ", program start"
font_fault_text (FirstNotZero table) = codes "table " ++ table_name table ++ codes ", first entry"
font_fault_text (FixWordRange table index) =
    codes "table " ++ table_name table ++ codes ", entry " ++ decimal index
font_fault_text (Step index part) = codes "instruction " ++ decimal index ++ codes ", " ++ part_name part
font_fault_text OutOfMemory = codes "out of memory"
