-- The text of a font error: its number among all font errors, and its description.
-- This project's own; the description is defined in FaultTexts of `tfm_tables`.
use Rattle.std.specs.Prelude.{ℕ, ◌==◌, List, ◌++◌, codes, decimal, if◌then◌else◌}
use Rattle.tfm_words.specs.declared.count_fault.CountFault.{CountFault}
use Rattle.tfm_words.specs.declared.count_fault.CountFault.TheVariants.{Truncated, CountRange, CharRange, HeaderShort, EmptyTable, TooManyRecipes, LengthEquation}
use Rattle.tfm_tables.specs.FaultTexts.{font_fault_text}
use Rattle.tfm_tables.specs.declared.fault.FontFault.{FontFault}
use Rattle.tfm_tables.specs.declared.fault.FontFault.TheVariants.{Counts, Design, CharIndex, LigStart, FirstNotZero, FixWordRange, Step, OutOfMemory}

-- the number of an error of the counts: 1 if the file ends within them, 8 if it ends after them
unfoldable pub count_fault_number : CountFault → ℕ
count_fault_number (Truncated need) = if need == 24 then 1 else 8
count_fault_number (CountRange _) = 2
count_fault_number CharRange = 3
count_fault_number HeaderShort = 4
count_fault_number (EmptyTable _) = 5
count_fault_number TooManyRecipes = 6
count_fault_number LengthEquation = 7

-- the number of a font error: 1 to 14, in the order of the checks; 15 means that an allocation failed
unfoldable pub fault_number : FontFault → ℕ
fault_number (Counts fault) = count_fault_number fault
fault_number (Design _) = 9
fault_number (CharIndex _ _) = 10
fault_number (LigStart _) = 11
fault_number (FirstNotZero _) = 12
fault_number (FixWordRange _ _) = 13
fault_number (Step _ _) = 14
fault_number OutOfMemory = 15

-- the text of a font error: its number and its description
unfoldable pub fault_words : FontFault → List ℕ
fault_words fault = decimal (fault_number fault) ++ codes " " ++ font_fault_text fault
