-- The text of the counts of a font: twelve lines for the counts, and one for the design size.
-- Public source: the names and their order are those of tftopl.web, section 8; the text is this project's
-- own.
use Rattle.std.specs.Prelude.{◌≡◌, ℕ, List, [], ◌∷◌, ◌++◌, codes, decimal, flat_map, Option, Some, None, Result, Ok, Err}
use Rattle.std.specs.Result.{result_unwrap_or}
use Rattle.tfm_words.specs.declared.numbers.Numbers.{Numbers}
use Rattle.tfm_words.specs.Counts.{counts_of}
use Rattle.tfm_words.specs.CountFaults.{count_fault_of}
use Rattle.tfm_words.specs.DesignSize.{design_size_of}
use Rattle.tfm_words.specs.declared.count_fault.CountFault.{CountFault}
use Rattle.tfm_words.specs.declared.design.DesignFault.{DesignFault}
use Rattle.tfm_tables.specs.declared.fault.FontFault.{FontFault}
use Rattle.tfm_tables.specs.declared.fault.FontFault.TheVariants.{Counts, Design, OutOfMemory}
use Rattle.formats.specs.declared.listing.OutputFormat.{OutputFormat}
use Rattle.formats.specs.declared.listing.OutputFormat.TheVariants.{Text}
use Rattle.font_texts.specs.ListingFormats.{entry}

-- each count with its name, in the order of the file
unfoldable pub count_rows : Numbers → List (List ℕ × ℕ)
count_rows c =
    (codes "lf", c.lf)
    ∷ (codes "lh", c.lh)
    ∷ (codes "bc", c.bc)
    ∷ (codes "ec", c.ec)
    ∷ (codes "nw", c.nw)
    ∷ (codes "nh", c.nh)
    ∷ (codes "nd", c.nd)
    ∷ (codes "ni", c.ni)
    ∷ (codes "nl", c.nl)
    ∷ (codes "nk", c.nk)
    ∷ (codes "ne", c.ne)
    ∷ (codes "np", c.np)
    ∷ []

-- the text of a row: an entry of a listing, which is the name, a space, the number in decimal and a line feed
abbrev pub count_row_text : OutputFormat → List ℕ × ℕ → List ℕ
count_row_text format row = entry format row.0 (decimal row.1)

-- the text of rows, one after the other
abbrev pub count_rows_text : OutputFormat → List (List ℕ × ℕ) → List ℕ
count_rows_text format rows = flat_map (count_row_text format) rows

-- the rows of the twelve counts and of the design size, in scaled points (sp)
abbrev pub head_rows : Numbers → ℕ → List (List ℕ × ℕ)
head_rows c points = count_rows c ++ (codes "design", points) ∷ []

-- the text of the counts and the design size of a font in which neither has an error
abbrev pub counts_text_of : List ℕ → List ℕ
counts_text_of bytes = count_rows_text Text (head_rows (counts_of bytes) (result_unwrap_or (design_size_of bytes) 0))

-- the font error for the design size, if that has an error
abbrev pub design_fault : Result ℕ DesignFault → Option FontFault
design_fault (Ok _) = None
design_fault (Err fault) = Some (Design fault)

-- the font error for the counts, if they have an error, and otherwise this font error, which is found after
-- them
abbrev pub counts_fault : Option CountFault → Option FontFault → Option FontFault
counts_fault (Some fault) after = Some (Counts fault)
counts_fault None after = after

-- the first error of a font's counts and of its design size, before its tables are checked
abbrev pub head_fault_of : List ℕ → Option FontFault
head_fault_of bytes = counts_fault (count_fault_of bytes) (design_fault (design_size_of bytes))

-- a possible error of the text of the counts: the first error of the counts or the design size, or, if they
-- have none, that an allocation failed
abbrev pub IsHeadRefusalOf : List ℕ → FontFault → Type 0
IsHeadRefusalOf bytes OutOfMemory = head_fault_of bytes ≡ None
IsHeadRefusalOf bytes fault = head_fault_of bytes ≡ Some fault
