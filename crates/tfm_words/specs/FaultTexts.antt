-- The texts of counts, of tables, and of the errors in the counts and the design size of a file.
-- Public source: the names of counts and tables are those of tftopl.web, sections 8 and 9; the other texts
-- are this project's own.
use Rattle.std.specs.Prelude.{ℕ, List, ◌++◌, codes, decimal}
use Rattle.tfm_words.specs.declared.count.Count.{Count}
use Rattle.tfm_words.specs.declared.count.Count.TheVariants.{Lf, Lh, Bc, Ec, Nw, Nh, Nd, Ni, Nl, Nk, Ne, Np}
use Rattle.tfm_words.specs.declared.count_fault.CountFault.{CountFault}
use Rattle.tfm_words.specs.declared.count_fault.CountFault.TheVariants.{Truncated, CountRange, CharRange, HeaderShort, EmptyTable, TooManyRecipes, LengthEquation}
use Rattle.tfm_words.specs.declared.design.DesignFault.{DesignFault}
use Rattle.tfm_words.specs.declared.design.DesignFault.TheVariants.{DesignSize}
use Rattle.tfm_words.specs.declared.table.Table.{Table}
use Rattle.tfm_words.specs.declared.table.Table.TheVariants.{Header, CharInfo, Width, Height, Depth, Italic, LigKern, Kern, Exten, Param}

-- the name of a count
unfoldable pub count_name : Count → List ℕ
count_name Lf = codes "lf"
count_name Lh = codes "lh"
count_name Bc = codes "bc"
count_name Ec = codes "ec"
count_name Nw = codes "nw"
count_name Nh = codes "nh"
count_name Nd = codes "nd"
count_name Ni = codes "ni"
count_name Nl = codes "nl"
count_name Nk = codes "nk"
count_name Ne = codes "ne"
count_name Np = codes "np"

-- the name of a table
unfoldable pub table_name : Table → List ℕ
table_name Header = codes "header"
table_name CharInfo = codes "char_info"
table_name Width = codes "width"
table_name Height = codes "height"
table_name Depth = codes "depth"
table_name Italic = codes "italic"
table_name LigKern = codes "lig_kern"
table_name Kern = codes "kern"
table_name Exten = codes "exten"
table_name Param = codes "param"

-- the text of an error in the counts
unfoldable pub count_fault_text : CountFault → List ℕ
count_fault_text (Truncated need) = codes "truncated, " ++ decimal need ++ codes " bytes needed"
count_fault_text (CountRange count) = codes "count " ++ count_name count ++ codes " out of range"
count_fault_text CharRange = codes "character range"
count_fault_text HeaderShort = codes "header too short"
count_fault_text (EmptyTable table) = codes "table " ++ table_name table ++ codes " is empty"
count_fault_text TooManyRecipes = codes "more than 256 recipes"
count_fault_text LengthEquation = codes "length equation"

-- the text of an error in the design size
unfoldable pub design_fault_text : DesignFault → List ℕ
design_fault_text DesignSize = codes "design size"
