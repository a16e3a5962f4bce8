-- The fields of the lines of a listing that aren't plain numbers: dimensions, tags and instructions.
-- Public source: the eight names of operations are those of tftopl.web, section 13, and The METAFONTbook,
-- Appendix F; the rest is this project's own.
use Rattle.std.specs.Prelude.{ℕ, ℤ, ◌==◌, nat_lt, nat_le, List, [], ◌∷◌, ◌++◌, codes, decimal, find, if◌then◌else◌}
use Rattle.std.specs.Option.{option_map_or}
use Rattle.tfm_tables.specs.declared.metrics.Metrics.{Metrics}
use Rattle.tfm_tables.specs.declared.step.Step.{Step}
use Rattle.tfm_tables.specs.declared.tag.Tag.{Tag}
use Rattle.tfm_tables.specs.declared.tag.Tag.TheVariants.{Plain, Lig, List as ListOf, Ext}
use Rattle.tfm_tables.specs.Acceptance.{kern_index_of}
use Rattle.tfm_tables.specs.Font.{FontValue}
use Rattle.tfm_tables.specs.Measure.{kern_at}
use Rattle.tfm_tables.specs.Program.{target_of}
use Rattle.formats.specs.declared.listing.OutputFormat.{OutputFormat}
use Rattle.formats.specs.declared.listing.ListLayout.{ListLayout}
use Rattle.font_texts.specs.ListingFormats.{field_name, hidden_name, length_in, word_in}

-- a field with a number
abbrev pub number_field : OutputFormat → List ℕ → ℕ → List ℕ
number_field format name number = field_name format name ++ decimal number

-- a field with a length
abbrev pub length_field : ListLayout → List ℕ → ℤ → List ℕ
length_field layout name sp = field_name layout.format name ++ length_in layout sp

-- the four dimensions of a character
unfoldable pub measure_fields : ListLayout → Metrics → List ℕ
measure_fields layout metrics =
    length_field layout (codes "width") metrics.width
    ++ length_field layout (codes "height") metrics.height
    ++ length_field layout (codes "depth") metrics.depth
    ++ length_field layout (codes "italic") metrics.italic

-- the name of a tag, and its remainder
abbrev pub tag_with_remainder : OutputFormat → List ℕ → ℕ → List ℕ
tag_with_remainder format name remainder = word_in format name ++ hidden_name format (codes "remainder") ++ decimal remainder

-- a tag: its name, and its remainder if it has one
unfoldable pub tag_text : OutputFormat → Tag → List ℕ
tag_text format Plain = word_in format (codes "none")
tag_text format (Lig remainder) = tag_with_remainder format (codes "lig") remainder
tag_text format (ListOf remainder) = tag_with_remainder format (codes "list") remainder
tag_text format (Ext remainder) = tag_with_remainder format (codes "ext") remainder

-- the fields of a character after its code: its dimensions and its tag
unfoldable pub char_fields : ListLayout → Metrics → Tag → List ℕ
char_fields layout metrics tag =
    measure_fields layout metrics ++ field_name layout.format (codes "tag") ++ tag_text layout.format tag

-- the ligature operations with their names in a property list
abbrev pub operation_names : List (ℕ × List ℕ)
operation_names =
    (0, codes "LIG")
    ∷ (1, codes "LIG/")
    ∷ (2, codes "/LIG")
    ∷ (3, codes "/LIG/")
    ∷ (5, codes "LIG/>")
    ∷ (6, codes "/LIG>")
    ∷ (7, codes "/LIG/>")
    ∷ (11, codes "/LIG/>>")
    ∷ []

-- the name of the ligature operation of an op code; a code that isn't listed has the name of code 0
unfoldable pub operation_name : ℕ → List ℕ
operation_name op = option_map_or (λ row. row.1) (find (λ row. row.0 == op) operation_names) (codes "LIG")

-- the name of an action and a number: an address, the index of a kern, or a code
abbrev pub action_with : OutputFormat → List ℕ → List ℕ → ℕ → List ℕ
action_with format action name number =
    hidden_name format (codes "action") ++ word_in format action ++ hidden_name format name ++ decimal number

-- the fields of the action of an instruction: it points to another instruction, or inserts a kern, whose amount
-- comes last, or a ligature character
unfoldable pub action_fields : ListLayout → FontValue → Step → List ℕ
action_fields layout font step =
    if nat_lt 128 step.skip then action_with layout.format (codes "goto") (codes "value") (target_of step)
    else if nat_le 128 step.op
    then action_with layout.format (codes "KRN") (codes "kern") (kern_index_of step)
    ++ hidden_name layout.format (codes "value") ++ length_in layout (kern_at font.words font.size (kern_index_of step))
    else action_with layout.format (operation_name step.op) (codes "value") step.remainder

-- the fields of an instruction after its address: its skip, the code to its right, and its action
unfoldable pub step_fields : ListLayout → FontValue → Step → List ℕ
step_fields layout font step =
    number_field layout.format (codes "skip") step.skip
    ++ number_field layout.format (codes "next") step.next
    ++ action_fields layout font step
