-- The request that the arguments after the program's name state, and the encoding vector that they name, by the
-- values that a parse finds for them.
-- This project's own.
use Rattle.std.specs.Prelude.{◌≡◌, ◌⊎◌, ◌≤◌, ◌&&◌, ◌||◌, ◌==◌, ℕ, List, [], ◌∷◌, Bool, true, false, cond, Option, Some, None, IsSomeAnd, bytes_eq, codes, is_none, map, not, option_and_then, option_map, unwrap_or}
use Rattle.std.specs.List.{find, list_any}
use Rattle.std.specs.Option.{option_map_or, option_or}
use Rattle.std.specs.Borrow.{Bor}
use Rattle.std.specs.Str.Parse.{IsNumeral, digits_value, without_leading_plus}
use Rattle.clap.specs.Words.{HasKind, Row, Text, all_of, fault_of, first_of, kind_of, one_of, subcommand_of}
use Rattle.clap.specs.declared.error.Error.{Error}
use Rattle.clap.specs.declared.error.kind.ErrorKind.{ErrorKind}
use Rattle.clap.specs.declared.error.kind.ErrorKind.TheVariants.{ArgumentConflict, InvalidValue, MissingSubcommand, OutOfMemory, ValueValidation, MissingRequiredArgument}
use Rattle.run_plan.specs.declared.policy.Policy.{Policy}
use Rattle.run_plan.specs.declared.policy.Policy.TheVariants.{Refuse, Skip}
use Rattle.run_plan.specs.declared.version.Version.{Version}
use Rattle.run_plan.specs.declared.version.Version.TheVariants.{One, Two, Json}
use Rattle.run_plan.specs.declared.plan.Plan.{Plan}
use Rattle.encodings.specs.Names.{encoding_named}
use Rattle.encodings.specs.declared.encoding.Encoding.{Encoding}
use Rattle.tex_sizes.specs.Lengths.{unit_named}
use Rattle.tex_sizes.specs.Sizes.{is_plain, size_of}
use Rattle.tex_sizes.specs.declared.length_unit.LengthUnit.{LengthUnit}
use Rattle.formats.specs.declared.record_format.RecordFormat.{RecordFormat}
use Rattle.formats.specs.declared.record_format.RecordFormat.TheVariants.{Items, Box}
use Rattle.formats.specs.declared.listing.OutputFormat.{OutputFormat}
use Rattle.formats.specs.declared.listing.OutputFormat.TheVariants.{Text as TextOutput, Json as JsonOutput}
use Rattle.formats.specs.declared.listing.ListLayout.{ListLayout}
use Rattle.formats.specs.declared.pairs.PairsFormat.{PairsFormat}
use Rattle.formats.specs.declared.pairs.PairsLayout.{PairsLayout}
use Rattle.formats.specs.declared.pairs.PairsFormat.TheVariants.{Text as TextFormat, Csv, Json as JsonFormat}
use Rattle.command_line.specs.Commands.{AllChoices, tfmset_app}
use Rattle.command_line.specs.declared.request.CheckLayout.{CheckLayout}
use Rattle.command_line.specs.declared.request.Checking.{Checking}
use Rattle.command_line.specs.declared.request.Jobs.{Jobs}
use Rattle.command_line.specs.declared.request.Layout.{Layout}
use Rattle.command_line.specs.declared.request.Listing.{Listing}
use Rattle.command_line.specs.declared.request.Pairing.{Pairing}
use Rattle.command_line.specs.declared.request.Request.{Request}
use Rattle.command_line.specs.declared.request.Request.TheVariants.{Counts, List as ListFont, Pairs, Check, Set, Stream, Each}
use Rattle.command_line.specs.declared.request.Arguments.{Arguments}
use Rattle.command_line.specs.declared.request.Setting.{Setting}

-- a value that satisfies Fits, or None if no value does
abbrev pub Finds : {A : Type 0} → (A → Type 0) → Option A → Type 0
Finds Fits (Some found) = Fits found
Finds {A} Fits None = (any : A) → ¬ Fits any

-- the texts of borrowed arguments
abbrev pub texts : List (Bor Text) → List Text
texts words = map (λ word. word.now) words

-- ---- values

-- the text writes the number in decimal digits, possibly after a plus sign
abbrev pub Writes : Text → ℕ → Type 0
Writes text number = IsNumeral 10 (without_leading_plus text) × (digits_value 10 (without_leading_plus text) ≡ number)

-- there is a text, which writes the number, and the number is from least to most
abbrev pub IsNumberIn : ℕ → ℕ → Option Text → ℕ → Type 0
IsNumberIn least most text number = IsSomeAnd text (λ t. Writes t number) × (least ≤ number) × (number ≤ most)

-- the number of lines in a block, from the first value of `--block`, if it has one, and from its only value; 8
-- if it has none
abbrev pub IsBlock : Option Text → Option Text → ℕ → Type 0
IsBlock None only lines = lines ≡ 8
IsBlock (Some first) only lines = IsNumberIn 1 8 only lines

-- a value of `--encoding` can be the path of a file: it contains a slash or a period
abbrev pub is_path : Text → Bool
is_path value = list_any (λ byte. (byte == 47) || (byte == 46)) value

-- the file with an encoding vector that a value of `--encoding` names, if it names one: the value is no name of an
-- encoding, and it contains a slash or a period
abbrev pub vector_named : Text → Option Text
vector_named value = cond (is_none (encoding_named value) && is_path value) (Some value) None

-- what a value of `--encoding` states: that lines are bytes, and have no encoding; the encoding of this name; for a file
-- with an encoding vector no encoding, until the vector is read; any other value states nothing
abbrev pub encoding_stated : Text → Option (Option Encoding)
encoding_stated value =
    cond (bytes_eq value (codes "bytes")) (Some None)
    (option_or (option_map Some (encoding_named value)) (option_map (λ _. None) (vector_named value)))

-- the value of `--missing` for a policy
abbrev pub policy_word : Policy → Text
policy_word Refuse = codes "refuse"
policy_word Skip = codes "skip"

-- the value of `--record` for a format of records with items
abbrev pub version_word : Version → Text
version_word One = codes "1"
version_word Two = codes "2"
version_word Json = codes "json"

-- the format of records with items that a value of `--record` states
abbrev pub version_named : Text → Option Version
version_named value = find (λ version. bytes_eq value (version_word version)) (One ∷ Two ∷ Json ∷ [])

-- the record format that the values of `--record` and `--unit` state: for `box` that of boxes in the unit, or in sp
-- without a unit; another format states one only without a unit
abbrev pub format_stated : Option Text → Text → Option RecordFormat
format_stated unit value =
    cond (bytes_eq value (codes "box")) (option_map Box (unit_named (unwrap_or unit (codes "sp"))))
    (cond (is_none unit) (option_map Items (version_named value)) None)

-- the value of `--format` for a format of pairs
abbrev pub format_word : PairsFormat → Text
format_word TextFormat = codes "text"
format_word Csv = codes "csv"
format_word JsonFormat = codes "json"

-- the value of `--format` for a format of findings or of a listing
abbrev pub output_format_word : OutputFormat → Text
output_format_word TextOutput = codes "text"
output_format_word JsonOutput = codes "json"

-- a flag is set if its value is `true`, and isn't set if its value is `false` or it has none
abbrev pub IsFlag : Option Text → Bool → Type 0
IsFlag None set = set ≡ false
IsFlag (Some text) set = (text ≡ codes "true" → set ≡ true) × (text ≡ codes "false" → set ≡ false)

-- ---- requests, by the values of the arguments of a subcommand

module _ (rows : List Row) where
  -- the value of `--size` states this size; None if the option has no value
  abbrev pub IsSize : Option ℕ → Type 0
  IsSize size = option_map size_of (first_of (codes "size") rows) ≡ option_map Some size

  -- `--size` has a value without a unit
  abbrev pub has_plain_size : Bool
  has_plain_size = option_map_or is_plain (first_of (codes "size") rows) false

  -- the value of `--unit` is the name of this unit
  abbrev pub IsUnit : LengthUnit → Type 0
  IsUnit unit = option_and_then unit_named (first_of (codes "unit") rows) ≡ Some unit

  -- whether `--block` isn't given and has no default
  abbrev pub has_no_block : Bool
  has_no_block = is_none (first_of (codes "block") rows)

  -- the numbers of `--capacity`, `--block` and `--workers`
  abbrev pub IsPlan : Plan → Type 0
  IsPlan plan =
      IsNumberIn 1 65536 (one_of (codes "capacity") rows) plan.capacity
      × IsBlock (first_of (codes "block") rows) (one_of (codes "block") rows) plan.block
      × IsNumberIn 1 16 (one_of (codes "workers") rows) plan.workers

  -- whether `--verbose` is given
  abbrev pub IsVerbose : Bool → Type 0
  IsVerbose verbose = IsFlag (one_of (codes "verbose") rows) verbose

  -- the value of `--encoding` states this encoding, or none
  abbrev pub IsEncoding : Option Encoding → Type 0
  IsEncoding encoding = option_and_then encoding_stated (first_of (codes "encoding") rows) ≡ Some encoding

  -- the file with an encoding vector that the value of `--encoding` names, if it names one
  abbrev pub vector_in : Option Text
  vector_in = option_and_then vector_named (first_of (codes "encoding") rows)

  -- the values of the options that `set`, `stream` and `each` have in common
  abbrev pub IsLayout : Layout → Type 0
  IsLayout layout =
      IsSize layout.size
      × (layout.plain_size ≡ has_plain_size)
      × (first_of (codes "missing") rows ≡ Some (policy_word layout.policy))
      × IsFlag (one_of (codes "crlf") rows) layout.crlf
      × IsEncoding layout.encoding
      × IsPlan layout.plan
      × (layout.whole_reads ≡ has_no_block)
      × (option_and_then (format_stated (first_of (codes "unit") rows)) (first_of (codes "record") rows) ≡ Some layout.format)
      × IsVerbose layout.verbose

  -- the format of the output of `pairs`, the encoding of its characters, and the unit of its kerns
  abbrev pub IsPairsLayout : PairsLayout → Type 0
  IsPairsLayout layout =
      (first_of (codes "format") rows ≡ Some (format_word layout.format))
      × IsEncoding layout.encoding
      × IsUnit layout.unit

  -- the format of the output of `list`, and the unit of its dimensions
  abbrev pub IsListLayout : ListLayout → Type 0
  IsListLayout layout =
      (first_of (codes "format") rows ≡ Some (output_format_word layout.format))
      × IsUnit layout.unit

  -- the values of `list`: the font, its size, whether that has no unit, the layout, and whether `--all` and
  -- `--verbose` are given
  abbrev pub IsListing : Listing → Type 0
  IsListing asked =
      (first_of (codes "FONT") rows ≡ Some asked.font.now)
      × IsSize asked.size
      × (asked.plain_size ≡ has_plain_size)
      × IsListLayout asked.layout
      × IsFlag (one_of (codes "all") rows) asked.all
      × IsVerbose asked.verbose

  -- the values of `pairs`: the font, its size, whether that has no unit, the layout, and whether `--verbose` is given
  abbrev pub IsPairing : Pairing → Type 0
  IsPairing asked =
      (first_of (codes "FONT") rows ≡ Some asked.font.now)
      × IsSize asked.size
      × (asked.plain_size ≡ has_plain_size)
      × IsPairsLayout asked.layout
      × IsVerbose asked.verbose

  -- the format of `check`, and whether `--strict`, `--quiet`, `--summary` and `--verbose` are given
  abbrev pub IsCheckLayout : CheckLayout → Type 0
  IsCheckLayout layout =
      (first_of (codes "format") rows ≡ Some (output_format_word layout.format))
      × IsFlag (one_of (codes "strict") rows) layout.strict
      × IsFlag (one_of (codes "quiet") rows) layout.quiet
      × IsFlag (one_of (codes "summary") rows) layout.summary
      × IsVerbose layout.verbose

  -- `check` has neither a font nor a list of fonts
  abbrev pub has_no_font : Bool
  has_no_font = is_none (all_of (codes "FONT") rows) && is_none (first_of (codes "files-from") rows)

  -- `--size` has a value that states no size
  abbrev pub misstates_size : Bool
  misstates_size = option_map_or (λ text. is_none (size_of text)) (first_of (codes "size") rows) false

  -- the fonts of `check`, in order, the file with further names, whether `--null` is given, and the layout; there is
  -- a font or such a file, and `--size` has no value that states no size
  abbrev pub IsChecking : Checking → Type 0
  IsChecking asked =
      (misstates_size ≡ false)
      × (has_no_font ≡ false)
      × (unwrap_or (all_of (codes "FONT") rows) [] ≡ texts asked.fonts.items)
      × (option_map (λ file. file.now) asked.list ≡ first_of (codes "files-from") rows)
      × IsFlag (one_of (codes "null") rows) asked.null
      × IsCheckLayout asked.layout

  -- the values of `set` or `stream`: the font, the limit, the files in order, and the layout
  abbrev pub IsSetting : Setting → Type 0
  IsSetting asked =
      (first_of (codes "FONT") rows ≡ Some asked.font.now)
      × IsNumberIn 1 16777216 (one_of (codes "limit") rows) asked.limit
      × (unwrap_or (all_of (codes "FILE") rows) [] ≡ texts asked.files.items)
      × IsLayout asked.layout

  -- the arguments of `each`, in order, and the layout
  abbrev pub AreJobs : Jobs → Type 0
  AreJobs asked = (all_of (codes "WORD") rows ≡ Some (texts asked.words.items)) × IsLayout asked.layout

  -- the subcommand of this name and its values state this request
  abbrev pub AsksFor : Text → Request → Type 0
  AsksFor name (Counts font verbose) =
      (name ≡ codes "counts") × (first_of (codes "FONT") rows ≡ Some font.now) × IsVerbose verbose
  AsksFor name (ListFont asked) = (name ≡ codes "list") × IsListing asked
  AsksFor name (Pairs asked) = (name ≡ codes "pairs") × IsPairing asked
  AsksFor name (Check asked) = (name ≡ codes "check") × IsChecking asked
  AsksFor name (Set asked) = (name ≡ codes "set") × IsSetting asked
  AsksFor name (Stream asked) = (name ≡ codes "stream") × IsSetting asked
  AsksFor name (Each asked) = (name ≡ codes "each") × AreJobs asked

  -- they state this request, and name this file with an encoding vector
  abbrev pub Asks : Text → Arguments → Type 0
  Asks name asked = AsksFor name asked.request × (option_map (λ file. file.now) asked.vector ≡ vector_in)

-- there is a subcommand, which states this request with its values
abbrev pub IsAskedOf : Option (Text × List Row) → Arguments → Type 0
IsAskedOf subcommand asked = IsSomeAnd subcommand (λ s. Asks s.1 s.0 asked)

-- `--encoding` has a value that states no encoding and names no file
abbrev pub misstates_encoding : List Row → Bool
misstates_encoding rows = option_map_or (λ text. is_none (encoding_stated text)) (first_of (codes "encoding") rows) false

-- `--unit` has a value, and `--record` has one other than `box`
abbrev pub misplaces_unit : List Row → Bool
misplaces_unit rows =
    option_map_or (λ value. not (is_none (first_of (codes "unit") rows)) && not (bytes_eq value (codes "box"))) (first_of (codes "record") rows) false

-- the kind of the error if a parse has none and the values of a subcommand state no request; the size comes first,
-- and last that `check` has no font
abbrev pub kind_of_values : List Row → ErrorKind
kind_of_values rows =
    cond (misstates_size rows) ValueValidation
    (cond (misstates_encoding rows) InvalidValue (cond (misplaces_unit rows) ArgumentConflict MissingRequiredArgument))

-- the kind of the error if a parse has none and the subcommand states no request
abbrev pub kind_without_request : Option (Text × List Row) → ErrorKind
kind_without_request subcommand = option_map_or (λ s. kind_of_values s.1) subcommand MissingSubcommand

-- ---- requests, by the arguments

module _ (choices : AllChoices) (words : List Text) where
  -- a parse of the arguments has no error, and they state this request
  abbrev pub IsAskedWith : Arguments → Type 0
  IsAskedWith asked = (fault_of (tfmset_app choices) words ≡ []) × IsAskedOf (subcommand_of (tfmset_app choices) words) asked

  -- the error of the arguments: out of memory, or the first error of a parse; or, if a parse has none, that
  -- they state no request, since `--size` states no size, since `--encoding` states no encoding and names no file,
  -- since `--unit` is given without `--record box`, since `check` has no font, or since there is no subcommand
  abbrev pub IsRefusedWith : Error → Type 0
  IsRefusedWith error =
      HasKind (fault_of (tfmset_app choices) words) error
      ⊎ ((fault_of (tfmset_app choices) words ≡ [])
      × (kind_of error ≡ kind_without_request (subcommand_of (tfmset_app choices) words))
      × ((asked : Arguments) → ¬ IsAskedWith asked))

-- the arguments state this request for the command with some parsers
abbrev pub IsAskedBy : List Text → Arguments → Type 0
IsAskedBy words asked = (choices : AllChoices) × IsAskedWith choices words asked

-- the error of the arguments for the command with some parsers, or out of memory, which can also occur
-- before there is a command
abbrev pub IsRefusedBy : List Text → Error → Type 0
IsRefusedBy words error = (kind_of error ≡ OutOfMemory) ⊎ ((choices : AllChoices) × IsRefusedWith choices words error)
