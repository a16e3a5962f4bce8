-- Examples of command lines, with the values and errors that the definitions give them.
use Rattle.std.proofs.Common.{◌≡◌, Bool, true, false, List, [], ◌∷◌, Option, Some, None, refl, codes}
use Rattle.std.specs.Prelude.{option_map}
use Rattle.clap.specs.Words.{Kinds, Text, all_of, fault_of, first_of, one_of, subcommand_of}
use Rattle.clap.specs.declared.error.kind.ErrorKind.TheVariants.{ArgumentConflict, DisplayHelp, DisplayVersion, DisplayHelpOnMissingArgumentOrSubcommand, MissingRequiredArgument, UnknownArgument, ValueValidation}
use Rattle.clap.proofs.OnLiterals.{clap_on_literals}
use Rattle.command_line.specs.Asked.{misstates_size}
use Rattle.command_line.specs.Commands.{AllChoices, tfmset_app}

module _ (choices : AllChoices) where
  -- the first text, the text that is read and all texts of an argument; None if no subcommand is found
  abbrev text_in : Text → List Text → Option (Option Text)
  text_in argument words = option_map (λ s. first_of argument s.1) (subcommand_of (tfmset_app choices) words)

  abbrev read_in : Text → List Text → Option (Option Text)
  read_in argument words = option_map (λ s. one_of argument s.1) (subcommand_of (tfmset_app choices) words)

  abbrev all_in : Text → List Text → Option (Option (List Text))
  all_in argument words = option_map (λ s. all_of argument s.1) (subcommand_of (tfmset_app choices) words)

  abbrev fault_in : List Text → Kinds
  fault_in words = fault_of (tfmset_app choices) words

  -- whether `--size` has a value that states no size
  abbrev wrong_size_in : List Text → Option Bool
  wrong_size_in words = option_map (λ s. misstates_size s.1) (subcommand_of (tfmset_app choices) words)

  abbrev counts : List Text
  counts = codes "counts" ∷ codes "f.tfm" ∷ []

  abbrev set : List Text
  set = codes "set" ∷ codes "--size=655360" ∷ codes "--workers" ∷ codes "4" ∷ codes "f.tfm" ∷ codes "a" ∷ codes "b" ∷ []

  abbrev set_one_file : List Text
  set_one_file = codes "set" ∷ codes "f.tfm" ∷ codes "a" ∷ []

  -- values that are given
  given :
      (option_map (λ s. s.0) (subcommand_of (tfmset_app choices) counts) ≡ Some (codes "counts"))
      × (text_in (codes "FONT") counts ≡ Some (Some (codes "f.tfm")))
      × (read_in (codes "all") (codes "list" ∷ codes "f.tfm" ∷ codes "--all" ∷ []) ≡ Some (Some (codes "true")))
      × (read_in (codes "crlf") (codes "stream" ∷ codes "--crlf" ∷ codes "f.tfm" ∷ []) ≡ Some (Some (codes "true")))
      × (text_in (codes "encoding") (codes "stream" ∷ codes "--encoding" ∷ codes "t1" ∷ codes "f.tfm" ∷ []) ≡ Some (Some (codes "t1")))
      × (text_in (codes "encoding") (codes "pairs" ∷ codes "--encoding=ly1" ∷ codes "f.tfm" ∷ []) ≡ Some (Some (codes "ly1")))
      × (text_in (codes "size") (codes "list" ∷ codes "--size=12pt" ∷ codes "f.tfm" ∷ []) ≡ Some (Some (codes "12pt")))
      × (text_in (codes "format") (codes "list" ∷ codes "--format" ∷ codes "json" ∷ codes "f.tfm" ∷ []) ≡ Some (Some (codes "json")))
      × (read_in (codes "quiet") (codes "check" ∷ codes "--quiet" ∷ codes "f.tfm" ∷ []) ≡ Some (Some (codes "true")))
      × (read_in (codes "strict") (codes "check" ∷ codes "--strict" ∷ codes "f.tfm" ∷ []) ≡ Some (Some (codes "true")))
      × (read_in (codes "summary") (codes "check" ∷ codes "f.tfm" ∷ codes "--summary" ∷ []) ≡ Some (Some (codes "true")))
      × (text_in (codes "files-from") (codes "check" ∷ codes "--files-from" ∷ codes "-" ∷ codes "--null" ∷ []) ≡ Some (Some (codes "-")))
      × (read_in (codes "null") (codes "check" ∷ codes "--null" ∷ codes "f.tfm" ∷ []) ≡ Some (Some (codes "true")))
      × (text_in (codes "format") (codes "check" ∷ codes "--format=json" ∷ codes "f.tfm" ∷ []) ≡ Some (Some (codes "json")))
      × (read_in (codes "verbose") (codes "check" ∷ codes "-v" ∷ codes "f.tfm" ∷ []) ≡ Some (Some (codes "true")))
      × (read_in (codes "verbose") (codes "each" ∷ codes "f.tfm" ∷ codes "100" ∷ codes "a" ∷ codes "--verbose" ∷ []) ≡ Some (Some (codes "true")))
      × (text_in (codes "size") set ≡ Some (Some (codes "655360")))
      × (read_in (codes "workers") set ≡ Some (Some (codes "4")))
      × (all_in (codes "FILE") set ≡ Some (Some (codes "a" ∷ codes "b" ∷ [])))
      × (all_in (codes "WORD") (codes "each" ∷ codes "f.tfm" ∷ codes "100" ∷ codes "a" ∷ []) ≡ Some (Some (codes "f.tfm" ∷ codes "100" ∷ codes "a" ∷ [])))
  unfolding clap_on_literals
  given = (refl, refl, refl, refl, refl, refl, refl, refl, refl, refl, refl, refl, refl, refl, refl, refl, refl, refl, refl, refl)

  -- values that aren't given
  not_given :
      (read_in (codes "quiet") (codes "check" ∷ codes "f.tfm" ∷ []) ≡ Some (Some (codes "false")))
      × (all_in (codes "FONT") (codes "check" ∷ []) ≡ Some None)
      × (read_in (codes "summary") (codes "check" ∷ codes "f.tfm" ∷ []) ≡ Some (Some (codes "false")))
      × (read_in (codes "all") (codes "list" ∷ codes "f.tfm" ∷ []) ≡ Some (Some (codes "false")))
      × (read_in (codes "crlf") set ≡ Some (Some (codes "false")))
      × (text_in (codes "encoding") set ≡ Some (Some (codes "bytes")))
      × (text_in (codes "encoding") (codes "pairs" ∷ codes "f.tfm" ∷ []) ≡ Some (Some (codes "bytes")))
      × (text_in (codes "encoding") (codes "each" ∷ codes "f.tfm" ∷ codes "100" ∷ codes "a" ∷ []) ≡ Some (Some (codes "bytes")))
      × (read_in (codes "verbose") set ≡ Some (Some (codes "false")))
      × (read_in (codes "limit") set ≡ Some (Some (codes "1048576")))
      × (text_in (codes "missing") set ≡ Some (Some (codes "refuse")))
      × (read_in (codes "block") set ≡ Some (Some (codes "1")))
      × (read_in (codes "block") (codes "stream" ∷ codes "f.tfm" ∷ []) ≡ Some None)
      × (read_in (codes "block") (codes "each" ∷ codes "f.tfm" ∷ codes "100" ∷ codes "a" ∷ []) ≡ Some (Some (codes "1")))
      × (all_in (codes "FILE") (codes "stream" ∷ codes "f.tfm" ∷ []) ≡ Some None)
  unfolding clap_on_literals
  not_given = (refl, refl, refl, refl, refl, refl, refl, refl, refl, refl, refl, refl, refl, refl, refl)

  -- invalid arguments, and help
  invalid :
      (fault_in [] ≡ DisplayHelpOnMissingArgumentOrSubcommand ∷ [])
      × (fault_in (codes "set" ∷ codes "--help" ∷ []) ≡ DisplayHelp ∷ [])
      × (fault_in (codes "--version" ∷ []) ≡ DisplayVersion ∷ [])
      × (fault_in (codes "counts" ∷ []) ≡ MissingRequiredArgument ∷ [])
      × (fault_in (codes "set" ∷ codes "--limit" ∷ codes "0" ∷ codes "f.tfm" ∷ codes "a" ∷ []) ≡ ValueValidation ∷ [])
      × (wrong_size_in (codes "check" ∷ codes "--size" ∷ codes "0" ∷ codes "f.tfm" ∷ []) ≡ Some true)
      × (fault_in (codes "counts" ∷ codes "f.tfm" ∷ codes "g.tfm" ∷ []) ≡ UnknownArgument ∷ [])
      × (fault_in (codes "check" ∷ codes "--size=1" ∷ codes "--size=2" ∷ codes "f.tfm" ∷ []) ≡ ArgumentConflict ∷ [])
      × (wrong_size_in (codes "check" ∷ codes "--size" ∷ codes "134217728" ∷ codes "f.tfm" ∷ []) ≡ Some true)
      × (wrong_size_in (codes "list" ∷ codes "--size=12em" ∷ codes "f.tfm" ∷ []) ≡ Some true)
      × (fault_in (codes "counts" ∷ codes "--size" ∷ codes "1" ∷ codes "f.tfm" ∷ []) ≡ UnknownArgument ∷ [])
  unfolding clap_on_literals
  invalid = (refl, refl, refl, refl, refl, refl, refl, refl, refl, refl, refl)

  -- valid arguments
  valid :
      (wrong_size_in (codes "check" ∷ codes "--size" ∷ codes "134217727" ∷ codes "f.tfm" ∷ codes "-" ∷ []) ≡ Some false)
      × (wrong_size_in (codes "stream" ∷ codes "--size=10.95pt" ∷ codes "f.tfm" ∷ []) ≡ Some false)
      × (wrong_size_in set_one_file ≡ Some false)
  unfolding clap_on_literals
  valid = (refl, refl, refl)
