-- The requests of arguments, from the clauses about a parse.
use Rattle.std.proofs.Common.{◌≡◌, ◌∙◌, ap, true, List, Option, Some, None, refl, sym, subst}
use Rattle.std.proofs.lemmas.Option.{none-some, same_Some}
use Rattle.std.specs.Prelude.{Result}
use Rattle.clap.specs.Words.{App, FailsBy, HasMatchesOf, Text, fault_of, is_simple, is_simple_and_free, subcommand_of, subcommand_rows_of}
use Rattle.clap.specs.declared.error.Error.{Error}
use Rattle.clap.specs.declared.error.kind.ErrorKind.{ErrorKind}
use Rattle.clap.specs.declared.parser.matches.ArgMatches.{ArgMatches}
use Rattle.command_line.specs.Asked.{Finds, IsAskedOf, IsAskedWith, kind_without_request}
use Rattle.command_line.specs.Commands.{AllChoices, tfmset_app}
use Rattle.command_line.specs.declared.request.Arguments.{Arguments}

module _ (choices : AllChoices) where
  -- the clauses about a parse hold for this command
  simple : is_simple (tfmset_app choices) ≡ true
  simple = refl

  free : is_simple_and_free (tfmset_app choices) ≡ true
  free = refl

  module _ (words : List Text) (app : App) (is : app ≡ tfmset_app choices) where
    rows_of_words : (m : ArgMatches) → HasMatchesOf app words m → subcommand_rows_of m ≡ subcommand_of (tfmset_app choices) words
    rows_of_words m has = (subst (λ a. HasMatchesOf a words m) is has simple).1

    -- the kind of the error is the same by the matches and by the arguments
    pub kind_in_words : (m : ArgMatches) (kind : ErrorKind) → HasMatchesOf app words m → kind ≡ kind_without_request (subcommand_rows_of m)
        → kind ≡ kind_without_request (subcommand_of (tfmset_app choices) words)
    kind_in_words m kind has is = is ∙ ap kind_without_request (rows_of_words m has)

    -- the request found in the matches is the one that the arguments state
    pub asked_in_words : (m : ArgMatches) (found : Option Arguments) (asked : Arguments) → HasMatchesOf app words m → Finds (IsAskedOf (subcommand_rows_of m)) found
        → found ≡ Some asked → IsAskedOf (subcommand_of (tfmset_app choices) words) asked
    asked_in_words m (Some other) asked has finds one =
        subst (IsAskedOf (subcommand_of (tfmset_app choices) words)) (same_Some other asked one) (subst (λ s. IsAskedOf s other) (rows_of_words m has) finds)
    asked_in_words m None asked has finds one = absurd (none-some asked one)

    pub nothing_in_words : (m : ArgMatches) (found : Option Arguments) → HasMatchesOf app words m → Finds (IsAskedOf (subcommand_rows_of m)) found
        → found ≡ None → (asked : Arguments) → ¬ IsAskedWith choices words asked
    nothing_in_words m (Some other) has finds none asked asks = none-some other (sym none)
    nothing_in_words m None has finds none asked asks = finds asked (subst (λ s. IsAskedOf s asked) (sym (rows_of_words m has)) asks.1)

    -- a parse fails with the first error of the arguments, and otherwise they have no error
    pub faults : {T : Type 0} (r : Result T Error) → (is_simple_and_free app ≡ true → FailsBy (fault_of app words) r) → FailsBy (fault_of (tfmset_app choices) words) r
    faults r fails = subst (λ a. is_simple_and_free a ≡ true → FailsBy (fault_of a words) r) is fails free
