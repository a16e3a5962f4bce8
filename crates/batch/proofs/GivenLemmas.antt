-- What a source returned, call by call.
use Rattle.std.proofs.Common.{rules, ◌≡◌, Bool, true, false, List, [], ◌∷◌, ◌++◌, Option, Some, None, refl, ap, sym, subst, ◌∙◌, append-nil}
use Rattle.std.specs.Prelude.{Result, Ok, Err, if◌then◌else◌}
use Rattle.lanes.specs.Messages.{first_end}
use Rattle.lanes.specs.declared.ending.SourceEnd.{SourceEnd}
use Rattle.lanes.specs.declared.ending.SourceEnd.TheVariants.{Complete, Failed}
use Rattle.lanes.specs.declared.fault.SourceFault.{SourceFault}
use Rattle.batch.specs.Calls.{HasEnded, HasReturned, IsFedFrom, WasRead}

module _ {S I : Type 0} (gives : S → Result (Option I) SourceFault → S → Type 0) where
  -- one item more
  pub returned_more : (before : S) (items : List I) (now : S) (item : I) (after : S) → HasReturned gives before items now
      → gives now (Ok (Some item)) after → HasReturned gives before (items ++ item ∷ []) after
  returned_more before [] now item after so_far one = (after, subst (λ s. gives s (Ok (Some item)) after) so_far one, refl)
  returned_more before (i ∷ items) now item after (next, first, rest) one = (next, first, returned_more next items now item after rest one)

  -- and then an end
  ended : (before : S) (items : List I) (now after : S) (end : SourceEnd) → HasReturned gives before items now
      → HasEnded gives now (Some end) after → IsFedFrom gives (Some end) items before after
  ended before items now after end so_far last = (
    [],
    Some end,
    subst (λ l. WasRead gives before l (Some end) after) (sym (append-nil items)) (now, so_far, last),
    λ fed_end is. (refl, is),
  )

  pub fed_complete : (before : S) (items : List I) (now after : S) → HasReturned gives before items now
      → gives now (Ok None) after → IsFedFrom gives (Some Complete) items before after
  fed_complete before items now after so_far last = ended before items now after Complete so_far last

  pub fed_failed : (before : S) (items : List I) (now after : S) (fault : SourceFault) → HasReturned gives before items now
      → gives now (Err fault) after → IsFedFrom gives (Some (Failed fault)) items before after
  fed_failed before items now after fault so_far last = ended before items now after (Failed fault) so_far last

  -- without an end
  pub fed_so_far : (before : S) (items : List I) (now : S) → HasReturned gives before items now → IsFedFrom gives None items before now
  fed_so_far before items now so_far = (
    [],
    None,
    subst (λ l. WasRead gives before l None now) (sym (append-nil items)) (now, so_far, refl),
    λ fed_end is. absurd (search rules),
  )

  -- with one item that wasn't fed
  pub fed_but_one : (before : S) (items : List I) (now : S) (item : I) (after : S) → HasReturned gives before items now
      → gives now (Ok (Some item)) after → IsFedFrom gives None items before after
  fed_but_one before items now item after so_far one = (
    item ∷ [],
    None,
    (after, returned_more before items now item after so_far one, refl),
    λ fed_end is. absurd (search rules),
  )

  -- with an end that wasn't passed on
  pub not_closed : (end : Option SourceEnd) (items : List I) (before after : S) → IsFedFrom gives end items before after
      → IsFedFrom gives None items before after
  not_closed end items before after (more, last, read, ends) = (more, last, read, λ fed_end is. absurd (search rules))

  -- a feeder that had no end was closed with this end, or the end wasn't passed on
  pub fed_closed : (closed : Bool) (old new : Option SourceEnd) (end : SourceEnd) (items : List I) (before after : S) → old ≡ None
      → new ≡ (if closed then first_end old (Some end) else old) → IsFedFrom gives (Some end) items before after
      → IsFedFrom gives new items before after
  fed_closed true old new end items before after none is fed =
      let same : new ≡ Some end = is ∙ ap (λ o. first_end o (Some end)) none in
      subst (λ e. IsFedFrom gives e items before after) (sym same) fed
  fed_closed false old new end items before after none is fed =
      subst (λ e. IsFedFrom gives e items before after) (sym (is ∙ none)) (not_closed (Some end) items before after fed)

  -- nothing was passed on
  pub fed_open : (end new : Option SourceEnd) (items : List I) (before after : S) → new ≡ None → IsFedFrom gives end items before after
      → IsFedFrom gives new items before after
  fed_open end new items before after none fed =
      subst (λ e. IsFedFrom gives e items before after) (sym none) (not_closed end items before after fed)
