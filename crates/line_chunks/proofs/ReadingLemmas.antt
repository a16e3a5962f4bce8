-- Chunks of the lines to come.
use Rattle.std.proofs.Common.{arith, ◌≡◌, ℕ, Bool, ◌+◌, ◌<◌, ◌^◌, List, [], ◌∷◌, ◌++◌, length, map, Option, Some, None, Ok, refl, ap, subst, ◌∙◌, append_assoc}
use Rattle.std.specs.Prelude.{⊤}
use Rattle.std.specs.Option.{option_map}
use Rattle.std.specs.Io.KnownBytes.{Consumes, Keeps}
use Rattle.set_line.specs.Lines.{HasNoFeed}
use Rattle.batch.specs.Calls.{HasReturned}
use Rattle.batch.specs.Sources.{HasNoMore}
use Rattle.line_chunks.specs.Chunks.{ChunkValue, cut}
use Rattle.line_chunks.specs.Pending.{AreAll, EndsWithFeed}
use Rattle.line_chunks.specs.Reading.{GivesChunk, Told, gives_told, told_by}
use Rattle.set_line.specs.Returns.{before_feed, lines_in}
use Rattle.line_chunks.specs.declared.chunk_reader.ChunkReaderState.{ChunkReaderState}
use Rattle.line_chunks.specs.declared.chunk_reader.ChunkReaderState.TheVariants.{AtEnd, Failed, Open}
use Rattle.set_line.proofs.ReturnLemmas.{last_line, lines_at_feed, no_lines}
use Rattle.line_chunks.proofs.FeedLemmas.{lines_apart}

-- ---- the lines to come, after some of them were returned

-- known lines to come begin with these, and lose them
abbrev pub LosesLines : Option (List (List ℕ)) → List (List ℕ) → Option (List (List ℕ)) → Type 0
LosesLines None lines after = ⊤
LosesLines (Some all) lines None = ⊥
LosesLines (Some all) lines (Some rest) = all ≡ lines ++ rest

abbrev pub open_told : Option (List (List ℕ)) → Told
open_told lines = record { lines = lines; fault = None }

module _ (crlf : Bool) where
  abbrev lines_of_known : Option (List ℕ) → Option (List (List ℕ))
  lines_of_known known = option_map (lines_in crlf) known

  -- the lines of a text that ends with a line feed
  pub loses_whole : (before after : Option (List ℕ)) (front : List ℕ) → EndsWithFeed front → Consumes before after front
      → LosesLines (lines_of_known before) (lines_in crlf front) (lines_of_known after)
  loses_whole None after front ends consumes = tt
  loses_whole (Some xs) None front ends consumes = absurd consumes
  loses_whole (Some xs) (Some ys) front ends consumes = ap (lines_in crlf) consumes ∙ lines_apart crlf front ys ends

  -- a line before its line feed
  pub loses_line : (before after : Option (List ℕ)) (line : List ℕ) → HasNoFeed line → Consumes before after (line ++ 10 ∷ [])
      → LosesLines (lines_of_known before) (before_feed crlf line ∷ []) (lines_of_known after)
  loses_line None after line one consumes = tt
  loses_line (Some xs) None line one consumes = absurd consumes
  loses_line (Some xs) (Some ys) line one consumes =
      ap (lines_in crlf) (consumes ∙ append_assoc line (10 ∷ []) ys) ∙ lines_at_feed crlf line ys one

  -- the last line
  pub loses_last : (before : Option (List ℕ)) (line : List ℕ) → HasNoFeed line → 0 < length line → AreAll before line → LosesLines (lines_of_known before) (line ∷ []) (Some [])
  loses_last None line one some all = tt
  loses_last (Some xs) line one some all = ap (lines_in crlf) all ∙ last_line crlf line one some

  -- the end
  pub no_more : (before : Option (List ℕ)) → AreAll before [] → HasNoMore (lines_of_known before) (Some [])
  no_more None all = tt
  no_more (Some xs) all = (ap (lines_in crlf) all ∙ no_lines crlf, refl)

-- these lines were returned one after the other
returned : (before after : Option (List (List ℕ))) (line : List ℕ) (lines : List (List ℕ)) → LosesLines before (line ∷ lines) after
    → HasReturned gives_told (open_told before) (line ∷ lines) (open_told after)
returned None after line [] loses = (open_told after, (refl, refl, tt), refl)
returned None after line (next ∷ lines) loses = (open_told None, (refl, refl, tt), returned None after next lines tt)
returned (Some all) None line lines loses = absurd loses
returned (Some all) (Some rest) line [] loses = rw loses (open_told (Some rest), (refl, refl, (refl, refl)), refl)
returned (Some all) (Some rest) line (next ∷ lines) loses =
    rw loses (open_told (Some (next ∷ lines ++ rest)), (refl, refl, (refl, refl)), returned (Some (next ∷ lines ++ rest)) (Some rest) next lines refl)

-- ---- chunks

-- a chunk of lines that the lines to come lose, which got this number
pub gives_lines : (before after : Option (List (List ℕ))) (lines : List (List ℕ)) (first count number next : ℕ) → 0 < length lines → LosesLines before lines after
    → count ≡ length lines → (first + count < 2 ^ 64 → number ≡ first) → next ≡ number + count
    → GivesChunk (open_told before) first (Ok (Some (record { first = number; lines = map cut lines }))) (open_told after) next
gives_lines before after [] first count number next some loses counted numbered increased = absurd (omega arith)
gives_lines before after (line ∷ lines) first count number next some loses counted numbered increased =
    (line ∷ lines, returned before after line lines loses, (λ none. cc, refl, λ fits. let here = numbered (omega arith) in (here, omega arith)))

-- after a read, what is given is given as before it
pub gives_after_read : (crlf : Bool) (state : ChunkReaderState) (before between : Option (List ℕ)) (first next : ℕ) (given : Option ChunkValue) (after : Told)
    → Keeps before between → GivesChunk (told_by crlf state between) first (Ok given) after next → GivesChunk (told_by crlf state before) first (Ok given) after next
gives_after_read crlf Open None between first next None after keeps gives = (refl, gives.1, tt)
gives_after_read crlf Open None between first next (Some chunk) after keeps ([], returned, is) = absurd (is.0 refl)
gives_after_read crlf Open None between first next (Some chunk) after keeps (line ∷ lines, (now, given, rest), is) = (line ∷ lines, (now, (refl, given.1, tt), rest), is)
gives_after_read crlf Open (Some xs) None first next given after keeps gives = absurd keeps
gives_after_read crlf Open (Some xs) (Some ys) first next given after keeps gives =
    subst (λ known. GivesChunk (told_by crlf Open (Some known)) first (Ok given) after next) keeps gives
gives_after_read crlf AtEnd before between first next given after keeps gives = gives
gives_after_read crlf (Failed fault) before between first next given after keeps gives = gives
