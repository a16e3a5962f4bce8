-- Lanes of lines: what the calls of a source of lines say of its lines.
use Rattle.std.proofs.Common.{rules, arith, ◌≡◌, ℕ, List, [], ◌∷◌, ◌++◌, length, take, Option, Some, None, refl, ap, sym, subst, ◌∙◌, append_assoc, append-nil}
use Rattle.std.proofs.lemmas.List.{length-map, length-append}
use Rattle.std.proofs.Math.Seq.{take-append_seam}
use Rattle.std.specs.Prelude.{⊤}
use Rattle.set_line.specs.Terms.{TermsValue}
use Rattle.set_line.specs.Answer.{AnswerValue, answer_of, answers_of}
use Rattle.lanes.specs.declared.fault.SourceFault.{SourceFault}
use Rattle.lanes.specs.declared.ending.SourceEnd.{SourceEnd}
use Rattle.lanes.specs.declared.ending.SourceEnd.TheVariants.{Complete as SourceComplete, Failed}
use Rattle.batch.specs.Calls.{HasEnded, HasReturned}
use Rattle.batch.specs.Sources.{GivesNext, HasGiven, HasNoMore, gives_known}
use Rattle.batch.specs.Closed.{IsClosedOf}
use Rattle.set_run.specs.Reports.{AreAllAnswers, AreFirstAnswers, IsTrueToSource}
use Rattle.batch.specs.declared.run_end.ClosedLane.{ClosedLane}

-- ---- lines to come

-- these lines were returned, and the others of those to come remain; nothing is stated if those to come weren't known
abbrev Gave : Option (List (List ℕ)) → List (List ℕ) → Option (List (List ℕ)) → Type 0
Gave (Some lines) given (Some rest) = lines ≡ given ++ rest
Gave (Some lines) given None = ⊥
Gave None given after = ⊤

gave_none : (before : Option (List (List ℕ))) → Gave before [] before
gave_none (Some lines) = refl
gave_none None = tt

gave_first : (before : Option (List (List ℕ))) (line : List ℕ) (now : Option (List (List ℕ))) (lines : List (List ℕ)) (after : Option (List (List ℕ)))
    → GivesNext line before now → Gave now lines after → Gave before (line ∷ lines) after
gave_first None line now lines after next gave = tt
gave_first (Some []) line now lines after next gave = absurd next
gave_first (Some (first ∷ rest)) line now lines after next gave = by after (subst (λ n. Gave n lines after) next.1 gave)
  where
    by : (after : Option (List (List ℕ))) → Gave (Some rest) lines after → Gave (Some (first ∷ rest)) (line ∷ lines) after
    by (Some left) is = ap (λ l. l ∷ rest) (sym next.0) ∙ ap (λ l. line ∷ l) is
    by None is = absurd is

-- the results of the first of these lines
gave_answers : (terms : TermsValue) (answers : List AnswerValue) (lines more : List (List ℕ)) (before after : Option (List (List ℕ)))
    → answers ≡ answers_of terms lines → Gave before (lines ++ more) after → AreFirstAnswers terms answers before
gave_answers terms answers lines more None after are gave = (lines, are)
gave_answers terms answers lines more (Some all) None are gave = absurd gave
gave_answers terms answers lines more (Some all) (Some rest) are gave =
    let long : length answers ≡ length lines = ap length are ∙ length-map lines (answer_of terms) in
    let front : take (length answers) all ≡ lines =
    ap (λ n. take n all) long ∙ ap (take (length lines)) (gave ∙ append_assoc lines more rest) ∙ take-append_seam lines (more ++ rest) in
    are ∙ ap (answers_of terms) (sym front)

-- and of all
gave_all : (terms : TermsValue) (answers : List AnswerValue) (lines : List (List ℕ)) (before now after : Option (List (List ℕ)))
    → answers ≡ answers_of terms lines → Gave before lines now → HasNoMore now after → AreAllAnswers terms answers before after
gave_all terms answers lines None now after are gave none = (lines, are)
gave_all terms answers lines (Some all) None after are gave none = absurd gave
gave_all terms answers lines (Some all) (Some rest) after are gave none =
    (are ∙ ap (answers_of terms) (sym (gave ∙ ap (λ l. lines ++ l) none.0 ∙ append-nil lines)), none.1)

-- the lines that are left
gave_left : (least : ℕ) (lines more : List (List ℕ)) (before after : Option (List (List ℕ))) → least ≡ length lines
    → Gave before (lines ++ more) after → HasGiven least before after
gave_left least lines more None after long gave = tt
gave_left least lines more (Some all) None long gave = absurd gave
gave_left least lines more (Some all) (Some rest) long gave = (lines ++ more, rest, omega (arith, long, length-append lines more), gave, refl)

-- the same at the end
left_at_end : (least : ℕ) (lines : List (List ℕ)) (before now after : Option (List (List ℕ))) → HasGiven least before now → HasNoMore now after
    → HasGiven least before after
left_at_end least lines None now after left none = tt
left_at_end least lines (Some all) None after (given, rest, long, is, some) none = absurd (search rules)
left_at_end least lines (Some all) (Some last) after (given, rest, long, is, some) none = (given, last, long, is ∙ ap (λ l. given ++ l) (search (rules, some)), none.1 ∙ ap Some (sym none.0))

-- ---- calls of a source of lines

module _ {S : Type 0} (to_come : S → Option (List (List ℕ))) (failed : S → Option SourceFault) where
  returned_lines : (before : S) (lines : List (List ℕ)) (after : S) → HasReturned (gives_known to_come failed) before lines after
      → Gave (to_come before) lines (to_come after)
  returned_lines before [] after same = subst (λ s. Gave (to_come before) [] (to_come s)) (sym same) (gave_none (to_come before))
  returned_lines before (line ∷ lines) after (now, one, rest) =
      gave_first (to_come before) line (to_come now) lines (to_come after) one.2 (returned_lines now lines after rest)

  -- lines that are left, unless it failed
  left_of : (least : ℕ) (before now after : S) (last : Option SourceEnd) → HasGiven least (to_come before) (to_come now)
      → HasEnded (gives_known to_come failed) now last after → failed after ≡ None → HasGiven least (to_come before) (to_come after)
  left_of least before now after None given ended none = subst (λ s. HasGiven least (to_come before) (to_come s)) (sym ended) given
  left_of least before now after (Some SourceComplete) given ended none = left_at_end least [] (to_come before) (to_come now) (to_come after) given ended.2
  left_of least before now after (Some (Failed fault)) given ended none =
      let no : Some fault ≡ None = sym ended.0 ∙ none in absurd (search rules)

  -- the closed lane of a source of lines
  pub closed_line : (terms : TermsValue) (source : S) (answers : List AnswerValue) (lane : ClosedLane S)
      → IsClosedOf (gives_known to_come failed) (answer_of terms) source answers lane → IsTrueToSource to_come failed terms source answers lane
  closed_line terms source answers lane made =
      let (now, returned, ended) = made.read in
      let all = made.items ++ made.more in
      let gave : Gave (to_come source) all (to_come now) = returned_lines source all now returned in
      let long : length answers ≡ length made.items = ap length made.made ∙ length-map made.items (answer_of terms) in (
        gave_answers terms answers made.items made.more (to_come source) (to_come now) made.made gave,
        (λ is.
            let whole = made.complete is in
            let last : HasEnded (gives_known to_come failed) now (Some SourceComplete) lane.source =
            subst (λ e. HasEnded (gives_known to_come failed) now e lane.source) whole.1 ended in
            let only : all ≡ made.items = ap (λ l. made.items ++ l) whole.0 ∙ append-nil made.items in (
              last.1,
              gave_all terms answers made.items (to_come source) (to_come now) (to_come lane.source) made.made
                  (subst (λ l. Gave (to_come source) l (to_come now)) only gave) last.2,
            )),
        (λ fault is. (subst (λ e. HasEnded (gives_known to_come failed) now e lane.source) (made.failed fault is).1 ended).0),
        (λ none. left_of (length answers) source now lane.source made.last
            (gave_left (length answers) made.items made.more (to_come source) (to_come now) long gave) ended none),
      )
