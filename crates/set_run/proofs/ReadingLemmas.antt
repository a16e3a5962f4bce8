-- Lines from a reader.
use Rattle.std.proofs.Common.{◌≡◌, ◌≢◌, ℕ, suc, ◌+◌, ◌-◌, ◌<◌, ◌≤◌, ◌==◌, true, false, List, [], ◌∷◌, ◌++◌, length, get_or, take, drop, Option, Some, None, Ok, arith, refl, ap, sym, subst, ◌∙◌, append_assoc, add-one}
use Rattle.std.specs.List.{position, position_or_len}
use Rattle.std.specs.Option.{option_map}
use Rattle.std.specs.Io.KnownBytes.{Consumes, Keeps, prepend_known}
use Rattle.std.proofs.lemmas.Bool.Decides.{nat_tests}
use Rattle.std.proofs.lemmas.List.{get_or_default, get_or-take, length-take, drop_all, drop-drop, take-append-drop}
use Rattle.std.proofs.lemmas.Slice.{between_is}
use Rattle.std.proofs.Math.Seq.{drop-cons}
use Rattle.std.proofs.lemmas.List.Elements.{All-append}
use Rattle.std.proofs.lemmas.List.Quantifiers.{position-Some}
use Rattle.std.proofs.lemmas.List.Sums.{fails_before_first}
use Rattle.set_line.specs.Lines.{lines_of, HasNoFeed, IsCutAtFeed}
use Rattle.set_run.specs.declared.sources.reader_source.state.ReaderState.{ReaderState}
use Rattle.set_run.specs.declared.sources.reader_source.state.ReaderState.TheVariants.{Open, AtEnd, Failed}
use Rattle.batch.specs.Sources.{GivesNext, Reads}
use Rattle.set_run.specs.Reading.{MovesLine, fault_of, lines_to_come}

-- ---- the bytes in the buffer

-- if no line feed is found, there is none
pub none_found : (bytes : List ℕ) → position (λ byte. byte == 10) bytes ≡ None → HasNoFeed bytes
none_found bytes none = λ k d within is.
    let far : length bytes ≤ position_or_len (λ byte. byte == 10) bytes = grind (arith, nat_tests) in
    let fails : (get_or bytes k d == 10) ≡ false = fails_before_first (λ byte. byte == 10) bytes k d (omega arith) in
    grind (arith, nat_tests)

-- if one is found, it stands after bytes that are none
pub found : (bytes : List ℕ) (at : ℕ) → position (λ byte. byte == 10) bytes ≡ Some at → HasNoFeed (take at bytes) × (bytes ≡ take at bytes ++ 10 ∷ drop (at + 1) bytes)
found bytes at here = (none, split)
  where
    at_first : (at < length bytes) × ((get_or bytes at 0 == 10) ≡ true) × ((k : ℕ) → k < at → (get_or bytes k 0 == 10) ≡ false)
    at_first = position-Some (λ byte. byte == 10) bytes at 0 here

    none : HasNoFeed (take at bytes)
    none = λ k d within is.
        let short : k < at = omega (arith, length-take at bytes) in
        let inside : k < length bytes = omega (arith, at_first.0) in
        let same : get_or (take at bytes) k d ≡ get_or bytes k 0 = get_or-take at bytes k d short ∙ get_or_default bytes k d 0 inside in
        let fails : (get_or bytes k 0 == 10) ≡ false = at_first.2 k short in
        grind (arith, nat_tests)

    feed : get_or bytes at 0 ≡ 10
    feed = grind (arith, nat_tests, at_first.1)

    split : bytes ≡ take at bytes ++ 10 ∷ drop (at + 1) bytes
    split =
        sym (take-append-drop at bytes)
        ∙ ap (λ xs. take at bytes ++ xs) (drop-cons bytes at 0 at_first.0 ∙ ap (λ byte. byte ∷ drop (suc at) bytes) feed ∙ ap (λ n. 10 ∷ drop n bytes) (sym (add-one at)))

-- ---- moved to a line

-- what is left in the buffer is a part of it
pub in_hand : (items buffer view : List ℕ) (start end : ℕ) → drop start (take end items) ≡ view → buffer ≡ items
    → take (end - start) (drop start buffer) ≡ view
in_hand items buffer view start end same read =
    ap (λ xs. take (end - start) (drop start xs)) read ∙ between_is items start end ∙ same

-- the bytes up to the line feed were moved after the line, and the rest stays in the buffer
pub moves_to_feed : (items buffer view line longer : List ℕ) (start end at : ℕ) → drop start (take end items) ≡ view
    → buffer ≡ items → position (λ byte. byte == 10) (take (end - start) (drop start buffer)) ≡ Some at
    → longer ≡ line ++ take at (take (end - start) (drop start buffer))
    → MovesLine view line true longer (drop (start + (at + 1)) (take end items))
moves_to_feed items buffer view line longer start end at same read here appended =
    (take at view, (found view at at_first).0, whole, appended ∙ ap (λ xs. line ++ take at xs) alike)
  where
    alike : take (end - start) (drop start buffer) ≡ view
    alike = in_hand items buffer view start end same read

    at_first : position (λ byte. byte == 10) view ≡ Some at
    at_first = ap (position (λ byte. byte == 10)) (sym alike) ∙ here

    rest : drop (at + 1) view ≡ drop (start + (at + 1)) (take end items)
    rest = ap (drop (at + 1)) (sym same) ∙ drop-drop (at + 1) start (take end items)

    whole : view ≡ take at view ++ 10 ∷ drop (start + (at + 1)) (take end items)
    whole = (found view at at_first).1 ∙ ap (λ xs. take at view ++ 10 ∷ xs) rest

-- all bytes were moved after the line
pub moves_all : (items buffer view line longer : List ℕ) (start end : ℕ) → drop start (take end items) ≡ view
    → buffer ≡ items → position (λ byte. byte == 10) (take (end - start) (drop start buffer)) ≡ None
    → longer ≡ line ++ take (end - start) (drop start buffer)
    → MovesLine view line false longer (drop end (take end items))
moves_all items buffer view line longer start end same read none appended =
    (none_found view (ap (position (λ byte. byte == 10)) (sym alike) ∙ none), at_end, appended ∙ ap (λ xs. line ++ xs) alike)
  where
    alike : take (end - start) (drop start buffer) ≡ view
    alike = in_hand items buffer view start end same read

    at_end : drop end (take end items) ≡ []
    at_end = drop_all end (take end items) (omega (arith, length-take end items))

-- ---- taken off the bytes to come

-- an interrupted read has taken none
pub nothing_read : (before after : Option (List ℕ)) → Keeps before after → Consumes before after []
nothing_read None after is = tt
nothing_read (Some bytes) None is = absurd is
nothing_read (Some bytes) (Some rest) is = sym is

-- the line, the bytes up to the line feed, and the rest
to_feed : (line part rest known : List ℕ) → line ++ ((part ++ 10 ∷ rest) ++ known) ≡ ((line ++ part) ++ 10 ∷ []) ++ (rest ++ known)
to_feed line part rest known = simp append_assoc

-- the line with its line feed is what came first of all that was to come
still_consumes : (before known known' : Option (List ℕ)) (line longer bytes part rest : List ℕ) → Consumes before known line
    → Consumes known known' bytes → bytes ≡ part ++ 10 ∷ rest → longer ≡ line ++ part
    → Consumes before (prepend_known rest known') (longer ++ 10 ∷ [])
still_consumes None known known' line longer bytes part rest so_far more cut appended = so_far
still_consumes (Some all) None known' line longer bytes part rest so_far more cut appended = absurd so_far
still_consumes (Some all) (Some left) None line longer bytes part rest so_far more cut appended = absurd more
still_consumes (Some all) (Some left) (Some left') line longer bytes part rest so_far more cut appended =
    so_far ∙ ap (λ xs. line ++ xs) (more ∙ ap (λ xs. xs ++ left') cut) ∙ to_feed line part rest left'
    ∙ ap (λ xs. (xs ++ 10 ∷ []) ++ (rest ++ left')) (sym appended)

-- bytes were read, and those up to a line feed are in the line now
pub takes_to_feed : (before known known' : Option (List ℕ)) (line longer bytes rest : List ℕ) → HasNoFeed line → Consumes before known line
    → Consumes known known' bytes → MovesLine bytes line true longer rest
    → HasNoFeed longer × Consumes before (prepend_known rest known') (longer ++ 10 ∷ [])
takes_to_feed before known known' line longer bytes rest none so_far more moved = (
  subst HasNoFeed (sym moved.3) (All-append (λ byte. byte ≢ 10) line moved.0 none moved.1),
  still_consumes before known known' line longer bytes moved.0 rest so_far more moved.2 moved.3,
)

-- the longer line is what came first of all that was to come
still_all : (before known known' : Option (List ℕ)) (line longer bytes : List ℕ) → Consumes before known line
    → Consumes known known' bytes → longer ≡ line ++ bytes → Consumes before known' longer
still_all None known known' line longer bytes so_far more appended = so_far
still_all (Some all) None known' line longer bytes so_far more appended = absurd so_far
still_all (Some all) (Some left) None line longer bytes so_far more appended = absurd more
still_all (Some all) (Some left) (Some left') line longer bytes so_far more appended =
    so_far ∙ ap (λ xs. line ++ xs) more ∙ sym (append_assoc line bytes left') ∙ ap (λ xs. xs ++ left') (sym appended)

-- bytes were read, and all of them are in the line now
pub takes_all : (before known known' : Option (List ℕ)) (line longer bytes rest : List ℕ) → HasNoFeed line → Consumes before known line
    → Consumes known known' bytes → MovesLine bytes line false longer rest
    → (rest ≡ []) × HasNoFeed longer × Consumes before known' longer
takes_all before known known' line longer bytes rest none so_far more moved = (
  moved.1,
  subst HasNoFeed (sym moved.2) (All-append (λ byte. byte ≢ 10) line bytes none moved.0),
  still_all before known known' line longer bytes so_far more moved.2,
)

-- ---- lines

-- a line up to a line feed is the first of those to come
first_line : (before after : Option (List ℕ)) (line : List ℕ) → ((part rest : List ℕ) → IsCutAtFeed part rest) → HasNoFeed line
    → Consumes before after (line ++ 10 ∷ []) → GivesNext line (option_map lines_of before) (option_map lines_of after)
first_line None after line law none taken = taken
first_line (Some all) None line law none taken = absurd taken
first_line (Some all) (Some left) line law none taken =
    let cut : lines_of all ≡ line ∷ lines_of left = ap lines_of (taken ∙ append_assoc line (10 ∷ []) left) ∙ law line left none in
    subst (λ lines. GivesNext line (Some lines) (Some (lines_of left))) (sym cut) (refl, refl)

-- an answer with such a line is right
pub gives_known : (state : ReaderState) (before after : Option (List ℕ)) (line : List ℕ) → ((part rest : List ℕ) → IsCutAtFeed part rest)
    → state ≡ Open → HasNoFeed line → Consumes before after (line ++ 10 ∷ [])
    → Reads (lines_to_come state before) (fault_of state) (Ok (Some line)) (lines_to_come state after) (fault_of state)
gives_known Open before after line law is none taken = (refl, refl, first_line before after line law none taken)
gives_known AtEnd before after line law is none taken = absurd (cc)
gives_known (Failed fault) before after line law is none taken = absurd (cc)
