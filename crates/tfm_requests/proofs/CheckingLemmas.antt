-- Lemmas on the output for fonts that are checked.
use Rattle.std.proofs.Common.{◌≡◌, ℕ, Bool, true, false, List, [], ◌∷◌, ◌++◌, ◌∙◌, inl, inr, map, Option, Some, None, Bor, refl, ap, sym, subst}
use Rattle.std.proofs.lemmas.List.{append-nil, append_assoc, flat_map_more, map-append}
use Rattle.std.proofs.lemmas.List.Elements.{All-append, All-cons, All-nil}
use Rattle.std.specs.Prelude.{codes, IfSome, if◌then◌else◌}
use Rattle.std.specs.Str.{bytes_eq}
use Rattle.std.specs.Io.Buffered.{reader_buffer, reader_capacity, reader_inner, reader_remaining}
use Rattle.std.specs.Io.KnownBytes.{Appends, Keeps, prepend_known}
use Rattle.std.specs.declared.io.buffered.BufReader.{BufReader}
use Rattle.check_texts.specs.Tallies.{tally_of}
use Rattle.check_texts.specs.Verdicts.{AreWarningsOf, IsVerdictOf, Row}
use Rattle.check_texts.specs.Warnings.{endless_warnings}
use Rattle.check_texts.specs.declared.tally.Tally.{Tally}
use Rattle.check_texts.specs.declared.verdict.Verdict.{Verdict}
use Rattle.check_texts.specs.declared.verdict.Verdict.TheVariants.{Accepted, Refused, NotRead}
use Rattle.check_texts.specs.declared.warning.Warning.{Warning}
use Rattle.command_line.specs.declared.request.CheckLayout.{CheckLayout}
use Rattle.command_line.specs.declared.request.Checking.{Checking}
use Rattle.tfm_tables.specs.Acceptance.{font_fault_of}
use Rattle.tfm_requests.specs.Checking.{AddsFonts, AreChecked, AreListed, AreNames, IsFound, IsWritten, check_status, is_input, rows_text, separator_of, summary_text, text_shown}
use Rattle.tfm_requests.specs.Kept.{HaveSameFont}
use Rattle.tfm_requests.specs.Known.{font_bytes_of}

appends_nothing : (w : Option (List ℕ)) → Appends w w []
appends_nothing None = tt
appends_nothing (Some xs) = sym (append-nil xs)

appends_more : (w w' w'' : Option (List ℕ)) (a b : List ℕ) → Appends w w' a → Appends w' w'' b → Appends w w'' (a ++ b)
appends_more None w' w'' a b first next = tt
appends_more (Some xs) None w'' a b first next = elim first [ ]
appends_more (Some xs) (Some ys) None a b first next = elim next [ ]
appends_more (Some xs) (Some ys) (Some zs) a b first next = next ∙ (ap (λ l. l ++ b) first ∙ append_assoc xs a b)

-- a text that was written stays
pub kept_text : (w w' w'' : Option (List ℕ)) (text : List ℕ) → Appends w w' text → Keeps w' w'' → Appends w w'' text
kept_text None w' w'' text is kept = tt
kept_text (Some xs) None w'' text is kept = elim is [ ]
kept_text (Some xs) (Some ys) None text is kept = elim kept [ ]
kept_text (Some xs) (Some ys) (Some zs) text is kept = kept ∙ is

-- ---- the verdict on a font

same_warnings : (strict : Bool) (bytes all : List ℕ) (warnings : List Warning) → HaveSameFont bytes all → font_fault_of all ≡ None
    → AreWarningsOf strict bytes warnings → AreWarningsOf strict all warnings
same_warnings false bytes all warnings same accepted is = is
same_warnings true bytes all warnings same accepted is = (is.0, is.1 ∙ ap (λ l. l ++ endless_warnings is.0) (same.warnings accepted))

-- the verdict on the bytes that are kept of a font is one on the whole file
same_verdict : (strict : Bool) (bytes all : List ℕ) (verdict : Verdict) → HaveSameFont bytes all → IsVerdictOf strict bytes verdict → IsVerdictOf strict all verdict
same_verdict strict bytes all (Accepted warnings) same is =
    let accepted = sym same.fault ∙ is.0 in (accepted, same_warnings strict bytes all warnings.items same accepted is.1)
same_verdict strict bytes all (Refused fault) same is = sym same.fault ∙ is
same_verdict strict bytes all NotRead same is = is

pub found_in : (strict : Bool) (known : Option (List ℕ)) (bytes : List ℕ) (verdict : Verdict) → IfSome known (λ all. HaveSameFont bytes all)
    → IsVerdictOf strict bytes verdict → IfSome known (λ all. IsFound strict all verdict)
found_in strict None bytes verdict same is = tt
found_in strict (Some all) bytes verdict same is = inl (same_verdict strict bytes all verdict same is)

-- that a font wasn't read is a verdict on any file
pub unread_found : (strict : Bool) (known : Option (List ℕ)) → IfSome known (λ all. IsFound strict all NotRead)
unread_found strict None = tt
unread_found strict (Some all) = inr refl

-- ---- the rows of fonts

module _ (layout : CheckLayout) (known : List ℕ → Option (List ℕ)) where
  abbrev IsRow : Row → Type 0
  IsRow row = IfSome (known row.0) (λ all. IsFound layout.strict all row.1)

  -- no font
  pub none_added : (w : Option (List ℕ)) (t : Tally) → AddsFonts layout known [] w t w t
  none_added w t = ([], (refl, All-nil IsRow), λ start rows written. subst (λ r. IsWritten layout r start w t) (sym (append-nil rows)) written)

  -- one font
  pub one_added : (name : List ℕ) (verdict : Verdict) (w w' : Option (List ℕ)) (t t' : Tally) → IfSome (known name) (λ all. IsFound layout.strict all verdict)
      → Appends w w' (text_shown layout (name, verdict))
      → ((rows : List Row) (name : List ℕ) → t ≡ tally_of rows → t' ≡ tally_of (rows ++ (name, verdict) ∷ []))
      → AddsFonts layout known (name ∷ []) w t w' t'
  one_added name verdict w w' t t' found text more = (
    (name, verdict) ∷ [],
    (refl, All-cons IsRow (name, verdict) [] found (All-nil IsRow)),
    λ start rows written. (
      subst (Appends start w') (flat_map_more (text_shown layout) [] rows (name, verdict))
          (appends_more start w w' (rows_text layout rows) (text_shown layout (name, verdict)) written.0 text),
      more rows name written.1,
    ),
  )

  -- some fonts, and then others
  pub more_added : (first next : List (List ℕ)) (w w' w'' : Option (List ℕ)) (t t' t'' : Tally)
      → AddsFonts layout known first w t w' t' → AddsFonts layout known next w' t' w'' t'' → AddsFonts layout known (first ++ next) w t w'' t''
  more_added first next w w' w'' t t' t'' one other =
      let names = map-append (λ (row : Row). row.0) one.0 other.0 in (
        one.0 ++ other.0,
        (names ∙ (ap (λ l. l ++ map (λ (row : Row). row.0) other.0) one.1.0 ∙ ap (λ l. first ++ l) other.1.0), All-append IsRow one.0 other.0 one.1.1 other.1.1),
        λ start rows written.
            subst (λ r. IsWritten layout r start w'' t'') (append_assoc rows one.0 other.0) (other.2 start (rows ++ one.0) (one.2 start rows written)),
      )

-- ---- the list

prepend_nothing : (known : Option (List ℕ)) → prepend_known [] known ≡ known
prepend_nothing None = refl
prepend_nothing (Some all) = refl

-- a reader with an empty buffer
pub reader_unread : {L A : Type 0} (remaining : L → Option (List ℕ)) (reader : BufReader L A) (list : L) → reader_inner reader ≡ list → reader_buffer reader ≡ []
    → reader_capacity reader ≡ 8192 → reader_remaining remaining reader ≡ remaining list
reader_unread remaining reader list inner empty capacity = rw (capacity, empty) (prepend_nothing (remaining (reader_inner reader)) ∙ ap remaining inner)

module _ (known : List ℕ → Option (List ℕ)) (input : Option (List ℕ)) (separator : ℕ) (ended : Bool) (names : List (List ℕ)) where
  pub input_listed : (name : Option (Bor (List ℕ))) → is_input name ≡ true → AreNames separator input ended names → AreListed known input name separator ended names
  input_listed None is named = let bad : false ≡ true = is in cc
  input_listed (Some file) is named = subst (λ d. AreNames separator (if d then input else known file.now) ended names) (sym is) named

  of_file : (file list : Option (List ℕ)) → IfSome file (λ all. list ≡ Some all) → AreNames separator list ended names → AreNames separator file ended names
  of_file None list is named = tt
  of_file (Some all) list is named = subst (λ l. AreNames separator l ended names) is named

  pub file_listed : (file : Bor (List ℕ)) (list : Option (List ℕ)) → bytes_eq file.now (codes "-") ≡ false → IfSome (known file.now) (λ all. list ≡ Some all)
      → AreNames separator list ended names → AreListed known input (Some file) separator ended names
  file_listed file list other is named =
      subst (λ d. AreNames separator (if d then input else known file.now) ended names) (sym other) (of_file (known file.now) list is named)

-- ---- the whole output

module _ (known : List ℕ → Option (List ℕ)) (input : Option (List ℕ)) (asked : Checking) where
  -- the texts of the fonts of the arguments, those of the list, and then the summary, are the output
  pub all_checked : (w w' w'' v v' : Option (List ℕ)) (tally all : Tally) (names : List (List ℕ)) (ended : Bool) (status : ℕ)
      → AddsFonts asked.layout (font_bytes_of known input) (map (λ name. name.now) asked.fonts.items) w (tally_of []) w' tally
      → AreListed known input asked.list (separator_of asked.null) ended names → AddsFonts asked.layout known names w' tally w'' all
      → Appends w'' v (summary_text asked.layout all) → Keeps v v' → status ≡ check_status ended all
      → AreChecked known input asked w v' status
  all_checked w w' w'' v v' tally all names ended status fonts named listed summary kept is =
      let rows = fonts.0 ++ listed.0 in
      let written = listed.2 w fonts.0 (fonts.2 w [] (appends_nothing w, refl)) in
      let lines : List ℕ = rows_text asked.layout rows in
      let last : List ℕ = summary_text asked.layout (tally_of rows) in (
        fonts.0,
        names,
        listed.0,
        ended,
        fonts.1,
        named,
        listed.1,
        kept_text w v v' (lines ++ last)
            (appends_more w w'' v lines last written.0 (subst (λ t. Appends w'' v (summary_text asked.layout t)) written.1 summary)) kept,
        is ∙ ap (check_status ended) written.1,
      )
