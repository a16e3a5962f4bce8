-- The names in a list of fonts, one after the other.
use Rattle.std.proofs.Common.{arith, ◌≡◌, ◌∙◌, ℕ, suc, ◌-◌, ◌<◌, Bool, true, false, List, [], ◌∷◌, ◌++◌, length, take, Option, Some, None, refl, ap, sym, subst, append_assoc}
use Rattle.std.proofs.lemmas.Bool.{lt-ltb, true≢false}
use Rattle.std.proofs.lemmas.List.Elements.{filter-append}
use Rattle.std.proofs.lemmas.List.Splits.{slice_split-cons_no, slice_split-cons_yes}
use Rattle.std.specs.Prelude.{◌==◌, nat_lt, cond, slice_index, if◌then◌else◌, IfSome}
use Rattle.std.specs.Option.{IsSomeAnd}
use Rattle.std.specs.Io.BufRead.{DropsThrough, drop_through, first_piece, strip_last, take_through}
use Rattle.std.specs.Io.KnownBytes.{IsAtEnd}
use Rattle.std.specs.List.{onto_first, slice_split}
use Rattle.tfm_requests.specs.Checking.{AreIn, AreNames, names_in, without_empty}
use Rattle.tfm_requests.specs.declared.font_list.FontList.{FontList}
use Rattle.tfm_requests.specs.declared.font_list.FontList.TheVariants.{None as NoList, Input}

pub no_name : (name : List ℕ) → length name ≡ 0 → [] ≡ without_empty (name ∷ [])
no_name [] is = refl
no_name (byte ∷ name) is = absurd (omega (arith, is))

pub one_name : (name : List ℕ) → ¬ (length name ≡ 0) → name ∷ [] ≡ without_empty (name ∷ [])
one_name [] some = absurd (some refl)
one_name (byte ∷ name) some = sym (ap (λ some. cond some ((byte ∷ name) ∷ []) []) (lt-ltb 0 (length (byte ∷ name)) (omega arith)))

pushed : (test : Bool) (byte : ℕ) (a b : List ℕ) → (if test then byte ∷ a else byte ∷ b) ≡ byte ∷ (if test then a else b)
pushed true byte a b = refl
pushed false byte a b = refl

module _ (separator : ℕ) where
  abbrev is_separator : ℕ → Bool
  is_separator byte = byte == separator

  stripped : (bytes : List ℕ) (n : ℕ) → length bytes ≡ suc n
      → strip_last separator bytes ≡ (if slice_index bytes n == separator then take n bytes else bytes)
  stripped bytes n long =
      let at : length bytes - 1 ≡ n = omega (arith, long) in
      rw (at, lt-ltb 0 (length bytes) (omega (arith, long))) refl

  strip_more : (byte : ℕ) (bytes : List ℕ) → (byte == separator) ≡ false → strip_last separator (byte ∷ bytes) ≡ byte ∷ strip_last separator bytes
  strip_more byte [] is = rw is refl
  strip_more byte (next ∷ bytes) is =
      stripped (byte ∷ next ∷ bytes) (suc (length bytes)) refl
      ∙ (pushed (slice_index (next ∷ bytes) (length bytes) == separator) byte (take (length bytes) (next ∷ bytes)) (next ∷ bytes)
      ∙ ap (λ l. byte ∷ l) (sym (stripped (next ∷ bytes) (length bytes) refl)))

  -- the parts of a list are its first piece, and others with the names of the rest
  abbrev IsCut : List ℕ → List ℕ → List ℕ → Type 0
  IsCut list piece rest = (more : List (List ℕ)) × (slice_split is_separator list ≡ piece ∷ more) × (without_empty more ≡ names_in separator rest)

  cut_more : (byte : ℕ) (list : List ℕ) (is : Bool) → (byte == separator) ≡ is → IsCut list (first_piece separator list) (drop_through separator list)
      → IsCut (byte ∷ list) (strip_last separator (if is then byte ∷ [] else byte ∷ take_through separator list)) (if is then list else drop_through separator list)
  cut_more byte list true is cut = (slice_split is_separator list, slice_split-cons_yes is_separator byte list is ∙ rw is refl, refl)
  cut_more byte list false is cut = (
    cut.0,
    slice_split-cons_no is_separator byte list is
        ∙ (ap (onto_first byte) cut.1 ∙ ap (λ piece. piece ∷ cut.0) (sym (strip_more byte (take_through separator list) is))),
    cut.2,
  )

  cut : (list : List ℕ) → IsCut list (first_piece separator list) (drop_through separator list)
  cut [] = ([], refl, refl)
  cut (byte ∷ list) = cut_more byte list (byte == separator) refl (cut list)

  -- what was taken of a list whose bytes are known: these names come first
  abbrev pub AreTaken : Option (List ℕ) → Option (List ℕ) → List (List ℕ) → Type 0
  AreTaken list rest names = IfSome list (λ all. IsSomeAnd rest (λ left. names_in separator all ≡ names ++ names_in separator left))

  pub none_taken : (list : Option (List ℕ)) → AreTaken list list []
  none_taken None = tt
  none_taken (Some all) = refl

  -- the next piece of a list
  pub more_taken : (list old new : Option (List ℕ)) (names : List (List ℕ)) (name : List ℕ) → AreTaken list old names
      → IfSome old (λ all. (0 < length all) × (name ≡ first_piece separator all)) → DropsThrough old new separator
      → AreTaken list new (names ++ without_empty (name ∷ []))
  more_taken None old new names name taken first rest = tt
  more_taken (Some all) None new names name taken first rest = elim taken [ ]
  more_taken (Some all) (Some old) new names name taken first rest =
      let parts = cut old in
      let left : List (List ℕ) = names_in separator (drop_through separator old) in
      let named : names_in separator old ≡ without_empty (name ∷ []) ++ left =
      ap without_empty parts.1
      ∙ (filter-append (λ name. nat_lt 0 (length name)) (first_piece separator old ∷ []) parts.0
      ∙ (ap (λ n. without_empty (n ∷ []) ++ without_empty parts.0) (sym first.1) ∙ ap (λ l. without_empty (name ∷ []) ++ l) parts.2))
      in subst (λ rest. AreTaken (Some all) rest (names ++ without_empty (name ∷ []))) (sym rest)
      (taken ∙ (ap (λ l. names ++ l) named ∙ sym (append_assoc names (without_empty (name ∷ [])) left)))

  -- the list was read to its end
  pub all_named : (list rest : Option (List ℕ)) (names : List (List ℕ)) → AreTaken list rest names → IsAtEnd rest → AreNames separator list true names
  all_named None rest names taken end = tt
  all_named (Some all) None names taken end = elim taken [ ]
  all_named (Some all) (Some rest) names taken end = ([], taken ∙ ap (λ r. names ++ names_in separator r) end, λ _. refl)

  -- its first names were read, or none
  pub some_named : (list rest : Option (List ℕ)) (names : List (List ℕ)) → AreTaken list rest names → AreNames separator list false names
  some_named None rest names taken = tt
  some_named (Some all) None names taken = elim taken [ ]
  some_named (Some all) (Some rest) names taken = (names_in separator rest, taken, λ is. absurd (true≢false (sym is)))

  -- what was opened for a list that there isn't, and one that wasn't read
  pub none_in : {T : Type 0} (remaining : T → Option (List ℕ)) (input : Option (List ℕ)) (opened : FontList T) → opened ≡ NoList → AreIn remaining input opened separator true []
  none_in remaining input opened is = subst (λ list. AreIn remaining input list separator true []) (sym is) (refl, refl)

  pub unread_in : {T : Type 0} (remaining : T → Option (List ℕ)) (input : Option (List ℕ)) (opened : FontList T) → opened ≡ Input → AreIn remaining input opened separator false []
  unread_in remaining input opened is =
      subst (λ list. AreIn remaining input list separator false []) (sym is) (some_named input input [] (none_taken input))
