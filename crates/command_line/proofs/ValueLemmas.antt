-- The values of arguments: from the clauses of the getters of a parse to the rows of its values.
use Rattle.std.proofs.Common.{arith, ◌≡◌, ℕ, Bool, true, false, List, [], map, Option, Some, None, Bor, refl, ap, sym, subst, ◌∙◌, codes}
use Rattle.std.proofs.lemmas.Option.{none-some}
use Rattle.std.specs.Prelude.{Result, option_map, unwrap_or}
use Rattle.std.specs.Str.Parse.{ExplainsUnsignedError, HasUnsignedDigitsIfOk, ParsesUnsigned}
use Rattle.std.specs.declared.num.ParseIntError.{ParseIntError}
use Rattle.clap.specs.Words.{ReadsOne, Text, all_of, first_of, first_value, matched_of, one_of, one_text, raw_values, rows_of}
use Rattle.clap.specs.declared.parser.matches.Found.{Found}
use Rattle.clap.proofs.WalkLemmas.{first_value-rows, one_text-rows, raw_values-rows}
use Rattle.command_line.specs.Asked.{Finds, IsFlag, IsNumberIn, texts}

-- ---- a value that satisfies a predicate, or None

-- if the result is an optional value, it is the one that was found
pub finds_told : {A B : Type 0} (f : A → B) (r : Option A) (told : Option B) → option_map f r ≡ told → Finds (λ x. told ≡ Some (f x)) r
finds_told f (Some x) told is = sym is
finds_told f None told is = λ any has. none-some (f any) (is ∙ has)

-- no value satisfies a predicate if no part of it can
pub no_part : {A B : Type 0} (P : A → Type 0) (Q : B → Type 0) (part : B → A) (r : Option A) (result : Option B) → Finds P r → r ≡ None
    → result ≡ None → ((b : B) → Q b → P (part b)) → Finds Q result
no_part P Q part r (Some b) finds none is parts = absurd (none-some b (sym is))
no_part P Q part (Some a) None finds none is parts = absurd (none-some a (sym none))
no_part P Q part None None finds none is parts = λ b fits. finds (part b) (parts b fits)

-- ---- texts and arguments

pub text_found : (f : Found) (id : Text) (r : Option (Bor Text)) → option_map (λ s. s.now) r ≡ first_value f id
    → Finds (λ (text : Bor Text). first_of id (rows_of f) ≡ Some text.now) r
text_found f id r is = finds_told (λ (text : Bor Text). text.now) r (first_of id (rows_of f)) (is ∙ first_value-rows f id)

pub words_told : (f : Found) (id : Text) (r : Option (Bor (List (Bor Text)))) → option_map (λ s. map (λ v. v.now) s.now) r ≡ option_map raw_values (matched_of f id)
    → option_map (λ (words : Bor (List (Bor Text))). texts words.now) r ≡ all_of id (rows_of f)
words_told f id r is = is ∙ raw_values-rows f id

pub no_files : (given : Option (List Text)) (r : Option (Bor (List (Bor Text)))) → option_map (λ (words : Bor (List (Bor Text))). texts words.now) r ≡ given → r ≡ None
    → unwrap_or given [] ≡ []
no_files given r told none = ap (λ g. unwrap_or g []) (sym told ∙ ap (option_map (λ (words : Bor (List (Bor Text))). texts words.now)) none)

-- ---- numbers

abbrev Reads : List ℕ → Result ℕ ParseIntError → Type 0
Reads text r = ParsesUnsigned 32 10 text r × ExplainsUnsignedError 10 text r × HasUnsignedDigitsIfOk text r

number_of : (text : Option Text) (r : Option ℕ) → (text ≡ None → r ≡ None) → ((t : Text) → text ≡ Some t → ReadsOne Reads t r) → Finds (IsNumberIn 0 4294967295 text) r
number_of None (Some n) none value = absurd (none-some n (sym (none refl)))
number_of None None none value = λ any has. has.0
number_of (Some t) (Some n) none value =
    let parsed = (value t refl).0 in
    ((parsed.0.0, sym parsed.1), omega arith, omega (arith, parsed.0.1, parsed.1))
number_of (Some t) None none value =
    λ any has. (value t refl).1.0 (has.0.0, omega (arith, has.0.1, has.2))

pub number_found : (f : Found) (id : Text) (r : Option ℕ) → (one_text f id ≡ None → r ≡ None) → ((t : Text) → one_text f id ≡ Some t → ReadsOne Reads t r)
    → Finds (IsNumberIn 0 4294967295 (one_of id (rows_of f))) r
number_found f id r none value = subst (λ text. Finds (IsNumberIn 0 4294967295 text) r) (one_text-rows f id) (number_of (one_text f id) r none value)

-- ---- flags

flag_of : (text : Option Text) (set : Bool) → (text ≡ None → set ≡ false) → (text ≡ Some (codes "true") → set ≡ true)
    → (text ≡ Some (codes "false") → set ≡ false) → IsFlag text set
flag_of None set none when_true when_false = none refl
flag_of (Some t) set none when_true when_false = (λ is. when_true (ap Some is), λ is. when_false (ap Some is))

pub flag_found : (f : Found) (id : Text) (set : Bool) → (one_text f id ≡ None → set ≡ false) → (one_text f id ≡ Some (codes "true") → set ≡ true)
    → (one_text f id ≡ Some (codes "false") → set ≡ false) → IsFlag (one_of id (rows_of f)) set
flag_found f id set none when_true when_false = subst (λ text. IsFlag text set) (one_text-rows f id) (flag_of (one_text f id) set none when_true when_false)

-- ---- a value that is determined

-- a value is what was found
pub finds_same : {A : Type 0} (r given : Option A) → r ≡ given → Finds (λ x. given ≡ Some x) r
finds_same (Some x) given is = sym is
finds_same None given is = λ any has. none-some any (is ∙ has)
