-- Fonts and files of which the bytes are known.
use Rattle.std.proofs.Common.{arith, ◌≡◌, ℕ, ◌<◌, true, false, List, [], ◌∷◌, length, Option, Some, None, Bor, refl, sym, subst}
use Rattle.std.specs.Prelude.{Result, Ok, Err, IfOk, IfSome, codes, if◌then◌else◌}
use Rattle.std.specs.Str.{bytes_eq}
use Rattle.tfm_tables.specs.Font.{FontValue, IsFontOf}
use Rattle.tfm_requests.specs.Kept.{HaveSameFont, kept_of}
use Rattle.tfm_requests.specs.Known.{OfKnown, file_bytes_of, font_bytes_of, stream_bytes_of}
use Rattle.tfm_requests.proofs.KeptLemmas.{kept_have_same_font}

-- what holds of bytes that have the font of those that are known
pub of_known : (known : Option (List ℕ)) (bytes : List ℕ) (P : List ℕ → Type 0) → IfSome known (λ all. HaveSameFont bytes all) → P bytes
    → ((all : List ℕ) → HaveSameFont bytes all → P all) → OfKnown known P
of_known None bytes P same here there = (bytes, here)
of_known (Some all) bytes P same here there = there all same

-- what follows from what holds of known bytes
pub with_known : (known : Option (List ℕ)) (P Q : List ℕ → Type 0) → ((all : List ℕ) → P all → Q all) → OfKnown known P → OfKnown known Q
with_known None P Q to (all, is) = (all, to all is)
with_known (Some all) P Q to is = to all is

-- the same of the font in them
pub of_font : (known : Option (List ℕ)) (bytes : List ℕ) (size : Option ℕ) (P : FontValue → Type 0) → IfSome known (λ all. HaveSameFont bytes all)
    → ((font : FontValue) × IsFontOf bytes size font × P font) → OfKnown known (λ all. (font : FontValue) × IsFontOf all size font × P font)
of_font known bytes size P same is =
    of_known known bytes (λ all. (font : FontValue) × IsFontOf all size font × P font) same is (λ all has. (is.0, has.font size is.0 is.1, is.2))

-- the same of bytes of which as many are kept as a font can have
pub same_of_kept : (known : Option (List ℕ)) (bytes : List ℕ) → IfSome known (λ all. bytes ≡ kept_of all) → IfSome known (λ all. HaveSameFont bytes all)
same_of_kept None bytes kept = tt
same_of_kept (Some all) bytes kept = subst (λ b. HaveSameFont b all) (sym kept) (kept_have_same_font all)

-- ---- the bytes of the font of a name

pub font_of_input : {E D : Type 0} (known : List ℕ → Option (List ℕ)) (input : Option (List ℕ)) (name : List ℕ) (items : D → List ℕ) (r : Result D E) → bytes_eq name (codes "-") ≡ true
    → IfOk r (λ bytes. IfSome input (λ all. items bytes ≡ kept_of all)) → IfOk r (λ bytes. IfSome (font_bytes_of known input name) (λ all. HaveSameFont (items bytes) all))
font_of_input known input name items (Ok bytes) is kept =
    subst (λ b. IfSome (if b then input else known name) (λ all. HaveSameFont (items bytes) all)) (sym is) (same_of_kept input (items bytes) kept)
font_of_input known input name items (Err e) is kept = kept

pub font_of_file : {E D : Type 0} (known : List ℕ → Option (List ℕ)) (input : Option (List ℕ)) (name : List ℕ) (items : D → List ℕ) (r : Result D E) → bytes_eq name (codes "-") ≡ false
    → IfOk r (λ bytes. IfSome (known name) (λ all. items bytes ≡ kept_of all)) → IfOk r (λ bytes. IfSome (font_bytes_of known input name) (λ all. HaveSameFont (items bytes) all))
font_of_file known input name items (Ok bytes) is kept =
    subst (λ b. IfSome (if b then input else known name) (λ all. HaveSameFont (items bytes) all)) (sym is) (same_of_kept (known name) (items bytes) kept)
font_of_file known input name items (Err e) is kept = kept

-- ---- sources of files

-- if there is a file, a stream is of the files
pub stream_of_files : (known : List ℕ → Option (List ℕ)) (input : Option (List ℕ)) (names : List (Bor (List ℕ))) → 0 < length names → file_bytes_of known names ≡ stream_bytes_of known input names
stream_of_files known input [] some = absurd (omega (arith, some))
stream_of_files known input (name ∷ names) some = refl
