-- The contents of a font or a file by its name, if they are known, and properties of contents that may be
-- unknown.
-- This project's own.
use Rattle.std.specs.Prelude.{ℕ, List, [], ◌∷◌, map, Option, Some, None, codes, if◌then◌else◌}
use Rattle.std.specs.Borrow.{Bor}
use Rattle.std.specs.Str.{bytes_eq}

-- a property of a known value, or, if the value isn't known, of some value of its type
abbrev pub OfKnown : {A : Type 0} → Option A → (A → Type 0) → Type 0
OfKnown (Some known) P = P known
OfKnown {A} None P = (some : A) × P some

-- the bytes of the font of this name: `-` is standard input, any other name is a file
abbrev pub font_bytes_of : (List ℕ → Option (List ℕ)) → Option (List ℕ) → List ℕ → Option (List ℕ)
font_bytes_of known input name = if bytes_eq name (codes "-") then input else known name

-- the bytes of the files of these names, in order
abbrev pub file_bytes_of : (List ℕ → Option (List ℕ)) → List (Bor (List ℕ)) → List (Option (List ℕ))
file_bytes_of known names = map (λ name. known name.now) names

-- the bytes of the files of these names, in order, or those of standard input if there is no name
abbrev pub stream_bytes_of : (List ℕ → Option (List ℕ)) → Option (List ℕ) → List (Bor (List ℕ)) → List (Option (List ℕ))
stream_bytes_of known input [] = input ∷ []
stream_bytes_of known input (name ∷ names) = file_bytes_of known (name ∷ names)

-- the bytes of the first of these files that has this name, if there is one
abbrev pub bytes_in : List (Bor (List ℕ) × Bor (List ℕ)) → List ℕ → Option (List ℕ)
bytes_in [] name = None
bytes_in (file ∷ files) name = if bytes_eq file.0.now name then Some file.1.now else bytes_in files name
