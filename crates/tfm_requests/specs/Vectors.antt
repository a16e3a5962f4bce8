-- The encoding of a request, and the errors of encoding vectors.
-- This project's own; encoding vectors are defined in Vectors of `encoding_vectors`.
use Rattle.std.specs.Prelude.{◌≡◌, ℕ, List, Option, Some, None}
use Rattle.std.specs.Borrow.{Bor}
use Rattle.encoding_vectors.specs.Vectors.{characters_of, fault_line}
use Rattle.encodings.specs.Codes.{IsMadeOf}
use Rattle.encodings.specs.declared.encoding.Encoding.{Encoding}
use Rattle.tfm_requests.specs.Known.{OfKnown}
use Rattle.tfm_requests.specs.declared.failures.errors.EncodingError.{EncodingError}
use Rattle.tfm_requests.specs.declared.failures.errors.EncodingError.TheVariants.{Refused}

-- the text is an encoding vector, and the encoding is made of its characters
abbrev pub IsVectorIn : List ℕ → Encoding → Type 0
IsVectorIn text encoding = (fault_line text ≡ None) × IsMadeOf (characters_of text) encoding

-- if the error is that the text is refused, it isn't an encoding vector, and this is the line at which it isn't
abbrev pub IsErrorOfText : List ℕ → EncodingError → Type 0
IsErrorOfText text (Refused line) = fault_line text ≡ Some line
IsErrorOfText text _ = Unit {0}

module _ (known : List ℕ → Option (List ℕ)) where
  -- the encoding of a request: that of the vector in the file that the arguments name, or, if they name none, the one
  -- that they state, if they state one
  abbrev pub IsEncodingOf : Option (Bor (List ℕ)) → Option Encoding → Option Encoding → Type 0
  IsEncodingOf None stated encoding = encoding ≡ stated
  IsEncodingOf (Some file) stated encoding = OfKnown (known file.now) (λ text. (made : Encoding) × (encoding ≡ Some made) × IsVectorIn text made)

  -- an error of the encoding vector in this file
  abbrev pub IsEncodingError : Option (Bor (List ℕ)) → EncodingError → Type 0
  IsEncodingError None error = ⊥
  IsEncodingError (Some file) error = OfKnown (known file.now) (λ text. IsErrorOfText text error)
