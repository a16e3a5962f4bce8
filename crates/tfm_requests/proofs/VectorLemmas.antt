-- The encoding vector in the bytes of a file that are kept is that of the whole file.
use Rattle.std.proofs.Common.{arith, lit≤, ◌≡◌, ◌∙◌, ◌⊎◌, ◌+◌, ◌≤◌, inl, inr, ℕ, List, [], length, Option, Some, None, ap, refl, subst, sym}
use Rattle.std.proofs.lemmas.Bool.{cases_lt, lt-ltb}
use Rattle.std.proofs.lemmas.List.{length-take-le, take_all, take-take}
use Rattle.std.proofs.lemmas.Option.{none-some}
use Rattle.std.specs.Prelude.{IfErr, IfOk, IfSome, Result, Ok, Err}
use Rattle.encoding_vectors.specs.Vectors.{fault_line, line_after, line_ends, most_bytes}
use Rattle.encodings.specs.declared.encoding.Encoding.{Encoding}
use Rattle.tfm_requests.specs.Kept.{kept_of}
use Rattle.tfm_requests.specs.Known.{OfKnown}
use Rattle.tfm_requests.specs.Errors.{encoding_error_of}
use Rattle.tfm_requests.specs.Vectors.{IsErrorOfText, IsVectorIn}
use Rattle.tfm_requests.specs.declared.failures.errors.EncodingError.{EncodingError}
use Rattle.tfm_requests.specs.declared.failures.errors.EncodingError.TheVariants.{Refused}
use Rattle.tfm_requests.specs.declared.failures.errors.ReadFault.{ReadFault}
use Rattle.tfm_requests.specs.declared.failures.errors.ReadFault.TheVariants.{NotRead as Unread, OutOfMemory as ReadMemory}

-- ---- the first bytes of a text that is too long

module _ (all : List ℕ) (long : 131069 ≤ length all) where
  long_kept : length (kept_of all) ≡ 131069
  long_kept = length-take-le 131069 all long

  same_line : line_after (kept_of all) most_bytes ≡ line_after all most_bytes
  unfolding line_after
  same_line = ap (λ text. line_ends text + 1) (take-take most_bytes 131069 all (lit≤ tt))

  -- both are too long, and have the same line
  fault_of_kept : fault_line (kept_of all) ≡ Some (line_after all most_bytes)
  unfolding fault_line
  fault_of_kept = rw (long_kept, same_line) refl

  fault_of_whole : fault_line all ≡ Some (line_after all most_bytes)
  unfolding fault_line
  fault_of_whole = rw (lt-ltb most_bytes (length all) (omega arith)) refl

-- ---- any text

-- the kept bytes are the whole text, or both are too long
kept_or_long : (all : List ℕ) → (kept_of all ≡ all) ⊎ (131069 ≤ length all)
kept_or_long all = elim (cases_lt (length all) 131069) [
  | inr long ↦ inr long
  | inl short ↦ inl (take_all 131069 all (omega arith))
]

same_fault_line : (all : List ℕ) → fault_line (kept_of all) ≡ fault_line all
same_fault_line all = elim (kept_or_long all) [
  | inl same ↦ ap fault_line same
  | inr long ↦ fault_of_kept all long ∙ sym (fault_of_whole all long)
]

pub kept_vector : (encoding : Encoding) (all : List ℕ) → IsVectorIn (kept_of all) encoding → IsVectorIn all encoding
kept_vector encoding all is = elim (kept_or_long all) [
  | inl same ↦ subst (λ text. IsVectorIn text encoding) same is
  | inr long ↦ absurd (none-some (line_after all most_bytes) (sym is.0 ∙ fault_of_kept all long))
]

pub kept_fault : (error : EncodingError) (all : List ℕ) → IsErrorOfText (kept_of all) error → IsErrorOfText all error
kept_fault (Refused line) all is = sym (same_fault_line all) ∙ is
kept_fault error all is = tt

-- a property of the bytes that are kept, if it is one of the whole text, too
pub of_kept : (P : List ℕ → Type 0) → ((all : List ℕ) → P (kept_of all) → P all) → (known : Option (List ℕ)) (bytes : List ℕ)
    → IfSome known (λ all. bytes ≡ kept_of all) → P bytes → OfKnown known P
of_kept P whole None bytes kept is = (bytes, is)
of_kept P whole (Some all) bytes kept is = whole all (subst P kept is)

-- a vector that wasn't read may have any text
pub unread_vector : (known : Option (List ℕ)) (fault : ReadFault) → OfKnown known (λ text. IsErrorOfText text (encoding_error_of fault))
unread_vector None Unread = ([], tt)
unread_vector None ReadMemory = ([], tt)
unread_vector (Some text) Unread = tt
unread_vector (Some text) ReadMemory = tt

module _ (known : Option (List ℕ)) (bytes : List ℕ) (kept : IfSome known (λ all. bytes ≡ kept_of all)) where
  pub read_vector_of : {E : Type 0} (r : Result Encoding E) → IfOk r (IsVectorIn bytes) → IfOk r (λ encoding. OfKnown known (λ text. IsVectorIn text encoding))
  read_vector_of (Ok encoding) is = of_kept (λ text. IsVectorIn text encoding) (kept_vector encoding) known bytes kept is
  read_vector_of (Err e) is = tt

  pub read_error_of : {A : Type 0} (r : Result A EncodingError) → IfErr r (IsErrorOfText bytes) → IfErr r (λ error. OfKnown known (λ text. IsErrorOfText text error))
  read_error_of (Ok a) is = tt
  read_error_of (Err error) is = of_kept (λ text. IsErrorOfText text error) (kept_fault error) known bytes kept is
