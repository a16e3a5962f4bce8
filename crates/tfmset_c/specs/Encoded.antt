-- A text in UTF-8 as the codes of a font, as C gets them.
-- This project's own; the codes of a character are defined in Codes of `encodings`, and those of a text in Texts.
use Rattle.std.specs.Prelude.{◌≡◌, ℕ, ◌+◌, ◌*◌, ◌⊎◌, zero, suc, true, bytes_eq, codes as bytes_of, List, [], length, map, Option, Some, None, IsSome, if◌then◌else◌}
use Rattle.std.specs.List.{range_with_len}
use Rattle.std.specs.Option.{option_map}
use Rattle.encoding_vectors.specs.Vectors.{characters_of, fault_line}
use Rattle.encodings.specs.Codes.{IsMadeOf}
use Rattle.encodings.specs.declared.encoding.Encoding.{Encoding}
use Rattle.encodings.specs.declared.places.Place.{Place}
use Rattle.encodings.specs.Lines.{fault_in, places_of}
use Rattle.encodings.specs.Names.{encoding_named}
use Rattle.encodings.specs.Texts.{codes_at, offsets_at, uncoded_at}
use Rattle.tfmset_c.specs.Arrays.{HasRoom, IsFilled, IsOverlaid, held}
use Rattle.tfmset_c.specs.declared.encode.TfmsetEncoded.{TfmsetEncoded}
use Rattle.tfmset_c.specs.declared.encode.TfmsetUncoded.{TfmsetUncoded}

-- what a name stands for, if it is known: an encoding, or with `bytes` none, so that each byte is a code
unfoldable pub encoding_named_told : List ℕ → Option (Option Encoding)
encoding_named_told name = if bytes_eq name (bytes_of "bytes") then Some None else option_map Some (encoding_named name)

-- bytes that are neither such a name nor an encoding vector
abbrev pub IsNoEncoding : List ℕ → Type 0
IsNoEncoding bytes = (encoding_named_told bytes ≡ None) × IsSome (fault_line bytes)

-- the encoding that bytes state: that of the name, or else one that is made of the characters of the vector
abbrev pub IsNamedOrMade : Option (Option Encoding) → List ℕ → Option Encoding → Type 0
IsNamedOrMade (Some named) bytes encoding = encoding ≡ named
IsNamedOrMade None bytes encoding =
    (fault_line bytes ≡ None) × ((made : Encoding) × (encoding ≡ Some made) × IsMadeOf (characters_of bytes) made)

abbrev pub IsEncodingTold : List ℕ → Option Encoding → Type 0
IsEncodingTold bytes = IsNamedOrMade (encoding_named_told bytes) bytes

-- a character without codes
abbrev pub uncoded_told : Place → TfmsetUncoded
uncoded_told place = record { offset = place.offset; character = place.character }

-- the codes of a text, the offset of the character of each of them, and the characters without codes
pub record TextCodes : Type 0 where
  pub codes : List ℕ
  pub offsets : List ℕ
  pub uncoded : List TfmsetUncoded

-- those of a text; without an encoding its bytes are the codes
unfoldable pub codes_told : Option Encoding → List ℕ → TextCodes
codes_told None text = record { codes = text; offsets = range_with_len 0 (length text); uncoded = [] }
codes_told (Some encoding) text = record {
  codes = codes_at encoding (places_of true text);
  offsets = offsets_at encoding (places_of true text);
  uncoded = map uncoded_told (uncoded_at encoding (places_of true text));
}

-- the offset at which a text isn't UTF-8; without an encoding it may be any bytes
unfoldable pub fault_told : Option Encoding → List ℕ → Option ℕ
fault_told None text = None
fault_told (Some encoding) text = fault_in text

-- what is reported: the numbers of codes and of characters without codes, and a byte offset
abbrev pub report_of : ℕ → ℕ → ℕ → TfmsetEncoded
report_of count uncoded offset = record { count = count; uncoded = uncoded; offset = offset }

-- the offsets for an array of this length; one of length 0 gets none
abbrev pub offsets_for : ℕ → List ℕ → List ℕ
offsets_for zero offsets = []
offsets_for (suc length) offsets = offsets

-- all of these have room
abbrev pub HaveRoom : TextCodes → ℕ → ℕ → ℕ → Type 0
HaveRoom told codes offsets uncoded =
    HasRoom (length told.codes) codes × HasRoom (length (offsets_for offsets told.offsets)) offsets
    × HasRoom (length told.uncoded) uncoded

-- the effect of a call that encodes a text: after 0 and 3 the numbers are reported, after 0 the arrays have the codes,
-- their offsets and the characters without codes, and after 3 some have no room
pub record AreCodesTold (told : TextCodes) (answer : ℕ) (report : TfmsetEncoded)
    (codes_before codes offsets_before offsets : List ℕ) (uncoded_before uncoded : List TfmsetUncoded) : Type 0 where
  pub counted : (answer ≡ 0) ⊎ (answer ≡ 3)
      → report ≡ report_of (held (length told.codes)) (held (length told.uncoded)) 0
  pub room : answer ≡ 0 → HaveRoom told (length codes_before) (length offsets_before) (length uncoded_before)
  pub no_room : answer ≡ 3 → HaveRoom told (length codes_before) (length offsets_before) (length uncoded_before) → ⊥
  pub written : answer ≡ 0 → IsOverlaid told.codes codes_before codes
      × IsOverlaid (offsets_for (length offsets_before) told.offsets) offsets_before offsets
      × IsOverlaid told.uncoded uncoded_before uncoded

-- 5 exactly for a text that isn't UTF-8, with the offset, and otherwise 0 or 3
abbrev pub IsFaultTold : Option ℕ → ℕ → TfmsetEncoded → Type 0
IsFaultTold None answer report = (answer ≡ 0) ⊎ (answer ≡ 3)
IsFaultTold (Some offset) answer report = (answer ≡ 5) × (report ≡ report_of 0 0 offset)

-- ---- partly filled arrays: this project's own representation, which no definition above uses

-- so many offsets that begin with this one and grow by a step
abbrev pub offsets_from : ℕ → ℕ → ℕ → List ℕ
offsets_from first step count = map (λ k. first + step * k) (range_with_len 0 count)

-- these are the numbers of all elements
pub record IsCounted (told : TextCodes) (report : TfmsetEncoded) (placed : ℕ) : Type 0 where
  pub codes : report.count ≡ held (length told.codes)
  pub offsets : placed ≡ held (length told.offsets)
  pub uncoded : report.uncoded ≡ held (length told.uncoded)

-- all elements are written, if they have room, and these are their numbers
pub record AreFilled (told : TextCodes) (report : TfmsetEncoded) (placed : ℕ)
    (codes_before codes offsets_before offsets : List ℕ) (uncoded_before uncoded : List TfmsetUncoded) : Type 0 where
  pub codes_in : IsFilled told.codes report.count codes_before codes
  pub offsets_in : IsFilled told.offsets placed offsets_before offsets
  pub uncoded_in : IsFilled told.uncoded report.uncoded uncoded_before uncoded
  pub sound : report.offset ≡ 0
