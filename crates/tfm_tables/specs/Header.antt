-- The data in the header of a font except the design size: check sum, coding scheme, family, seven-bit flag
-- and face.
-- Public source: tftopl.web, section 10; tex.web, section 542. It is this project's own rule that a length
-- byte above the largest possible length is read as that length.
use Rattle.std.specs.Prelude.{ℕ, List, take, drop, min, slice_index, nat_lt, nat_le, Bool, Option, Some, None, if◌then◌else◌}
use Rattle.tfm_words.specs.declared.table.Table.TheVariants.{Header}
use Rattle.tfm_words.specs.Word.{unsigned_of}
use Rattle.tfm_tables.specs.Table.{entries_of, entry_at, table_of}

-- the check sum: header[0], as an unsigned number
abbrev pub check_sum_of : List ℕ → ℕ
check_sum_of words = unsigned_of (entry_at words Header 0)

-- the text after a length byte: as many bytes as it states, but at most `most`
abbrev pub text_in : ℕ → List ℕ → List ℕ
text_in most bytes = take (min (slice_index bytes 0) most) (drop 1 bytes)

-- the coding scheme, in the 40 bytes of header[2] to header[11]; none if the header has fewer than 12 words
abbrev pub coding_of : List ℕ → Option (List ℕ)
coding_of words = if nat_lt (entries_of words Header) 12 then None else Some (text_in 39 (drop 8 (table_of words Header)))

-- the family, in the 20 bytes of header[12] to header[16]; none if the header has fewer than 17 words
abbrev pub family_of : List ℕ → Option (List ℕ)
family_of words = if nat_lt (entries_of words Header) 17 then None else Some (text_in 19 (drop 48 (table_of words Header)))

-- the seven-bit flag, the highest bit of the first byte of header[17]; none if the header has fewer than 18
-- words
abbrev pub seven_bit_of : List ℕ → Option Bool
seven_bit_of words = if nat_lt (entries_of words Header) 18 then None else Some (nat_le 128 (slice_index (entry_at words Header 17) 0))

-- the face, the last byte of header[17]; none if the header has fewer than 18 words
abbrev pub face_of : List ℕ → Option ℕ
face_of words = if nat_lt (entries_of words Header) 18 then None else Some (slice_index (entry_at words Header 17) 3)
