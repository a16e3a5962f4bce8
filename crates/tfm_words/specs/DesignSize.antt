-- The design size of a font, in scaled points (sp).
-- Public source: tftopl.web, section 10; tex.web, sections 542 and 568.
use Rattle.std.specs.Prelude.{ℕ, ℤ, pos, negsuc, nat_lt, List, Result, Ok, Err, if◌then◌else◌}
use Rattle.tfm_words.specs.declared.design.DesignFault.{DesignFault}
use Rattle.tfm_words.specs.declared.design.DesignFault.TheVariants.{DesignSize}
use Rattle.tfm_words.specs.Word.{word_at, value_of}
use Rattle.tfm_words.specs.Scaling.{floor_of}

-- the number in header[1], word 7 of the file, in sp: the word is in units of 2^-20 pt, and an sp is 16 of
-- these units; the quotient is rounded down
abbrev pub design_scaled_points : List ℕ → ℤ
design_scaled_points bytes = floor_of (value_of (word_at bytes 7)) 16

-- this number of sp as a design size; it is an error if it is below 65,536 sp, which is 1 pt, or negative
abbrev pub accepted_size : ℤ → Result ℕ DesignFault
accepted_size (pos amount) = if nat_lt amount 65536 then Err DesignSize else Ok amount
accepted_size (negsuc _) = Err DesignSize

-- the design size of a file in sp, or the error in it
abbrev pub design_size_of : List ℕ → Result ℕ DesignFault
design_size_of bytes = accepted_size (design_scaled_points bytes)
