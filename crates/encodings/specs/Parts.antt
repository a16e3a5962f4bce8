-- The parts into which the characters without codes and the breaks cut an encoded line.
-- This project's own; Lines defines the numbers.
use Rattle.std.specs.Prelude.{ℕ, ◌+◌, ◌-◌, List, [], ◌∷◌, ◌++◌, flat_map, Option, Some, None, cond, nat_eq}
use Rattle.std.specs.Option.{option_and_then, option_map_or}
use Rattle.encodings.specs.Lines.{break_number, is_code}

-- codes, and what follows them, if anything does: a character without codes, or a soft hyphen for a break
pub record PartValue : Type 0 where
  pub codes : List ℕ
  pub gap : Option ℕ

-- parts with one more code at their front
abbrev pub with_code : ℕ → List PartValue → List PartValue
with_code code [] = record { codes = code ∷ []; gap = None } ∷ []
with_code code (part ∷ parts) = record { codes = code ∷ part.codes; gap = part.gap } ∷ parts

-- the parts of a line: each ends with a character without codes or a break, except the last one
abbrev pub parts_of : List ℕ → List PartValue
parts_of [] = record { codes = []; gap = None } ∷ []
parts_of (number ∷ numbers) =
    cond (is_code number) (with_code number (parts_of numbers))
    (record { codes = []; gap = Some (number - 256) } ∷ parts_of numbers)

-- a character, unless it stands for a break
abbrev pub unless_break : ℕ → Option ℕ
unless_break character = cond (nat_eq (256 + character) break_number) None (Some character)

-- the character without codes that follows the codes of a part, if one does
abbrev pub uncoded_after : PartValue → Option ℕ
uncoded_after part = option_and_then unless_break part.gap

-- the numbers of a part
abbrev pub part_numbers : PartValue → List ℕ
part_numbers part = part.codes ++ option_map_or (λ character. (256 + character) ∷ []) part.gap []

-- the numbers of parts, in order
abbrev pub joined : List PartValue → List ℕ
joined parts = flat_map part_numbers parts
