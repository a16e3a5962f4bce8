-- Worked rows, computed from the definitions alone: the warnings of instructions, and of the codes of a font with the
-- characters 65 and 66, where each is the larger character of the other one; and lines in JSON.
use Rattle.std.proofs.Common.{◌≡◌, ℕ, List, [], ◌∷◌, ◌++◌, Some, None, refl}
use lib.Utf8.{encode}
use Rattle.std.specs.Prelude.{codes}
use Rattle.std.specs.Fmt.{digits}
use Rattle.std.specs.Str.{chars, is_utf8}
use Rattle.formats.specs.declared.listing.OutputFormat.TheVariants.{Text, Json}
use Rattle.font_texts.specs.FaultWords.{count_fault_number, fault_number}
use Rattle.font_texts.specs.JsonText.{json_byte}
use Rattle.font_texts.specs.ListingWords.{hex_byte}
use Rattle.tfm_tables.specs.FaultTexts.{font_fault_text}
use Rattle.tfm_tables.specs.declared.fault.FontFault.TheVariants.{Counts}
use Rattle.tfm_words.specs.CountFaults.{first_fault}
use Rattle.tfm_words.specs.Counts.{counts_of}
use Rattle.tfm_words.specs.FaultTexts.{count_fault_text}
use Rattle.tfm_words.specs.declared.count_fault.CountFault.TheVariants.{Truncated}
use Rattle.tfm_tables.specs.Table.{entry_at, table_of}
use Rattle.tfm_tables.specs.Character.{char_info_of, exists, is_coded}
use Rattle.check_texts.specs.Tallies.{summary_line, tally_of}
use Rattle.check_texts.specs.Texts.{warning_text}
use Rattle.check_texts.specs.Verdicts.{json_line, json_name, verdict_text}
use Rattle.check_texts.specs.Warnings.{any_from, code_rows, code_warning, info_of, is_in_circle, larger_of, step_rows}
use Rattle.check_texts.specs.declared.verdict.Verdict.TheVariants.{Refused, NotRead}
use Rattle.check_texts.specs.declared.warning.Warning.TheVariants.{Circle, Endless, Operation}

-- the counts, the header, the char_info words of 65 and 66, and the widths, heights, depths and italic corrections
abbrev font : List ℕ
font =
    0 ∷ 15 ∷ 0 ∷ 2 ∷ 0 ∷ 65 ∷ 0 ∷ 66 ∷ 0 ∷ 2 ∷ 0 ∷ 1 ∷ 0 ∷ 1 ∷ 0 ∷ 1 ∷ 0 ∷ 0 ∷ 0 ∷ 0 ∷ 0 ∷ 0 ∷ 0 ∷ 0
    ∷ 0 ∷ 0 ∷ 0 ∷ 0 ∷ 0 ∷ 160 ∷ 0 ∷ 0
    ∷ 1 ∷ 0 ∷ 2 ∷ 66 ∷ 1 ∷ 0 ∷ 2 ∷ 65
    ∷ 0 ∷ 0 ∷ 0 ∷ 0 ∷ 0 ∷ 8 ∷ 0 ∷ 0 ∷ 0 ∷ 0 ∷ 0 ∷ 0 ∷ 0 ∷ 0 ∷ 0 ∷ 0 ∷ 0 ∷ 0 ∷ 0 ∷ 0 ∷ []

circle : code_warning font 66 ≡ Some (Circle 66)
unfolding code_warning code_rows info_of is_in_circle any_from larger_of counts_of entry_at table_of char_info_of exists is_coded
circle = refl

-- op code 4, and LIG/>
op_codes :
    (first_fault (step_rows 7 (record { skip = 128; next = 65; op = 4; remainder = 66 })) ≡ Some (Operation 7 4))
    × (first_fault (step_rows 7 (record { skip = 128; next = 65; op = 5; remainder = 66 })) ≡ None)
unfolding step_rows
op_codes = (refl, refl)

in_words : warning_text (Endless 65 66) ≡ codes "program never ends: 65 66"
unfolding warning_text digits
in_words = refl

-- a name with a double quote, a backslash, a line feed and é, U+00E9; and one that is the first byte of é alone
in_json :
    (verdict_text Json (97 ∷ 34 ∷ 92 ∷ 10 ∷ 195 ∷ 169 ∷ [], Refused (Counts (Truncated 24)))
    ≡ codes "{\"font\":\"a\\\"\\\\\\u000a" ++ 195 ∷ 169 ∷ codes "\",\"finding\":\"refused\",\"error\":1,\"words\":\"truncated, 24 bytes needed\"}\n")
    × (verdict_text Json (195 ∷ [], NotRead) ≡ codes "{\"font_hex\":\"c3\",\"finding\":\"not read\"}\n")
unfolding json_line json_name json_byte hex_byte is_utf8 chars encode fault_number count_fault_number font_fault_text count_fault_text digits
in_json = (refl, refl)

-- the summaries of two fonts that aren't read, and that of three accepted ones, of which two have warnings
counted_in_json : summary_line Json (tally_of ((codes "a", NotRead) ∷ (codes "b", NotRead) ∷ [])) ≡ codes "{\"fonts\":2,\"accepted\":0,\"warned\":0,\"refused\":0,\"unread\":2}\n"
unfolding digits
counted_in_json = refl

counted_in_text : summary_line Text (record { fonts = 3; accepted = 3; warned = 2; refused = 0; unread = 0; reported = 2 }) ≡ codes "3 fonts: 3 accepted (2 with warnings), 0 refused\n"
unfolding digits
counted_in_text = refl
