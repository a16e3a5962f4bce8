-- The member with the name of a font, by whether the name is UTF-8.
use Rattle.std.proofs.Common.{◌≡◌, ℕ, Bool, true, false, List, ◌++◌, refl}
use Rattle.std.specs.Prelude.{codes}
use Rattle.std.specs.Str.{is_utf8, IsUtf8}
use Rattle.std.proofs.lemmas.Str.{IsUtf8-from_is_utf8, is_utf8-from_IsUtf8}
use Rattle.font_texts.specs.JsonText.{json_string}
use Rattle.font_texts.specs.ListingWords.{hex_text}
use Rattle.check_texts.specs.Verdicts.{json_name}

pub of_text : (name : List ℕ) → IsUtf8 name → json_name name ≡ codes "\"font\":\"" ++ json_string name
unfolding json_name
of_text name utf8 = rw (is_utf8-from_IsUtf8 name utf8) refl

not_utf8 : (name : List ℕ) → ¬ (IsUtf8 name) → is_utf8 name ≡ false
not_utf8 name bad = by (is_utf8 name) refl
  where
    by : (b : Bool) → is_utf8 name ≡ b → b ≡ false
    by true is = absurd (bad (IsUtf8-from_is_utf8 name is))
    by false is = refl

pub of_bytes : (name : List ℕ) → ¬ (IsUtf8 name) → json_name name ≡ codes "\"font_hex\":\"" ++ hex_text name
unfolding json_name
of_bytes name bad = rw (not_utf8 name bad) refl

pub ruleset named = (of_text, of_bytes)
