-- What a record has in one format or in another one.
-- This project's own.
use Rattle.std.specs.Prelude.{ℕ, Bool, true, false, List, if◌then◌else◌}
use Rattle.run_plan.specs.declared.version.Version.{Version}
use Rattle.run_plan.specs.declared.version.Version.TheVariants.{One, Two, Json}

-- whether a format is JSON
abbrev pub is_json : Version → Bool
is_json One = false
is_json Two = false
is_json Json = true

-- what formats 1 and 2 have at a place of a record, or what JSON has there
abbrev pub label : Version → List ℕ → List ℕ → List ℕ
label version words object = if is_json version then object else words
