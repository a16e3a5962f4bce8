-- Errors that are handed on, and outputs that stay as they were.
use Rattle.std.proofs.Common.{◌≡◌, ℕ, List, Option, Some, None, refl, subst, sym}
use Rattle.std.specs.Prelude.{IfErr, Result, Ok, Err}
use Rattle.std.specs.Result.{IsErrAnd}
use Rattle.std.specs.Io.KnownBytes.{Keeps}

-- a property of an error, if it is handed on
pub handed_on : {A F : Type 0} (r : Result A F) (error : F) (P : F → Type 0) → IsErrAnd r (λ told. told ≡ error) → P error → IfErr r P
handed_on (Ok a) error P is p = tt
handed_on (Err told) error P is p = subst P (sym is) p

-- known bytes are kept if nothing is written
pub keeps_same : (known : Option (List ℕ)) → Keeps known known
keeps_same None = tt
keeps_same (Some bytes) = refl
