-- The settings of a line: a font, the step limit and the missing-character policy.
-- This project's own.
use Rattle.std.specs.Prelude.{ℕ}
use Rattle.run_plan.specs.declared.policy.Policy.{Policy}
use Rattle.tfm_tables.specs.Font.{FontValue}

-- the font, the largest number of steps for a line, and the policy
pub record TermsValue : Type 0 where
  pub font : FontValue
  pub limit : ℕ
  pub policy : Policy
