-- Sources that share their terms.
use Rattle.std.proofs.Common.{List, [], ◌∷◌, ◌++◌}
use Rattle.std.specs.Prelude.{IfErr, IfOk, Result, Ok, Err}
use Rattle.std.specs.List.{AllZip}
use Rattle.std.specs.declared.sync.Arc.{Arc}
use Rattle.std.specs.declared.alloc.Global.{Global}
use Rattle.set_line.specs.Terms.{TermsValue}
use Rattle.run_texts.specs.Setting.{HasTerms}

module _ {S : Type 0} where
  -- one more source with these terms
  pub with_terms_more : (terms : TermsValue) (sources : List S) (pairs : List (S × Arc TermsValue Global)) (source : S) (pair : S × Arc TermsValue Global)
      → AllZip (HasTerms terms) sources pairs → HasTerms terms source pair → AllZip (HasTerms terms) (sources ++ source ∷ []) (pairs ++ pair ∷ [])
  with_terms_more terms [] [] source pair all one = (one, tt)
  with_terms_more terms [] (p ∷ pairs) source pair all one = elim all [ ]
  with_terms_more terms (s ∷ sources) [] source pair all one = elim all [ ]
  with_terms_more terms (s ∷ sources) (p ∷ pairs) source pair all one = (all.0, with_terms_more terms sources pairs source pair all.1 one)

-- what follows from what holds of a result
pub ok_then : {A E : Type 0} (r : Result A E) (P Q : A → Type 0) → ((a : A) → P a → Q a) → IfOk r P → IfOk r Q
ok_then (Ok a) P Q to has = to a has
ok_then (Err e) P Q to has = tt

-- and of its error
pub err_then : {A E : Type 0} (r : Result A E) (P Q : E → Type 0) → ((e : E) → P e → Q e) → IfErr r P → IfErr r Q
err_then (Ok a) P Q to has = tt
err_then (Err e) P Q to has = to e has
