-- The jobs of `each`: their words, their terms, their sources, and what is printed of them.
use Rattle.std.proofs.Common.{arith, ◌≡◌, ℕ, ◌<◌, ◌≤◌, true, false, List, [], ◌∷◌, ◌++◌, get_or, map, length, Option, Some, Bor, refl, ap, sym, subst, ◌∙◌}
use Rattle.std.proofs.lemmas.List.{append-nil, append_assoc, map-append, nil_from_length}
use Rattle.std.proofs.lemmas.List.Folds.{list_all_at}
use Rattle.std.proofs.lemmas.Str.Parse.{without_leading_plus_none}
use Rattle.std.specs.Prelude.{IfOk, IfSome, Result, Ok, Err}
use Rattle.std.specs.Arc.{arc_value}
use Rattle.std.specs.declared.alloc.Global.{Global}
use Rattle.std.specs.declared.sync.Arc.{Arc}
use Rattle.std.specs.Char.{is_ascii_digit}
use Rattle.std.specs.List.{AllZip, list_all}
use Rattle.std.specs.Str.Parse.{digits_value, without_leading_plus}
use Rattle.tfm_tables.specs.Font.{IsFontOf}
use Rattle.set_line.specs.Terms.{TermsValue}
use Rattle.run_texts.specs.Setting.{HasTerms}
use Rattle.tfm_requests.specs.Jobs.{AreTermsFor, AreTermsOf, HasTermsOf, IsOpenedWith, IsSourceOfJob, JobValue, job_value, jobs_in, told_with_terms, IsSourceWith}
use Rattle.tfm_requests.specs.Kept.{HaveSameFont}
use Rattle.tfm_requests.specs.Known.{file_bytes_of}
use Rattle.line_chunks.specs.Reading.{Told}
use Rattle.tfm_requests.specs.Told.{IsSourceOf}
use Rattle.command_line.specs.declared.request.Layout.{Layout}
use Rattle.tfm_requests.specs.declared.batches.jobs.Job.{Job}
use Rattle.tfm_requests.proofs.KnownLemmas.{of_known}

-- ---- words

-- a word of digits has no plus before them
pub has_no_plus : (word : List ℕ) → list_all is_ascii_digit word ≡ true → without_leading_plus word ≡ word
has_no_plus [] all = refl
has_no_plus (c ∷ cs) all = without_leading_plus_none (c ∷ cs) (λ is.
    let no : list_all is_ascii_digit (c ∷ cs) ≡ false =
    list_all_at is_ascii_digit (c ∷ cs) 0 0 (omega arith) (subst (λ b. is_ascii_digit b ≡ false) (sym is) refl) in
    let bad : true ≡ false = sym all ∙ no in cc)

pub three_of : (chunk : List (Bor (List ℕ))) (d : Bor (List ℕ)) → 3 ≤ length chunk → length chunk < 4
    → chunk ≡ get_or chunk 0 d ∷ get_or chunk 1 d ∷ get_or chunk 2 d ∷ []
three_of [] d long short = absurd (omega (arith, long))
three_of (a ∷ []) d long short = absurd (omega (arith, long))
three_of (a ∷ b ∷ []) d long short = absurd (omega (arith, long))
three_of (a ∷ b ∷ c ∷ []) d long short = refl
three_of (a ∷ b ∷ c ∷ e ∷ chunk) d long short = absurd (omega (arith, short))

-- three words more are a job more
pub job_more : (all rest chunk left : List (Bor (List ℕ))) (done jobs : List Job) (d : Bor (List ℕ)) (limit : ℕ)
    → jobs_in all ≡ map job_value done ++ jobs_in rest → rest ≡ chunk ++ left → 3 ≤ length chunk → length chunk < 4
    → limit ≡ digits_value 10 (get_or chunk 1 d).now → jobs ≡ done ++ record { font = get_or chunk 0 d; limit = limit; file = get_or chunk 2 d } ∷ []
    → jobs_in all ≡ map job_value jobs ++ jobs_in left
job_more all rest chunk left done jobs d limit is parts long short same more =
    let job : Job = record { font = get_or chunk 0 d; limit = limit; file = get_or chunk 2 d } in
    let with_limit : ℕ → JobValue = λ n. record { font = (get_or chunk 0 d).now; limit = n; file = (get_or chunk 2 d).now } in
    let whole : rest ≡ get_or chunk 0 d ∷ get_or chunk 1 d ∷ get_or chunk 2 d ∷ left = parts ∙ ap (λ c. c ++ left) (three_of chunk d long short) in
    let next : jobs_in rest ≡ job_value job ∷ jobs_in left = ap jobs_in whole ∙ ap (λ n. with_limit n ∷ jobs_in left) (sym same) in
    let values : map job_value jobs ≡ map job_value done ++ job_value job ∷ [] = ap (map job_value) more ∙ map-append job_value done (job ∷ []) in
    is ∙ (ap (λ j. map job_value done ++ j) next
    ∙ (sym (append_assoc (map job_value done) (job_value job ∷ []) (jobs_in left)) ∙ ap (λ j. j ++ jobs_in left) (sym values)))

-- without a word left these are all jobs
pub all_jobs : (all rest : List (Bor (List ℕ))) (done : List Job) → jobs_in all ≡ map job_value done ++ jobs_in rest → length rest ≡ 0 → map job_value done ≡ jobs_in all
all_jobs all rest done is none =
    sym (is ∙ (ap (λ words. map job_value done ++ jobs_in words) (nil_from_length rest none) ∙ append-nil (map job_value done)))

-- ---- terms

-- settings of a font in these bytes, of which as many are kept as a font can have
pub kept_terms : {A E : Type 0} (known : Option (List ℕ)) (bytes : List ℕ) {slice : List ℕ} (layout : Layout) (limit : ℕ) (value : A → TermsValue) (r : Result A E)
    → IfSome known (λ all. HaveSameFont bytes all) → slice ≡ bytes
    → IfOk r (λ terms. AreTermsFor (Some slice) layout limit (value terms)) → IfOk r (λ terms. AreTermsFor known layout limit (value terms))
kept_terms known bytes layout limit value (Ok terms) same at is =
    let font : IsFontOf bytes layout.size (value terms).font = subst (λ b. IsFontOf b layout.size (value terms).font) at is.0 in
    (of_known known bytes (λ all. IsFontOf all layout.size (value terms).font) same font (λ all has. has.font layout.size (value terms).font font), is.1, is.2)
kept_terms known bytes layout limit value (Err error) same at is = tt

-- ---- sources

-- what holds of two lists and of the second and a third, place by place, holds of the first and the third
zipped : {A B C A' C' : Type 0} (P : A → B → Type 0) (Q : B → C → Type 0) (R : A' → C' → Type 0) (f : A → A') (g : C → C')
    → ((a : A) (b : B) (c : C) → P a b → Q b c → R (f a) (g c)) → (xs : List A) (ys : List B) (zs : List C)
    → AllZip P xs ys → AllZip Q ys zs → AllZip R (map f xs) (map g zs)
zipped P Q R f g both [] [] [] one two = tt
zipped P Q R f g both [] [] (c ∷ zs) one two = elim two [ ]
zipped P Q R f g both [] (b ∷ ys) zs one two = elim one [ ]
zipped P Q R f g both (a ∷ xs) [] zs one two = elim one [ ]
zipped P Q R f g both (a ∷ xs) (b ∷ ys) [] one two = elim two [ ]
zipped P Q R f g both (a ∷ xs) (b ∷ ys) (c ∷ zs) one two = (both a b c one.0 two.0, zipped P Q R f g both xs ys zs one.1 two.1)

module _ {S : Type 0} (known : List ℕ → Option (List ℕ)) (tell : S → Told) where
  -- the source of each job's file has the job's terms
  pub sources_of_jobs : (layout : Layout) (jobs : List Job) (words : List (Bor (List ℕ))) (pairs : List (Bor (List ℕ) × Arc TermsValue Global)) (sources : List (S × Arc TermsValue Global))
      → map job_value jobs ≡ jobs_in words → AllZip (HasTermsOf known layout) jobs pairs → AllZip (IsOpenedWith known layout tell) pairs sources
      → AllZip (IsSourceOfJob known layout) (jobs_in words) (map (told_with_terms tell) sources)
  sources_of_jobs layout jobs words pairs sources is has opened =
      subst (λ values. AllZip (IsSourceOfJob known layout) values (map (told_with_terms tell) sources)) is
      (zipped (HasTermsOf known layout) (IsOpenedWith known layout tell) (IsSourceOfJob known layout) job_value (told_with_terms tell) (λ job named source h o. (
        subst (λ name. IsSourceOf layout.crlf (known name.now) (tell source.0)) h.0 o.0,
        subst (λ arc. AreTermsOf known layout (job_value job) (arc_value arc)) (sym o.1) h.1,
      )) jobs pairs sources has opened)

  -- the source of each file has the terms that all share
  pub sources_of_files : {D E : Type 0} (items : D → List (S × Arc TermsValue Global)) (r : Result D E) (layout : Layout) (terms : TermsValue)
      (names : List (Bor (List ℕ))) (pairs : List (Bor (List ℕ) × Arc TermsValue Global))
      → AllZip (HasTerms terms) names pairs → IfOk r (λ sources. AllZip (IsOpenedWith known layout tell) pairs (items sources))
      → IfOk r (λ sources. AllZip (IsSourceWith layout terms) (file_bytes_of known names) (map (told_with_terms tell) (items sources)))
  sources_of_files items (Ok sources) layout terms names pairs has opened =
      zipped (HasTerms terms) (IsOpenedWith known layout tell) (IsSourceWith layout terms) (λ name. known name.now) (told_with_terms tell) (λ name named source h o. (
        subst (λ name. IsSourceOf layout.crlf (known name.now) (tell source.0)) h.0 o.0,
        ap arc_value o.1 ∙ h.1,
      )) names pairs (items sources) has opened
  sources_of_files items (Err e) layout terms names pairs has opened = opened
