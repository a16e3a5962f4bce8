use Rattle.std.proofs.Common.{◌≡◌, map, rules, sym, subst, inl, inr}
use Rattle.std.specs.Prelude.{Ok, Err, IfErr}
use Rattle.clap.specs.Words.{app_of}
use Rattle.clap.specs.declared.parser.matches.ArgMatches.{ArgMatches}
use Rattle.command_line.specs.Asked.{IsRefusedWith}
use Rattle.command_line.proofs.AskedLemmas.{asked_in_words, faults, kind_in_words, nothing_in_words}
use Rattle.command_line.proofs.reading.requested_of.Goals as goal

pub returns-in_err-matches-clause-refused : goal.returns-in_err-matches-clause-refused
returns-in_err-matches-clause-refused g c = λ choices is.
    let words = map g.S.AsStr.text c.args.words.now in
    let same : c.from_residual.result ≡ Err c.in_err-matches.field-0.0 = search rules in
    let fails = faults choices words (app_of c.args.command.now) is.0 {T = ArgMatches} (Err c.in_err-matches.field-0.0) c.in_err-matches.ensures.kinds in
    subst (λ r. IfErr r (IsRefusedWith choices words)) (sym same) (inl fails)

pub returns-in-Some-clause-asked : goal.returns-in-Some-clause-asked
returns-in-Some-clause-asked g c = λ choices is.
    let words = map g.S.AsStr.text c.args.words.now in
    let none = faults choices words (app_of c.args.command.now) is.0 {T = ArgMatches} (Ok c.in_ok-matches.matches) c.in_ok-matches.ensures.kinds in (
      none,
      asked_in_words choices words (app_of c.args.command.now) is.0 c.in_ok-matches.matches c.in_ok-requested.field-0 c.in-Some.requested
          c.in_ok-matches.ensures.ok.2 c.in_ok-requested.ensures (search rules),
    )

pub returns-clause-refused : goal.returns-clause-refused
returns-clause-refused g c = λ choices is.
    let words = map g.S.AsStr.text c.args.words.now in
    let none = faults choices words (app_of c.args.command.now) is.0 {T = ArgMatches} (Ok c.in_ok-matches.matches) c.in_ok-matches.ensures.kinds in
    inr (
      none,
      kind_in_words choices words (app_of c.args.command.now) is.0 c.in_ok-matches.matches _ c.in_ok-matches.ensures.ok.2
          c.in_ok-without_request-in-None.ensures,
      nothing_in_words choices words (app_of c.args.command.now) is.0 c.in_ok-matches.matches c.in_ok-requested.field-0
          c.in_ok-matches.ensures.ok.2 c.in_ok-requested.ensures (search rules),
    )
