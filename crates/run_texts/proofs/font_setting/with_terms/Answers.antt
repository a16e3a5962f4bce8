use Rattle.std.proofs.Common.{rules, arith, refl, ◌≡◌, ◌+◌, [], ◌∷◌, ◌++◌, ap, length, length-append, subst, sym, ◌∙◌}
use Rattle.std.specs.List.{AllZip}
use Rattle.std.specs.Arc.{arc_value}
use Rattle.std.specs.declared.sync.Arc.{Arc}
use Rattle.std.specs.declared.alloc.Global.{Global}
use Rattle.set_line.specs.Terms.{TermsValue}
use Rattle.run_texts.specs.Setting.{HasTerms}
use Rattle.run_texts.proofs.SettingLemmas.{with_terms_more}
use Rattle.run_texts.proofs.font_setting.with_terms.Goals as goal

pub loop-source-preserved : goal.loop-source-preserved
loop-source-preserved g c =
    let pair : _ × Arc TermsValue Global = (c.in-Some.source, c.in_ok-terms.terms) in
    let more : c.push.new.self.items ≡ c.loop-source.pairs.items ++ pair ∷ [] = search rules in
    let same : arc_value c.in_ok-terms.terms ≡ arc_value c.args.terms.now = search rules in
    record {
      have = subst (λ pairs. AllZip (HasTerms (arc_value c.args.terms.now)) (c.loop-source.yielded ++ c.in-Some.source ∷ []) pairs) (sym more)
          (with_terms_more (arc_value c.args.terms.now) c.loop-source.yielded c.loop-source.pairs.items c.in-Some.source pair c.loop-source.invariant.have
          (refl, same));
      count =
          let one_more : length c.push.new.self.items ≡ length c.loop-source.pairs.items + 1 =
          ap length more ∙ length-append c.loop-source.pairs.items (pair ∷ []) in
          omega (
            arith,
            one_more,
            c.push.new.self.ok.0,
            c.loop-source.pairs.ok.0,
            c.loop-source.invariant.count,
            length-append c.loop-source.yielded (c.in-Some.source ∷ []),
          );
    }
