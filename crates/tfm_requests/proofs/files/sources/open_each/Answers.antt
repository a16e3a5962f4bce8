use Rattle.std.proofs.Common.{rules, ◌≡◌, ◌∷◌, [], ◌++◌, refl, subst, sym}
use Rattle.std.proofs.lemmas.Slice.Zip.{all_zipped_more}
use Rattle.std.specs.List.{AllZip}
use Rattle.std.specs.declared.alloc.Global.{Global}
use Rattle.std.specs.declared.sync.Arc.{Arc}
use Rattle.set_line.specs.Terms.{TermsValue}
use Rattle.tfm_requests.specs.Jobs.{IsOpenedWith}
use Rattle.tfm_requests.specs.Told.{told_reader}
use Rattle.tfm_requests.proofs.files.sources.open_each.Goals as goal

pub loop-name-init : goal.loop-name-init
loop-name-init g c =
    subst (λ items. AllZip (IsOpenedWith (g.F.Opens.known c.args.files.now) c.args.layout.now (told_reader g.F.File.Read.remaining c.args.layout.now.crlf)) [] items) (sym c.new-readers.ensures.items) tt

pub loop-name-preserved : goal.loop-name-preserved
loop-name-preserved g c =
    let source : _ × Arc TermsValue Global = (c.in_ok-file.file, c.in-Some.terms) in
    let more : c.push.new.self.items ≡ c.loop-name.readers.items ++ source ∷ [] = search rules in
    subst (λ all. AllZip (IsOpenedWith (g.F.Opens.known c.args.files.now) c.args.layout.now (told_reader g.F.File.Read.remaining c.args.layout.now.crlf))
    (c.loop-name.yielded ++ (c.in-Some.name, c.in-Some.terms) ∷ []) all) (sym more)
    (all_zipped_more (IsOpenedWith (g.F.Opens.known c.args.files.now) c.args.layout.now (told_reader g.F.File.Read.remaining c.args.layout.now.crlf)) c.loop-name.yielded c.loop-name.readers.items
    (c.in-Some.name, c.in-Some.terms) source c.loop-name.invariant (c.in_ok-file.ensures, refl))
