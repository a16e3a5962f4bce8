use Rattle.std.proofs.Common.{rules, ◌≡◌, length, subst}
use Rattle.std.proofs.lemmas.Result.{IfOk-weaker}
use Rattle.tfm_requests.specs.Checking.{AddsFonts}
use Rattle.tfm_requests.proofs.CheckingLemmas.{none_added}
use Rattle.tfm_requests.proofs.KnownLemmas.{same_of_kept}
use Rattle.tfm_requests.proofs.NameLemmas.{no_name, one_name}
use Rattle.tfm_requests.proofs.font_list.check_name.Goals as goal

pub returns-then-is_empty-clause-text : goal.returns-then-is_empty-clause-text
returns-then-is_empty-clause-text g c =
    let layout = c.args.fonts.now.layout in
    let known = g.F.Opens.known c.args.fonts.now.files.now in
    let out = g.O.Write.contents c.args.out.now in
    let none : length c.args.name.now ≡ 0 = search rules in
    subst (λ names. AddsFonts layout known names out c.args.tally out c.args.tally) (no_name c.args.name.now none) (none_added layout known out c.args.tally)

pub returns-clause-text : goal.returns-clause-text
returns-clause-text g c =
    let layout = c.args.fonts.now.layout in
    let known = g.F.Opens.known c.args.fonts.now.files.now in
    let before = g.O.Write.contents c.args.out.now in
    let after = g.O.Write.contents c.write_font.new.out in
    let name = c.args.name.now in
    let some : ¬ (length name ≡ 0) = search rules in
    let same = IfOk-weaker c.named_bytes-bytes.result _ _ (λ bytes kept. same_of_kept (known name) bytes.items kept) c.named_bytes-bytes.ensures in
    IfOk-weaker c.write_font.result _ _ (λ all adds. subst (λ names. AddsFonts layout known names before c.args.tally after all) (one_name name some) adds) (c.write_font.ensures.text known same)
